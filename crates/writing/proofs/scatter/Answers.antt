-- SPDX-License-Identifier: Apache-2.0 AND BSD-3-Clause
use Rattle.std.proofs.Common.{◌<◌, length, arith, refl, rules}
use Rattle.regions.specs.Spots.{covered_top, spots_none}
use Rattle.writing.specs.Writes.{stored_next}
use Rattle.writing.proofs.scatter.Goals as goal

pub loop-k-init : goal.loop-k-init
loop-k-init c = (search rules, refl, rw spots_none refl)

pub overflow_add-a : goal.overflow_add-a
overflow_add-a c = let l = c.loop-k in let z : l.k < length c.args.src.now = omega arith in omega (arith, covered_top _ _ _ _ c.requires l.k z)

pub loop-k-preserved : goal.loop-k-preserved
loop-k-preserved c = let l = c.loop-k in let z : l.k < length c.args.src.now = omega arith in
    (search rules, search rules, stored_next c.args.regions.now c.args.mem.now c.args.a c.args.src.now l.k l.mem l.invariant.2 z _ c.store_byte.ensures)
