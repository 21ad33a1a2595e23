-- SPDX-License-Identifier: Apache-2.0 AND BSD-3-Clause
use Rattle.std.proofs.Common.{◌<◌, length, arith, refl, rules}
use Rattle.regions.specs.Spots.{spots_none, covered_top}
use Rattle.memory.specs.Cells.{fetched_next}
use Rattle.memory.proofs.gather.Goals as goal

pub loop-k-init : goal.loop-k-init
loop-k-init c = (search rules, refl, rw spots_none refl)

pub overflow_add-a : goal.overflow_add-a
overflow_add-a c = let l = c.loop-k in let z : l.k < length c.args.out.now = omega arith in omega (arith, covered_top _ _ _ _ c.requires l.k z)

pub loop-k-preserved : goal.loop-k-preserved
loop-k-preserved c = let l = c.loop-k in let z : l.k < length l.out = omega arith in
    (search rules, search rules, fetched_next c.args.regions.now c.args.mem.now c.args.a l.out l.k _ z c.byte_at.ensures l.invariant.2)
