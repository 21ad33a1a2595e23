-- SPDX-License-Identifier: Apache-2.0 AND BSD-3-Clause
use Rattle.std.proofs.Common.{◌∙◌, sym, refl}
use Rattle.writing.specs.Writes.{both_no_first}
use Rattle.writing.proofs.write_both_far.Goals as goal

pub returns-then-not-write : goal.returns-then-not-write
returns-then-not-write g c = both_no_first _ _ _ _ _ _ _ (c.SIZE.ensures ∙ sym (g.met.U.Stored.length_is c.args.y)) _ c.if-not-can_write.ensures refl _ _ c.if-not-write.ensures refl
