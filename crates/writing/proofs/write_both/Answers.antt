-- SPDX-License-Identifier: Apache-2.0 AND BSD-3-Clause
use Rattle.std.proofs.Common.{◌∙◌, sym}
use Rattle.memory.specs.Access.{run_fits}
use Rattle.writing.specs.Writes.{both_run, run_fits_after}
use Rattle.writing.proofs.write_both.Goals as goal

pub put-requires : goal.put-requires
put-requires g c = run_fits _ _ _ _ _ c.SIZE.ensures _ (c.locate_first.ensures.at _ c.in-Some.is)

pub put-requires-in-Some-locate_first : goal.put-requires-in-Some-locate_first
put-requires-in-Some-locate_first g c = run_fits_after _ _ _ _ _ c.SIZE-in-Some.ensures _ (c.locate_first-in-Some.ensures.at _ c.in-Some-locate_first.is) _ c.put.auto.s

pub returns-in-Some-locate_first : goal.returns-in-Some-locate_first
returns-in-Some-locate_first g c = both_run _ _ _ _ _ _ _ _ (c.SIZE.ensures ∙ sym (g.met.T.Stored.length_is c.args.x)) (c.SIZE-in-Some.ensures ∙ sym (g.met.U.Stored.length_is c.args.y)) _ _ _ _
    (c.locate_first.ensures.at _ c.in-Some.is) (c.locate_first-in-Some.ensures.at _ c.in-Some-locate_first.is) c.put.ensures c.put-in-Some-locate_first.ensures
