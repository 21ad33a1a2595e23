-- SPDX-License-Identifier: Apache-2.0 AND BSD-3-Clause
use Rattle.std.proofs.Common.{◌∙◌, sym}
use Rattle.memory.specs.Access.{run_fits}
use Rattle.writing.specs.Writes.{wrote_run}
use Rattle.writing.proofs.write.Goals as goal

pub put-requires : goal.put-requires
put-requires g c = run_fits _ _ _ _ _ c.SIZE.ensures _ (c.locate.ensures.at _ c.in-Some.is)

pub returns-in-Some : goal.returns-in-Some
returns-in-Some g c = wrote_run _ _ _ _ _ (c.SIZE.ensures ∙ sym (g.met.T.Stored.length_is c.args.x)) _ _ (c.locate.ensures.at _ c.in-Some.is) c.put.ensures
