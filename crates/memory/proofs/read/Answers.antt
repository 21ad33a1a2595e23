-- SPDX-License-Identifier: Apache-2.0 AND BSD-3-Clause
use Rattle.memory.specs.Access.{run_fits, read_run}
use Rattle.memory.proofs.read.Goals as goal

pub get-requires : goal.get-requires
get-requires g c = run_fits _ _ _ _ _ c.SIZE.ensures _ (c.locate_first.ensures.at _ c.in-Some.is)

pub returns-in-Some : goal.returns-in-Some
returns-in-Some g c = read_run _ _ _ _ _ _ c.SIZE.ensures _ (c.locate_first.ensures.at _ c.in-Some.is) _ c.get.ensures
