-- SPDX-License-Identifier: Apache-2.0 AND BSD-3-Clause
use Rattle.regions.specs.Spots.{first_run}
use Rattle.regions.proofs.locate_first.Goals as goal

pub returns : goal.returns
returns c = first_run _ _ _ _ _ c.of.ensures _ _ c.in_ok-next.ensures.steps _ c.seat.ensures
