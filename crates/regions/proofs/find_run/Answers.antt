-- SPDX-License-Identifier: Apache-2.0 AND BSD-3-Clause
use Rattle.std.proofs.Common.{refl}
use Rattle.regions.specs.Spots.{skipped_here, skipped_next, skipped_start}
use Rattle.regions.proofs.find_run.Goals as goal

pub loop-row-init : goal.loop-row-init
loop-row-init c = rw c.into_iter-row-iterator.ensures.into_iter_gives (skipped_start _ _ _ _ _ c.of-row-items.ensures)

pub returns-in-All : goal.returns-in-All
returns-in-All c = skipped_here _ _ _ _ _ c.loop-row.invariant _ _ c.in-Some.ensures.steps _ (c.in-All.ensures.all _ refl)

pub loop-row-preserved : goal.loop-row-preserved
loop-row-preserved c = skipped_next _ _ _ _ _ c.loop-row.invariant _ _ c.in-Some.ensures.steps c.in-Away.ensures
