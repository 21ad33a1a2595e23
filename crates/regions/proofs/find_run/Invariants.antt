-- SPDX-License-Identifier: Apache-2.0 AND BSD-3-Clause
use Rattle.regions.specs.Table.{rows_left}
use Rattle.regions.specs.Spots.{Skipped}
use Rattle.regions.proofs.find_run.Given as goal

abbrev pub invariant-loop-row : goal.invariant-loop-row
invariant-loop-row l = Skipped l.regions l.size l.a l.n (rows_left l.row-iterator)
