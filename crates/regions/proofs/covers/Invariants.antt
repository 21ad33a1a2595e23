-- SPDX-License-Identifier: Apache-2.0 AND BSD-3-Clause
use Rattle.std.proofs.Common.{◌-◌}
use Rattle.regions.specs.Spots.{Left}
use Rattle.regions.proofs.covers.Given as goal

abbrev pub invariant-loop : goal.invariant-loop
invariant-loop l = Left l.regions l.size l.addr l.n l.a l.left (8 - l.counter)
