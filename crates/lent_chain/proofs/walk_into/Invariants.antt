-- SPDX-License-Identifier: Apache-2.0 AND BSD-3-Clause
use Rattle.std.specs.Prelude.{◌-◌, ◌*◌}
use Rattle.lent_chain.specs.Walk.{Going, room}
use Rattle.lent_chain.proofs.walk_into.Given as goal

abbrev pub invariant-loop-k : goal.invariant-loop-k
invariant-loop-k l = Going l.regions l.mem l.initial.c l.initial.out l.c l.k (3 * l.k) (room l.initial.out - l.k) l.out
