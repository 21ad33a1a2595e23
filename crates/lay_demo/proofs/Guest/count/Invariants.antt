-- SPDX-License-Identifier: Apache-2.0 AND BSD-3-Clause
use Rattle.std.proofs.Common.{◌≡◌, ◌+◌, length}
use Rattle.chain.specs.Steps.{chain_at, walk_of}
use Rattle.lay_demo.proofs.Guest.count.Given as goal

-- What was counted and what is left are the whole walk.
abbrev pub invariant-loop-rest : goal.invariant-loop-rest
invariant-loop-rest l = l.n + length (walk_of l.self.regions l.self.mem l.c) ≡ length (walk_of l.self.regions l.self.mem (chain_at 0 8 l.head))

abbrev pub decreases-loop-rest : goal.decreases-loop-rest
decreases-loop-rest l = l.c.ttl
