-- SPDX-License-Identifier: Apache-2.0 AND BSD-3-Clause
use Rattle.std.proofs.Common.{◌≡◌, ◌<◌, ℕ, true}
use Rattle.chain.specs.Links.{direct}
use Rattle.chain.specs.ListOf.{list_of}
use Rattle.chain.proofs.lay.List.all_direct.Given as goal

abbrev pub invariant-loop-k : goal.invariant-loop-k
invariant-loop-k l = (i : ℕ) → i < l.k → direct (list_of l.self) i ≡ true
