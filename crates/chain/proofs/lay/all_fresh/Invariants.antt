-- SPDX-License-Identifier: Apache-2.0 AND BSD-3-Clause
use Rattle.std.proofs.Common.{◌≡◌, ◌<◌, ℕ, true}
use Rattle.chain.specs.Links.{fresh}
use Rattle.chain.proofs.lay.all_fresh.Given as goal

abbrev pub invariant-loop-k : goal.invariant-loop-k
invariant-loop-k l = (i : ℕ) → i < l.k → fresh l.places i ≡ true
