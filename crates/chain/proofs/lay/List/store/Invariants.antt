-- SPDX-License-Identifier: Apache-2.0 AND BSD-3-Clause
use Rattle.std.proofs.Common.{◌≡◌, ◌-◌, length}
use Rattle.chain.specs.Links.{stored}
use Rattle.chain.specs.ListOf.{list_of}
use Rattle.chain.proofs.lay.List.store.Given as goal

abbrev pub invariant-loop-k : goal.invariant-loop-k
invariant-loop-k l = stored l.regions l.desc_table (list_of l.self) (length l.self.places.now - l.k) l.k l.mem ≡ stored l.regions l.desc_table (list_of l.self) (length l.self.places.now) 0 l.initial.mem
