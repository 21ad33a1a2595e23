-- SPDX-License-Identifier: Apache-2.0 AND BSD-3-Clause
-- What the calls on a chain answer, for every chain value and every memory: definitions only.
use Rattle.std.specs.Prelude.{ℕ, zero, suc, ◌+◌, ◌-◌, ◌≤◌, ◌≡◌, Bool, false, Option, Some, None, List, [], ◌∷◌, length, ltb, leb}
use Rattle.regions.specs.Table.{pick, Table}
use Rattle.desc.specs.Desc.{has_next, is_indirect}
use Rattle.desc.specs.declared.Descriptor.{Descriptor}
use Rattle.chain.specs.Sequence.{entry, on_found, sum_max, wanted}
use Rattle.chain.specs.declared.DescriptorChain.{DescriptorChain}

-- a chain at its head: the ration is the table's size
abbrev pub chain_at : ℕ → ℕ → ℕ → DescriptorChain
chain_at table q i = record { desc_table = table; queue_size = q; head_index = i; next_index = i; ttl = q; yielded_bytes = 0 }

-- the same chain at another place, with another ration and another sum
abbrev pub moved : DescriptorChain → ℕ → ℕ → ℕ → DescriptorChain
moved c i k s =
    record { desc_table = c.desc_table; queue_size = c.queue_size; head_index = c.head_index; next_index = i; ttl = k; yielded_bytes = s }

-- what a step answers: the next descriptor with the chain behind it, or that there is none
abbrev pub Step : Type 0
Step = Option (Descriptor × DescriptorChain)

-- the chain behind descriptor d: with NEXT on at its next, without at the end
abbrev pub behind : DescriptorChain → Descriptor → DescriptorChain
behind c d = moved c (pick (has_next d) d.next c.next_index) (pick (has_next d) (c.ttl - 1) 0) (c.yielded_bytes + d.len)

-- descriptor d was read: none if it is a table, or takes the sum past the limit
unfoldable pub taken : DescriptorChain → Descriptor → Step
taken c d = pick (is_indirect d) None (pick (leb (c.yielded_bytes + d.len) sum_max) (Some (d, behind c d)) None)

-- the descriptor that is next
abbrev pub next_entry : Table → List ℕ → DescriptorChain → Option Descriptor
next_entry t m c = entry t m c.desc_table c.queue_size c.next_index

-- the next descriptor: none if the ration is used up
unfoldable pub step_of : Table → List ℕ → DescriptorChain → Step
step_of t m c = pick (ltb 0 c.ttl) (on_found (next_entry t m c) (taken c) None) None

abbrev pub on_step : {A : Type 0} → Step → (Descriptor → DescriptorChain → A) → A → A
on_step (Some (d, c)) f a = f d c
on_step None f a = a

-- step, made over and over from c on, yields these descriptors and then none
pub data Yields (step : DescriptorChain → Step) : DescriptorChain → List Descriptor → Type 0 where
  none : {c : DescriptorChain} → step c ≡ None → Yields step c []
  some : {c r : DescriptorChain} {d : Descriptor} {ds : List Descriptor} → step c ≡ Some (d, r) → Yields step r ds → Yields step c (d ∷ ds)

-- the walk: what k steps yield at most, and what as many as the ration do
unfoldable pub walk : ℕ → Table → List ℕ → DescriptorChain → List Descriptor
walk zero t m c = []
walk (suc k) t m c = on_step (step_of t m c) (λ d r. d ∷ walk k t m r) []

unfoldable pub walk_of : Table → List ℕ → DescriptorChain → List Descriptor
walk_of t m c = walk c.ttl t m c

-- the next readable or writable descriptor, the others skipped: in k steps at most, and in as many as the ration
unfoldable pub seek : Bool → ℕ → Table → List ℕ → DescriptorChain → Step
seek w zero t m c = None
seek w (suc k) t m c = on_step (step_of t m c) (λ d r. pick (wanted w d) (Some (d, r)) (seek w k t m r)) None

unfoldable pub filtered_of : Bool → Table → List ℕ → DescriptorChain → Step
filtered_of w t m c = seek w c.ttl t m c

-- the numbers of the descriptors that steps read, one after the other, up to the first that stop holds for
abbrev pub reads : DescriptorChain → Bool
reads c = pick (ltb 0 c.ttl) (ltb c.next_index c.queue_size) false

unfoldable pub looks : (Descriptor → Bool) → ℕ → Table → List ℕ → DescriptorChain → List ℕ
looks stop zero t m c = []
looks stop (suc k) t m c =
    pick (reads c) (c.next_index ∷ on_step (step_of t m c) (λ d r. pick (stop d) [] (looks stop k t m r)) []) []

unfoldable pub looked_of : (Descriptor → Bool) → Table → List ℕ → DescriptorChain → List ℕ
looked_of stop t m c = looks stop (suc c.ttl) t m c

-- what a filtered next answers, and how many descriptors it looks at
pub record Sought (w : Bool) (t : Table) (m : List ℕ) (c : DescriptorChain) (r : Step) : Type 0 where
  pub is : r ≡ filtered_of w t m c
  pub bounded : length (looked_of (wanted w) t m c) ≤ c.ttl
