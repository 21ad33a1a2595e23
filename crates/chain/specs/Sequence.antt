-- SPDX-License-Identifier: Apache-2.0 AND BSD-3-Clause
-- Descriptor chains as VIRTIO 1.2 has them (2.7.5), of a table of q descriptors at guest address table: definitions only.
use Rattle.std.specs.Prelude.{ℕ, zero, suc, ◌+◌, ◌≤◌, ◌≡◌, Bool, true, false, Option, Some, None, List, [], ◌∷◌, length, ltb, leb}
use Rattle.std.specs.Bool.{beq}
use Rattle.regions.specs.Table.{pick, Table}
use Rattle.desc.specs.Layout.{desc_addr}
use Rattle.desc.specs.Desc.{has_next, is_write_only, is_indirect, desc_at}
use Rattle.desc.specs.declared.Descriptor.{Descriptor}

-- descriptor i of the table (2.7.5): the table has q, and each is 16 bytes
unfoldable pub entry : Table → List ℕ → ℕ → ℕ → ℕ → Option Descriptor
entry t m table q i = pick (ltb i q) (desc_at t m (desc_addr table i)) None

abbrev pub on_found : {A : Type 0} → Option Descriptor → (Descriptor → A) → A → A
on_found (Some d) f a = f d
on_found None f a = a

-- a chain from i on (2.7.5): one descriptor without NEXT, or one with NEXT and a chain from its next on
pub data Chain (t : Table) (m : List ℕ) (table q : ℕ) : ℕ → List Descriptor → Type 0 where
  last : {i : ℕ} {d : Descriptor} → entry t m table q i ≡ Some d → has_next d ≡ false → Chain t m table q i (d ∷ [])
  more : {i : ℕ} {d : Descriptor} {ds : List Descriptor} → entry t m table q i ≡ Some d → has_next d ≡ true → Chain t m table q d.next ds → Chain t m table q i (d ∷ ds)

-- the descriptors that NEXT and next give from i on, possibly without end: the first k of them
unfoldable pub sequence : Table → List ℕ → ℕ → ℕ → ℕ → ℕ → List Descriptor
sequence t m table q zero i = []
sequence t m table q (suc k) i =
    on_found (entry t m table q i) (λ d. d ∷ pick (has_next d) (sequence t m table q k d.next) []) []

-- the largest sum of lengths that is yielded: the Rust's, one less than 2.7.5.2 allows a driver
abbrev pub sum_max : ℕ
sum_max = 4294967295

abbrev pub total : List Descriptor → ℕ
total [] = 0
total (d ∷ ds) = d.len + total ds

abbrev pub AllDirect : List Descriptor → Type 0
AllDirect [] = Unit {0}
AllDirect (d ∷ ds) = (is_indirect d ≡ false) × AllDirect ds

-- a chain that a device walks to its end: no loop, so at most q descriptors (2.7.5.2), none of them a table (2.7.5.3), the sum in the limit
pub record Lawful (q : ℕ) (ds : List Descriptor) : Type 0 where
  pub few : length ds ≤ q
  pub direct : AllDirect ds
  pub sum : total ds ≤ sum_max

-- a sequence is cut before the first table and before the first that takes the sum past the limit; s is the sum before it
unfoldable pub cut : ℕ → List Descriptor → List Descriptor
cut s [] = []
cut s (d ∷ ds) = pick (is_indirect d) [] (pick (leb (s + d.len) sum_max) (d ∷ cut (s + d.len) ds) [])

-- the writable ones of a list (w is true), or the readable ones (w is false)
abbrev pub wanted : Bool → Descriptor → Bool
wanted w d = beq (is_write_only d) w

unfoldable pub only : Bool → List Descriptor → List Descriptor
only w [] = []
only w (d ∷ ds) = pick (wanted w d) (d ∷ only w ds) (only w ds)
