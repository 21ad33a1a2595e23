-- SPDX-License-Identifier: Apache-2.0 AND BSD-3-Clause
-- The worked values for chains (docs/QUEUE.md, section 7), for every memory that holds such descriptors in a table of 8: what next yields, over and
-- over, before it says that there is none.
use Rattle.std.specs.Prelude.{ℕ, ◌≡◌, true, Some, List, [], ◌∷◌, length}
use Rattle.std.proofs.Common.{arith, ◌∙◌}
use Rattle.regions.specs.Table.{Table, Good}
use Rattle.memory.specs.Access.{writable, after}
use Rattle.desc.specs.Layout.{desc_addr}
use Rattle.desc.specs.Desc.{descriptor, desc_bytes, desc_back}
use Rattle.desc.specs.declared.Descriptor.{Descriptor}
use Rattle.chain.specs.Sequence.{entry, sequence, cut}
use Rattle.chain.specs.Steps.{chain_at, step_of, walk_of, Yields}
use Rattle.chain.specs.Walk.{entry_in, walk_yields}
use Rattle.chain.specs.Right.{walk_cut}

-- a walk's list, and then none
yields : (t : Table) (m : List ℕ) (table i : ℕ) (ds : List Descriptor) → walk_of t m (chain_at table 8 i) ≡ ds → Yields (step_of t m) (chain_at table 8 i) ds
yields t m table i ds e = rw e at (walk_yields t m (chain_at table 8 i))

-- descriptor 3, of 16 bytes, with NEXT, names itself
abbrev itself : Descriptor
itself = descriptor 4096 16 1 3

module _ (t : Table) (m : List ℕ) (table : ℕ) where
  -- a descriptor that names itself: 8 descriptors, then none
  pub worked_itself : entry t m table 8 3 ≡ Some itself
      → Yields (step_of t m) (chain_at table 8 3) (itself ∷ itself ∷ itself ∷ itself ∷ itself ∷ itself ∷ itself ∷ itself ∷ [])
  unfolding sequence cut
  worked_itself e = yields t m table 3 _ (walk_cut t m (chain_at table 8 3) ∙ simp e)

  -- lens 0xffffffff and 1: one descriptor, then none
  pub worked_past : entry t m table 8 0 ≡ Some (descriptor 4096 4294967295 1 1) → entry t m table 8 1 ≡ Some (descriptor 4096 1 0 0)
      → Yields (step_of t m) (chain_at table 8 0) (descriptor 4096 4294967295 1 1 ∷ [])
  unfolding sequence cut
  worked_past e f = yields t m table 0 _ (walk_cut t m (chain_at table 8 0) ∙ simp (e, f))

  -- lens 0x80000000 and 0x7fffffff: two descriptors
  pub worked_full : entry t m table 8 0 ≡ Some (descriptor 4096 2147483648 1 1) → entry t m table 8 1 ≡ Some (descriptor 4096 2147483647 0 0)
      → Yields (step_of t m) (chain_at table 8 0) (descriptor 4096 2147483648 1 1 ∷ descriptor 4096 2147483647 0 0 ∷ [])
  unfolding sequence cut
  worked_full e f = yields t m table 0 _ (walk_cut t m (chain_at table 8 0) ∙ simp (e, f))

-- and there are such memories: any, after the descriptor was written
pub worked_written : (t : Table) → Good t → (m : List ℕ) (table : ℕ) → writable t (length m) (desc_addr table 3) 16 ≡ true
    → Yields (step_of t (after t m (desc_addr table 3) (desc_bytes itself))) (chain_at table 8 3) (itself ∷ itself ∷ itself ∷ itself ∷ itself ∷ itself ∷ itself ∷ itself ∷ [])
worked_written t g m table w =
    worked_itself t (after t m (desc_addr table 3) (desc_bytes itself)) table
    (entry_in t (after t m (desc_addr table 3) (desc_bytes itself)) table 8 3 (omega arith)
    ∙ desc_back t g m (desc_addr table 3) itself (record { addr = omega arith; len = omega arith; flags = omega arith; next = omega arith }) w)
