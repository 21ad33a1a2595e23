-- SPDX-License-Identifier: Apache-2.0 AND BSD-3-Clause
-- What a walk does not depend on: bytes that the table of regions does not map (isolation), and writes apart from the descriptors that it reads.
use Prim.Native.Nat.{ℕ, zero, suc, ◌<◌}
use Rattle.std.proofs.Common.{arith, sym, ap, ◌∙◌, inl, inr, true≢false}
use Rattle.std.specs.Prelude.{◌≡◌, Bool, true, false, Some, None, List, [], ◌∷◌, length, ltb}
use Rattle.std.proofs.Math.Path.{refl, subst}
use Rattle.wire.specs.Part.{Apart}
use Rattle.regions.specs.Table.{pick, Table, Good}
use Rattle.memory.specs.Access.{after, Agree}
use Rattle.desc.specs.Layout.{desc_addr, desc_table_size}
use Rattle.desc.specs.Desc.{desc_at, desc_agree, desc_apart}
use Rattle.desc.specs.declared.Descriptor.{Descriptor}
use Rattle.chain.specs.Sequence.{entry, on_found, wanted}
use Rattle.chain.specs.Steps.{Step, taken, step_of, on_step, walk, walk_of, seek, filtered_of, reads, looks, looked_of}
use Rattle.chain.specs.Walk.{step_falls, reads_index, yields_reads, walk_enough, seek_enough}
use Rattle.chain.specs.declared.DescriptorChain.{DescriptorChain}

-- ---- isolation
module _ (t : Table) (m k : List ℕ) (h : Agree t m k) where
  pub step_agree : (c : DescriptorChain) → step_of t m c ≡ step_of t k c
  unfolding step_of entry
  step_agree c = rw (desc_agree t m k h)

  walk' : (n : ℕ) (s : Step) → ((r : DescriptorChain) → walk n t m r ≡ walk n t k r) → on_step s (λ d r. d ∷ walk n t m r) [] ≡ on_step s (λ d r. d ∷ walk n t k r) []
  walk' n (Some (d, r)) ih = ap (λ (l : List Descriptor). d ∷ l) (ih r)
  walk' n None ih = refl

  walk_agree_to : (n : ℕ) (c : DescriptorChain) → walk n t m c ≡ walk n t k c
  unfolding walk
  walk_agree_to zero c = refl
  walk_agree_to (suc n) c = rw (step_agree c) (walk' n (step_of t k c) (walk_agree_to n))

  pub walk_agree : (c : DescriptorChain) → walk_of t m c ≡ walk_of t k c
  unfolding walk_of
  walk_agree c = walk_agree_to c.ttl c

  module _ (w : Bool) where
    seek' : (n : ℕ) (s : Step) → ((r : DescriptorChain) → seek w n t m r ≡ seek w n t k r)
        → on_step s (λ d r. pick (wanted w d) (Some (d, r)) (seek w n t m r)) None ≡ on_step s (λ d r. pick (wanted w d) (Some (d, r)) (seek w n t k r)) None
    seek' n (Some (d, r)) ih = ap (λ (s : Step). pick (wanted w d) (Some (d, r)) s) (ih r)
    seek' n None ih = refl

    seek_agree : (n : ℕ) (c : DescriptorChain) → seek w n t m c ≡ seek w n t k c
    unfolding seek
    seek_agree zero c = refl
    seek_agree (suc n) c = rw (step_agree c) (seek' n (step_of t k c) (seek_agree n))

    pub filtered_agree : (c : DescriptorChain) → filtered_of w t m c ≡ filtered_of w t k c
    unfolding filtered_of
    filtered_agree c = seek_agree c.ttl c

-- ---- writes apart from what is read
-- n bytes at guest address a are apart from each of these descriptors of the table
abbrev pub Spared : ℕ → ℕ → ℕ → List ℕ → Type 0
Spared a n table [] = Unit {0}
Spared a n table (i ∷ is) = Apart a n (desc_addr table i) 16 × Spared a n table is

-- a plain walk stops at none
abbrev pub never : Descriptor → Bool
never d = false

module _ (t : Table) (g : Good t) (m : List ℕ) (a : ℕ) (bs : List ℕ) where
  step'' : (x y : Bool) (c : DescriptorChain) → (pick x y false ≡ true → Apart a (length bs) (desc_addr c.desc_table c.next_index) 16)
      → pick x (on_found (pick y (desc_at t (after t m a bs) (desc_addr c.desc_table c.next_index)) None) (taken c) None) None
      ≡ pick x (on_found (pick y (desc_at t m (desc_addr c.desc_table c.next_index)) None) (taken c) None) None
  step'' true true c h = rw (desc_apart t g m a bs (desc_addr c.desc_table c.next_index) (h refl))
  step'' true false c h = refl
  step'' false y c h = refl

  -- the next step stays as it is if its descriptor does
  pub step_apart : (c : DescriptorChain) → (reads c ≡ true → Apart a (length bs) (desc_addr c.desc_table c.next_index) 16) → step_of t (after t m a bs) c ≡ step_of t m c
  unfolding step_of entry
  step_apart c h = step'' (ltb 0 c.ttl) (ltb c.next_index c.queue_size) c h

  spared_first : (b : Bool) (c : DescriptorChain) (l : List ℕ) → reads c ≡ b → Spared a (length bs) c.desc_table (pick b (c.next_index ∷ l) []) → reads c ≡ true
      → Apart a (length bs) (desc_addr c.desc_table c.next_index) 16
  spared_first true c l e h r = h.0
  spared_first false c l e h r = absurd (true≢false (sym r ∙ e))

  -- a step that yields read its descriptor
  spared_rest : (b : Bool) (c : DescriptorChain) (d : Descriptor) (r : DescriptorChain) (l : List ℕ) → reads c ≡ b → step_of t m c ≡ Some (d, r) → Spared a (length bs) c.desc_table (pick b (c.next_index ∷ l) []) → Spared a (length bs) r.desc_table l
  spared_rest true c d r l e f h = rw (step_falls t m c d r f).table h.1
  spared_rest false c d r l e f h = absurd (true≢false (sym (yields_reads t m c d r f) ∙ e))

  apart' : (n : ℕ) (c : DescriptorChain) (s : Step) → step_of t m c ≡ s → ((r : DescriptorChain) → Spared a (length bs) r.desc_table (looks never n t m r) → walk n t (after t m a bs) r ≡ walk n t m r)
      → Spared a (length bs) c.desc_table (pick (reads c) (c.next_index ∷ on_step s (λ d r. looks never n t m r) []) [])
      → on_step s (λ d r. d ∷ walk n t (after t m a bs) r) [] ≡ on_step s (λ d r. d ∷ walk n t m r) []
  apart' n c (Some (d, r)) e ih h = ap (λ (l : List Descriptor). d ∷ l) (ih r (spared_rest (reads c) c d r (looks never n t m r) refl e h))
  apart' n c None e ih h = refl

  walk_apart_to : (n : ℕ) (c : DescriptorChain) → Spared a (length bs) c.desc_table (looks never n t m c) → walk n t (after t m a bs) c ≡ walk n t m c
  unfolding walk looks
  walk_apart_to zero c h = refl
  walk_apart_to (suc n) c h =
      rw (step_apart c (spared_first (reads c) c _ refl h)) (apart' n c (step_of t m c) refl (walk_apart_to n) h)

  -- a write apart from the descriptors that the walk reads leaves the walk as it is
  pub walk_apart : (c : DescriptorChain) → Spared a (length bs) c.desc_table (looked_of never t m c) → walk_of t (after t m a bs) c ≡ walk_of t m c
  unfolding walk_of looked_of
  walk_apart c h =
      walk_enough t (after t m a bs) c.ttl (suc c.ttl) c (omega arith) (omega arith) ∙ walk_apart_to (suc c.ttl) c h
      ∙ walk_enough t m (suc c.ttl) c.ttl c (omega arith) (omega arith)

  module _ (w : Bool) where
    sought'' : (b : Bool) (n : ℕ) (c : DescriptorChain) (d : Descriptor) (r : DescriptorChain) → step_of t m c ≡ Some (d, r)
        → (Spared a (length bs) r.desc_table (looks (wanted w) n t m r) → seek w n t (after t m a bs) r ≡ seek w n t m r)
        → Spared a (length bs) r.desc_table (pick b [] (looks (wanted w) n t m r))
        → pick b (Some (d, r)) (seek w n t (after t m a bs) r) ≡ pick b (Some (d, r)) (seek w n t m r)
    sought'' true n c d r e ih h = refl
    sought'' false n c d r e ih h = ih h

    sought' : (n : ℕ) (c : DescriptorChain) (s : Step) → step_of t m c ≡ s → ((r : DescriptorChain) → Spared a (length bs) r.desc_table (looks (wanted w) n t m r) → seek w n t (after t m a bs) r ≡ seek w n t m r)
        → Spared a (length bs) c.desc_table (pick (reads c) (c.next_index ∷ on_step s (λ d r. pick (wanted w d) [] (looks (wanted w) n t m r)) []) [])
        → on_step s (λ d r. pick (wanted w d) (Some (d, r)) (seek w n t (after t m a bs) r)) None ≡ on_step s (λ d r. pick (wanted w d) (Some (d, r)) (seek w n t m r)) None
    sought' n c (Some (d, r)) e ih h =
        sought'' (wanted w d) n c d r e (ih r) (spared_rest (reads c) c d r (pick (wanted w d) [] (looks (wanted w) n t m r)) refl e h)
    sought' n c None e ih h = refl

    seek_apart : (n : ℕ) (c : DescriptorChain) → Spared a (length bs) c.desc_table (looks (wanted w) n t m c) → seek w n t (after t m a bs) c ≡ seek w n t m c
    unfolding seek looks
    seek_apart zero c h = refl
    seek_apart (suc n) c h =
        rw (step_apart c (spared_first (reads c) c _ refl h)) (sought' n c (step_of t m c) refl (seek_apart n) h)

    pub filtered_apart : (c : DescriptorChain) → Spared a (length bs) c.desc_table (looked_of (wanted w) t m c) → filtered_of w t (after t m a bs) c ≡ filtered_of w t m c
    unfolding filtered_of looked_of
    filtered_apart c h =
        seek_enough t (after t m a bs) w c.ttl (suc c.ttl) c (omega arith) (omega arith) ∙ seek_apart (suc c.ttl) c h
        ∙ seek_enough t m w (suc c.ttl) c.ttl c (omega arith) (omega arith)

-- ---- writes apart from the whole table, as those to the used ring are
module _ (t : Table) (m : List ℕ) (stop : Descriptor → Bool) (a n : ℕ) where
  at_index : (table q i : ℕ) → Apart a n table (desc_table_size q) → i < q → Apart a n (desc_addr table i) 16
  at_index table q i (inl h) l = inl (omega arith)
  at_index table q i (inr h) l = inr (omega arith)

  table'' : (b : Bool) (table : ℕ) (l : List ℕ) → Spared a n table l → Spared a n table (pick b [] l)
  table'' true table l h = tt
  table'' false table l h = h

  table' : (b : Bool) (k : ℕ) (c : DescriptorChain) (s : Step) → reads c ≡ b → step_of t m c ≡ s → Apart a n c.desc_table (desc_table_size c.queue_size)
      → ((r : DescriptorChain) → Apart a n r.desc_table (desc_table_size r.queue_size) → Spared a n r.desc_table (looks stop k t m r))
      → Spared a n c.desc_table (pick b (c.next_index ∷ on_step s (λ d r. pick (stop d) [] (looks stop k t m r)) []) [])
  table' true k c (Some (d, r)) e f h ih =
      let w = step_falls t m c d r f in (
        at_index _ _ _ h (reads_index c e),
        subst (λ (x : ℕ). Spared a n x (pick (stop d) [] (looks stop k t m r))) w.table
            (table'' (stop d) r.desc_table (looks stop k t m r) (ih r (rw (w.table, w.size) h))),
      )
  table' true k c None e f h ih = (at_index _ _ _ h (reads_index c e), tt)
  table' false k c s e f h ih = tt

  table-looks : (k : ℕ) (c : DescriptorChain) → Apart a n c.desc_table (desc_table_size c.queue_size) → Spared a n c.desc_table (looks stop k t m c)
  unfolding looks
  table-looks zero c h = tt
  table-looks (suc k) c h = table' (reads c) k c (step_of t m c) refl refl h (table-looks k)

  -- a write apart from the table is apart from every descriptor that is read
  pub table_spared : (c : DescriptorChain) → Apart a n c.desc_table (desc_table_size c.queue_size) → Spared a n c.desc_table (looked_of stop t m c)
  unfolding looked_of
  table_spared c h = table-looks (suc c.ttl) c h
