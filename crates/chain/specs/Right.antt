-- SPDX-License-Identifier: Apache-2.0 AND BSD-3-Clause
-- The walk is right about VIRTIO 1.2, 2.7.5: it is the sequence that NEXT and next give, cut as docs/QUEUE.md says (section 4); a lawful chain is walked
-- whole, and then there is none.
use Rattle.std.specs.Prelude.{ℕ, zero, suc, ◌+◌, ◌-◌, ◌≤◌, ◌≡◌, Bool, true, false, Option, Some, None, List, [], ◌∷◌, length, leb}
use Rattle.std.proofs.Common.{arith, sym, ap, ◌∙◌, le-leb, leb-true, leb-false}
use Rattle.std.proofs.Math.Path.{refl}
use Rattle.regions.specs.Table.{pick, Table}
use Rattle.desc.specs.Desc.{has_next, is_indirect}
use Rattle.desc.specs.declared.Descriptor.{Descriptor}
use Rattle.chain.specs.Sequence.{entry, Chain, last, more, sequence, sum_max, total, AllDirect, Lawful, cut, only}
use Rattle.chain.specs.Steps.{chain_at, behind, next_entry, step_of, Yields, walk_of, filtered_of}
use Rattle.chain.specs.Walk.{taken_indirect, taken_past, taken_next, step_ration, step_read, walk_end, walk_next, walk_yields, filtered_yields}
use Rattle.chain.specs.declared.DescriptorChain.{DescriptorChain}

-- ---- cut
module _ (s : ℕ) (d : Descriptor) (ds : List Descriptor) where
  cut_indirect : is_indirect d ≡ true → cut s (d ∷ ds) ≡ []
  unfolding cut
  cut_indirect h = rw h

  cut_past : is_indirect d ≡ false → leb (s + d.len) sum_max ≡ false → cut s (d ∷ ds) ≡ []
  unfolding cut
  cut_past h p = rw (h, p)

  cut_keeps : is_indirect d ≡ false → leb (s + d.len) sum_max ≡ true → cut s (d ∷ ds) ≡ d ∷ cut (s + d.len) ds
  unfolding cut
  cut_keeps h p = rw (h, p)

cut_none : (s : ℕ) → cut s [] ≡ []
unfolding cut
cut_none s = refl

-- nothing is cut where no descriptor is a table and the sum is in the limit
pub cut_all : (s : ℕ) (ds : List Descriptor) → AllDirect ds → s + total ds ≤ sum_max → cut s ds ≡ ds
cut_all s [] h p = cut_none s
cut_all s (d ∷ ds) h p =
    cut_keeps s d ds h.0 (le-leb (s + d.len) sum_max (omega arith)) ∙ ap (λ (l : List Descriptor). d ∷ l) (cut_all (s + d.len) ds h.1 (omega arith))

-- ---- sequence
module _ (t : Table) (m : List ℕ) (table q : ℕ) where
  sequence_none : (k i : ℕ) → entry t m table q i ≡ None → sequence t m table q (suc k) i ≡ []
  unfolding sequence
  sequence_none k i e = rw e

  sequence_found : (k i : ℕ) (d : Descriptor) → entry t m table q i ≡ Some d → sequence t m table q (suc k) i ≡ d ∷ pick (has_next d) (sequence t m table q k d.next) []
  unfolding sequence
  sequence_found k i d e = rw e

  sequence-zero : (i : ℕ) → sequence t m table q 0 i ≡ []
  unfolding sequence
  sequence-zero i = refl

  -- a chain is all of the sequence from its head on
  pub chain_sequence : {i : ℕ} {ds : List Descriptor} → Chain t m table q i ds → (k : ℕ) → length ds ≤ k → sequence t m table q k i ≡ ds
  chain_sequence (last {i} {d} e n) zero h = absurd (omega arith)
  chain_sequence (last {i} {d} e n) (suc k) h = sequence_found k i d e ∙ rw n
  chain_sequence (more {i} {d} e n c) zero h = absurd (omega arith)
  chain_sequence (more {i} {d} e n c) (suc k) h = sequence_found k i d e ∙ rw n (ap (λ (l : List Descriptor). d ∷ l) (chain_sequence c k (omega arith)))

  -- a cut sequence is as many of its first descriptors as it has
  first'' : (b x p : Bool) (k s i : ℕ) (d : Descriptor) → has_next d ≡ b → is_indirect d ≡ x → leb (s + d.len) sum_max ≡ p → entry t m table q i ≡ Some d
      → cut (s + d.len) (sequence t m table q k d.next) ≡ sequence t m table q (length (cut (s + d.len) (sequence t m table q k d.next))) d.next
      → cut s (d ∷ pick b (sequence t m table q k d.next) []) ≡ sequence t m table q (length (cut s (d ∷ pick b (sequence t m table q k d.next) []))) i
  first'' b true p k s i d n x y e ih = rw (cut_indirect s d (pick b (sequence t m table q k d.next) []) x, sequence-zero i)
  first'' b false false k s i d n x y e ih = rw (cut_past s d (pick b (sequence t m table q k d.next) []) x y, sequence-zero i)
  first'' true false true k s i d n x y e ih =
      rw (cut_keeps s d (sequence t m table q k d.next) x y)
      (sym (sequence_found (length (cut (s + d.len) (sequence t m table q k d.next))) i d e ∙ rw n (ap (λ (l : List Descriptor). d ∷ l) (sym ih))))
  first'' false false true k s i d n x y e ih =
      rw (cut_keeps s d [] x y, cut_none) (sym (sequence_found 0 i d e ∙ rw n))

  first' : (f : Option Descriptor) (k s i : ℕ) → entry t m table q i ≡ f → ((s j : ℕ) → cut s (sequence t m table q k j) ≡ sequence t m table q (length (cut s (sequence t m table q k j))) j)
      → cut s (sequence t m table q (suc k) i) ≡ sequence t m table q (length (cut s (sequence t m table q (suc k) i))) i
  first' (Some d) k s i e ih = rw (sequence_found k i d e) (first'' (has_next d) _ _ k s i d refl refl refl e (ih (s + d.len) d.next))
  first' None k s i e ih = rw (sequence_none k i e, cut_none, sequence-zero i)

  pub cut_first : (k s i : ℕ) → cut s (sequence t m table q k i) ≡ sequence t m table q (length (cut s (sequence t m table q k i))) i
  cut_first zero s i = rw (sequence-zero i, cut_none, sequence-zero i)
  cut_first (suc k) s i = first' _ k s i refl (cut_first k)

-- ---- the walk
module _ (t : Table) (m : List ℕ) where
  -- the sequence from where the chain stands, as far as its ration goes
  abbrev pub ahead : DescriptorChain → List Descriptor
  ahead c = sequence t m c.desc_table c.queue_size c.ttl c.next_index

  abbrev Cut : DescriptorChain → Type 0
  Cut c = walk_of t m c ≡ cut c.yielded_bytes (ahead c)

  behind-ahead : (b : Bool) (c : DescriptorChain) (d : Descriptor) (j : ℕ) → has_next d ≡ b → c.ttl ≡ suc j → Cut (behind c d)
      → walk_of t m (behind c d) ≡ cut (c.yielded_bytes + d.len) (pick b (sequence t m c.desc_table c.queue_size j d.next) [])
  behind-ahead true c d j n e h = let z : c.ttl - 1 ≡ j = omega arith in h ∙ rw (n, z)
  behind-ahead false c d j n e h = h ∙ rw (n, sequence-zero)

  taken'' : (x p : Bool) (c : DescriptorChain) (d : Descriptor) (j : ℕ) → is_indirect d ≡ x → leb (c.yielded_bytes + d.len) sum_max ≡ p → next_entry t m c ≡ Some d → c.ttl ≡ suc j → Cut (behind c d)
      → walk_of t m c ≡ cut c.yielded_bytes (d ∷ pick (has_next d) (sequence t m c.desc_table c.queue_size j d.next) [])
  taken'' true p c d j x y f e h = walk_end t m c (step_read t m c (omega arith) ∙ rw f (taken_indirect c d x)) ∙ sym (cut_indirect _ d _ x)
  taken'' false false c d j x y f e h =
      walk_end t m c (step_read t m c (omega arith) ∙ rw f (taken_past c d x (leb-false _ _ y))) ∙ sym (cut_past _ d _ x y)
  taken'' false true c d j x y f e h =
      walk_next t m c d (behind c d) (step_read t m c (omega arith) ∙ rw f (taken_next c d x (leb-true _ _ y)))
      ∙ sym (cut_keeps _ d _ x y ∙ ap (λ (l : List Descriptor). d ∷ l) (sym (behind-ahead (has_next d) c d j refl e h)))

  taken' : (f : Option Descriptor) (c : DescriptorChain) (j : ℕ) → next_entry t m c ≡ f → c.ttl ≡ suc j → ((d : Descriptor) → Cut (behind c d)) → Cut c
  taken' (Some d) c j f e ih =
      taken'' _ _ c d j refl refl f e (ih d) ∙ rw e (ap (cut c.yielded_bytes) (sym (sequence_found t m c.desc_table c.queue_size j c.next_index d f)))
  taken' None c j f e ih =
      walk_end t m c (step_read t m c (omega arith) ∙ rw f) ∙ rw (e, sequence_none t m c.desc_table c.queue_size j c.next_index f, cut_none)

  behind_less : (b : Bool) (k n : ℕ) → n ≤ suc k → pick b (n - 1) 0 ≤ k
  behind_less true k n h = omega arith
  behind_less false k n h = omega arith

  none' : (c : DescriptorChain) → c.ttl ≡ 0 → Cut c
  none' c e = walk_end t m c (step_ration t m c e) ∙ rw (e, sequence-zero, cut_none)

  some' : (n : ℕ) (c : DescriptorChain) → c.ttl ≡ n → ((d : Descriptor) → Cut (behind c d)) → Cut c
  some' zero c e ih = none' c e
  some' (suc j) c e ih = taken' (next_entry t m c) c j refl e ih

  walk_cut_to : (k : ℕ) (c : DescriptorChain) → c.ttl ≤ k → Cut c
  walk_cut_to zero c h = none' c (omega arith)
  walk_cut_to (suc k) c h = some' c.ttl c refl (λ d. walk_cut_to k (behind c d) (behind_less (has_next d) k c.ttl h))

  -- whatever memory holds, the walk is the sequence, as far as the ration goes, cut before a table and before the sum passes the limit
  pub walk_cut : (c : DescriptorChain) → walk_of t m c ≡ cut c.yielded_bytes (ahead c)
  walk_cut c = walk_cut_to c.ttl c (omega arith)

  -- so it is a first part of the sequence
  pub walk_first : (c : DescriptorChain) → walk_of t m c ≡ sequence t m c.desc_table c.queue_size (length (walk_of t m c)) c.next_index
  walk_first c =
      walk_cut c ∙ cut_first t m c.desc_table c.queue_size c.ttl c.yielded_bytes c.next_index
      ∙ ap (λ (n : ℕ). sequence t m c.desc_table c.queue_size n c.next_index) (ap length (sym (walk_cut c)))

  -- a lawful chain is walked to its end: exactly its descriptors, in order, and then none
  module _ (table q i : ℕ) (ds : List Descriptor) (c : Chain t m table q i ds) (h : Lawful q ds) where
    pub lawful_walk : walk_of t m (chain_at table q i) ≡ ds
    lawful_walk =
        walk_cut (chain_at table q i) ∙ ap (cut 0) (chain_sequence t m table q c q h.few) ∙ cut_all 0 ds h.direct (omega (arith, h.sum))

    pub lawful_yields : Yields (step_of t m) (chain_at table q i) ds
    lawful_yields = rw lawful_walk at (walk_yields t m (chain_at table q i))

    pub lawful_filtered : (w : Bool) → Yields (filtered_of w t m) (chain_at table q i) (only w ds)
    lawful_filtered w = rw lawful_walk at (filtered_yields t m w (chain_at table q i))
