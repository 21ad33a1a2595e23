-- SPDX-License-Identifier: Apache-2.0 AND BSD-3-Clause
-- The laws of a step, a filtered step and a walk.
use Prim.Native.Nat.{ℕ, zero, suc, ◌+◌, ◌-◌, ◌<◌, ◌≤◌, zero-le}
use Rattle.std.proofs.Common.{arith, ap, ◌∙◌, true≢false}
use Rattle.std.proofs.Math.Path.{◌≡◌, refl, sym}
use Rattle.std.specs.Prelude.{Bool, Option, Some, None, length, ltb, leb}
use Rattle.std.proofs.Math.Bool.{true, false}
use Rattle.std.specs.Bool.{beq}
use mathlib.Core.List.{List, [], ◌∷◌}
use borrow.Author.Tests.{lt-ltb, le-ltb, le-leb, lt-leb, ltb-true, leb-true}
use Rattle.regions.specs.Table.{pick, Table}
use Rattle.desc.specs.Layout.{desc_addr}
use Rattle.desc.specs.Desc.{has_next, is_write_only, is_indirect, desc_at}
use Rattle.desc.specs.declared.Descriptor.{Descriptor}
use Rattle.chain.specs.Sequence.{entry, on_found, sum_max, wanted, only}
use Rattle.chain.specs.Steps.{Step, moved, behind, taken, next_entry, step_of, on_step, Yields, none, some, walk, walk_of, seek, filtered_of, reads, looks, looked_of, Sought}
use Rattle.chain.specs.declared.DescriptorChain.{DescriptorChain}

-- ---- entry
module _ (t : Table) (m : List ℕ) (table q i : ℕ) where
  pub entry_in : i < q → entry t m table q i ≡ desc_at t m (desc_addr table i)
  unfolding entry
  entry_in h = simp (lt-ltb _ _ h)

  pub entry_out : q ≤ i → entry t m table q i ≡ None
  unfolding entry
  entry_out h = simp (le-ltb _ _ h)

-- ---- taken
module _ (c : DescriptorChain) (d : Descriptor) where
  pub taken_indirect : is_indirect d ≡ true → taken c d ≡ None
  unfolding taken
  taken_indirect h = rw h

  module _ (direct : is_indirect d ≡ false) where
    pub taken_past : sum_max < c.yielded_bytes + d.len → taken c d ≡ None
    unfolding taken
    taken_past h = simp (direct, lt-leb _ _ h)

    pub taken_next : c.yielded_bytes + d.len ≤ sum_max → taken c d ≡ Some (d, behind c d)
    unfolding taken
    taken_next h = simp (direct, le-leb _ _ h)

    module _ (h : c.yielded_bytes + d.len ≤ sum_max) (i k : ℕ) where
      pub taken_on_lem : has_next d ≡ true → i ≡ d.next → k ≡ c.ttl - 1 → Some (d, moved c i k (c.yielded_bytes + d.len)) ≡ taken c d
      taken_on_lem n e f = sym (taken_next h ∙ rw (n, ← e, ← f))

      pub taken_last : has_next d ≡ false → i ≡ c.next_index → k ≡ 0 → Some (d, moved c i k (c.yielded_bytes + d.len)) ≡ taken c d
      taken_last n e f = sym (taken_next h ∙ rw (n, ← e, ← f))

-- ---- step_of
module _ (t : Table) (m : List ℕ) (c : DescriptorChain) where
  pub step_ration : c.ttl ≡ 0 → step_of t m c ≡ None
  unfolding step_of
  step_ration h = simp (le-ltb 0 c.ttl (omega arith))

  pub step_read : 0 < c.ttl → step_of t m c ≡ on_found (next_entry t m c) (taken c) None
  unfolding step_of
  step_read h = simp (lt-ltb _ _ h)

  pub step_index : 0 < c.ttl → c.queue_size ≤ c.next_index → step_of t m c ≡ None
  step_index h i = step_read h ∙ rw (entry_out _ _ _ _ _ i)

  pub step_found : (f : Option Descriptor) → 0 < c.ttl → c.next_index < c.queue_size → f ≡ desc_at t m (desc_addr c.desc_table c.next_index) → step_of t m c ≡ on_found f (taken c) None
  step_found f h i e = step_read h ∙ rw (entry_in _ _ _ _ _ i, e)

same_step : {d e : Descriptor} {c r : DescriptorChain} → ◌≡◌ {A = Step} (Some (d, c)) (Some (e, r)) → (d ≡ e) × (c ≡ r)
same_step {d} {e} {c} {r} h = let z : ◌≡◌ {A = Descriptor × DescriptorChain} (d, c) (e, r) = cc in (ap (λ (w : Descriptor × DescriptorChain). w.0) z, ap (λ (w : Descriptor × DescriptorChain). w.1) z)

-- what a step did that yielded d and left r
pub record Took (t : Table) (m : List ℕ) (c : DescriptorChain) (d : Descriptor) (r : DescriptorChain) : Type 0 where
  pub ration : 0 < c.ttl
  pub found : next_entry t m c ≡ Some d
  pub direct : is_indirect d ≡ false
  pub sum : c.yielded_bytes + d.len ≤ sum_max
  pub is : r ≡ behind c d

module _ (t : Table) (m : List ℕ) (c : DescriptorChain) where
  took'' : (b p : Bool) (d e : Descriptor) (r : DescriptorChain) → is_indirect d ≡ b → leb (c.yielded_bytes + d.len) sum_max ≡ p → 0 < c.ttl → next_entry t m c ≡ Some d
      → pick {A = Step} b None (pick p (Some (d, behind c d)) None) ≡ Some (e, r) → Took t m c e r
  took'' false true d e r x y l f h =
      let z = same_step h in
      rw (← z.0) (record { ration = l; found = f; direct = x; sum = leb-true _ _ y; is = sym z.1 })
  took'' false false d e r x y l f h = absurd (let z : ◌≡◌ {A = ℕ} 0 1 = cc in omega arith)
  took'' true p d e r x y l f h = absurd (let z : ◌≡◌ {A = ℕ} 0 1 = cc in omega arith)

  took' : (b : Bool) (f : Option Descriptor) (e : Descriptor) (r : DescriptorChain) → ltb 0 c.ttl ≡ b → next_entry t m c ≡ f → pick b (on_found f (taken c) None) None ≡ Some (e, r) → Took t m c e r
  unfolding taken
  took' true (Some d) e r x y h = took'' _ _ d e r refl refl (ltb-true _ _ x) y h
  took' true None e r x y h = absurd (let z : ◌≡◌ {A = ℕ} 0 1 = cc in omega arith)
  took' false f e r x y h = absurd (let z : ◌≡◌ {A = ℕ} 0 1 = cc in omega arith)

  pub step_took : (d : Descriptor) (r : DescriptorChain) → step_of t m c ≡ Some (d, r) → Took t m c d r
  unfolding step_of
  step_took d r h = took' _ _ d r refl refl h

  pub took_step : (d : Descriptor) (r : DescriptorChain) → Took t m c d r → step_of t m c ≡ Some (d, r)
  took_step d r h = step_read t m c h.ration ∙ rw h.found (taken_next c d h.direct h.sum ∙ rw h.is)

-- the ration falls, and the table stays
pub record Falls (c r : DescriptorChain) : Type 0 where
  pub ration : r.ttl < c.ttl
  pub table : r.desc_table ≡ c.desc_table
  pub size : r.queue_size ≡ c.queue_size

behind_ration : (b : Bool) (k : ℕ) → 0 < k → pick b (k - 1) 0 < k
behind_ration true k h = omega arith
behind_ration false k h = h

pub step_falls : (t : Table) (m : List ℕ) (c : DescriptorChain) (d : Descriptor) (r : DescriptorChain) → step_of t m c ≡ Some (d, r) → Falls c r
step_falls t m c d r h =
    let w = step_took t m c d r h in
    rw w.is (record { ration = behind_ration (has_next d) c.ttl w.ration; table = refl; size = refl })

-- ---- reads
reads' : (b p : Bool) → pick b p false ≡ true → (b ≡ true) × (p ≡ true)
reads' true p h = (refl, h)
reads' false p h = absurd (true≢false (sym h))

pub reads_ration : (c : DescriptorChain) → reads c ≡ true → 0 < c.ttl
reads_ration c h = ltb-true _ _ (reads' (ltb 0 c.ttl) (ltb c.next_index c.queue_size) h).0

pub reads_index : (c : DescriptorChain) → reads c ≡ true → c.next_index < c.queue_size
reads_index c h = ltb-true _ _ (reads' (ltb 0 c.ttl) (ltb c.next_index c.queue_size) h).1

entry' : (b : Bool) (f : Option Descriptor) (d : Descriptor) → pick b f None ≡ Some d → b ≡ true
entry' true f d h = refl
entry' false f d h = absurd (let z : ◌≡◌ {A = ℕ} 0 1 = cc in omega arith)

pub entry_index : (t : Table) (m : List ℕ) (table q i : ℕ) (d : Descriptor) → entry t m table q i ≡ Some d → ltb i q ≡ true
unfolding entry
entry_index t m table q i d h = entry' (ltb i q) (desc_at t m (desc_addr table i)) d h

-- a step that yields read a descriptor
pub yields_reads : (t : Table) (m : List ℕ) (c : DescriptorChain) (d : Descriptor) (r : DescriptorChain) → step_of t m c ≡ Some (d, r) → reads c ≡ true
yields_reads t m c d r h = let w = step_took t m c d r h in rw (lt-ltb _ _ w.ration) (entry_index t m _ _ _ d w.found)

-- ---- walk, walk_of
module _ (t : Table) (m : List ℕ) where
  short' : (k : ℕ) (c : DescriptorChain) (s : Step) → step_of t m c ≡ s → ((r : DescriptorChain) → length (walk k t m r) ≤ r.ttl) → length (on_step s (λ d r. d ∷ walk k t m r) []) ≤ c.ttl
  short' k c (Some (d, r)) e ih = omega (arith, ih r, (step_falls t m c d r e).ration)
  short' k c None e ih = zero-le

  -- however many steps are made, a walk yields at most as many descriptors as the ration
  pub walk_short : (k : ℕ) (c : DescriptorChain) → length (walk k t m c) ≤ c.ttl
  unfolding walk
  walk_short zero c = zero-le
  walk_short (suc k) c = short' k c (step_of t m c) refl (walk_short k)

  pub walk_of_short : (c : DescriptorChain) → length (walk_of t m c) ≤ c.ttl
  unfolding walk_of
  walk_of_short c = walk_short c.ttl c

  walk_none : (k : ℕ) (c : DescriptorChain) → step_of t m c ≡ None → walk k t m c ≡ []
  unfolding walk
  walk_none zero c e = refl
  walk_none (suc k) c e = rw e

  enough' : (j k : ℕ) (c : DescriptorChain) (s : Step) → step_of t m c ≡ s → c.ttl ≤ suc j → c.ttl ≤ suc k
      → ((r : DescriptorChain) → r.ttl ≤ j → r.ttl ≤ k → walk j t m r ≡ walk k t m r)
      → on_step s (λ d r. d ∷ walk j t m r) [] ≡ on_step s (λ d r. d ∷ walk k t m r) []
  enough' j k c (Some (d, r)) e p q ih = let f = step_falls t m c d r e in ap (λ (l : List Descriptor). d ∷ l) (ih r (omega arith) (omega arith))
  enough' j k c None e p q ih = refl

  -- more steps than the ration change nothing
  pub walk_enough : (j k : ℕ) (c : DescriptorChain) → c.ttl ≤ j → c.ttl ≤ k → walk j t m c ≡ walk k t m c
  unfolding walk
  walk_enough zero k c p q = sym (walk_none k c (step_ration t m c (omega arith)))
  walk_enough (suc j) zero c p q = walk_none (suc j) c (step_ration t m c (omega arith))
  walk_enough (suc j) (suc k) c p q = enough' j k c (step_of t m c) refl p q (walk_enough j k)

  pub walk_end : (c : DescriptorChain) → step_of t m c ≡ None → walk_of t m c ≡ []
  unfolding walk_of
  walk_end c e = walk_none c.ttl c e

  pub walk_next : (c : DescriptorChain) (d : Descriptor) (r : DescriptorChain) → step_of t m c ≡ Some (d, r) → walk_of t m c ≡ d ∷ walk_of t m r
  unfolding walk_of walk
  walk_next c d r e =
      let f = step_falls t m c d r e in
      walk_enough c.ttl (suc c.ttl) c (omega arith) (omega arith)
      ∙ rw e (ap (λ (l : List Descriptor). d ∷ l) (walk_enough c.ttl r.ttl r (omega arith) (omega arith)))

  -- ---- filtered_of
  module _ (w : Bool) where
    seek_none : (k : ℕ) (c : DescriptorChain) → step_of t m c ≡ None → seek w k t m c ≡ None
    unfolding seek
    seek_none zero c e = refl
    seek_none (suc k) c e = rw e

    seek' : (j k : ℕ) (c : DescriptorChain) (s : Step) → step_of t m c ≡ s → c.ttl ≤ suc j → c.ttl ≤ suc k
        → ((r : DescriptorChain) → r.ttl ≤ j → r.ttl ≤ k → seek w j t m r ≡ seek w k t m r)
        → on_step s (λ d r. pick (wanted w d) (Some (d, r)) (seek w j t m r)) None ≡ on_step s (λ d r. pick (wanted w d) (Some (d, r)) (seek w k t m r)) None
    seek' j k c (Some (d, r)) e p q ih = let f = step_falls t m c d r e in ap (λ (s : Step). pick (wanted w d) (Some (d, r)) s) (ih r (omega arith) (omega arith))
    seek' j k c None e p q ih = refl

    pub seek_enough : (j k : ℕ) (c : DescriptorChain) → c.ttl ≤ j → c.ttl ≤ k → seek w j t m c ≡ seek w k t m c
    unfolding seek
    seek_enough zero k c p q = sym (seek_none k c (step_ration t m c (omega arith)))
    seek_enough (suc j) zero c p q = seek_none (suc j) c (step_ration t m c (omega arith))
    seek_enough (suc j) (suc k) c p q = seek' j k c (step_of t m c) refl p q (seek_enough j k)

    pub filtered_end : (c : DescriptorChain) → step_of t m c ≡ None → filtered_of w t m c ≡ None
    unfolding filtered_of
    filtered_end c e = seek_none c.ttl c e

    filtered_on : (c : DescriptorChain) (d : Descriptor) (r : DescriptorChain) → step_of t m c ≡ Some (d, r) → filtered_of w t m c ≡ pick (wanted w d) (Some (d, r)) (filtered_of w t m r)
    unfolding filtered_of seek
    filtered_on c d r e =
        let f = step_falls t m c d r e in
        seek_enough c.ttl (suc c.ttl) c (omega arith) (omega arith)
        ∙ rw e (ap (λ (s : Step). pick (wanted w d) (Some (d, r)) s) (seek_enough c.ttl r.ttl r (omega arith) (omega arith)))

    pub filtered_found : (c : DescriptorChain) (d : Descriptor) (r : DescriptorChain) → step_of t m c ≡ Some (d, r) → wanted w d ≡ true → filtered_of w t m c ≡ Some (d, r)
    filtered_found c d r e h = filtered_on c d r e ∙ rw h

    pub filtered_skip : (c : DescriptorChain) (d : Descriptor) (r : DescriptorChain) → step_of t m c ≡ Some (d, r) → wanted w d ≡ false → filtered_of w t m c ≡ filtered_of w t m r
    filtered_skip c d r e h = filtered_on c d r e ∙ rw h

  module _ (w : Bool) where
    falls'' : (b : Bool) (k : ℕ) (c : DescriptorChain) (e : Descriptor) (s : DescriptorChain) (d : Descriptor) (r : DescriptorChain) → step_of t m c ≡ Some (e, s) → (seek w k t m s ≡ Some (d, r) → Falls s r)
        → pick b (Some (e, s)) (seek w k t m s) ≡ Some (d, r) → Falls c r
    falls'' true k c e s d r f ih h = rw (← (same_step h).1) (step_falls t m c e s f)
    falls'' false k c e s d r f ih h =
        let u = ih h in
        let v = step_falls t m c e s f in
        record { ration = omega arith; table = u.table ∙ v.table; size = u.size ∙ v.size }

    falls' : (k : ℕ) (c : DescriptorChain) (s : Step) (d : Descriptor) (r : DescriptorChain) → step_of t m c ≡ s → ((x : DescriptorChain) → seek w k t m x ≡ Some (d, r) → Falls x r)
        → on_step s (λ d r. pick (wanted w d) (Some (d, r)) (seek w k t m r)) None ≡ Some (d, r) → Falls c r
    falls' k c (Some (e, s)) d r f ih h = falls'' (wanted w e) k c e s d r f (ih s) h
    falls' k c None d r f ih h = absurd (let z : ◌≡◌ {A = ℕ} 0 1 = cc in omega arith)

    seek_falls : (k : ℕ) (c : DescriptorChain) (d : Descriptor) (r : DescriptorChain) → seek w k t m c ≡ Some (d, r) → Falls c r
    unfolding seek
    seek_falls zero c d r h = absurd (let z : ◌≡◌ {A = ℕ} 0 1 = cc in omega arith)
    seek_falls (suc k) c d r h = falls' k c (step_of t m c) d r refl (λ x. seek_falls k x d r) h

    -- the measure of a loop over a filtered next
    pub filtered_falls : (c : DescriptorChain) (d : Descriptor) (r : DescriptorChain) → filtered_of w t m c ≡ Some (d, r) → Falls c r
    unfolding filtered_of
    filtered_falls c d r h = seek_falls c.ttl c d r h

  -- ---- looks, looked_of
  module _ (stop : Descriptor → Bool) where
    looks'' : (b : Bool) (n : ℕ) (l : List ℕ) → length l ≤ n → length (pick b [] l) ≤ n
    looks'' true n l h = zero-le
    looks'' false n l h = h

    looks' : (b : Bool) (k : ℕ) (c : DescriptorChain) (s : Step) → reads c ≡ b → step_of t m c ≡ s → ((r : DescriptorChain) → length (looks stop k t m r) ≤ r.ttl)
        → length (pick b (c.next_index ∷ on_step s (λ d r. pick (stop d) [] (looks stop k t m r)) []) []) ≤ c.ttl
    looks' true k c (Some (d, r)) e f ih = omega (arith, looks'' (stop d) r.ttl (looks stop k t m r) (ih r), (step_falls t m c d r f).ration)
    looks' true k c None e f ih = omega (arith, reads_ration c e)
    looks' false k c s e f ih = zero-le

    -- however many steps are made, they read at most as many descriptors as the ration
    pub looks_short : (k : ℕ) (c : DescriptorChain) → length (looks stop k t m c) ≤ c.ttl
    unfolding looks
    looks_short zero c = zero-le
    looks_short (suc k) c = looks' (reads c) k c (step_of t m c) refl refl (looks_short k)

    pub looked_short : (c : DescriptorChain) → length (looked_of stop t m c) ≤ c.ttl
    unfolding looked_of
    looked_short c = looks_short (suc c.ttl) c

  -- for a loop over next: c is where it is, c₀ where it began
  module _ (w : Bool) (c₀ c : DescriptorChain) (inv : filtered_of w t m c ≡ filtered_of w t m c₀) (s : Step) (e : s ≡ step_of t m c) where
    pub sought_end : s ≡ None → Sought w t m c₀ None
    sought_end f = record { is = sym (filtered_end w c (sym e ∙ f)) ∙ inv; bounded = looked_short (wanted w) c₀ }

    module _ (d : Descriptor) (r : DescriptorChain) (f : s ≡ Some (d, r)) (b : Bool) (g : b ≡ is_write_only d) where
      pub sought_found : beq b w ≡ true → Sought w t m c₀ (Some (d, r))
      sought_found h = record { is = sym (filtered_found w c d r (sym e ∙ f) (rw g at h)) ∙ inv; bounded = looked_short (wanted w) c₀ }

      pub sought_on : beq b w ≡ false → filtered_of w t m r ≡ filtered_of w t m c₀
      sought_on h = sym (filtered_skip w c d r (sym e ∙ f) (rw g at h)) ∙ inv

  -- ---- Yields
  yields_same : (f : DescriptorChain → Step) (c r : DescriptorChain) (ds : List Descriptor) → f c ≡ f r → Yields f r ds → Yields f c ds
  yields_same f c r ds p (none e) = none (p ∙ e)
  yields_same f c r ds p (some e y) = some (p ∙ e) y

  yields' : (k : ℕ) (c : DescriptorChain) (s : Step) → step_of t m c ≡ s → c.ttl ≤ suc k → ((r : DescriptorChain) → r.ttl ≤ k → Yields (step_of t m) r (walk_of t m r)) → Yields (step_of t m) c (walk_of t m c)
  yields' k c (Some (d, r)) e h ih = let f = step_falls t m c d r e in rw (walk_next c d r e) (some e (ih r (omega arith)))
  yields' k c None e h ih = rw (walk_end c e) (none e)

  walk_yields_to : (k : ℕ) (c : DescriptorChain) → c.ttl ≤ k → Yields (step_of t m) c (walk_of t m c)
  walk_yields_to zero c h = let e = step_ration t m c (omega arith) in rw (walk_end c e) (none e)
  walk_yields_to (suc k) c h = yields' k c (step_of t m c) refl h (walk_yields_to k)

  -- next, called over and over, yields the walk and then none
  pub walk_yields : (c : DescriptorChain) → Yields (step_of t m) c (walk_of t m c)
  walk_yields c = walk_yields_to c.ttl c (omega arith)

  module _ (w : Bool) where
    only_yes : (d : Descriptor) (ds : List Descriptor) → wanted w d ≡ true → only w (d ∷ ds) ≡ d ∷ only w ds
    unfolding only
    only_yes d ds h = rw h

    only_no : (d : Descriptor) (ds : List Descriptor) → wanted w d ≡ false → only w (d ∷ ds) ≡ only w ds
    unfolding only
    only_no d ds h = rw h

    only_none : only w [] ≡ []
    unfolding only
    only_none = refl

    filter'' : (b : Bool) (c : DescriptorChain) (d : Descriptor) (r : DescriptorChain) → wanted w d ≡ b → step_of t m c ≡ Some (d, r) → Yields (filtered_of w t m) r (only w (walk_of t m r)) → Yields (filtered_of w t m) c (only w (d ∷ walk_of t m r))
    filter'' true c d r h e y = rw (only_yes d (walk_of t m r) h) (some (filtered_found w c d r e h) y)
    filter'' false c d r h e y = rw (only_no d (walk_of t m r) h) (yields_same (filtered_of w t m) c r _ (filtered_skip w c d r e h) y)

    filter' : (k : ℕ) (c : DescriptorChain) (s : Step) → step_of t m c ≡ s → c.ttl ≤ suc k → ((r : DescriptorChain) → r.ttl ≤ k → Yields (filtered_of w t m) r (only w (walk_of t m r))) → Yields (filtered_of w t m) c (only w (walk_of t m c))
    filter' k c (Some (d, r)) e h ih = let f = step_falls t m c d r e in rw (walk_next c d r e) (filter'' (wanted w d) c d r refl e (ih r (omega arith)))
    filter' k c None e h ih = rw (walk_end c e, only_none) (none (filtered_end w c e))

    filtered_yields_to : (k : ℕ) (c : DescriptorChain) → c.ttl ≤ k → Yields (filtered_of w t m) c (only w (walk_of t m c))
    filtered_yields_to zero c h = let e = step_ration t m c (omega arith) in rw (walk_end c e, only_none) (none (filtered_end w c e))
    filtered_yields_to (suc k) c h = filter' k c (step_of t m c) refl h (filtered_yields_to k)

    -- a filtered next, called over and over, yields the wanted ones of the walk and then none
    pub filtered_yields : (c : DescriptorChain) → Yields (filtered_of w t m) c (only w (walk_of t m c))
    filtered_yields c = filtered_yields_to c.ttl c (omega arith)

-- what a step yields over and over is one list
pub yields_one : (f : DescriptorChain → Step) (c : DescriptorChain) (ds es : List Descriptor) → Yields f c ds → Yields f c es → ds ≡ es
yields_one f c ds es (none e) (none g) = refl
yields_one f c ds es (none e) (some g z) = absurd (let x : ◌≡◌ {A = ℕ} 0 1 = cc in omega arith)
yields_one f c ds es (some e y) (none g) = absurd (let x : ◌≡◌ {A = ℕ} 0 1 = cc in omega arith)
yields_one f c (d ∷ ds) (b ∷ es) (some {r = r} e y) (some {r = s} g z) =
    let p = same_step (sym e ∙ g) in let q = p.0 in cc (yields_one f r ds es y (rw (← p.1) at z))
