-- SPDX-License-Identifier: Apache-2.0 AND BSD-3-Clause
-- The laws of laying a chain: of its tests and its writes, for the loops that make them; and the round trip.
use Prim.Native.Nat.{ℕ, zero, suc, ◌+◌, ◌-◌, ◌*◌, ◌/◌, ◌%◌, ◌^◌, ◌<◌, ◌≤◌}
use Rattle.std.proofs.Math.Nat.{sub-zero}
use Rattle.std.proofs.Common.{add-zero, add-one, ap, ◌∙◌, inl, inr, true≢false}
use native.Mathlib.Omega.{arith}
use Rattle.std.specs.Prelude.{◌≡◌, Bool, true, false, not, ◌&&◌, ◌||◌, Option, Some, None, is_some, SomeIff, Ok, Err, List, [], ◌∷◌, length, get_or, take, drop, sum, ltb, leb, eqb}
use Rattle.std.proofs.Math.Path.{refl, sym}
use Rattle.std.proofs.Math.ListN.{get_or-eq_default}
use Rattle.std.proofs.Math.Seq.{drop-cons}
use Rattle.std.proofs.lemmas.List.{length-take, get_or-take, drop_all}
use Rattle.std.proofs.lemmas.List.Sums.{sum_by-cons}
use Rattle.std.specs.List.{list_all, list_any}
use borrow.Author.Tests.{lt-ltb, le-ltb, le-leb, lt-leb, eq-eqb, ne_eqb, ltb-true, ltb-false, leb-true, eqb-true, eqb-false, not-true, not-false}
use Rattle.wire.specs.Part.{Apart}
use Rattle.regions.specs.Table.{pick, Table, Good}
use Rattle.memory.specs.Access.{writable, after, after-length, Wrote}
use Rattle.desc.specs.Layout.{desc_addr}
use Rattle.desc.specs.Desc.{descriptor, desc_bytes, has_next, is_indirect, desc_at, FitsDesc, desc_apart, desc_back}
use Rattle.desc.specs.declared.Descriptor.{Descriptor}
use Rattle.chain.specs.Sequence.{entry, Chain, last, more, sum_max, total, AllDirect, Lawful}
use Rattle.chain.specs.Walk.{entry_in}
use Rattle.chain.specs.Right.{lawful_yields, lawful_filtered}
use Rattle.chain.specs.Links.{Listed, Laid, link_flags, link, links_from, links, stored, every, counted, below, differs, fresh, direct, can_store, lay_of, is_done, LaidDown}
use Rattle.chain.specs.declared.lay.LayError.{LayError}
use Rattle.chain.specs.declared.lay.LayError.TheVariants.{BadCount, BadPlace, SamePlace, Indirect, TooLong, Unmapped}

-- ---- what the functions below lay_chain need and find
-- as many of each
pub record SameLength (x : Listed) : Type 0 where
  pub addrs : length x.addrs ≡ length x.places
  pub lens : length x.lens ≡ length x.places
  pub flags : length x.flags ≡ length x.places

left-suc : (n k : ℕ) → k < n → n - k ≡ suc (n - (k + 1))
left-suc n k h = omega arith

pick_and : (b c : Bool) → pick b c false ≡ (b && c)
pick_and true c = refl
pick_and false c = refl

-- ---- every
module _ (p : ℕ → Bool) where
  both : (b c : Bool) → pick b c false ≡ true → (b ≡ true) × (c ≡ true)
  both true c h = (refl, h)
  both false c h = absurd (true≢false (sym h))

  every' : (n k i : ℕ) (b : Bool) → ltb k i ≡ b → k ≤ i → p k ≡ true → (suc k ≤ i → p i ≡ true) → p i ≡ true
  every' n k i true e h f g = g (ltb-true _ _ e)
  every' n k i false e h f g = let z : i ≡ k = omega (arith, ltb-false k i e) in rw z f

  -- what every says
  pub every_all : (n k : ℕ) → every p n k ≡ true → (i : ℕ) → k ≤ i → i < k + n → p i ≡ true
  unfolding every
  every_all zero k e i h l = absurd (omega arith)
  every_all (suc n) k e i h l =
      let w = both (p k) (every p n (suc k)) e in every' n k i (ltb k i) refl h w.0 (λ s. every_all n (suc k) w.1 i s (omega arith))

  yes' : (n k : ℕ) → ((i : ℕ) → k ≤ i → i < k + n → p i ≡ true) → true ≡ every p n k
  unfolding every
  yes' zero k h = refl
  yes' (suc n) k h = rw (h k (omega arith) (omega arith)) (yes' n (suc k) (λ i g l. h i (omega arith) (omega arith)))

  no' : (n i : ℕ) (b : Bool) → every p n 0 ≡ b → i < n → p i ≡ false → false ≡ every p n 0
  no' n i true e l h = absurd (true≢false (sym (every_all n 0 e i (omega arith) (omega arith)) ∙ h))
  no' n i false e l h = sym e

  on' : (k i : ℕ) (b : Bool) → ltb i k ≡ b → i < k + 1 → ((j : ℕ) → j < k → p j ≡ true) → p k ≡ true → p i ≡ true
  on' k i true e l f h = f i (ltb-true _ _ e)
  on' k i false e l f h = let z : i ≡ k = omega (arith, ltb-false i k e) in rw z h

  -- for a loop over the places: p is true of one more; it found one that p is false of, or none
  pub every_below : (k : ℕ) → ((j : ℕ) → j < k → p j ≡ true) → p k ≡ true → (i : ℕ) → i < k + 1 → p i ≡ true
  every_below k f h i l = on' k i (ltb i k) refl l f h

  pub every_no : (n i : ℕ) → i < n → p i ≡ false → false ≡ every p n 0
  every_no n i l h = no' n i (every p n 0) refl l h

  pub every_yes : (n : ℕ) → ((i : ℕ) → i < n → p i ≡ true) → true ≡ every p n 0
  every_yes n h = yes' n 0 (λ i g l. h i (omega arith))

  -- for a loop that counts down what is left
  every-step : (n k : ℕ) → k < n → every p (n - k) k ≡ pick (p k) (every p (n - (k + 1)) (k + 1)) false
  unfolding every
  every-step n k h = rw (left-suc n k h, add-one)

  pub every_begin : (n : ℕ) → every p (n - 0) 0 ≡ every p n 0
  every_begin n = rw sub-zero

  module _ (n k : ℕ) (inv : every p (n - k) k ≡ every p n 0) where
    pub every_on : k < n → p k ≡ true → every p (n - (k + 1)) (k + 1) ≡ every p n 0
    every_on h e = sym (every-step n k h ∙ rw e) ∙ inv

    pub every_end : n ≤ k → true ≡ every p n 0
    unfolding every
    every_end h = let z : n - k ≡ 0 = omega arith in sym (rw z) ∙ inv

  -- of each number of a list
  list' : (f : ℕ → Bool) (xs : List ℕ) (k : ℕ) → ((i : ℕ) → i < length xs → p (k + i) ≡ f (get_or xs i 0)) → every p (length xs) k ≡ list_all f xs
  unfolding every
  list' f [] k h = refl
  list' f (x ∷ xs) k h =
      let e : p k ≡ f x = rw add-zero at (h 0 (omega arith)) in
      let r = list' f xs (suc k) (λ i l. let z : suc k + i ≡ k + suc i = omega arith in rw z (h (suc i) (omega arith))) in
      rw (e, r) (pick_and (f x) (list_all f xs))

  pub every_list : (f : ℕ → Bool) (xs : List ℕ) → ((i : ℕ) → i < length xs → p i ≡ f (get_or xs i 0)) → every p (length xs) 0 ≡ list_all f xs
  every_list f xs h = list' f xs 0 (λ i l. let z : 0 + i ≡ i = omega arith in rw z (h i l))

-- ---- the tests at one place
module _ (ps : List ℕ) (k : ℕ) where
  pub below_yes : (q : ℕ) → get_or ps k 0 < q → below q ps k ≡ true
  unfolding below
  below_yes q h = lt-ltb _ _ h

  pub below_no : (q : ℕ) → q ≤ get_or ps k 0 → below q ps k ≡ false
  unfolding below
  below_no q h = le-ltb _ _ h

  pub below_true : (q : ℕ) → below q ps k ≡ true → get_or ps k 0 < q
  unfolding below
  below_true q h = ltb-true _ _ h

  pub differs_yes : (j : ℕ) → (get_or ps j 0 ≡ get_or ps k 0 → ⊥) → differs ps k j ≡ true
  unfolding differs
  differs_yes j h = rw (ne_eqb (get_or ps j 0) (get_or ps k 0) h)

  pub differs_no : (j : ℕ) → get_or ps j 0 ≡ get_or ps k 0 → differs ps k j ≡ false
  unfolding differs
  differs_no j h = rw (eq-eqb (get_or ps j 0) (get_or ps k 0) h)

  differs_true : (j : ℕ) → differs ps k j ≡ true → get_or ps j 0 ≡ get_or ps k 0 → ⊥
  unfolding differs
  differs_true j h = eqb-false (get_or ps j 0) (get_or ps k 0) (not-true _ h)

  pub fresh_is : every (differs ps k) k 0 ≡ fresh ps k
  unfolding fresh
  fresh_is = refl

  fresh-true : fresh ps k ≡ true → (j : ℕ) → j < k → get_or ps j 0 ≡ get_or ps k 0 → ⊥
  fresh-true h j l = differs_true j (every_all (differs ps k) k 0 (fresh_is ∙ h) j (omega arith) (omega arith))

  pub can_yes : (t : Table) (size table : ℕ) (r : Bool) → r ≡ writable t size (desc_addr table (get_or ps k 0)) 16 → not r ≡ false → can_store t size table ps k ≡ true
  unfolding can_store
  can_yes t size table r e h = sym e ∙ not-false r h

  pub can_no : (t : Table) (size table : ℕ) (r : Bool) → r ≡ writable t size (desc_addr table (get_or ps k 0)) 16 → not r ≡ true → can_store t size table ps k ≡ false
  unfolding can_store
  can_no t size table r e h = sym e ∙ not-true r h

  can_true : (t : Table) (size table : ℕ) → can_store t size table ps k ≡ true → writable t size (desc_addr table (get_or ps k 0)) 16 ≡ true
  unfolding can_store
  can_true t size table h = h

-- and at every place, as a list's test says it
pub all_below-every : (q : ℕ) (ps : List ℕ) → list_all (λ p. ltb p q) ps ≡ every (below q ps) (length ps) 0
unfolding below
all_below-every q ps = sym (every_list (below q ps) (λ p. ltb p q) ps (λ i l. refl))

pub can_store-every : (t : Table) (size table : ℕ) (ps : List ℕ) → list_all (λ p. writable t size (desc_addr table p) 16) ps ≡ every (can_store t size table ps) (length ps) 0
unfolding can_store
can_store-every t size table ps = sym (every_list (can_store t size table ps) (λ p. writable t size (desc_addr table p) 16) ps (λ i l. refl))

not_any : (f : ℕ → Bool) (xs : List ℕ) → list_all (λ x. not (f x)) xs ≡ not (list_any f xs)
not_any f [] = refl
not_any f (x ∷ xs) = any' (f x) (not_any f xs)
  where
    any' : (b : Bool) → list_all (λ x. not (f x)) xs ≡ not (list_any f xs) → (not b && list_all (λ x. not (f x)) xs) ≡ not (b || list_any f xs)
    any' true h = refl
    any' false h = h

-- a place is none of those before if these don't contain it
pub fresh_contains : (ps : List ℕ) (k : ℕ) → k ≤ length ps → fresh ps k ≡ not (list_any (λ p. eqb p (get_or ps k 0)) (take k ps))
unfolding fresh differs
fresh_contains ps k h =
    let n : length (take k ps) ≡ k = omega (arith, length-take k ps) in
    let e = every_list (differs ps k) (λ p. not (eqb p (get_or ps k 0))) (take k ps) (λ i l. rw (get_or-take k ps i 0 (omega arith))) in
    rw n at e ∙ not_any (λ p. eqb p (get_or ps k 0)) (take k ps)

module _ (x : Listed) (k : ℕ) where
  module _ (d : Descriptor) (r : Bool) (e : d ≡ link x k) (f : r ≡ is_indirect d) where
    pub direct_yes : r ≡ false → direct x k ≡ true
    unfolding direct
    direct_yes h = rw (← e, ← f, h)

    pub direct_no : r ≡ true → direct x k ≡ false
    unfolding direct
    direct_no h = rw (← e, ← f, h)

  direct-true : direct x k ≡ true → is_indirect (link x k) ≡ false
  unfolding direct
  direct-true h = not-true _ h

  -- ---- link
  pub link_more : (f : ℕ) → k + 1 < length x.places → f ≡ link_flags true (get_or x.flags k 0) → descriptor (get_or x.addrs k 0) (get_or x.lens k 0) f (get_or x.places (k + 1) 0) ≡ link x k
  unfolding link
  link_more f h e = rw (lt-ltb _ _ h, e)

  pub link_last : (f : ℕ) → length x.places ≤ k + 1 → f ≡ link_flags false (get_or x.flags k 0) → descriptor (get_or x.addrs k 0) (get_or x.lens k 0) f 0 ≡ link x k
  unfolding link
  link_last f h e = rw (le-ltb _ _ h, e, get_or-eq_default x.places 0 h)

  flags_next : (b : Bool) (f : ℕ) → eqb (link_flags b f % 2) 1 ≡ b
  flags_next true f = eq-eqb _ _ (let z : (f / 2 * 2 + 1) % 2 ≡ 1 = omega arith in z)
  flags_next false f = ne_eqb _ _ (let z : (f / 2 * 2 + 0) % 2 ≡ 0 = omega arith in λ (e : (f / 2 * 2 + 0) % 2 ≡ 1). omega arith)

  link_next : has_next (link x k) ≡ ltb (k + 1) (length x.places)
  unfolding link
  link_next = flags_next (ltb (k + 1) (length x.places)) (get_or x.flags k 0)

  link_place : (link x k).next ≡ get_or x.places (k + 1) 0
  unfolding link
  link_place = refl

  link_len : (link x k).len ≡ get_or x.lens k 0
  unfolding link
  link_len = refl

  flags_fit : (b : Bool) (f : ℕ) → f < 2 ^ 16 → link_flags b f < 2 ^ 16
  flags_fit true f h = omega arith
  flags_fit false f h = omega arith

  link_fits : get_or x.addrs k 0 < 2 ^ 64 → get_or x.lens k 0 < 2 ^ 32 → get_or x.flags k 0 < 2 ^ 16 → get_or x.places (k + 1) 0 < 2 ^ 16 → FitsDesc (link x k)
  unfolding link
  link_fits a l f p = record { addr = a; len = l; flags = flags_fit (ltb (k + 1) (length x.places)) (get_or x.flags k 0) f; next = p }

pub flags_more : (b : Bool) (f : ℕ) → b ≡ true → f / 2 * 2 + 1 ≡ link_flags b f
flags_more b f e = rw e

pub flags_last : (b : Bool) (f : ℕ) → b ≡ false → f / 2 * 2 ≡ link_flags b f
flags_last b f e = rw (e, add-zero)

-- ---- the sum of lengths
total-sum : (x : Listed) (n k : ℕ) → k + n ≡ length x.lens → total (links_from x n k) ≡ sum (drop k x.lens)
unfolding links_from
total-sum x zero k h = rw (drop_all k x.lens (omega arith))
total-sum x (suc n) k h =
    rw (link_len x k, drop-cons x.lens k 0 (omega arith), total-sum x n (suc k) (omega arith))
    (sym (sum_by-cons (λ n. n) (get_or x.lens k 0) (drop (suc k) x.lens)))

module _ (x : Listed) (s : SameLength x) where
  sum-links : total (links x) ≡ sum x.lens
  sum-links = total-sum x (length x.places) 0 (omega (arith, s.lens))

  pub sum_is : (o : Option ℕ) → SomeIff o (sum x.lens < 2 ^ 32) (sum x.lens) → is_some o ≡ leb (total (links x)) sum_max
  sum_is (Some n) h = rw sum-links (sym (le-leb (sum x.lens) sum_max (omega (arith, h.0))))
  sum_is None h = rw sum-links (sym (lt-leb (sum x.lens) sum_max (omega (arith, h))))

-- ---- counted
module _ (q : ℕ) (x : Listed) where
  pub counted_none : length x.places ≡ 0 → false ≡ counted q x
  unfolding counted
  counted_none h = sym (rw (le-ltb 0 (length x.places) (omega arith)))

  module _ (one : 0 < length x.places) where
    pub counted_many : q < length x.places → false ≡ counted q x
    unfolding counted
    counted_many h = sym (rw (lt-ltb _ _ one, lt-leb _ _ h))

    module _ (few : length x.places ≤ q) where
      pub counted_addrs : (length x.addrs ≡ length x.places → ⊥) → false ≡ counted q x
      unfolding counted
      counted_addrs h = sym (rw (lt-ltb _ _ one, le-leb _ _ few, ne_eqb _ _ h))

      module _ (a : length x.addrs ≡ length x.places) where
        pub counted_lens : (length x.lens ≡ length x.places → ⊥) → false ≡ counted q x
        unfolding counted
        counted_lens h = sym (rw (lt-ltb _ _ one, le-leb _ _ few, eq-eqb _ _ a, ne_eqb _ _ h))

        pub counted_flags : length x.lens ≡ length x.places → eqb (length x.flags) (length x.places) ≡ counted q x
        unfolding counted
        counted_flags l = sym (rw (lt-ltb _ _ one, le-leb _ _ few, eq-eqb _ _ a, eq-eqb _ _ l))

pub record Counted (q : ℕ) (x : Listed) : Type 0 where
  pub one : 0 < length x.places
  pub few : length x.places ≤ q
  pub same : SameLength x

counted' : (q : ℕ) (x : Listed) (a b c d e : Bool) → ltb 0 (length x.places) ≡ a → leb (length x.places) q ≡ b → eqb (length x.addrs) (length x.places) ≡ c
    → eqb (length x.lens) (length x.places) ≡ d → eqb (length x.flags) (length x.places) ≡ e
    → pick a (pick b (pick c (pick d e false) false) false) false ≡ true → Counted q x
counted' q x true true true true true h i j k l m =
    record {
      one = ltb-true _ _ h;
      few = leb-true _ _ i;
      same = record { addrs = eqb-true _ _ j; lens = eqb-true _ _ k; flags = eqb-true _ _ l };
    }
counted' q x true true true true false h i j k l m = absurd (true≢false (sym m))
counted' q x true true true false e h i j k l m = absurd (true≢false (sym m))
counted' q x true true false d e h i j k l m = absurd (true≢false (sym m))
counted' q x true false c d e h i j k l m = absurd (true≢false (sym m))
counted' q x false b c d e h i j k l m = absurd (true≢false (sym m))

module _ (q : ℕ) (x : Listed) where
  pub counted-true : counted q x ≡ true → Counted q x
  unfolding counted
  counted-true h = counted' q x _ _ _ _ _ refl refl refl refl refl h

  counted-no : (b : Bool) → counted q x ≡ b → (SameLength x → ⊥) → counted q x ≡ false
  counted-no true e h = absurd (h (counted-true e).same)
  counted-no false e h = e

  pub lay_uneven : (t : Table) (size table : ℕ) → (SameLength x → ⊥) → lay_of t size table q x ≡ Err BadCount
  unfolding lay_of
  lay_uneven t size table h = rw (counted-no (counted q x) refl h)

-- ---- stored
module _ (t : Table) (table : ℕ) (x : Listed) where
  stored-step : (n k : ℕ) (m : List ℕ) → k < n → stored t table x (n - k) k m ≡ stored t table x (n - (k + 1)) (k + 1) (after t m (desc_addr table (get_or x.places k 0)) (desc_bytes (link x k)))
  unfolding stored
  stored-step n k m h = rw (left-suc n k h, add-one)

  pub stored_begin : (n : ℕ) (m : List ℕ) → stored t table x (n - 0) 0 m ≡ stored t table x n 0 m
  stored_begin n m = rw sub-zero

  -- for a loop that is at k
  module _ (n k : ℕ) (m₀ m : List ℕ) (inv : stored t table x (n - k) k m ≡ stored t table x n 0 m₀) where
    pub stored_on : (d : Descriptor) (r : Bool) (m' : List ℕ) → k < n → d ≡ link x k → Wrote t m (desc_addr table (get_or x.places k 0)) (desc_bytes d) r m'
        → stored t table x (n - (k + 1)) (k + 1) m' ≡ stored t table x n 0 m₀
    stored_on d r m' h e w = rw (w.mem, e) (sym (stored-step n k m h) ∙ inv)

    pub stored_end : n ≤ k → m ≡ stored t table x n 0 m₀
    unfolding stored
    stored_end h = let z : n - k ≡ 0 = omega arith in rw z at inv

pub wrote_length : (t : Table) (m : List ℕ) (a : ℕ) (bs : List ℕ) (r : Bool) (m' : List ℕ) → Wrote t m a bs r m' → length m' ≡ length m
wrote_length t m a bs r m' w = ap length w.mem ∙ after-length t m a bs

-- ---- the round trip
far' : (table i j : ℕ) (b : Bool) → ltb i j ≡ b → (i ≡ j → ⊥) → Apart (desc_addr table i) 16 (desc_addr table j) 16
far' table i j true e h = inl (omega (arith, ltb-true i j e))
far' table i j false e h = inr (other (ltb-false i j e))
  where
    other : j ≤ i → table + 16 * j + 16 ≤ table + 16 * i
    other l = let z : j < i = less l in omega arith
      where
        less : j ≤ i → j < i
        less l = under (ltb j i) refl
          where
            under : (b : Bool) → ltb j i ≡ b → j < i
            under true f = ltb-true j i f
            under false f = absurd (h (omega (arith, ltb-false j i f)))

-- two descriptors of a table share no byte
pub entries_apart : (table i j : ℕ) → (i ≡ j → ⊥) → Apart (desc_addr table i) 16 (desc_addr table j) 16
entries_apart table i j h = far' table i j (ltb i j) refl h

module _ (t : Table) (g : Good t) (table : ℕ) (x : Listed) where
  stored-length : (n k : ℕ) (m : List ℕ) → length (stored t table x n k m) ≡ length m
  unfolding stored
  stored-length zero k m = refl
  stored-length (suc n) k m = stored-length n (suc k) (after t m (desc_addr table (get_or x.places k 0)) (desc_bytes (link x k))) ∙ after-length t m _ _

  -- a place that none of them has keeps its descriptor
  stored_apart : (n k : ℕ) (m : List ℕ) (p : ℕ) → ((i : ℕ) → k ≤ i → i < k + n → get_or x.places i 0 ≡ p → ⊥) → desc_at t (stored t table x n k m) (desc_addr table p) ≡ desc_at t m (desc_addr table p)
  unfolding stored
  stored_apart zero k m p f = refl
  stored_apart (suc n) k m p f =
      stored_apart n (suc k) (after t m (desc_addr table (get_or x.places k 0)) (desc_bytes (link x k))) p (λ i h l. f i (omega arith) (omega arith))
      ∙ desc_apart t g m (desc_addr table (get_or x.places k 0)) (desc_bytes (link x k)) (desc_addr table p)
      (entries_apart table (get_or x.places k 0) p (f k (omega arith) (omega arith)))

  module _ (fits : (i : ℕ) → FitsDesc (link x i)) (one : (i j : ℕ) → j < i → i < length x.places → get_or x.places j 0 ≡ get_or x.places i 0 → ⊥) (size : ℕ)
      (can : (i : ℕ) → i < length x.places → writable t size (desc_addr table (get_or x.places i 0)) 16 ≡ true) where
    back' : (n k : ℕ) (m : List ℕ) (i : ℕ) (b : Bool) → ltb k i ≡ b → k ≤ i → i < length x.places → k + suc n ≤ length x.places → length m ≡ size
        → (suc k ≤ i → desc_at t (stored t table x n (suc k) (after t m (desc_addr table (get_or x.places k 0)) (desc_bytes (link x k)))) (desc_addr table (get_or x.places i 0)) ≡ Some (link x i))
        → desc_at t (stored t table x n (suc k) (after t m (desc_addr table (get_or x.places k 0)) (desc_bytes (link x k)))) (desc_addr table (get_or x.places i 0)) ≡ Some (link x i)
    back' n k m i true e h l a s ih = ih (ltb-true _ _ e)
    back' n k m i false e h l a s ih =
        let z : k ≡ i = omega (arith, ltb-false k i e) in
        rw z
        (stored_apart n (suc i) (after t m (desc_addr table (get_or x.places i 0)) (desc_bytes (link x i))) (get_or x.places i 0)
        (λ j v u w. one j i (omega arith) (omega arith) (sym w))
        ∙ desc_back t g m (desc_addr table (get_or x.places i 0)) (link x i) (fits i) (rw s (can i l)))

    -- what was stored stands at its place
    stored_back : (n k : ℕ) (m : List ℕ) (i : ℕ) → k ≤ i → i < k + n → k + n ≤ length x.places → length m ≡ size → desc_at t (stored t table x n k m) (desc_addr table (get_or x.places i 0)) ≡ Some (link x i)
    unfolding stored
    stored_back zero k m i h l a s = absurd (omega arith)
    stored_back (suc n) k m i h l a s =
        back' n k m i (ltb k i) refl h (omega arith) a s
        (λ u. stored_back n (suc k) (after t m (desc_addr table (get_or x.places k 0)) (desc_bytes (link x k))) i u (omega arith) (omega arith) (after-length t m _ _ ∙ s))

-- descriptors that stand at their places, linked, are a chain
module _ (t : Table) (m : List ℕ) (table q : ℕ) (x : Listed) (in_table : (i : ℕ) → i < length x.places → get_or x.places i 0 < q)
    (at : (i : ℕ) → i < length x.places → desc_at t m (desc_addr table (get_or x.places i 0)) ≡ Some (link x i)) where
  at_entry : (k : ℕ) → k < length x.places → entry t m table q (get_or x.places k 0) ≡ Some (link x k)
  at_entry k h = entry_in t m table q (get_or x.places k 0) (in_table k h) ∙ at k h

  links_chain : (n k : ℕ) → k + suc n ≡ length x.places → Chain t m table q (get_or x.places k 0) (links_from x (suc n) k)
  unfolding links_from
  links_chain zero k e = last (at_entry k (omega arith)) (link_next x k ∙ le-ltb (k + 1) (length x.places) (omega arith))
  links_chain (suc n) k e =
      let rest : Chain t m table q (link x k).next (links_from x (suc n) (suc k)) = rw (link_place x k, add-one) (links_chain n (suc k) (omega arith)) in
      more (at_entry k (omega arith)) (link_next x k ∙ lt-ltb (k + 1) (length x.places) (omega arith)) rest

links-length : (x : Listed) (n k : ℕ) → length (links_from x n k) ≡ n
unfolding links_from
links-length x zero k = refl
links-length x (suc n) k = ap suc (links-length x n (suc k))

links-direct : (x : Listed) (n k : ℕ) → ((i : ℕ) → k ≤ i → i < k + n → direct x i ≡ true) → AllDirect (links_from x n k)
unfolding links_from
links-direct x zero k f = tt
links-direct x (suc n) k f = (direct-true x k (f k (omega arith) (omega arith)), links-direct x n (suc k) (λ i h l. f i (omega arith) (omega arith)))

-- ---- what lay_of answers
-- what holds where it finds nothing against the list
record Passed (t : Table) (size table q : ℕ) (x : Listed) : Type 0 where
  pub counts : Counted q x
  pub below : (i : ℕ) → i < length x.places → below q x.places i ≡ true
  pub fresh : (i : ℕ) → i < length x.places → fresh x.places i ≡ true
  pub direct : (i : ℕ) → i < length x.places → direct x i ≡ true
  pub sum : total (links x) ≤ sum_max
  pub can : (i : ℕ) → i < length x.places → can_store t size table x.places i ≡ true

module _ (t : Table) (size table q : ℕ) (x : Listed) where
  each : (p : ℕ → Bool) → every p (length x.places) 0 ≡ true → (i : ℕ) → i < length x.places → p i ≡ true
  each p h i l = every_all p (length x.places) 0 h i (omega arith) (omega arith)

  refused : {A : Type 0} (e : LayError) → ◌≡◌ {A = Laid} (Err e) (Ok tt) → A
  refused e h = absurd (true≢false (sym (ap is_done h)))

  passed' : (a b f d s w : Bool) → counted q x ≡ a → every (below q x.places) (length x.places) 0 ≡ b → every (fresh x.places) (length x.places) 0 ≡ f
      → every (direct x) (length x.places) 0 ≡ d → leb (total (links x)) sum_max ≡ s → every (can_store t size table x.places) (length x.places) 0 ≡ w
      → ◌≡◌ {A = Laid} (pick a (pick b (pick f (pick d (pick s (pick w (Ok tt) (Err Unmapped)) (Err TooLong)) (Err Indirect)) (Err SamePlace)) (Err BadPlace)) (Err BadCount)) (Ok tt)
      → Passed t size table q x
  passed' true true true true true true g h i j k l e =
      record { counts = counted-true q x g; below = each _ h; fresh = each _ i; direct = each _ j; sum = leb-true _ _ k; can = each _ l }
  passed' true true true true true false g h i j k l e = refused Unmapped e
  passed' true true true true false w g h i j k l e = refused TooLong e
  passed' true true true false s w g h i j k l e = refused Indirect e
  passed' true true false d s w g h i j k l e = refused SamePlace e
  passed' true false f d s w g h i j k l e = refused BadPlace e
  passed' false b f d s w g h i j k l e = refused BadCount e

  passed : lay_of t size table q x ≡ Ok tt → Passed t size table q x
  unfolding lay_of
  passed h = passed' _ _ _ _ _ _ refl refl refl refl refl refl h

-- ---- lay_chain
module _ (t : Table) (m : List ℕ) (table q : ℕ) (x : Listed) where
  -- after a refusal memory is what it was
  pub lay_refused : (e : LayError) → lay_of t (length m) table q x ≡ Err e → LaidDown t m table q x (Err e) m
  lay_refused e h = record { is = sym h; mem = refl; back = λ g f. absurd (true≢false (sym (ap is_done f))) }

  -- case by case, test after test: the ways in which it can answer
  module _ (b₁ : Bool) (e₁ : b₁ ≡ counted q x) where
    count : not b₁ ≡ true → lay_of t (length m) table q x ≡ Err BadCount
    unfolding lay_of
    count h = rw (← e₁, not-true b₁ h)

    pub lay_count : not b₁ ≡ true → LaidDown t m table q x (Err BadCount) m
    lay_count h = lay_refused BadCount (count h)

    module _ (y₁ : not b₁ ≡ false) where
      pub lay_counted : Counted q x
      lay_counted = counted-true q x (sym e₁ ∙ not-false b₁ y₁)

      module _ (b₂ : Bool) (e₂ : b₂ ≡ every (below q x.places) (length x.places) 0) where
        place : not b₂ ≡ true → lay_of t (length m) table q x ≡ Err BadPlace
        unfolding lay_of
        place h = rw (← e₁, not-false b₁ y₁, ← e₂, not-true b₂ h)

        pub lay_place : not b₂ ≡ true → LaidDown t m table q x (Err BadPlace) m
        lay_place h = lay_refused BadPlace (place h)

        module _ (y₂ : not b₂ ≡ false) (b₃ : Bool) (e₃ : b₃ ≡ every (fresh x.places) (length x.places) 0) where
          same : not b₃ ≡ true → lay_of t (length m) table q x ≡ Err SamePlace
          unfolding lay_of
          same h = rw (← e₁, not-false b₁ y₁, ← e₂, not-false b₂ y₂, ← e₃, not-true b₃ h)

          pub lay_same : not b₃ ≡ true → LaidDown t m table q x (Err SamePlace) m
          lay_same h = lay_refused SamePlace (same h)

          module _ (y₃ : not b₃ ≡ false) (b₄ : Bool) (e₄ : b₄ ≡ every (direct x) (length x.places) 0) where
            table' : not b₄ ≡ true → lay_of t (length m) table q x ≡ Err Indirect
            unfolding lay_of
            table' h = rw (← e₁, not-false b₁ y₁, ← e₂, not-false b₂ y₂, ← e₃, not-false b₃ y₃, ← e₄, not-true b₄ h)

            pub lay_indirect : not b₄ ≡ true → LaidDown t m table q x (Err Indirect) m
            lay_indirect h = lay_refused Indirect (table' h)

            module _ (y₄ : not b₄ ≡ false) (b₅ : Bool) (e₅ : b₅ ≡ leb (sum x.lens) sum_max) where
              sum_total : b₅ ≡ leb (total (links x)) sum_max
              sum_total = rw (sum-links x lay_counted.same) e₅

              long : not b₅ ≡ true → lay_of t (length m) table q x ≡ Err TooLong
              unfolding lay_of
              long h = rw (← e₁, not-false b₁ y₁, ← e₂, not-false b₂ y₂, ← e₃, not-false b₃ y₃, ← e₄, not-false b₄ y₄, ← sum_total, not-true b₅ h)

              pub lay_long : not b₅ ≡ true → LaidDown t m table q x (Err TooLong) m
              lay_long h = lay_refused TooLong (long h)

              module _ (y₅ : not b₅ ≡ false) (b₆ : Bool) (e₆ : b₆ ≡ every (can_store t (length m) table x.places) (length x.places) 0) where
                unmapped : not b₆ ≡ true → lay_of t (length m) table q x ≡ Err Unmapped
                unfolding lay_of
                unmapped h =
                    rw (← e₁, not-false b₁ y₁, ← e₂, not-false b₂ y₂, ← e₃, not-false b₃ y₃, ← e₄, not-false b₄ y₄, ← sum_total, not-false b₅ y₅, ← e₆, not-true b₆ h)

                pub lay_unmapped : not b₆ ≡ true → LaidDown t m table q x (Err Unmapped) m
                lay_unmapped h = lay_refused Unmapped (unmapped h)

                -- every test holds
                pub lay_passes : not b₆ ≡ false → lay_of t (length m) table q x ≡ Ok tt
                unfolding lay_of
                lay_passes y₆ =
                    rw (← e₁, not-false b₁ y₁, ← e₂, not-false b₂ y₂, ← e₃, not-false b₃ y₃, ← e₄, not-false b₄ y₄, ← sum_total, not-false b₅ y₅, ← e₆, not-false b₆ y₆)

  module _ (l : Listed) (is : l ≡ x) (laid : lay_of t (length m) table q l ≡ Ok tt) (m' : List ℕ) (w : m' ≡ stored t table l (length l.places) 0 m)
      (as' : (i : ℕ) → get_or x.addrs i 0 < 2 ^ 64) (ls : (i : ℕ) → get_or x.lens i 0 < 2 ^ 32) (fs : (i : ℕ) → get_or x.flags i 0 < 2 ^ 16) (ps : (i : ℕ) → get_or x.places i 0 < 2 ^ 16) where
    all : Passed t (length m) table q x
    all = passed t (length m) table q x (rw is at laid)

    lawful : Lawful q (links x)
    lawful =
        record {
          few = rw (links-length x (length x.places) 0) all.counts.few;
          direct = links-direct x (length x.places) 0 (λ i h l. all.direct i (omega arith));
          sum = all.sum;
        }

    stand : Good t → (i : ℕ) → i < length x.places → desc_at t m' (desc_addr table (get_or x.places i 0)) ≡ Some (link x i)
    stand g i h =
        rw (w, is)
        (stored_back t g table x (λ j. link_fits x j (as' j) (ls j) (fs j) (ps (j + 1)))
        (λ a b l u. fresh-true x.places a (all.fresh a u) b l)
        (length m)
        (λ j l. can_true x.places j t (length m) table (all.can j l))
        (length x.places) 0 m i (omega arith) (omega arith) (omega arith) refl)

    chain : Good t → Chain t m' table q (get_or x.places 0 0) (links x)
    chain g =
        let one = all.counts.one in
        let z : suc (length x.places - 1) ≡ length x.places = omega arith in
        rw z at
        (links_chain t m' table q x (λ i h. below_true x.places i q (all.below i h)) (stand g) (length x.places - 1) 0 (omega arith))

    pub lay_done : LaidDown t m table q x (Ok tt) m'
    lay_done =
        record {
          is = sym (rw is at laid);
          mem = rw is at w;
          back = λ g h. record {
            plain = lawful_yields t m' table q (get_or x.places 0 0) (links x) (chain g) lawful;
            readable = lawful_filtered t m' table q (get_or x.places 0 0) (links x) (chain g) lawful false;
            writable = lawful_filtered t m' table q (get_or x.places 0 0) (links x) (chain g) lawful true;
          };
        }
