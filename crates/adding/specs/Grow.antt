-- SPDX-License-Identifier: Apache-2.0 AND BSD-3-Clause
-- Adding a region to a table. A row of length 0 holds no address and is free; the region goes into the first free row of eight.
use Prim.Native.Nat.{ℕ, zero, suc, ◌+◌, ◌-◌, ◌≤◌, ◌<◌, ◌^◌, min, max}
use Rattle.std.proofs.Common.{add_assoc, ap, ◌∙◌, true≢false}
use native.Mathlib.Omega.{arith}
use Rattle.std.proofs.Math.Path.{◌≡◌, refl, sym}
use Rattle.std.specs.Prelude.{Bool, length, cond, ◌||◌, ◌*◌, ltb, eqb, Option, Some, None, Result, Ok, Err}
use Rattle.std.proofs.Math.Bool.{true, false}
use mathlib.Core.List.{List, [], ◌∷◌}
use Rattle.std.proofs.lemmas.List.Edits.{sets}
use borrow.Author.Tests.{lt-ltb, le-ltb, ltb-false, eq-eqb, ne_eqb}
use Rattle.std.proofs.lemmas.Iterator.Adapters.{position_from-zero}
use Rattle.std.specs.Option.{option_map}
use Rattle.std.specs.List.{list_any, position_from, position_or_len}
use Rattle.regions.specs.Table.{pick, Table, Row, row, rows, Each, Pairs, Disjoint, GuestApart, Single, apart_single}
use Rattle.adding.specs.declared.AddError.{AddError}
use Rattle.adding.specs.declared.AddError.TheVariants.{Full, Empty, PastTop, PastSlice, Overlap}

-- what adding a region answers
abbrev pub Adding : Type 0
Adding = Result (Unit {0}) AddError

-- the n guest addresses from b on and the row share one: the larger of their starts is below the smaller of their ends
abbrev pub shares_r : Row → ℕ → ℕ → Bool
shares_r r b n = ltb (max r.base b) (min (r.base + r.len) (b + n))

unfoldable pub shares_in : List Row → ℕ → ℕ → Bool
shares_in rs b n = list_any (λ r. shares_r r b n) rs

abbrev pub shift : ℕ → Option ℕ → Option ℕ
shift k p = option_map (λ i. k + i) p

abbrev pub tripled : Option ℕ → Option ℕ
tripled p = option_map (λ k. 3 * k) p

abbrev pub is_free : Row → Bool
is_free r = eqb r.len 0

-- the word at which the first free row begins
unfoldable pub free_in : List Row → Option ℕ
free_in [] = None
free_in (r ∷ rs) = pick (eqb r.len 0) (Some 0) (shift 3 (free_in rs))

unfoldable pub free_of : Table → Option ℕ
free_of t = free_in (rows 8 t)

-- why n guest addresses from b on, at offset o of a slice of size bytes, are refused, if they are
unfoldable pub fault_of : Table → ℕ → ℕ → ℕ → ℕ → Adding
fault_of t size b n o =
    pick (eqb n 0) (Err Empty)
    (pick (ltb (2 ^ 64) (b + n)) (Err PastTop)
    (pick (ltb size (o + n)) (Err PastSlice)
    (pick (shares_in (rows 8 t) b n) (Err Overlap) (Ok tt))))

abbrev pub on_free : Option ℕ → Adding → Adding
on_free (Some i) r = r
on_free None r = Err Full

-- what adding a region answers, and the table afterwards
unfoldable pub adding_of : Table → ℕ → ℕ → ℕ → ℕ → Adding
adding_of t size b n o = on_free (free_of t) (fault_of t size b n o)

abbrev pub put : Table → Option ℕ → ℕ → ℕ → ℕ → Table
put t (Some i) b n o = sets t i (b ∷ n ∷ o ∷ [])
put t None b n o = t

abbrev pub if_added : Adding → Table → Table → Table
if_added (Ok u) t' t = t'
if_added (Err e) t' t = t

unfoldable pub table_with : Table → ℕ → ℕ → ℕ → ℕ → Table
table_with t size b n o = if_added (adding_of t size b n o) (put t (free_of t) b n o) t

-- a refusal changes nothing
pub refused_same : (t : Table) (size b n o : ℕ) → (adding_of t size b n o ≡ Ok tt → ⊥) → table_with t size b n o ≡ t
unfolding table_with
refused_same t size b n o h = same (adding_of t size b n o) h
  where
    same : (r : Adding) → (r ≡ Ok tt → ⊥) → if_added r (put t (free_of t) b n o) t ≡ t
    same (Ok u) h = absurd (h refl)
    same (Err e) h = refl

-- ---- case by case
module _ (r : Row) (b n : ℕ) where
  pub shares_low : r.base ≤ b → 0 < n → b - r.base < r.len → shares_r r b n ≡ true
  shares_low h k l = lt-ltb (max r.base b) (min (r.base + r.len) (b + n)) (omega arith)

  pub apart_low : r.base ≤ b → r.len ≤ b - r.base → shares_r r b n ≡ false
  apart_low h l = le-ltb (max r.base b) (min (r.base + r.len) (b + n)) (omega arith)

  pub shares_high : b < r.base → 0 < r.len → r.base - b < n → shares_r r b n ≡ true
  shares_high h k l = lt-ltb (max r.base b) (min (r.base + r.len) (b + n)) (omega arith)

  pub apart_high : b < r.base → n ≤ r.base - b → shares_r r b n ≡ false
  apart_high h l = le-ltb (max r.base b) (min (r.base + r.len) (b + n)) (omega arith)

  pub apart_none : n ≡ 0 → shares_r r b n ≡ false
  apart_none e = le-ltb (max r.base b) (min (r.base + r.len) (b + n)) (omega arith)

  pub apart_free : r.len ≡ 0 → shares_r r b n ≡ false
  apart_free e = le-ltb (max r.base b) (min (r.base + r.len) (b + n)) (omega arith)

pub shares_nil : (rs : List Row) (b n : ℕ) → rs ≡ [] → shares_in rs b n ≡ false
unfolding shares_in
shares_nil rs b n e = rw e

pub free_nil : (rs : List Row) (k : ℕ) → rs ≡ [] → shift k (free_in rs) ≡ None
unfolding free_in
free_nil rs k e = rw e

-- the tests in their order
module _ (t : Table) (size b n o : ℕ) where
  pub fault_empty : n ≡ 0 → fault_of t size b n o ≡ Err Empty
  unfolding fault_of
  fault_empty e = simp (eq-eqb _ _ e)

  module _ (some : n ≡ 0 → ⊥) where
    pub fault_top : 2 ^ 64 < b + n → fault_of t size b n o ≡ Err PastTop
    unfolding fault_of
    fault_top h = simp (ne_eqb _ _ some, lt-ltb _ _ h)

    module _ (below : b + n ≤ 2 ^ 64) where
      pub fault_slice : size < o + n → fault_of t size b n o ≡ Err PastSlice
      unfolding fault_of
      fault_slice h = simp (ne_eqb _ _ some, le-ltb _ _ below, lt-ltb _ _ h)

      module _ (inside : o + n ≤ size) where
        pub fault_overlap : (s : Bool) → s ≡ shares_in (rows 8 t) b n → s ≡ true → fault_of t size b n o ≡ Err Overlap
        unfolding fault_of
        fault_overlap s e f = simp (ne_eqb _ _ some, le-ltb _ _ below, le-ltb _ _ inside, sym e ∙ f)

        pub fault_none : (s : Bool) → s ≡ shares_in (rows 8 t) b n → s ≡ false → fault_of t size b n o ≡ Ok tt
        unfolding fault_of
        fault_none s e f = simp (ne_eqb _ _ some, le-ltb _ _ below, le-ltb _ _ inside, sym e ∙ f)

-- ---- for the proof of `free_row`
-- the number of the first free row, counted from k on
free_row_from : (rs : List Row) (k i : ℕ) → i ≡ 3 * k → shift i (free_in rs) ≡ tripled (position_from is_free k rs)
unfolding free_in
free_row_from [] k i e = refl
free_row_from (r ∷ rs) k i e = step (eqb r.len 0) (free_in rs) (free_row_from rs (k + 1) (i + 3) (omega arith))
  where
    step : (c : Bool) (p : Option ℕ) → shift (i + 3) p ≡ tripled (position_from is_free (k + 1) rs)
        → shift i (pick c (Some 0) (shift 3 p)) ≡ tripled (cond c (Some k) (position_from is_free (k + 1) rs))
    step true p h = let z : i + 0 ≡ 3 * k = omega arith in ap Some z
    step false (Some j) h = ap Some (sym (add_assoc i 3 j)) ∙ h
    step false None h = h

pub free_row_is : (t : Table) (rs : List Row) (r : Option ℕ) → rs ≡ rows 8 t → r ≡ cond (ltb (position_or_len is_free rs) (length rs)) (Some (position_or_len is_free rs)) None
    → tripled r ≡ free_of t
unfolding free_of
free_row_is t rs r e f = rw (← e) (ap tripled (f ∙ position_from-zero is_free rs) ∙ sym (free_row_from rs 0 0 (omega arith)) ∙ shift-zero (free_in rs))
  where
    shift-zero : (p : Option ℕ) → shift 0 p ≡ p
    shift-zero (Some i) = let e : 0 + i ≡ i = omega arith in ap Some e
    shift-zero None = refl

-- a free row is in the table
fits' : (b : Bool) (n i : ℕ) (p : Option ℕ) → pick b (Some 0) (shift 3 p) ≡ Some i → ((j : ℕ) → p ≡ Some j → j + 3 ≤ n) → i + 3 ≤ suc (suc (suc n))
fits' true n i p e f = let z : i ≡ 0 = cc in omega arith
fits' false n i (Some j) e f = let z : i ≡ 3 + j = cc in omega (arith, f j refl)
fits' false n i None e f = absurd cc

fits_in : (k : ℕ) (ws : List ℕ) (i : ℕ) → free_in (rows k ws) ≡ Some i → i + 3 ≤ length ws
unfolding free_in rows
fits_in zero ws i e = absurd cc
fits_in (suc k) [] i e = absurd cc
fits_in (suc k) (b ∷ []) i e = absurd cc
fits_in (suc k) (b ∷ l ∷ []) i e = absurd cc
fits_in (suc k) (b ∷ l ∷ o ∷ ws) i e = fits' (eqb l 0) (length ws) i (free_in (rows k ws)) e (fits_in k ws)

pub free_fits : (t : Table) (i : ℕ) → Some i ≡ free_of t → i + 3 ≤ length t
unfolding free_of
free_fits t i e = fits_in 8 t i (sym e)

-- ---- for the proof of `add_region`
pub record Grown (t : Table) (size b n o : ℕ) (r : Adding) (t' : Table) : Type 0 where
  pub answer : r ≡ adding_of t size b n o
  pub table : t' ≡ table_with t size b n o

err-ok : (x : AddError) → ◌≡◌ {A = Adding} (Err x) (Ok tt) → ⊥
err-ok x e = absurd cc

module _ (t : Table) (size b n o : ℕ) where
  pub grown_full : None ≡ free_of t → Grown t size b n o (Err Full) t
  unfolding adding_of table_with
  grown_full e = record { answer = rw (← e); table = rw (← e) }

  module _ (i : ℕ) (e : Some i ≡ free_of t) where
    at : (r : Adding) → r ≡ fault_of t size b n o → adding_of t size b n o ≡ r
    unfolding adding_of
    at r g = rw (← e, ← g)

    pub grown_refused : (x : AddError) → Err x ≡ fault_of t size b n o → Grown t size b n o (Err x) t
    grown_refused x g =
        let a = at (Err x) g in
        record { answer = sym a; table = sym (refused_same t size b n o (λ y. err-ok x (sym a ∙ y))) }

    pub grown_added : Ok tt ≡ fault_of t size b n o → Grown t size b n o (Ok tt) (sets t i (b ∷ n ∷ o ∷ []))
    unfolding table_with
    grown_added g = let a = at (Ok tt) g in record { answer = sym a; table = rw (a, ← e) }

-- ---- what adding means: the row takes the place of a free one, so the table maps what it did and the new addresses, and no guest
-- address twice if none was
abbrev in_free : Row → List Row → List Row
in_free x [] = []
in_free x (r ∷ rs) = pick (eqb r.len 0) (x ∷ rs) (r ∷ in_free x rs)

module _ (b n o : ℕ) where
  put' : (k b' l o' : ℕ) (ws : List ℕ) (i : ℕ) (c : Bool) (p : Option ℕ) → eqb l 0 ≡ c → free_in (rows k ws) ≡ p → pick c (Some 0) (shift 3 p) ≡ Some i
      → ((j : ℕ) → p ≡ Some j → rows k (sets ws j (b ∷ n ∷ o ∷ [])) ≡ in_free (row b n o) (rows k ws))
      → rows (suc k) (sets (b' ∷ l ∷ o' ∷ ws) i (b ∷ n ∷ o ∷ [])) ≡ pick c (row b n o ∷ rows k ws) (row b' l o' ∷ in_free (row b n o) (rows k ws))
  unfolding rows
  put' k b' l o' ws i true p e q f h = let z : i ≡ 0 = cc in rw z
  put' k b' l o' ws i false (Some j) e q f h =
      let y : i ≡ 3 + j = cc in
      let z : i ≡ suc (suc (suc j)) = omega arith in
      rw z
      (ap (λ (l₁ : List Row). row b' l o' ∷ l₁) (h j refl))
  put' k b' l o' ws i false None e q f h = absurd cc

  rows-put : (k : ℕ) (ws : List ℕ) (i : ℕ) → free_in (rows k ws) ≡ Some i → rows k (sets ws i (b ∷ n ∷ o ∷ [])) ≡ in_free (row b n o) (rows k ws)
  unfolding free_in rows
  rows-put zero ws i e = absurd cc
  rows-put (suc k) [] i e = absurd cc
  rows-put (suc k) (x ∷ []) i e = absurd cc
  rows-put (suc k) (x ∷ y ∷ []) i e = absurd cc
  rows-put (suc k) (x ∷ y ∷ z ∷ ws) i e = put' k x y z ws i (eqb y 0) (free_in (rows k ws)) refl refl e (rows-put k ws)

-- a row that shares none of the addresses
pub apart_shares : (r : Row) (b n : ℕ) → shares_r r b n ≡ false → Disjoint r.base r.len b n
apart_shares r b n e = λ x p q u v. let w = ltb-false (max r.base b) (min (r.base + r.len) (b + n)) e in omega arith

module _ (x : Row) where
  apart_sym : (r s : Row) → GuestApart r s → GuestApart s r
  apart_sym r s h = λ y p q u v. h y u v p q

  apart_row : (r : Row) → shares_r r x.base x.len ≡ false → GuestApart r x
  apart_row r e = apart_shares r x.base x.len e

  split' : (c d : Bool) → c || d ≡ false → (c ≡ false) × (d ≡ false)
  split' true d e = absurd (true≢false e)
  split' false d e = (refl, e)

  each_new : (rs : List Row) → shares_in rs x.base x.len ≡ false → Each GuestApart x rs
  unfolding shares_in
  each_new [] e = tt
  each_new (r ∷ rs) e = let w = split' (shares_r r x.base x.len) (shares_in rs x.base x.len) e in (apart_sym r x (apart_row r w.0), each_new rs w.1)

  each' : (r s : Row) (rs : List Row) (c : Bool) → GuestApart r x → Each GuestApart r (s ∷ rs) → Each GuestApart r (in_free x rs) → Each GuestApart r (pick c (x ∷ rs) (s ∷ in_free x rs))
  each' r s rs true g h f = (g, h.1)
  each' r s rs false g h f = (h.0, f)

  each_old : (r : Row) (rs : List Row) → Each GuestApart r rs → GuestApart r x → Each GuestApart r (in_free x rs)
  each_old r [] h g = tt
  each_old r (s ∷ rs) h g = each' r s rs (eqb s.len 0) g h (each_old r rs h.1 g)

  pairs' : (r : Row) (rs : List Row) (c : Bool) → Pairs GuestApart (x ∷ rs) → Pairs GuestApart (r ∷ in_free x rs) → Pairs GuestApart (pick c (x ∷ rs) (r ∷ in_free x rs))
  pairs' r rs true g h = g
  pairs' r rs false g h = h

  pairs_put : (rs : List Row) → shares_in rs x.base x.len ≡ false → Pairs GuestApart rs → Pairs GuestApart (in_free x rs)
  unfolding shares_in
  pairs_put [] e h = tt
  pairs_put (r ∷ rs) e h =
      let w = split' (shares_r r x.base x.len) (shares_in rs x.base x.len) e in
      pairs' r rs (eqb r.len 0) (each_new rs w.1, h.1) (each_old r rs h.0 (apart_row r w.0), pairs_put rs w.1 h.1)

added_free : (t : Table) (size b n o : ℕ) (p : Option ℕ) → free_of t ≡ p → adding_of t size b n o ≡ Ok tt → (i : ℕ) × (p ≡ Some i)
unfolding adding_of
added_free t size b n o (Some i) e h = (i, refl)
added_free t size b n o None e h = absurd cc

fault' : (b₁ b₂ b₃ b₄ : Bool) → ◌≡◌ {A = Adding} (pick b₁ (Err Empty) (pick b₂ (Err PastTop) (pick b₃ (Err PastSlice) (pick b₄ (Err Overlap) (Ok tt))))) (Ok tt) → b₄ ≡ false
fault' true b₂ b₃ b₄ e = absurd cc
fault' false true b₃ b₄ e = absurd cc
fault' false false true b₄ e = absurd cc
fault' false false false true e = absurd cc
fault' false false false false e = refl

module _ (t : Table) (size b n o : ℕ) (h : adding_of t size b n o ≡ Ok tt) where
  unshared : shares_in (rows 8 t) b n ≡ false
  unfolding adding_of fault_of
  unshared = fault' (eqb n 0) (ltb (2 ^ 64) (b + n)) (ltb size (o + n)) (shares_in (rows 8 t) b n) (rw (added_free t size b n o (free_of t) refl h).1 at h)

  new_rows : rows 8 (table_with t size b n o) ≡ in_free (row b n o) (rows 8 t)
  unfolding table_with free_of
  new_rows =
      let w = added_free t size b n o (free_of t) refl h in
      rw (h, w.1) (rows-put b n o 8 t w.0 w.1)

  -- a region that was added shares no guest address with the others
  pub added_apart : Pairs GuestApart (rows 8 t) → Pairs GuestApart (rows 8 (table_with t size b n o))
  added_apart g = rw new_rows (pairs_put (row b n o) (rows 8 t) unshared g)

  pub added_single : Pairs GuestApart (rows 8 t) → Single (table_with t size b n o)
  added_single g = apart_single (table_with t size b n o) (added_apart g)
