-- SPDX-License-Identifier: Apache-2.0 AND BSD-3-Clause
-- Bytes at a list of places of the slice: one place, or none, for each byte. Nothing here knows of tables or addresses.
use Rattle.std.specs.Prelude.{ℕ, zero, suc, ◌+◌, ◌≤◌, ◌<◌, ◌≡◌, refl, true, Option, Some, None, List, [], ◌∷◌, ◌++◌, length, get_or, set, take}
use Rattle.std.proofs.Common.{arith, sym, ap, ◌∙◌, true≢false, add-one, length-set, drop-cons, take_all, take-suc-set, get_or-set_same, get_or-set_other}
use Rattle.std.proofs.lemmas.List.Edits.{sets}
use Rattle.wire.specs.Part.{part, part_all}
use Rattle.regions.specs.Table.{Table, spot}
use Rattle.regions.specs.Spots.{within, whole, run, spots, spots_snoc, length-spots}

-- what stands at the places: 0 where there is none
abbrev pub cell : List ℕ → Option ℕ → ℕ
cell m p = within p (λ i. get_or m i 0) 0

abbrev pub fetch : List ℕ → List (Option ℕ) → List ℕ
fetch m [] = []
fetch m (p ∷ ps) = cell m p ∷ fetch m ps

-- bs stored at the places, one after the other
abbrev pub store1 : List ℕ → Option ℕ → ℕ → List ℕ
store1 m p b = within p (λ i. set m i b) m

abbrev pub store : List ℕ → List (Option ℕ) → List ℕ → List ℕ
store m [] bs = m
store m (p ∷ ps) [] = m
store m (p ∷ ps) (b ∷ bs) = store (store1 m p b) ps bs

-- ---- lengths
pub length-fetch : (m : List ℕ) (ps : List (Option ℕ)) → length (fetch m ps) ≡ length ps
length-fetch m [] = refl
length-fetch m (p ∷ ps) = ap suc (length-fetch m ps)

pub length-store1 : (m : List ℕ) (p : Option ℕ) (b : ℕ) → length (store1 m p b) ≡ length m
length-store1 m (Some i) b = length-set m i b
length-store1 m None b = refl

pub length-store : (m : List ℕ) (ps : List (Option ℕ)) (bs : List ℕ) → length (store m ps bs) ≡ length m
length-store m [] bs = refl
length-store m (p ∷ ps) [] = refl
length-store m (p ∷ ps) (b ∷ bs) = length-store (store1 m p b) ps bs ∙ length-store1 m p b

-- ---- a run of places is a part of the slice
pub fetch_run : (m : List ℕ) (i n : ℕ) → i + n ≤ length m → fetch m (run i n) ≡ part m i n
fetch_run m i zero h = refl
fetch_run m i (suc n) h = rw (drop-cons m i 0 (omega arith)) (ap (λ (l : List ℕ). get_or m i 0 ∷ l) (fetch_run m (suc i) n (omega arith)))

pub store_run : (m : List ℕ) (i : ℕ) (bs : List ℕ) → store m (run i (length bs)) bs ≡ sets m i bs
store_run m i [] = refl
store_run m i (b ∷ bs) = store_run (set m i b) (suc i) bs

-- ---- one place more
pub fetch_snoc : (m : List ℕ) (ps : List (Option ℕ)) (p : Option ℕ) → fetch m (ps ++ p ∷ []) ≡ fetch m ps ++ cell m p ∷ []
fetch_snoc m [] p = refl
fetch_snoc m (q ∷ ps) p = ap (λ (l : List ℕ). cell m q ∷ l) (fetch_snoc m ps p)

-- ---- a byte whose place is none of those written is as it was
abbrev pub Off : List (Option ℕ) → ℕ → Type 0
Off [] i = Unit {0}
Off (Some j ∷ ps) i = (i ≡ j → ⊥) × Off ps i
Off (None ∷ ps) i = Off ps i

pub store_off : (m : List ℕ) (ps : List (Option ℕ)) (bs : List ℕ) (i : ℕ) → Off ps i → get_or (store m ps bs) i 0 ≡ get_or m i 0
store_off m [] bs i h = refl
store_off m (p ∷ ps) [] i h = refl
store_off m (Some j ∷ ps) (b ∷ bs) i h = store_off (set m j b) ps bs i h.1 ∙ get_or-set_other m j i b 0 h.0
store_off m (None ∷ ps) (b ∷ bs) i h = store_off m ps bs i h

-- no place of qs is one of ps
abbrev pub AllOff : List (Option ℕ) → List (Option ℕ) → Type 0
AllOff ps [] = Unit {0}
AllOff ps (Some i ∷ qs) = Off ps i × AllOff ps qs
AllOff ps (None ∷ qs) = AllOff ps qs

pub fetch_off : (m : List ℕ) (ps : List (Option ℕ)) (bs : List ℕ) (qs : List (Option ℕ)) → AllOff ps qs → fetch (store m ps bs) qs ≡ fetch m qs
fetch_off m ps bs [] h = refl
fetch_off m ps bs (Some i ∷ qs) h = cc (store_off m ps bs i h.0, fetch_off m ps bs qs h.1)
fetch_off m ps bs (None ∷ qs) h = cc (fetch_off m ps bs qs h)

-- ---- what was written is read back, where the places are inside and no two are the same
abbrev pub Distinct : ℕ → List (Option ℕ) → Type 0
Distinct size [] = Unit {0}
Distinct size (Some i ∷ ps) = (i < size) × Off ps i × Distinct size ps
Distinct size (None ∷ ps) = Distinct size ps

pub fetch_back : (m : List ℕ) (ps : List (Option ℕ)) (bs : List ℕ) → Distinct (length m) ps → whole ps ≡ true → length ps ≡ length bs → fetch (store m ps bs) ps ≡ bs
fetch_back m [] [] d w e = refl
fetch_back m [] (b ∷ bs) d w e = absurd (omega arith)
fetch_back m (p ∷ ps) [] d w e = absurd (omega arith)
fetch_back m (None ∷ ps) (b ∷ bs) d w e = absurd (true≢false (sym w))
fetch_back m (Some i ∷ ps) (b ∷ bs) d w e =
    cc (
      store_off (set m i b) ps bs i d.1,
      get_or-set_same m i b 0 d.0,
      fetch_back (set m i b) ps bs (rw length-set d.2) w (omega arith),
    )

-- ---- two slices that agree at a place agree there after the same write
set_agree : (m k : List ℕ) (j b i : ℕ) → length m ≡ length k → get_or m i 0 ≡ get_or k i 0 → get_or (set m j b) i 0 ≡ get_or (set k j b) i 0
set_agree [] [] j b i l e = refl
set_agree [] (y ∷ k) j b i l e = absurd (omega arith)
set_agree (x ∷ m) [] j b i l e = absurd (omega arith)
set_agree (x ∷ m) (y ∷ k) zero b zero l e = refl
set_agree (x ∷ m) (y ∷ k) zero b (suc i) l e = e
set_agree (x ∷ m) (y ∷ k) (suc j) b zero l e = e
set_agree (x ∷ m) (y ∷ k) (suc j) b (suc i) l e = set_agree m k j b i (omega arith) e

pub store_agree : (m k : List ℕ) (ps : List (Option ℕ)) (bs : List ℕ) (i : ℕ) → length m ≡ length k → get_or m i 0 ≡ get_or k i 0 → get_or (store m ps bs) i 0 ≡ get_or (store k ps bs) i 0
store_agree m k [] bs i l e = e
store_agree m k (p ∷ ps) [] i l e = e
store_agree m k (Some j ∷ ps) (b ∷ bs) i l e = store_agree (set m j b) (set k j b) ps bs i (length-set m j b ∙ l ∙ sym (length-set k j b)) (set_agree m k j b i l e)
store_agree m k (None ∷ ps) (b ∷ bs) i l e = store_agree m k ps bs i l e

-- ---- for the loops over an access's bytes: the first k of them are done
module _ (t : Table) (m : List ℕ) (a : ℕ) where
  pub fetched_next : (out : List ℕ) (k b : ℕ) → k < length out → b ≡ cell m (spot t (length m) (a + k))
      → take k out ≡ fetch m (spots t (length m) a k) → take (k + 1) (set out k b) ≡ fetch m (spots t (length m) a (k + 1))
  fetched_next out k b h e u = rw (add-one, take-suc-set out k b h, spots_snoc, fetch_snoc, e, u)

  pub fetched_all : (out : List ℕ) (k n : ℕ) → k ≤ n → n ≤ k → length out ≡ n → take k out ≡ fetch m (spots t (length m) a k) → out ≡ fetch m (spots t (length m) a n)
  fetched_all out k n h g e u = let z : k ≡ n = omega arith in sym (take_all k out (omega arith)) ∙ u ∙ ap (λ (x : ℕ). fetch m (spots t (length m) a x)) z

-- what was gathered into a buffer of n bytes
pub gathered : (t : Table) (m : List ℕ) (a n : ℕ) (out out' : List ℕ) → length out ≡ n → out' ≡ fetch m (spots t (length m) a (length out)) → part out' 0 n ≡ fetch m (spots t (length m) a n)
gathered t m a n out out' e g =
    let f : out' ≡ fetch m (spots t (length m) a n) = rw e at g in
    part_all out' n (ap length f ∙ length-fetch m (spots t (length m) a n) ∙ length-spots t (length m) a n) ∙ f
