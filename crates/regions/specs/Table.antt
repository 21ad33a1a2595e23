-- SPDX-License-Identifier: Apache-2.0 AND BSD-3-Clause
-- The region table: a flat list of numbers, three a row, of which at most eight rows count. Where a guest address lies, and which
-- addresses are in memory at all. Only this crate knows what a table is made of.
use Rattle.std.specs.Prelude.{ℕ, zero, suc, ◌+◌, ◌-◌, ◌≤◌, ◌<◌, ◌^◌, min, Bool, ◌⊎◌, length, get_or, drop, take, ltb, leb, Option, Some, None}
use Rattle.std.proofs.Common.{zero-le, add-one, sym, ap, ◌∙◌, true≢false, inl, inr}
use Rattle.std.proofs.Math.Seq.{take-length}
use Rattle.std.proofs.lemmas.Option.{same_Some}
use native.Mathlib.Omega.{arith}
use Rattle.std.proofs.Math.Path.{◌≡◌, refl}
use Rattle.std.proofs.Math.Bool.{true, false}
use mathlib.Core.List.{List, [], ◌∷◌}
use borrow.Author.Tests.{leb-true, ltb-true, le-leb, lt-leb, lt-ltb, le-ltb}
use Rattle.std.specs.Option.{option_map, option_or}
use Rattle.regions.specs.declared.Region.{Region}
use Rattle.regions.specs.declared.Rows.{Rows}
use Rattle.regions.specs.declared.Run.{Run}

abbrev pub pick : {A : Type 0} → Bool → A → A → A
pick true a b = a
pick false a b = b

abbrev pub Table : Type 0
Table = List ℕ

-- guest addresses from base on, len of them, lie in the slice from offset on
abbrev pub Row : Type 0
Row = Region

abbrev pub row : ℕ → ℕ → ℕ → Row
row b l o = record { base = b; len = l; offset = o }

-- the row in the three words from i on
abbrev pub row_at : Table → ℕ → Row
row_at t i = row (get_or t i 0) (get_or t (i + 1) 0) (get_or t (i + 2) 0)

-- the first k rows of a flat list: an incomplete last row counts for nothing
unfoldable pub rows : ℕ → List ℕ → List Row
rows zero ws = []
rows (suc k) [] = []
rows (suc k) (b ∷ []) = []
rows (suc k) (b ∷ l ∷ []) = []
rows (suc k) (b ∷ l ∷ o ∷ ws) = row b l o ∷ rows k ws

-- the rows that are still to come
abbrev pub rows_left : Rows → List Row
rows_left s = rows s.count s.words.now

-- how many bytes a row has: as many as its length says, as a slice of size bytes has behind its offset, and as lie below 2 ^ 64
unfoldable pub extent : Row → ℕ → ℕ
extent r size = min (min r.len (size - r.offset)) (2 ^ 64 - r.base)

-- the row puts guest address a at place i of a slice of size bytes
pub record Holds (r : Row) (size a i : ℕ) : Type 0 where
  pub above : r.base ≤ a
  pub inside : a < r.base + extent r size
  pub is : i ≡ r.offset + (a - r.base)

-- n bytes, from place i on
abbrev pub run_of : ℕ → ℕ → Run
run_of i n = record { at = i; len = n }

-- what the row has from guest address a on
unfoldable pub stretch_r : Row → ℕ → ℕ → Option Run
stretch_r r size a =
    pick (leb r.base a)
    (pick (ltb a (r.base + extent r size)) (Some (run_of (r.offset + (a - r.base)) (r.base + extent r size - a))) None)
    None

-- what f says of the first of which it says anything
abbrev pub first_some : {A B : Type 0} → (A → Option B) → List A → Option B
first_some f [] = None
first_some f (x ∷ xs) = option_or (f x) (first_some f xs)

-- what the first row that holds guest address a has from there on
unfoldable pub stretch_in : List Row → ℕ → ℕ → Option Run
stretch_in rs size a = first_some (λ r. stretch_r r size a) rs

unfoldable pub stretch_of : Table → ℕ → ℕ → Option Run
stretch_of t size a = stretch_in (rows 8 t) size a

-- where guest address a lies
abbrev pub place_of : Option Run → Option ℕ
place_of s = option_map (λ u. u.at) s

unfoldable pub spot : Table → ℕ → ℕ → Option ℕ
spot t size a = place_of (stretch_of t size a)

pub spot_is : (t : Table) (size a : ℕ) → spot t size a ≡ place_of (stretch_of t size a)
unfolding spot
spot_is t size a = refl

-- ---- extent
pub record Fits (r : Row) (size n : ℕ) : Type 0 where
  pub len : n ≤ r.len
  pub room : n ≤ size - r.offset
  pub top : n ≤ 2 ^ 64 - r.base

pub extent_is : (r : Row) (size : ℕ) → extent r size ≡ min (min r.len (size - r.offset)) (2 ^ 64 - r.base)
unfolding extent
extent_is r size = refl

module _ (r : Row) (size have : ℕ) (e : have ≡ min r.len (size - r.offset)) (b : r.base < 2 ^ 64) where
  pub extent_high : 2 ^ 64 - 1 - r.base < have - 1 → extent r size ≡ 2 ^ 64 - 1 - r.base + 1
  extent_high h = rw (extent_is, ← e) (omega arith)

  pub extent_low : have - 1 ≤ 2 ^ 64 - 1 - r.base → extent r size ≡ have
  extent_low h = rw (extent_is, ← e) (omega arith)

pub extent-fits : (r : Row) (size : ℕ) → Fits r size (extent r size)
unfolding extent
extent-fits r size = record { len = omega arith; room = omega arith; top = omega arith }

pub fits-extent : (r : Row) (size n : ℕ) → Fits r size n → n ≤ extent r size
unfolding extent
fits-extent r size n h = omega arith

pub holds_room : (r : Row) (size a i : ℕ) → Holds r size a i → i < size
holds_room r size a i h = let f = extent-fits r size in omega arith

pub holds_top : (r : Row) (size a i : ℕ) → Holds r size a i → a < 2 ^ 64
holds_top r size a i h = let f = extent-fits r size in omega arith

-- ---- stretch_r
module _ (r : Row) (size a : ℕ) where
  pub stretch_r_in : (i n : ℕ) → Holds r size a i → n ≡ r.base + extent r size - a → stretch_r r size a ≡ Some (run_of i n)
  unfolding stretch_r
  stretch_r_in i n h e = simp (le-leb _ _ h.above, lt-ltb _ _ h.inside) (cc h.is)

  pub stretch_r_below : a < r.base → stretch_r r size a ≡ None
  unfolding stretch_r
  stretch_r_below h = simp (lt-leb _ _ h)

  pub stretch_r_above : r.base + extent r size ≤ a → stretch_r r size a ≡ None
  unfolding stretch_r
  stretch_r_above h = above' (leb r.base a)
    where
      above' : (b : Bool) → pick b (pick (ltb a (r.base + extent r size)) (Some (run_of (r.offset + (a - r.base)) (r.base + extent r size - a))) None) None ≡ None
      above' true = simp (le-ltb _ _ h)
      above' false = refl

  inv' : (b c : Bool) (i n : ℕ) → leb r.base a ≡ b → ltb a (r.base + extent r size) ≡ c
      → pick b (pick c (Some (run_of (r.offset + (a - r.base)) (r.base + extent r size - a))) None) None ≡ Some (run_of i n)
      → Holds r size a i × (n ≡ r.base + extent r size - a)
  inv' true true i n p q e =
      let w = same_Some _ _ e in
      (record { above = leb-true _ _ p; inside = ltb-true _ _ q; is = sym (ap (λ (u : Run). u.at) w) }, sym (ap (λ (u : Run). u.len) w))
  inv' true false i n p q e = absurd cc
  inv' false c i n p q e = absurd cc

  pub stretch_r_inv : (i n : ℕ) → stretch_r r size a ≡ Some (run_of i n) → Holds r size a i × (n ≡ r.base + extent r size - a)
  unfolding stretch_r
  stretch_r_inv i n e = inv' _ _ i n refl refl e

  -- a row that does not hold the address has nothing there
  out' : (s : Option Run) → stretch_r r size a ≡ s → ((i : ℕ) → Holds r size a i → ⊥) → s ≡ None
  out' (Some u) e f = absurd (f u.at (stretch_r_inv u.at u.len e).0)
  out' None e f = refl

  pub stretch_r_out : ((i : ℕ) → Holds r size a i → ⊥) → stretch_r r size a ≡ None
  stretch_r_out f = out' (stretch_r r size a) refl f

-- ---- what the table maps: some row puts guest address a at place i
abbrev MapsIn : List Row → ℕ → ℕ → ℕ → Type 0
MapsIn [] size a i = ⊥
MapsIn (r ∷ rs) size a i = Holds r size a i ⊎ MapsIn rs size a i

pub Maps : Table → ℕ → ℕ → ℕ → Type 0
Maps t size a i = MapsIn (rows 8 t) size a i

-- guest address a is in memory
abbrev pub InMemory : Table → ℕ → ℕ → Type 0
InMemory t size a = (i : ℕ) × Maps t size a i

room_in : (rs : List Row) (size a i : ℕ) → MapsIn rs size a i → (i < size) × (a < 2 ^ 64)
room_in [] size a i h = elim h [ ]
room_in (r ∷ rs) size a i (inl h) = (holds_room r size a i h, holds_top r size a i h)
room_in (r ∷ rs) size a i (inr h) = room_in rs size a i h

module _ (t : Table) (size a i : ℕ) (h : Maps t size a i) where
  pub maps_room : i < size
  unfolding Maps
  maps_room = (room_in (rows 8 t) size a i h).0

  pub maps_top : a < 2 ^ 64
  unfolding Maps
  maps_top = (room_in (rows 8 t) size a i h).1

-- where an address lies is one of the places to which the table maps it
maps_in' : (r : Row) (rs : List Row) (size a i n : ℕ) (s q : Option Run) → stretch_r r size a ≡ s → (q ≡ Some (run_of i n) → MapsIn rs size a i)
    → option_or s q ≡ Some (run_of i n) → Holds r size a i ⊎ MapsIn rs size a i
maps_in' r rs size a i n (Some u) q e f h = inl (stretch_r_inv r size a i n (e ∙ h)).0
maps_in' r rs size a i n None q e f h = inr (f h)

pub stretch_nil : (rs : List Row) (size a : ℕ) → rs ≡ [] → stretch_in rs size a ≡ None
unfolding stretch_in
stretch_nil rs size a e = rw e

maps_in : (rs : List Row) (size a i n : ℕ) → stretch_in rs size a ≡ Some (run_of i n) → MapsIn rs size a i
unfolding stretch_in
maps_in [] size a i n e = absurd cc
maps_in (r ∷ rs) size a i n e = maps_in' r rs size a i n (stretch_r r size a) (stretch_in rs size a) refl (maps_in rs size a i n) e

spot' : (s : Option Run) (i : ℕ) → place_of s ≡ Some i → (n : ℕ) × (s ≡ Some (run_of i n))
spot' (Some u) i e = let z : u.at ≡ i = cc in (u.len, ap (λ (x : ℕ). Some (run_of x u.len)) z)
spot' None i e = absurd cc

pub spot_maps : (t : Table) (size a i : ℕ) → spot t size a ≡ Some i → Maps t size a i
unfolding spot stretch_of Maps
spot_maps t size a i e = let w = spot' (stretch_in (rows 8 t) size a) i e in maps_in (rows 8 t) size a i w.0 w.1

pub spot_room : (t : Table) (size a i : ℕ) → spot t size a ≡ Some i → i < size
spot_room t size a i e = maps_room t size a i (spot_maps t size a i e)

-- for callers of `find`
pub spot_found : (t : Table) (size a : ℕ) (s r : Option Run) → s ≡ stretch_of t size a → s ≡ r → spot t size a ≡ place_of r
spot_found t size a s r e f = spot_is t size a ∙ ap place_of (sym e ∙ f)

-- and an address that the table maps lies somewhere
has_in' : (r : Row) (size a : ℕ) (s q : Option Run) → stretch_r r size a ≡ s → ((i : ℕ) × Holds r size a i) ⊎ ((i : ℕ) × (place_of q ≡ Some i)) → (i : ℕ) × (place_of (option_or s q) ≡ Some i)
has_in' r size a (Some u) q e h = (u.at, refl)
has_in' r size a None q e (inl (i, h)) =
    absurd (let y = stretch_r_in r size a i _ h refl in cc)
has_in' r size a None q e (inr h) = h

has_in : (rs : List Row) (size a i : ℕ) → MapsIn rs size a i → (j : ℕ) × (place_of (stretch_in rs size a) ≡ Some j)
unfolding stretch_in
has_in [] size a i h = elim h [ ]
has_in (r ∷ rs) size a i (inl h) = has_in' r size a (stretch_r r size a) (stretch_in rs size a) refl (inl (i, h))
has_in (r ∷ rs) size a i (inr h) = has_in' r size a (stretch_r r size a) (stretch_in rs size a) refl (inr (has_in rs size a i h))

pub maps_spot : (t : Table) (size a i : ℕ) → Maps t size a i → (j : ℕ) × (spot t size a ≡ Some j)
unfolding spot stretch_of Maps
maps_spot t size a i h = has_in (rows 8 t) size a i h

-- an address past 2 ^ 64 lies nowhere
top' : (t : Table) (size a : ℕ) (p : Option ℕ) → spot t size a ≡ p → 2 ^ 64 ≤ a → p ≡ None
top' t size a (Some i) e h = absurd (let m = maps_top t size a i (spot_maps t size a i e) in omega arith)
top' t size a None e h = refl

pub spot_top : (t : Table) (size a : ℕ) → 2 ^ 64 ≤ a → spot t size a ≡ None
spot_top t size a h = top' t size a (spot t size a) refl h

-- ---- two properties of tables
-- no two guest addresses share a byte of the slice
pub Good : Table → Type 0
Good t = (size a b i : ℕ) → Maps t size a i → Maps t size b i → a ≡ b

pub good_one : (t : Table) → Good t → (size a b i : ℕ) → Maps t size a i → Maps t size b i → a ≡ b
unfolding Good
good_one t g = g

-- no guest address stands for two bytes of the slice
pub Single : Table → Type 0
Single t = (size a i j : ℕ) → Maps t size a i → Maps t size a j → i ≡ j

pub single_one : (t : Table) → Single t → (size a i j : ℕ) → Maps t size a i → Maps t size a j → i ≡ j
unfolding Single
single_one t s = s

-- each row stands in the relation P to every later one
abbrev pub Each : (Row → Row → Type 0) → Row → List Row → Type 0
Each P r [] = Unit {0}
Each P r (s ∷ rs) = P r s × Each P r rs

abbrev pub Pairs : (Row → Row → Type 0) → List Row → Type 0
Pairs P [] = Unit {0}
Pairs P (r ∷ rs) = Each P r rs × Pairs P rs

-- if no two rows that stand in P can hold a at i and b at j, then one row holds both
module _ (P : Row → Row → Type 0) (size a i b j : ℕ) (E : Type 0) (same : (r : Row) → Holds r size a i → Holds r size b j → E)
    (fore : (r s : Row) → P r s → Holds r size a i → Holds s size b j → ⊥)
    (back : (r s : Row) → P r s → Holds s size a i → Holds r size b j → ⊥) where
  fore' : (r : Row) (rs : List Row) → Each P r rs → Holds r size a i → MapsIn rs size b j → ⊥
  fore' r [] c p q = elim q [ ]
  fore' r (s ∷ rs) c p (inl q) = fore r s c.0 p q
  fore' r (s ∷ rs) c p (inr q) = fore' r rs c.1 p q

  back' : (r : Row) (rs : List Row) → Each P r rs → MapsIn rs size a i → Holds r size b j → ⊥
  back' r [] c p q = elim p [ ]
  back' r (s ∷ rs) c (inl p) q = back r s c.0 p q
  back' r (s ∷ rs) c (inr p) q = back' r rs c.1 p q

  one_in : (rs : List Row) → Pairs P rs → MapsIn rs size a i → MapsIn rs size b j → E
  one_in [] c p q = elim p [ ]
  one_in (r ∷ rs) c (inl p) (inl q) = same r p q
  one_in (r ∷ rs) c (inl p) (inr q) = absurd (fore' r rs c.0 p q)
  one_in (r ∷ rs) c (inr p) (inl q) = absurd (back' r rs c.0 p q)
  one_in (r ∷ rs) c (inr p) (inr q) = one_in rs c.1 p q

-- no number is among the n from i on and the k from j on
abbrev pub Disjoint : ℕ → ℕ → ℕ → ℕ → Type 0
Disjoint i n j k = (x : ℕ) → i ≤ x → x < i + n → j ≤ x → x < j + k → ⊥

-- two rows share no byte of the slice; no guest address
abbrev pub SliceApart : Row → Row → Type 0
SliceApart r s = Disjoint r.offset r.len s.offset s.len

abbrev pub GuestApart : Row → Row → Type 0
GuestApart r s = Disjoint r.base r.len s.base s.len

slice_clash : (r s : Row) (size a b i : ℕ) → SliceApart r s → Holds r size a i → Holds s size b i → ⊥
slice_clash r s size a b i c p q =
    let e = (extent-fits r size).len in let f = (extent-fits s size).len in c i (omega arith) (omega arith) (omega arith) (omega arith)

guest_clash : (r s : Row) (size a i j : ℕ) → GuestApart r s → Holds r size a i → Holds s size a j → ⊥
guest_clash r s size a i j c p q =
    let e = (extent-fits r size).len in let f = (extent-fits s size).len in c a (omega arith) (omega arith) (omega arith) (omega arith)

pub apart_good : (t : Table) → Pairs SliceApart (rows 8 t) → Good t
unfolding Good Maps
apart_good t c = λ size a b i p q.
    one_in SliceApart size a i b i (a ≡ b) (λ r x y. omega arith) (λ r s x y z. slice_clash r s size a b i x y z)
    (λ r s x y z. slice_clash r s size b a i x z y) (rows 8 t) c p q

pub apart_single : (t : Table) → Pairs GuestApart (rows 8 t) → Single t
unfolding Single Maps
apart_single t c = λ size a i j p q.
    one_in GuestApart size a i a j (i ≡ j) (λ r x y. omega arith) (λ r s x y z. guest_clash r s size a i j x y z)
    (λ r s x y z. guest_clash r s size a j i x z y) (rows 8 t) c p q

-- a table of one region has both properties
pub one_good : (b l o : ℕ) → Good (b ∷ l ∷ o ∷ [])
unfolding rows
one_good b l o = apart_good (b ∷ l ∷ o ∷ []) (tt, tt)

pub one_single : (b l o : ℕ) → Single (b ∷ l ∷ o ∷ [])
unfolding rows
one_single b l o = apart_single (b ∷ l ∷ o ∷ []) (tt, tt)

-- ---- for the iterator over the rows
pub rows_none : (k : ℕ) (ws : List ℕ) → k ≡ 0 → rows k ws ≡ []
unfolding rows
rows_none zero ws e = refl
rows_none (suc k) ws e = absurd (omega arith)

pub rows_short : (k : ℕ) (ws : List ℕ) → length ws < 3 → rows k ws ≡ []
unfolding rows
rows_short zero ws h = refl
rows_short (suc k) [] h = refl
rows_short (suc k) (b ∷ []) h = refl
rows_short (suc k) (b ∷ l ∷ []) h = refl
rows_short (suc k) (b ∷ l ∷ o ∷ ws) h = absurd (omega arith)

-- the first row, and the others: what a slice has behind its first three words is this part of it
pub rows_next : (k j : ℕ) (ws : List ℕ) → k ≡ j + 1 → 3 ≤ length ws → rows k ws ≡ row_at ws 0 ∷ rows j (take (length ws - 3) (drop 3 ws))
unfolding rows
rows_next k j [] e h = absurd (omega arith)
rows_next k j (b ∷ []) e h = absurd (omega arith)
rows_next k j (b ∷ l ∷ []) e h = absurd (omega arith)
rows_next k j (b ∷ l ∷ o ∷ ws) e h =
    let n : length (b ∷ l ∷ o ∷ ws) - 3 ≡ length ws = omega arith in
    rw (n, e, add-one, take-length)

-- ---- for the proof of `find_run`
pub stretch_all : (t : Table) (size a : ℕ) → stretch_of t size a ≡ stretch_in (rows 8 t) size a
unfolding stretch_of
stretch_all t size a = refl

module _ (r : Row) (rs : List Row) (size a : ℕ) where
  pub stretch_skip : stretch_r r size a ≡ None → stretch_in (r ∷ rs) size a ≡ stretch_in rs size a
  unfolding stretch_in
  stretch_skip e = rw e

  pub stretch_take : (i n : ℕ) → stretch_r r size a ≡ Some (run_of i n) → stretch_in (r ∷ rs) size a ≡ Some (run_of i n)
  unfolding stretch_in
  stretch_take i n e = rw e

-- ---- for the proof of `covers`
-- from a stretch on, the table maps as many addresses as it says
module _ (t : Table) (size a i n : ℕ) where
  have' : (r : Row) (rs : List Row) (k x y : ℕ) → k < n → x ≡ a + k → y ≡ i + k → (s q : Option Run) → stretch_r r size a ≡ s
      → (q ≡ Some (run_of i n) → MapsIn rs size x y) → option_or s q ≡ Some (run_of i n) → Holds r size x y ⊎ MapsIn rs size x y
  have' r rs k x y h u v (Some z) q e f g =
      let w = stretch_r_inv r size a i n (e ∙ g) in
      inl (record { above = omega arith; inside = omega arith; is = omega arith })
  have' r rs k x y h u v None q e f g = inr (f g)

  have_in : (rs : List Row) (k x y : ℕ) → k < n → x ≡ a + k → y ≡ i + k → stretch_in rs size a ≡ Some (run_of i n) → MapsIn rs size x y
  unfolding stretch_in
  have_in [] k x y h u v e = absurd cc
  have_in (r ∷ rs) k x y h u v e = have' r rs k x y h u v (stretch_r r size a) (stretch_in rs size a) refl (have_in rs k x y h u v) e

  pub stretch_maps : stretch_of t size a ≡ Some (run_of i n) → (k x y : ℕ) → k < n → x ≡ a + k → y ≡ i + k → Maps t size x y
  unfolding stretch_of Maps
  stretch_maps e k x y h u v = have_in (rows 8 t) k x y h u v e

-- how many rows end at or below guest address p
pub passed_in : List Row → ℕ → ℕ → ℕ
passed_in [] size p = 0
passed_in (r ∷ rs) size p = pick (leb (r.base + extent r size) p) 1 0 + passed_in rs size p

pub passed : Table → ℕ → ℕ → ℕ
passed t size p = passed_in (rows 8 t) size p

tick_le : (b : Bool) → pick b 1 0 ≤ 1
tick_le true = omega arith
tick_le false = omega arith

passed_le : (rs : List Row) (size p : ℕ) → passed_in rs size p ≤ length rs
unfolding passed_in
passed_le [] size p = omega arith
passed_le (r ∷ rs) size p = omega (arith, tick_le (leb (r.base + extent r size) p), passed_le rs size p)

tick_mono : (e p q : ℕ) → p ≤ q → (b c : Bool) → leb e p ≡ b → leb e q ≡ c → pick b 1 0 ≤ pick c 1 0
tick_mono e p q h true true u v = omega arith
tick_mono e p q h true false u v = absurd (true≢false (sym (le-leb e q (let w = leb-true e p u in omega arith)) ∙ v))
tick_mono e p q h false c u v = zero-le

passed_mono : (rs : List Row) (size p q : ℕ) → p ≤ q → passed_in rs size p ≤ passed_in rs size q
unfolding passed_in
passed_mono [] size p q h = omega arith
passed_mono (r ∷ rs) size p q h =
    omega (arith, tick_mono (r.base + extent r size) p q h (leb (r.base + extent r size) p) (leb (r.base + extent r size) q) refl refl, passed_mono rs size p q h)

-- the end of a stretch passes one row more
module _ (size a i n : ℕ) where
  more' : (r : Row) (rs : List Row) (s q : Option Run) → stretch_r r size a ≡ s
      → (q ≡ Some (run_of i n) → passed_in rs size a < passed_in rs size (a + n)) → option_or s q ≡ Some (run_of i n)
      → pick (leb (r.base + extent r size) a) 1 0 + passed_in rs size a < pick (leb (r.base + extent r size) (a + n)) 1 0 + passed_in rs size (a + n)
  more' r rs (Some u) q e f g =
      let w = stretch_r_inv r size a i n (e ∙ g) in
      rw (lt-leb (r.base + extent r size) a w.0.inside, le-leb (r.base + extent r size) (a + n) (omega arith))
      (omega (arith, passed_mono rs size a (a + n) (omega arith)))
  more' r rs None q e f g =
      omega (arith, f g, tick_mono (r.base + extent r size) a (a + n) (omega arith) (leb (r.base + extent r size) a) (leb (r.base + extent r size) (a + n)) refl refl)

  more_in : (rs : List Row) → stretch_in rs size a ≡ Some (run_of i n) → passed_in rs size a < passed_in rs size (a + n)
  unfolding stretch_in passed_in
  more_in [] e = absurd cc
  more_in (r ∷ rs) e = more' r rs (stretch_r r size a) (stretch_in rs size a) refl (more_in rs) e

  pub passed_more : (t : Table) → stretch_of t size a ≡ Some (run_of i n) → passed t size a < passed t size (a + n)
  unfolding stretch_of passed
  passed_more t e = more_in (rows 8 t) e

length-rows : (k : ℕ) (ws : List ℕ) → length (rows k ws) ≤ k
unfolding rows
length-rows zero ws = omega arith
length-rows (suc k) [] = omega arith
length-rows (suc k) (b ∷ []) = omega arith
length-rows (suc k) (b ∷ l ∷ []) = omega arith
length-rows (suc k) (b ∷ l ∷ o ∷ ws) = omega (arith, length-rows k ws)

pub few_rows : (t : Table) (rs : List Row) → rs ≡ rows 8 t → length rs ≤ 8
few_rows t rs e = rw e (length-rows 8 t)

-- where all rows are passed there is nothing
none' : (r : Row) (rs : List Row) (size a : ℕ) (b : Bool) → leb (r.base + extent r size) a ≡ b → suc (length rs) ≤ pick b 1 0 + passed_in rs size a
    → (length rs ≤ passed_in rs size a → stretch_in rs size a ≡ None) → option_or (stretch_r r size a) (stretch_in rs size a) ≡ None
none' r rs size a true e h f = rw (stretch_r_above r size a (leb-true _ _ e)) (f (omega arith))
none' r rs size a false e h f = absurd (omega (arith, passed_le rs size a))

none_in : (rs : List Row) (size a : ℕ) → length rs ≤ passed_in rs size a → stretch_in rs size a ≡ None
unfolding stretch_in passed_in
none_in [] size a h = refl
none_in (r ∷ rs) size a h = none' r rs size a (leb (r.base + extent r size) a) refl h (none_in rs size a)

pub passed_all : (t : Table) (size a : ℕ) → 8 ≤ passed t size a → stretch_of t size a ≡ None
unfolding stretch_of passed
passed_all t size a h = none_in (rows 8 t) size a (omega (arith, length-rows 8 t))
