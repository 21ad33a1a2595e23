-- SPDX-License-Identifier: Apache-2.0 AND BSD-3-Clause
-- The places of an access: for each byte that of the first row that holds it. `stretch_of` and `spot` are shut here. What the rest
-- goes by: `spots_mapped`, `length-spots`, and for the fast way `Seated`.
use Rattle.std.specs.Prelude.{ℕ, zero, suc, ◌+◌, ◌-◌, ◌≤◌, ◌<◌, ◌^◌, ◌≡◌, refl, Bool, true, false, List, [], ◌∷◌, ◌++◌, length, Option, Some, None}
use Rattle.std.proofs.Common.{add-zero, arith, sym, ap, ◌∙◌, true≢false}
use Rattle.std.proofs.Math.Decide.{dec_le}
use Rattle.regions.specs.Table.{Table, Row, rows, run_of, Holds, extent, fits-extent, place_of, spot, spot_is, stretch_r_in, stretch_r_out, stretch_in, stretch_of, stretch_all, stretch_skip, stretch_take, stretch_maps, passed, passed_more, passed_all, Maps, InMemory, maps_spot, spot_maps, maps_top, spot_top}
use Rattle.regions.specs.declared.Side as side
use Rattle.regions.specs.declared.Side.TheVariants.{All, Away, Split}

-- a place for each of the n bytes from guest address a on
unfoldable pub spots : Table → ℕ → ℕ → ℕ → List (Option ℕ)
spots t size a zero = []
spots t size a (suc n) = spot t size a ∷ spots t size (suc a) n

abbrev pub within : {A : Type 0} → Option ℕ → (ℕ → A) → A → A
within (Some i) f d = f i
within None f d = d

-- every byte has a place
abbrev pub whole : List (Option ℕ) → Bool
whole [] = true
whole (p ∷ ps) = within p (λ _. whole ps) false

-- the n bytes from guest address a on are all in memory
unfoldable pub covered : Table → ℕ → ℕ → ℕ → Bool
covered t size a n = whole (spots t size a n)

pub covered_is : (t : Table) (size a n : ℕ) → covered t size a n ≡ whole (spots t size a n)
unfolding covered
covered_is t size a n = refl

pub length-spots : (t : Table) (size a n : ℕ) → length (spots t size a n) ≡ n
unfolding spots
length-spots t size a zero = refl
length-spots t size a (suc n) = ap suc (length-spots t size (suc a) n)

pub spots_none : (t : Table) (size a : ℕ) → spots t size a 0 ≡ []
unfolding spots
spots_none t size a = refl

-- one byte more
pub spots_snoc : (t : Table) (size a n : ℕ) → spots t size a (suc n) ≡ spots t size a n ++ spot t size (a + n) ∷ []
unfolding spots
spots_snoc t size a zero = rw add-zero
spots_snoc t size a (suc n) =
    let x : a + suc n ≡ suc a + n = omega arith in
    rw x (ap (λ (l : List (Option ℕ)). spot t size a ∷ l) (spots_snoc t size (suc a) n))

-- ---- a run: n places, one after the other
abbrev pub run : ℕ → ℕ → List (Option ℕ)
run i zero = []
run i (suc n) = Some i ∷ run (suc i) n

pub whole_run : (i n : ℕ) → whole (run i n) ≡ true
whole_run i zero = refl
whole_run i (suc n) = whole_run (suc i) n

pub record RunAt (t : Table) (size a n i : ℕ) : Type 0 where
  pub is : spots t size a n ≡ run i n
  pub fits : i + n ≤ size

-- what looking for a row that holds all n bytes answers: if it has one, their places are in a run
pub record Seated (t : Table) (size a n : ℕ) (p : Option ℕ) : Type 0 where
  pub at : (i : ℕ) → p ≡ Some i → RunAt t size a n i

pub unseated : (t : Table) (size a n : ℕ) → Seated t size a n None
unseated t size a n = record { at = λ i e. absurd cc }

pub seated_run : (t : Table) (size a n i : ℕ) → RunAt t size a n i → Seated t size a n (Some i)
seated_run t size a n i r = record { at = λ k e. let z : k ≡ i = cc in rw z r }

spots_run : (t : Table) (size a n i : ℕ) → ((j x y : ℕ) → j < n → x ≡ a + j → y ≡ i + j → spot t size x ≡ Some y) → spots t size a n ≡ run i n
unfolding spots
spots_run t size a zero i f = refl
spots_run t size a (suc n) i f =
    rw (f 0 a i (omega arith) (omega arith) (omega arith))
    (ap (λ (l : List (Option ℕ)). Some i ∷ l) (spots_run t size (suc a) n (suc i) (λ j x y h u v. f (suc j) x y (omega arith) (omega arith) (omega arith))))

run-spots : (t : Table) (size a n i : ℕ) → spots t size a n ≡ run i n → (j x y : ℕ) → j < n → x ≡ a + j → y ≡ i + j → spot t size x ≡ Some y
unfolding spots
run-spots t size a zero i e j x y h u v = absurd (omega arith)
run-spots t size a (suc n) i e zero x y h u v =
    let p : x ≡ a = omega arith in let q : y ≡ i = omega arith in let f : spot t size a ≡ Some i = cc in rw (p, q) f
run-spots t size a (suc n) i e (suc j) x y h u v =
    let f : spots t size (suc a) n ≡ run (suc i) n = cc in run-spots t size (suc a) n (suc i) f j x y (omega arith) (omega arith) (omega arith)

-- a part of a run is a run: what is found once for a whole ring serves for each of its entries
pub run-part : (t : Table) (size a n i : ℕ) → RunAt t size a n i → (k j : ℕ) → k + j ≤ n → RunAt t size (a + k) j (i + k)
run-part t size a n i r k j h =
    record {
      is = spots_run t size (a + k) j (i + k) (λ l x y b u v. run-spots t size a n i r.is (k + l) x y (omega arith) (omega arith) (omega arith));
      fits = let f = r.fits in omega arith;
    }

pub seated : (t : Table) (size a n i : ℕ) → i + n ≤ size → ((j x y : ℕ) → j < n → x ≡ a + j → y ≡ i + j → spot t size x ≡ Some y) → Seated t size a n (Some i)
seated t size a n i l f = seated_run t size a n i (record { is = spots_run t size a n i f; fits = l })

-- ---- for the proofs of `side`, `seat` and `find_run`: what one row says of n bytes
-- the row holds them all, from place i on
pub record AllIn (r : Row) (size a n i : ℕ) : Type 0 where
  pub above : r.base ≤ a
  pub inside : a + n ≤ r.base + extent r size
  pub is : i ≡ r.offset + (a - r.base)
  pub fits : i + n ≤ size

-- what asking a row for all n bytes answers
pub record InRow (r : Row) (size a n : ℕ) (p : Option ℕ) : Type 0 where
  pub at : (i : ℕ) → p ≡ Some i → AllIn r size a n i

pub record Sided (r : Row) (size a n : ℕ) (s : side.Side) : Type 0 where
  pub all : (i : ℕ) → s ≡ All i → AllIn r size a n i
  pub away : s ≡ Away → (x i : ℕ) → a ≤ x → x < a + n → Holds r size x i → ⊥

module _ (r : Row) (size a n : ℕ) where
  pub all_in : (i : ℕ) → a + n ≤ 2 ^ 64 → r.base ≤ a → (a - r.base) + n ≤ r.len → r.offset + (a - r.base) + n ≤ size → i ≡ r.offset + (a - r.base) → AllIn r size a n i
  all_in i top above len room e =
      let f = fits-extent r size ((a - r.base) + n) (record { len = len; room = omega arith; top = omega arith }) in
      record { above = above; inside = omega arith; is = e; fits = omega arith }

  pub in_row : (i : ℕ) → AllIn r size a n i → InRow r size a n (Some i)
  in_row i h = record { at = λ j u. let z : j ≡ i = cc in rw z h }

  pub sided_all : (i : ℕ) → AllIn r size a n i → Sided r size a n (All i)
  sided_all i h =
      record {
        all = λ j u. let z : j ≡ i = cc in rw z h;
        away = λ u. absurd cc;
      }

  pub sided_away : ((x i : ℕ) → a ≤ x → x < a + n → Holds r size x i → ⊥) → Sided r size a n Away
  sided_away f = record { all = λ j u. absurd cc; away = λ u. f }

  pub sided_split : Sided r size a n Split
  sided_split = record { all = λ j u. absurd cc; away = λ u. absurd cc }

-- the n bytes lie where the rows rs put them: no row before these holds one
pub record Skipped (t : Table) (size a n : ℕ) (rs : List Row) : Type 0 where
  pub rest : (j x : ℕ) → j < n → x ≡ a + j → stretch_of t size x ≡ stretch_in rs size x

pub skipped_start : (t : Table) (size a n : ℕ) (rs : List Row) → rs ≡ rows 8 t → Skipped t size a n rs
skipped_start t size a n rs e = record { rest = λ j x h o. rw e (stretch_all t size x) }

module _ (t : Table) (size a n : ℕ) (all : List Row) (u : Skipped t size a n all) (r : Row) (rs : List Row) (e : all ≡ r ∷ rs) where
  pub skipped_next : Sided r size a n Away → Skipped t size a n rs
  skipped_next w =
      record {
        rest = λ j x b o. u.rest j x b o ∙ ap (λ (l : List Row). stretch_in l size x) e
            ∙ stretch_skip r rs size x (stretch_r_out r size x (λ y q. w.away refl x y (omega arith) (omega arith) q));
      }

  -- the row that holds them all gives a run
  pub skipped_here : (i : ℕ) → AllIn r size a n i → Seated t size a n (Some i)
  skipped_here i v =
      seated t size a n i v.fits
      (λ j x y b o q.
      let m : Holds r size x y = record { above = omega arith; inside = omega arith; is = omega arith } in
      spot_is t size x ∙ ap place_of (u.rest j x b o ∙ ap (λ (l : List Row). stretch_in l size x) e ∙ stretch_take r rs size x y _ (stretch_r_in r size x y _ m refl)))

-- a first row that holds them all gives a run
pub first_run : (t : Table) (size a n : ℕ) (all : List Row) → all ≡ rows 8 t → (r : Row) (rs : List Row) → all ≡ r ∷ rs → (p : Option ℕ) → InRow r size a n p → Seated t size a n p
first_run t size a n all o r rs e p w =
    record { at = λ i f. (skipped_here t size a n all (skipped_start t size a n all o) r rs e i (w.at i f)).at i refl }

-- ---- each place is one to which the table maps its byte's address
abbrev pub Mapped : Table → ℕ → ℕ → List (Option ℕ) → Type 0
Mapped t size a [] = Unit {0}
Mapped t size a (Some i ∷ ps) = Maps t size a i × Mapped t size (suc a) ps
Mapped t size a (None ∷ ps) = Mapped t size (suc a) ps

mapped' : (t : Table) (size a : ℕ) (ps : List (Option ℕ)) (p : Option ℕ) → spot t size a ≡ p → Mapped t size (suc a) ps → Mapped t size a (p ∷ ps)
mapped' t size a ps (Some i) e h = (spot_maps t size a i e, h)
mapped' t size a ps None e h = h

pub spots_mapped : (t : Table) (size a n : ℕ) → Mapped t size a (spots t size a n)
unfolding spots
spots_mapped t size a zero = tt
spots_mapped t size a (suc n) = mapped' t size a (spots t size (suc a) n) (spot t size a) refl (spots_mapped t size (suc a) n)

-- ---- an access works if and only if each of its bytes is in memory
mapped_all : (t : Table) (size a : ℕ) (ps : List (Option ℕ)) → Mapped t size a ps → whole ps ≡ true → (k x : ℕ) → k < length ps → x ≡ a + k → InMemory t size x
mapped_all t size a [] h w k x l e = absurd (omega arith)
mapped_all t size a (None ∷ ps) h w k x l e = absurd (true≢false (sym w))
mapped_all t size a (Some i ∷ ps) h w zero x l e = let z : x ≡ a = omega arith in (i, rw z h.0)
mapped_all t size a (Some i ∷ ps) h w (suc k) x l e = mapped_all t size (suc a) ps h.1 w k x (omega arith) (omega arith)

whole' : (t : Table) (size a : ℕ) (ps : List (Option ℕ)) (p : Option ℕ) → spot t size a ≡ p → InMemory t size a → whole ps ≡ true → within p (λ _. whole ps) false ≡ true
whole' t size a ps (Some i) e f w = w
whole' t size a ps None e f w = absurd (let y = (maps_spot t size a f.0 f.1).1 in cc)

all_whole : (t : Table) (size a n : ℕ) → ((k x : ℕ) → k < n → x ≡ a + k → InMemory t size x) → whole (spots t size a n) ≡ true
unfolding spots
all_whole t size a zero f = refl
all_whole t size a (suc n) f =
    whole' t size a (spots t size (suc a) n) (spot t size a) refl (f 0 a (omega arith) (omega arith))
    (all_whole t size (suc a) n (λ k x h e. f (suc k) x (omega arith) (omega arith)))

module _ (t : Table) (size a n : ℕ) where
  pub covered_all : covered t size a n ≡ true → (k x : ℕ) → k < n → x ≡ a + k → InMemory t size x
  unfolding covered
  covered_all o k x h e = mapped_all t size a (spots t size a n) (spots_mapped t size a n) o k x (rw length-spots h) e

  pub all_covered : ((k x : ℕ) → k < n → x ≡ a + k → InMemory t size x) → covered t size a n ≡ true
  unfolding covered
  all_covered f = all_whole t size a n f

  pub covered_run : (i : ℕ) → RunAt t size a n i → covered t size a n ≡ true
  unfolding covered
  covered_run i e = rw e.is (whole_run i n)

  pub covered_top : covered t size a n ≡ true → (k : ℕ) → k < n → a + k < 2 ^ 64
  covered_top o k h = let y = covered_all o k (a + k) h refl in maps_top t size (a + k) y.0 y.1

  -- one byte that is not in memory is enough for a refusal
  not' : (b : Bool) → covered t size a n ≡ b → (k x : ℕ) → k < n → x ≡ a + k → spot t size x ≡ None → b ≡ false
  not' true o k x h e s =
      absurd (let y = covered_all o k x h e in let m = (maps_spot t size x y.0 y.1).1 in cc)
  not' false o k x h e s = refl

  pub not_covered : (k x : ℕ) → k < n → x ≡ a + k → spot t size x ≡ None → covered t size a n ≡ false
  not_covered k x h e s = not' (covered t size a n) refl k x h e s

  pub none_covered : n ≡ 0 → covered t size a n ≡ true
  none_covered z = all_covered (λ k x h e. absurd (omega arith))

  pub past_covered : 1 ≤ n → 2 ^ 64 < a + n → covered t size a n ≡ false
  past_covered h p = not_covered (n - 1) (a + (n - 1)) (omega arith) refl (spot_top t size (a + (n - 1)) (omega arith))

-- ---- for the proof of `covers`: what is left to be covered from address a on, and how many rows may still be needed
pub record Left (t : Table) (size addr n a left steps : ℕ) : Type 0 where
  pub some : 0 < left
  pub same : covered t size addr n ≡ covered t size a left
  pub rows : 8 ≤ steps + passed t size a

both : (x y : Bool) → (x ≡ true → y ≡ true) → (y ≡ true → x ≡ true) → x ≡ y
both true y f g = sym (f refl)
both false true f g = absurd (true≢false (sym (g refl)))
both false false f g = refl

pub left_start : (t : Table) (size addr n : ℕ) → 0 < n → Left t size addr n addr n 8
left_start t size addr n h = record { some = h; same = refl; rows = omega arith }

module _ (t : Table) (size addr n a left steps : ℕ) (h : Left t size addr n a left steps) where
  pub left_nothing : stretch_of t size a ≡ None → covered t size addr n ≡ false
  left_nothing e = h.same ∙ not_covered t size a left 0 a h.some (omega arith) (spot_is t size a ∙ ap place_of e)

  -- eight stretches pass eight rows: then there is no further one
  pub left_no_steps : steps ≤ 0 → covered t size addr n ≡ false
  left_no_steps z = let r = h.rows in left_nothing (passed_all t size a (omega arith))

  module _ (i have : ℕ) (e : stretch_of t size a ≡ Some (run_of i have)) where
    pub left_enough : left ≤ have → covered t size addr n ≡ true
    left_enough l = h.same ∙ all_covered t size a left (λ k x b u. (i + k, stretch_maps t size a i have e k x (i + k) (omega arith) u refl))

    pub left_top : have < left → 2 ^ 64 ≤ a + have → covered t size addr n ≡ false
    left_top l p = h.same ∙ not_covered t size a left have (a + have) l refl (spot_top t size (a + have) p)

    module _ (l : have < left) where
      onward : (k x : ℕ) → k < left → x ≡ a + k → Dec (k + 1 ≤ have) → covered t size (a + have) (left - have) ≡ true → InMemory t size x
      onward k x b u (yes w) c = (i + k, stretch_maps t size a i have e k x (i + k) (omega arith) u refl)
      onward k x b u (no w) c = covered_all t size (a + have) (left - have) c (k - have) x (omega arith) (omega arith)

      pub left_next : (b k : ℕ) → b ≡ a + have → steps ≡ k + 1 → Left t size addr n b (left - have) k
      left_next b k f z =
          rw f
          record {
            some = omega arith;
            same = h.same ∙ both _ _
                (λ c. all_covered t size (a + have) (left - have) (λ k x b u. covered_all t size a left c (have + k) x (omega arith) (omega arith)))
                (λ c. all_covered t size a left (λ k x b u. onward k x b u (dec_le (k + 1) have) c));
            rows = let r = h.rows in let m = passed_more size a i have t e in omega arith;
          }
