-- SPDX-License-Identifier: Apache-2.0 AND BSD-3-Clause
-- A part of a list, and `sets l i vs` of `lib.Seq`: the list l with the elements vs in the place of those from i on. Its length is
-- `length-sets` there. A part of it that lies inside what was written, before it or behind it; two writes apart from each other.
use Rattle.std.specs.Prelude.{ℕ, suc, ◌+◌, ◌≤◌, ◌<◌, ◌≡◌, refl, ◌⊎◌, List, [], ◌∷◌, ◌++◌, length, get_or, set, take, drop}
use Rattle.std.proofs.Common.{add-zero, add-suc, suc-add, add_assoc, arith, sym, ap, ◌∙◌, inl, inr, append_assoc, length-drop, get_or-set_other, get_or-take, get_or-drop, ext_get_or, take-add, take_all, drop-drop, drop-cons, take_at, drop_at, length-take-le}
use Rattle.std.proofs.lemmas.List.Edits.{sets, sets-eq}
use Rattle.std.proofs.Math.Seq.{length-sets}
use Rattle.std.proofs.lemmas.List.{set_comm}
use borrow.Rule.Slice.PartMut.{put_mid}

-- the n elements from place i on
abbrev pub part : List ℕ → ℕ → ℕ → List ℕ
part l i n = take n (drop i l)

-- n elements from i on and k elements from j on have none in common
abbrev pub Apart : ℕ → ℕ → ℕ → ℕ → Type 0
Apart i n j k = (i + n ≤ j) ⊎ (j + k ≤ i)

pub apart_sym : (i n j k : ℕ) → Apart i n j k → Apart j k i n
apart_sym i n j k (inl h) = inr h
apart_sym i n j k (inr h) = inl h

-- ---- part
pub length-part : (l : List ℕ) (i n : ℕ) → i + n ≤ length l → length (part l i n) ≡ n
length-part l i n h = length-take-le n (drop i l) (rw length-drop (omega arith))

pub get_or-part : (l : List ℕ) (i n k : ℕ) → k < n → get_or (part l i n) k 0 ≡ get_or l (i + k) 0
get_or-part l i n k h = get_or-take n (drop i l) k 0 h ∙ get_or-drop i l k 0

pub part-cons : (l : List ℕ) (i n : ℕ) → i < length l → part l i (suc n) ≡ get_or l i 0 ∷ part l (suc i) n
part-cons l i n h = rw (drop-cons l i 0)

pub part-add : (l : List ℕ) (i n k : ℕ) → part l i (n + k) ≡ part l i n ++ part l (i + n) k
part-add l i n k = take-add n k (drop i l) ∙ ap (λ (x : List ℕ). take n (drop i l) ++ take k x) (drop-drop n i l)

pub part_all : (l : List ℕ) (n : ℕ) → length l ≡ n → part l 0 n ≡ l
part_all l n e = take_all n l (omega arith)

pub part-part : (l : List ℕ) (i n j k : ℕ) → j + k ≤ n → i + n ≤ length l → part (part l i n) j k ≡ part l (i + j) k
part-part l i n j k h f =
    let s = length-part l i n f in
    let p : length (part (part l i n) j k) ≡ k = length-part (part l i n) j k (omega arith) in
    let q : length (part l (i + j) k) ≡ k = length-part l (i + j) k (omega arith) in
    ext_get_or 0 (part (part l i n) j k) (part l (i + j) k) (p ∙ sym q)
    (λ x b. get_or-part (part l i n) j k x (omega arith) ∙ get_or-part l i n (j + x) (omega arith)
    ∙ ap (λ (y : ℕ). get_or l y 0) (sym (add_assoc i j x)) ∙ sym (get_or-part l (i + j) k x (omega arith)))

-- parts that hold the same elements are equal
pub part_ext : (l m : List ℕ) (i n : ℕ) → i + n ≤ length l → length l ≡ length m
    → ((k : ℕ) → k < n → get_or l (i + k) 0 ≡ get_or m (i + k) 0) → part l i n ≡ part m i n
part_ext l m i n h e s =
    let p = length-part l i n h in
    let q = length-part m i n (omega arith) in
    ext_get_or 0 (part l i n) (part m i n) (p ∙ sym q)
    (λ j b. get_or-part l i n j (omega arith) ∙ s j (omega arith) ∙ sym (get_or-part m i n j (omega arith)))

-- ---- get_or of sets
pub get_or-sets_before : (l : List ℕ) (i : ℕ) (vs : List ℕ) (k : ℕ) → k < i → get_or (sets l i vs) k 0 ≡ get_or l k 0
get_or-sets_before l i [] k h = refl
get_or-sets_before l i (a ∷ vs) k h =
    get_or-sets_before (set l i a) (suc i) vs k (omega arith) ∙ get_or-set_other l i k a 0 (omega arith)

pub get_or-sets_behind : (l : List ℕ) (i : ℕ) (vs : List ℕ) (k : ℕ) → i + length vs ≤ k → get_or (sets l i vs) k 0 ≡ get_or l k 0
get_or-sets_behind l i [] k h = refl
get_or-sets_behind l i (a ∷ vs) k h =
    get_or-sets_behind (set l i a) (suc i) vs k (omega arith) ∙ get_or-set_other l i k a 0 (omega arith)

-- ---- part of sets
pub part-sets : (l : List ℕ) (i : ℕ) (vs : List ℕ) → i + length vs ≤ length l → part (sets l i vs) i (length vs) ≡ vs
part-sets l i vs h =
    rw (sets-eq vs l i h, append_assoc, drop_at (take i l) (vs ++ drop (i + length vs) l) i (length-take-le i l (omega arith)), take_at vs (drop (i + length vs) l) (length vs) refl)

pub part-sets_in : (l : List ℕ) (i : ℕ) (vs : List ℕ) (k n : ℕ) → i + length vs ≤ length l → k + n ≤ length vs → part (sets l i vs) (i + k) n ≡ part vs k n
part-sets_in l i vs k n h f =
    sym (part-part (sets l i vs) i (length vs) k n f (rw length-sets h)) ∙ ap (λ (x : List ℕ). part x k n) (part-sets l i vs h)

pub part-sets_apart : (l : List ℕ) (i : ℕ) (vs : List ℕ) (j n : ℕ) → j + n ≤ length l → Apart i (length vs) j n → part (sets l i vs) j n ≡ part l j n
part-sets_apart l i vs j n f (inl h) =
    part_ext (sets l i vs) l j n (rw length-sets f) (length-sets l i vs) (λ k b. get_or-sets_behind l i vs (j + k) (omega arith))
part-sets_apart l i vs j n f (inr h) =
    part_ext (sets l i vs) l j n (rw length-sets f) (length-sets l i vs) (λ k b. get_or-sets_before l i vs (j + k) (omega arith))

-- what was written over a whole list is the list
pub sets-whole : (l vs : List ℕ) → length l ≡ length vs → sets l 0 vs ≡ vs
sets-whole l vs e =
    ext_get_or 0 (sets l 0 vs) vs (length-sets l 0 vs ∙ e)
    (λ k b. let c : k < length l = rw length-sets at b in
    let z : 0 + k ≡ k = omega arith in
    ap (λ (x : ℕ). get_or (sets l 0 vs) x 0) (sym z) ∙ sym (get_or-part (sets l 0 vs) 0 (length vs) k (omega arith))
    ∙ ap (λ (x : List ℕ). get_or x k 0) (part-sets l 0 vs (omega arith)))

-- a part of a slice that was written
pub put_mid-sets : (l vs : List ℕ) (i k : ℕ) → k ≡ length vs → i + length vs ≤ length l → put_mid i k l vs ≡ sets l i vs
put_mid-sets l vs i k e h = rw (sets-eq vs l i h, drop-drop, e, append_assoc)

-- ---- sets of sets
-- a write of two parts, one after the other
pub sets-append : (l : List ℕ) (i : ℕ) (vs ws : List ℕ) → sets l i (vs ++ ws) ≡ sets (sets l i vs) (i + length vs) ws
sets-append l i [] ws = rw add-zero
sets-append l i (v ∷ vs) ws = rw (add-suc, ← suc-add) (sets-append (set l i v) (suc i) vs ws)

set-sets : (l : List ℕ) (i a j : ℕ) (ws : List ℕ) → Apart i 1 j (length ws) → set (sets l j ws) i a ≡ sets (set l i a) j ws
set-sets l i a j [] h = refl
set-sets l i a j (w ∷ ws) (inl h) =
    set-sets (set l j w) i a (suc j) ws (inl (omega arith)) ∙ ap (λ (x : List ℕ). sets x (suc j) ws) (set_comm l j i w a (omega arith))
set-sets l i a j (w ∷ ws) (inr h) =
    set-sets (set l j w) i a (suc j) ws (inr (omega arith)) ∙ ap (λ (x : List ℕ). sets x (suc j) ws) (set_comm l j i w a (omega arith))

-- writes apart from each other commute
pub sets_comm : (l : List ℕ) (i : ℕ) (vs : List ℕ) (j : ℕ) (ws : List ℕ) → Apart i (length vs) j (length ws) → sets (sets l i vs) j ws ≡ sets (sets l j ws) i vs
sets_comm l i [] j ws h = refl
sets_comm l i (v ∷ vs) j ws (inl h) =
    sets_comm (set l i v) (suc i) vs j ws (inl (omega arith)) ∙ ap (λ (x : List ℕ). sets x (suc i) vs) (sym (set-sets l i v j ws (inl (omega arith))))
sets_comm l i (v ∷ vs) j ws (inr h) =
    sets_comm (set l i v) (suc i) vs j ws (inr (omega arith)) ∙ ap (λ (x : List ℕ). sets x (suc i) vs) (sym (set-sets l i v j ws (inr (omega arith))))
