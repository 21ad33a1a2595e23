-- SPDX-License-Identifier: Apache-2.0 AND BSD-3-Clause
-- The words of a line, as the replay language has them. Assumes nothing.
use Rattle.std.specs.Prelude.{ℕ, suc, ◌+◌, ◌-◌, ◌≤◌, ◌<◌, ◌≡◌, ◌⊎◌, Bool, true, false, cond, ◌||◌, List, [], ◌∷◌, eqb, leb, length, take, drop, Option, Some, None, get_or}
use Rattle.std.specs.List.{prefix_len}
use Rattle.std.proofs.lemmas.List.{take_rest}
use Rattle.std.proofs.lemmas.List.Sums.{prefix_len-le-length}
use Prim.Native.Char.{code}
use Rattle.std.proofs.Common.{refl, sym, ap, ap₂, ◌∙◌, inl, inr, zero-add, arith, length-drop, drop-drop, ne_eqb, le-leb, add-one, drop_of_length-le, drop-cons}
use Rattle.std.proofs.lemmas.Bool.{lt-leb}
use Rattle.script.specs.declared.words.Kind.{Kind}
use Rattle.script.specs.declared.words.Kind.TheVariants.{Blank, Comment, Letter}

-- a space, a tab or a carriage return stands between words, `#` starts a comment, and every other byte belongs to a word
unfoldable pub kind_of : ℕ → Kind
kind_of b = cond (eqb b (code " ") || eqb b (code "\t") || eqb b (code "\r")) Blank (cond (eqb b (code "#")) Comment Letter)

-- a word goes on after a letter, and ends at any other byte
abbrev pub end_by : Kind → ℕ → ℕ → ℕ
end_by Letter here later = later
end_by Comment here later = here
end_by Blank here later = here

-- where the word ends whose bytes go on with the list, the first of them at place i
unfoldable pub word_end : ℕ → List ℕ → ℕ
word_end i [] = i
word_end i (b ∷ rest) = end_by (kind_of b) i (word_end (suc i) rest)

-- a letter starts a word, after a blank the word comes later, and after `#` there is none
abbrev pub start_by : Kind → Option (ℕ × ℕ) → Option (ℕ × ℕ) → Option (ℕ × ℕ)
start_by Letter here later = here
start_by Comment here later = None
start_by Blank here later = later

-- the first word of a list whose first byte stands at place i
unfoldable pub first_word : ℕ → List ℕ → Option (ℕ × ℕ)
first_word i [] = None
first_word i (b ∷ rest) = start_by (kind_of b) (Some (i, word_end (suc i) rest)) (first_word (suc i) rest)

-- the first word of a line from a place on
unfoldable pub word_from : List ℕ → ℕ → Option (ℕ × ℕ)
word_from line from = first_word from (drop from line)

-- the bytes of a line from start up to end; none where the line does not have them all
unfoldable pub word_bytes : List ℕ → ℕ → ℕ → List ℕ
word_bytes line start end = cond (leb end (length line)) (take (end - start) (drop start line)) []

-- the bytes of the word that goes from one place up to another, and those after it
abbrev pub parts : List ℕ → Option (ℕ × ℕ) → Option (List ℕ × List ℕ)
parts line None = None
parts line (Some p) = Some (word_bytes line p.0 p.1, drop p.1 line)

-- the first word of a line, and what follows it
unfoldable pub next_word : List ℕ → Option (List ℕ × List ℕ)
next_word line = parts line (word_from line 0)

-- ---- laws: one for each way to answer

pub kind_of_blank : (b : ℕ) → (b ≡ 9) ⊎ ((b ≡ 13) ⊎ (b ≡ 32)) → Blank ≡ kind_of b
unfolding kind_of
kind_of_blank b (inl e) = rw e
kind_of_blank b (inr (inl e)) = rw e
kind_of_blank b (inr (inr e)) = rw e

pub kind_of_comment : (b : ℕ) → b ≡ 35 → Comment ≡ kind_of b
unfolding kind_of
kind_of_comment b e = rw e

pub kind_of_letter : (b : ℕ) → ((b ≡ 9) ⊎ ((b ≡ 13) ⊎ (b ≡ 32)) → ⊥) → (b ≡ 35 → ⊥) → Letter ≡ kind_of b
unfolding kind_of
kind_of_letter b blank hash =
    rw
    (ne_eqb b 32 (λ e. blank (inr (inr e))), ne_eqb b 9 (λ e. blank (inl e)), ne_eqb b 13 (λ e. blank (inr (inl e))), ne_eqb b 35 hash)

pub word_end_past : (i : ℕ) (l : List ℕ) → length l ≤ i → word_end i (drop i l) ≡ i
unfolding word_end
word_end_past i l h = ap (word_end i) (drop_of_length-le l h)

pub word_end_at : (i : ℕ) (l : List ℕ) (k : Kind) → i < length l → k ≡ kind_of (get_or l i 0)
    → word_end i (drop i l) ≡ end_by k i (word_end (i + 1) (drop (i + 1) l))
unfolding word_end
word_end_at i l k h e = rw (e, add-one, drop-cons l i 0)

pub first_word_past : (i : ℕ) (l : List ℕ) → length l ≤ i → first_word i (drop i l) ≡ None
unfolding first_word
first_word_past i l h = ap (first_word i) (drop_of_length-le l h)

pub first_word_at : (i : ℕ) (l : List ℕ) (k : Kind) → i < length l → k ≡ kind_of (get_or l i 0)
    → first_word i (drop i l) ≡ start_by k (Some (i, word_end (i + 1) (drop (i + 1) l))) (first_word (i + 1) (drop (i + 1) l))
unfolding first_word
first_word_at i l k h e = rw (e, add-one, drop-cons l i 0)

pub word_from_past : (line : List ℕ) (from : ℕ) → length line < from → None ≡ word_from line from
unfolding word_from
word_from_past line from h = let past : length line ≤ from = omega arith in sym (first_word_past from line past)

pub word_bytes_past : (l : List ℕ) (start end : ℕ) → length l < end → word_bytes l start end ≡ []
unfolding word_bytes
word_bytes_past l start end h = rw (lt-leb end (length l) h)

pub word_bytes-part : (l : List ℕ) (start end : ℕ) → end ≤ length l → word_bytes l start end ≡ take (end - start) (drop start l)
unfolding word_bytes
word_bytes-part l start end h = rw (le-leb end (length l) h)

pub word_bytes_empty : (l : List ℕ) (start end : ℕ) → end ≤ length l → end ≤ start → word_bytes l start end ≡ []
word_bytes_empty l start end h k =
    let none : end - start ≡ 0 = omega arith in
    word_bytes-part l start end h ∙ ap (λ (n : ℕ). take n (drop start l)) none

-- ---- laws: a run of bytes of a kind

abbrev pub same_kind : Kind → Kind → Bool
same_kind Blank Blank = true
same_kind Blank Comment = false
same_kind Blank Letter = false
same_kind Comment Blank = false
same_kind Comment Comment = true
same_kind Comment Letter = false
same_kind Letter Blank = false
same_kind Letter Comment = false
same_kind Letter Letter = true

-- how many bytes at the front of a list are of a kind
abbrev pub run_of : Kind → List ℕ → ℕ
run_of kind l = prefix_len (λ b. same_kind (kind_of b) kind) l

-- a word ends after the run of letters that it begins with
end_of_run : (k : Kind) (i m : ℕ) → end_by k i (suc i + m) ≡ i + cond (same_kind k Letter) (1 + m) 0
end_of_run Blank i m = omega arith
end_of_run Comment i m = omega arith
end_of_run Letter i m = omega arith

pub word_end_run : (i : ℕ) (l : List ℕ) → word_end i l ≡ i + run_of Letter l
unfolding word_end
word_end_run i [] = omega arith
word_end_run i (b ∷ rest) = ap (end_by (kind_of b) i) (word_end_run (suc i) rest) ∙ end_of_run (kind_of b) i (run_of Letter rest)

one_more : (n : ℕ) → 1 + n ≡ suc n
one_more n = omega arith

-- what comes after the blanks is no letter: there is no word
none_by : (k : Kind) (b i : ℕ) (rest : List ℕ) → kind_of b ≡ k
    → (run_of Letter (drop (run_of Blank rest) rest) ≡ 0 → first_word (suc i) rest ≡ None)
    → run_of Letter (drop (run_of Blank (b ∷ rest)) (b ∷ rest)) ≡ 0 → first_word i (b ∷ rest) ≡ None
unfolding first_word
none_by Blank b i rest e f h = rw e (f (rw (e, one_more) at h))
none_by Comment b i rest e f h = rw e
none_by Letter b i rest e f h = let z = rw (e, e) at h in absurd (omega arith)

first_word_none : (i : ℕ) (l : List ℕ) → run_of Letter (drop (run_of Blank l) l) ≡ 0 → first_word i l ≡ None
unfolding first_word
first_word_none i [] h = refl
first_word_none i (b ∷ rest) h = none_by (kind_of b) b i rest refl (first_word_none (suc i) rest) h

-- letters come after the blanks: they are the word
found : ℕ → ℕ → ℕ → Option (ℕ × ℕ)
found i s n = Some (i + s, i + s + n)

found_later : (i s n : ℕ) → found (suc i) s n ≡ found i (suc s) n
unfolding found
found_later i s n = let e : suc i + s ≡ i + suc s = omega arith in ap (λ (x : ℕ). Some (x, x + n)) e

found_here : (i e n : ℕ) → e ≡ suc i + n → Some (i, e) ≡ found i 0 (suc n)
unfolding found
found_here i e n h =
    let p : i ≡ i + 0 = omega arith in
    let q : e ≡ i + 0 + suc n = omega arith in
    ap₂ (λ (x y : ℕ). Some (x, y)) p q

some_by : (k : Kind) (b i : ℕ) (rest : List ℕ) → kind_of b ≡ k
    → (0 < run_of Letter (drop (run_of Blank rest) rest)
    → first_word (suc i) rest ≡ found (suc i) (run_of Blank rest) (run_of Letter (drop (run_of Blank rest) rest)))
    → 0 < run_of Letter (drop (run_of Blank (b ∷ rest)) (b ∷ rest))
    → first_word i (b ∷ rest) ≡ found i (run_of Blank (b ∷ rest)) (run_of Letter (drop (run_of Blank (b ∷ rest)) (b ∷ rest)))
unfolding first_word
some_by Blank b i rest e f h = rw (e, one_more) (f (rw (e, one_more) at h) ∙ found_later i (run_of Blank rest) (run_of Letter (drop (run_of Blank rest) rest)))
some_by Comment b i rest e f h = let z = rw (e, e) at h in absurd (omega arith)
some_by Letter b i rest e f h = rw (e, e, one_more) (found_here i (word_end (suc i) rest) (run_of Letter rest) (word_end_run (suc i) rest))

first_word_some : (i : ℕ) (l : List ℕ) → 0 < run_of Letter (drop (run_of Blank l) l)
    → first_word i l ≡ found i (run_of Blank l) (run_of Letter (drop (run_of Blank l) l))
unfolding first_word
first_word_some i [] h = absurd (omega arith)
first_word_some i (b ∷ rest) h = some_by (kind_of b) b i rest refl (first_word_some (suc i) rest) h

-- the places of a word as its bytes
found_parts : (line : List ℕ) (s n : ℕ) → s + n ≤ length line → parts line (found 0 s n) ≡ Some (take n (drop s line), drop n (drop s line))
unfolding found
found_parts line s n h =
    let size : s + n - s ≡ n = omega arith in
    let word : word_bytes line s (s + n) ≡ take n (drop s line) = word_bytes-part line s (s + n) h ∙ ap (λ (k : ℕ). take k (drop s line)) size in
    rw zero-add (ap₂ (λ (x y : List ℕ). Some (x, y)) word (sym (drop-drop n s line)))

-- the rest of a line begins after its blanks, and a word is the run of letters there
module _ (line : List ℕ) (s n : ℕ) (blanks : s ≡ run_of Blank line) (run : n ≡ run_of Letter (take (length line - s) (drop s line))) where
  part : take (length line - s) (drop s line) ≡ drop (run_of Blank line) line
  part = rw (take_rest, blanks)

  pub next_word_none : n ≡ 0 → next_word line ≡ None
  unfolding next_word word_from
  next_word_none h = ap (parts line) (first_word_none 0 line (rw part at (sym run ∙ h)))

  pub next_word_some : 0 < n → next_word line ≡ Some (take n (take (length line - s) (drop s line)), drop n (take (length line - s) (drop s line)))
  unfolding next_word word_from
  next_word_some h =
      let most = prefix_len-le-length (λ b. same_kind (kind_of b) Blank) line in
      let more = prefix_len-le-length (λ b. same_kind (kind_of b) Letter) (drop (run_of Blank line) line) in
      let size = length-drop (run_of Blank line) line in
      let letters : n ≡ run_of Letter (drop (run_of Blank line) line) = rw part at run in
      let inside : run_of Blank line + run_of Letter (drop (run_of Blank line) line) ≤ length line = omega arith in
      rw (part, letters)
      (ap (parts line) (first_word_some 0 line (rw letters at h)) ∙ found_parts line (run_of Blank line) (run_of Letter (drop (run_of Blank line) line)) inside)
