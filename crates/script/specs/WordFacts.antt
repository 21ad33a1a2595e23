-- SPDX-License-Identifier: Apache-2.0 AND BSD-3-Clause
-- What the words of a line are, said of its bytes. Assumes nothing.
use Rattle.std.specs.Prelude.{ℕ, zero, suc, ◌+◌, ◌-◌, ◌≤◌, ◌<◌, ◌≡◌, refl, ◌⊎◌, List, [], ◌∷◌, length, get_or, take, drop, Option, Some, None}
use Rattle.std.proofs.Common.{sym, ap, ap₂, ◌∙◌, inl, inr, add-zero, arith, length-drop, length-take-le, get_or-drop}
use Rattle.std.proofs.lemmas.List.{take_rest}
use Rattle.std.proofs.lemmas.Option.{none-some, some_pair_parts}
use Rattle.script.specs.declared.words.Kind.{Kind}
use Rattle.script.specs.declared.words.Kind.TheVariants.{Blank, Comment, Letter}
use Rattle.script.specs.Words.{kind_of, end_by, word_end, word_end_run, start_by, first_word, word_from, word_bytes, word_bytes-part, parts, next_word}

-- the word from start up to end is the first one from a place on: before it stand blanks alone, and no `#`; it has at least one
-- byte, all of its bytes are letters, and it ends at the line's end or before a byte that is none
pub record FirstWord (line : List ℕ) (from start end : ℕ) : Type 0 where
  pub after : from ≤ start
  pub some : start < end
  pub within : end ≤ length line
  pub gap : (k : ℕ) → from ≤ k → k < start → kind_of (get_or line k 0) ≡ Blank
  pub letters : (k : ℕ) → start ≤ k → k < end → kind_of (get_or line k 0) ≡ Letter
  pub stops : end < length line → kind_of (get_or line end 0) ≡ Letter → ⊥

-- before place k, from a place on, a comment starts
pub record Hidden (line : List ℕ) (from k : ℕ) : Type 0 where
  pub place : ℕ
  pub after : from ≤ place
  pub before : place < k
  pub hash : kind_of (get_or line place 0) ≡ Comment

-- ---- a list whose first byte stands at place i: its byte x stands at i + x

-- a word that goes on from i ends at e
record Ends (i : ℕ) (l : List ℕ) (e : ℕ) : Type 0 where
  least : i ≤ e
  most : e ≤ i + length l
  letters : (k x : ℕ) → k ≡ i + x → k < e → kind_of (get_or l x 0) ≡ Letter
  stops : (x : ℕ) → e ≡ i + x → x < length l → kind_of (get_or l x 0) ≡ Letter → ⊥

ends_nothing : (i : ℕ) → Ends i [] i
ends_nothing i = record {
  least = omega arith;
  most = omega arith;
  letters = λ k x p q. absurd (omega arith);
  stops = λ x p q r. absurd (omega arith);
}

ends_here : (b i : ℕ) (rest : List ℕ) → (kind_of b ≡ Letter → ⊥) → Ends i (b ∷ rest) i
ends_here b i rest h = record {
  least = omega arith;
  most = omega arith;
  letters = λ k x p q. absurd (omega arith);
  stops = at_end;
}
  where
    at_end : (x : ℕ) → i ≡ i + x → x < length (b ∷ rest) → kind_of (get_or (b ∷ rest) x 0) ≡ Letter → ⊥
    at_end zero p q r = h r
    at_end (suc x) p q r = omega arith

ends_later : (b i e : ℕ) (rest : List ℕ) → kind_of b ≡ Letter → Ends (suc i) rest e → Ends i (b ∷ rest) e
ends_later b i e rest h s = record {
  least = let m = s.least in omega arith;
  most = let m = s.most in omega arith;
  letters = in_word;
  stops = at_end;
}
  where
    in_word : (k x : ℕ) → k ≡ i + x → k < e → kind_of (get_or (b ∷ rest) x 0) ≡ Letter
    in_word k zero p q = h
    in_word k (suc x) p q = s.letters k x (omega arith) q

    at_end : (x : ℕ) → e ≡ i + x → x < length (b ∷ rest) → kind_of (get_or (b ∷ rest) x 0) ≡ Letter → ⊥
    at_end zero p q r = let m = s.least in omega arith
    at_end (suc x) p q r = s.stops x (omega arith) (omega arith) r

not_letter : (k : Kind) → (k ≡ Blank) ⊎ (k ≡ Comment) → k ≡ Letter → ⊥
not_letter k (inl e) h = let z : ◌≡◌ {A = ℕ} 0 1 = cc in omega arith
not_letter k (inr e) h = let z : ◌≡◌ {A = ℕ} 0 1 = cc in omega arith

ends_by : (k : Kind) (b i : ℕ) (rest : List ℕ) → kind_of b ≡ k → Ends (suc i) rest (word_end (suc i) rest)
    → Ends i (b ∷ rest) (end_by k i (word_end (suc i) rest))
ends_by Blank b i rest e s = ends_here b i rest (not_letter (kind_of b) (inl e))
ends_by Comment b i rest e s = ends_here b i rest (not_letter (kind_of b) (inr e))
ends_by Letter b i rest e s = ends_later b i (word_end (suc i) rest) rest e s

ends : (i : ℕ) (l : List ℕ) → Ends i l (word_end i l)
unfolding word_end
ends i [] = ends_nothing i
ends i (b ∷ rest) = ends_by (kind_of b) b i rest refl (ends (suc i) rest)

-- the first word of the list goes from s up to e
record First (i : ℕ) (l : List ℕ) (s e : ℕ) : Type 0 where
  after : i ≤ s
  some : s < e
  within : e ≤ i + length l
  gap : (k x : ℕ) → k ≡ i + x → k < s → kind_of (get_or l x 0) ≡ Blank
  letters : (k x : ℕ) → k ≡ i + x → s ≤ k → k < e → kind_of (get_or l x 0) ≡ Letter
  stops : (x : ℕ) → e ≡ i + x → x < length l → kind_of (get_or l x 0) ≡ Letter → ⊥

first_here : (b i e : ℕ) (rest : List ℕ) → suc i ≤ e → Ends i (b ∷ rest) e → First i (b ∷ rest) i e
first_here b i e rest h s = record {
  after = omega arith;
  some = h;
  within = s.most;
  gap = λ k x p q. absurd (omega arith);
  letters = λ k x p q r. s.letters k x p r;
  stops = s.stops;
}

first_later : (b i s e : ℕ) (rest : List ℕ) → kind_of b ≡ Blank → First (suc i) rest s e → First i (b ∷ rest) s e
first_later b i s e rest h f = record {
  after = let m = f.after in omega arith;
  some = f.some;
  within = let m = f.within in omega arith;
  gap = before;
  letters = in_word;
  stops = at_end;
}
  where
    before : (k x : ℕ) → k ≡ i + x → k < s → kind_of (get_or (b ∷ rest) x 0) ≡ Blank
    before k zero p q = h
    before k (suc x) p q = f.gap k x (omega arith) q

    in_word : (k x : ℕ) → k ≡ i + x → s ≤ k → k < e → kind_of (get_or (b ∷ rest) x 0) ≡ Letter
    in_word k zero p q r = let m = f.after in absurd (omega arith)
    in_word k (suc x) p q r = f.letters k x (omega arith) q r

    at_end : (x : ℕ) → e ≡ i + x → x < length (b ∷ rest) → kind_of (get_or (b ∷ rest) x 0) ≡ Letter → ⊥
    at_end zero p q r = let m = f.after in let n = f.some in omega arith
    at_end (suc x) p q r = f.stops x (omega arith) (omega arith) r

first_by : (k : Kind) (b i s e : ℕ) (rest : List ℕ) → kind_of b ≡ k
    → (first_word (suc i) rest ≡ Some (s, e) → First (suc i) rest s e)
    → start_by k (Some (i, word_end (suc i) rest)) (first_word (suc i) rest) ≡ Some (s, e) → First i (b ∷ rest) s e
first_by Blank b i s e rest h f p = first_later b i s e rest h (f p)
first_by Comment b i s e rest h f p = let z : ◌≡◌ {A = ℕ} 0 1 = cc in absurd (omega arith)
first_by Letter b i s e rest h f p =
    let same = some_pair_parts i s (word_end (suc i) rest) e p in
    let w = ends (suc i) rest in
    rw (← same.0, ← same.1) (first_here b i (word_end (suc i) rest) rest w.least (ends_later b i (word_end (suc i) rest) rest h w))

first : (i s e : ℕ) (l : List ℕ) → first_word i l ≡ Some (s, e) → First i l s e
unfolding first_word
first i s e [] p = let z : ◌≡◌ {A = ℕ} 0 1 = cc in absurd (omega arith)
first i s e (b ∷ rest) p = first_by (kind_of b) b i s e rest refl (first (suc i) s e rest) p

-- where no word is, a letter at x stands behind a `#`
hash_first : (k : Kind) (b i x : ℕ) (rest : List ℕ) → kind_of b ≡ k
    → ((y : ℕ) → first_word (suc i) rest ≡ None → y < length rest → kind_of (get_or rest y 0) ≡ Letter → Hidden rest 0 y)
    → start_by k (Some (i, word_end (suc i) rest)) (first_word (suc i) rest) ≡ None → x < length (b ∷ rest)
    → kind_of (get_or (b ∷ rest) x 0) ≡ Letter → Hidden (b ∷ rest) 0 x
hash_first Letter b i x rest h f p q r = let z : ◌≡◌ {A = ℕ} 0 1 = cc in absurd (omega arith)
hash_first Comment b i zero rest h f p q r = absurd (not_letter (kind_of b) (inr h) r)
hash_first Comment b i (suc x) rest h f p q r = record { place = 0; after = omega arith; before = omega arith; hash = h }
hash_first Blank b i zero rest h f p q r = absurd (not_letter (kind_of b) (inl h) r)
hash_first Blank b i (suc x) rest h f p q r =
    let d = f x p (omega arith) r in
    record { place = suc d.place; after = omega arith; before = (let m = d.before in omega arith); hash = d.hash }

hash : (i x : ℕ) (l : List ℕ) → first_word i l ≡ None → x < length l → kind_of (get_or l x 0) ≡ Letter → Hidden l 0 x
unfolding first_word
hash i x [] p q r = absurd (omega arith)
hash i x (b ∷ rest) p q r = hash_first (kind_of b) b i x rest refl (λ y. hash (suc i) y rest) p q r

-- ---- the same of a line

pub word_from_word : (line : List ℕ) (from start end : ℕ) → word_from line from ≡ Some (start, end) → FirstWord line from start end
unfolding word_from
word_from_word line from start end p =
    let f = first from start end (drop from line) p in
    let size = length-drop from line in
    let a = f.after in
    let m = f.some in
    let w = f.within in
    record {
      after = a;
      some = m;
      within = omega arith;
      gap = λ k h q. rw (at k h) (f.gap k (k - from) (omega arith) q);
      letters = λ k h q. rw (at k (omega arith)) (f.letters k (k - from) (omega arith) h q);
      stops = λ h q. f.stops (end - from) (omega arith) (omega arith) (rw (at end (omega arith)) at q);
    }
  where
    at : (k : ℕ) → from ≤ k → get_or line k 0 ≡ get_or (drop from line) (k - from) 0
    at k h = let e : k ≡ from + (k - from) = omega arith in ap (λ (n : ℕ). get_or line n 0) e ∙ sym (get_or-drop from line (k - from) 0)

hidden_from : (line : List ℕ) (from x : ℕ) → Hidden (drop from line) 0 x → Hidden line from (from + x)
hidden_from line from x d =
    let b = d.before in
    record {
      place = from + d.place;
      after = omega arith;
      before = omega arith;
      hash = ap kind_of (sym (get_or-drop from line d.place 0)) ∙ d.hash;
    }

pub word_from_none : (line : List ℕ) (from k : ℕ) → word_from line from ≡ None → from ≤ k → k < length line
    → kind_of (get_or line k 0) ≡ Letter → Hidden line from k
unfolding word_from
word_from_none line from k p h q r =
    let size = length-drop from line in
    let e : from + (k - from) ≡ k = omega arith in
    let letter : kind_of (get_or (drop from line) (k - from) 0) ≡ Letter = rw (get_or-drop from line (k - from) 0, e) r in
    rw e at (hidden_from line from (k - from) (hash from (k - from) (drop from line) p (omega arith) letter))

-- ---- from a place on, as at the start of what follows it

-- the places of a word in a line, of those in what follows a place
abbrev pub moved : ℕ → Option (ℕ × ℕ) → Option (ℕ × ℕ)
moved from None = None
moved from (Some p) = Some (from + p.0, from + p.1)

moved_by : (k : Kind) (i j : ℕ) (rest : List ℕ) → first_word (suc (i + j)) rest ≡ moved i (first_word (suc j) rest)
    → start_by k (Some (i + j, word_end (suc (i + j)) rest)) (first_word (suc (i + j)) rest)
    ≡ moved i (start_by k (Some (j, word_end (suc j) rest)) (first_word (suc j) rest))
moved_by Blank i j rest h = h
moved_by Comment i j rest h = refl
moved_by Letter i j rest h =
    let e : word_end (suc (i + j)) rest ≡ i + word_end (suc j) rest = omega (arith, word_end_run (suc (i + j)) rest, word_end_run (suc j) rest) in
    ap (λ (x : ℕ). Some (i + j, x)) e

first_word_moved : (i j : ℕ) (l : List ℕ) → first_word (i + j) l ≡ moved i (first_word j l)
unfolding first_word
first_word_moved i j [] = refl
first_word_moved i j (b ∷ rest) =
    let e : i + suc j ≡ suc (i + j) = omega arith in
    moved_by (kind_of b) i j rest (rw e at (first_word_moved i (suc j) rest))

pub word_from_rest : (line : List ℕ) (from : ℕ) → word_from line from ≡ moved from (word_from (drop from line) 0)
unfolding word_from
word_from_rest line from = rw add-zero at (first_word_moved from 0 (drop from line))

-- ---- a word and what follows it, as places

-- the word goes from one place up to another, and both are found again by what follows the word
record Placed (line word after : List ℕ) (start end : ℕ) : Type 0 where
  first : start + length word ≡ end
  last : end + length after ≡ length line

placed : (line word after : List ℕ) (start end : ℕ) → word_from line 0 ≡ Some (start, end) → parts line (Some (start, end)) ≡ Some (word, after)
    → Placed line word after start end
placed line word after start end e h =
    let w = word_from_word line 0 start end e in
    let some = w.some in
    let within = w.within in
    let same = some_pair_parts (word_bytes line start end) word (drop end line) after h in
    let cut : word ≡ take (end - start) (drop start line) = sym same.0 ∙ word_bytes-part line start end within in
    let room : end - start ≤ length (drop start line) = omega (arith, length-drop start line) in
    let size : length word ≡ end - start = ap length cut ∙ length-take-le (end - start) (drop start line) room in
    let rest : length after ≡ length line - end = ap length (sym same.1) ∙ length-drop end line in
    record { first = omega arith; last = omega arith }

pub next_word_within : (line word after : List ℕ) → next_word line ≡ Some (word, after) → length word + length after ≤ length line
unfolding next_word
next_word_within line word after = told (word_from line 0) refl
  where
    told : (o : Option (ℕ × ℕ)) → word_from line 0 ≡ o → parts line o ≡ Some (word, after) → length word + length after ≤ length line
    told None e h = absurd (none-some (word, after) h)
    told (Some p) e h = let w = placed line word after p.0 p.1 e h in omega (arith, w.first, w.last)

-- the places of a word in a line that ends with the word and with what follows it
abbrev pub placed_before : List ℕ → Option (List ℕ × List ℕ) → Option (ℕ × ℕ)
placed_before line None = None
placed_before line (Some p) = Some (length line - length p.1 - length p.0, length line - length p.1)

-- the first word of what follows a place is the line's first word from that place on
pub word_from_next : (line : List ℕ) (from : ℕ) → from ≤ length line
    → word_from line from ≡ placed_before line (next_word (take (length line - from) (drop from line)))
unfolding next_word
word_from_next line from h = rw (take_rest, word_from_rest line from) (told (word_from (drop from line) 0) refl)
  where
    told : (o : Option (ℕ × ℕ)) → word_from (drop from line) 0 ≡ o → moved from o ≡ placed_before line (parts (drop from line) o)
    told None e = refl
    told (Some p) e =
        let w = placed (drop from line) (word_bytes (drop from line) p.0 p.1) (drop p.1 (drop from line)) p.0 p.1 e refl in
        let first = w.first in
        let last = w.last in
        let size = length-drop from line in
        let start : from + p.0 ≡ length line - length (drop p.1 (drop from line)) - length (word_bytes (drop from line) p.0 p.1) = omega arith in
        let end : from + p.1 ≡ length line - length (drop p.1 (drop from line)) = omega arith in
        ap₂ (λ (x y : ℕ). Some (x, y)) start end
