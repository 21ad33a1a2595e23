-- SPDX-License-Identifier: Apache-2.0 AND BSD-3-Clause
-- The numbers of a line. Assumes nothing.
use Rattle.std.specs.Prelude.{ℕ, zero, suc, ◌+◌, ◌^◌, ◌≤◌, ◌<◌, ◌≡◌, refl, ◌⊎◌, min, Bool, true, false, cond, ◌&&◌, ◌||◌, eqb, List, [], ◌∷◌, ◌++◌, length, drop, get_or, leb, ltb, Option, Some, None, Result, Ok, Err, MatchResult}
use Prim.Native.Char.{code}
use Rattle.std.specs.Option.{option_map}
use Rattle.std.proofs.Common.{sym, ap, ◌∙◌, arith, add-one, drop-cons, append_assoc, length-drop, drop_of_length-le, append-nil, inl, inr, ltb-true, ltb-false}
use Rattle.std.proofs.lemmas.Option.{some_pair_parts}
use Rattle.script.specs.declared.commands.Command.{Command}
use Rattle.script.specs.Numbers.{number_of}
use Rattle.script.specs.Words.{next_word, word_from, word_bytes, first_word, parts}
use Rattle.script.specs.WordFacts.{word_from_word}
use Rattle.lines.specs.declared.forms.Kind.{Kind}
use Rattle.lines.specs.declared.forms.Kind.TheVariants.{Half}
use Rattle.lines.specs.declared.state.Fault.{Fault}
use Rattle.lines.specs.declared.state.Fault.TheVariants.{WrongWords, NotNumber}
use Rattle.lines.specs.declared.reading.Numbers.{Numbers}
use Rattle.lines.specs.Forms.{kinds_of, most_of, kind_at, largest}

-- number i of a line, 0 where it has none
abbrev pub number_at : Numbers → ℕ → ℕ
number_at n i = get_or n.values.items i 0

-- a word, if there is one, and those of what follows it
abbrev pub with_rest : Option (List ℕ × List ℕ) → (List ℕ → List (List ℕ)) → List (List ℕ)
with_rest None words = []
with_rest (Some p) words = p.0 ∷ words p.1

-- the words of a line, n at most
unfoldable pub words_in : ℕ → List ℕ → List (List ℕ)
words_in zero line = []
words_in (suc n) line = with_rest (next_word line) (words_in n)

-- the words of a line, from left to right: each takes a byte at least
unfoldable pub words_of : List ℕ → List (List ℕ)
words_of line = words_in (length line) line

-- a `-`, where a half may stand
abbrev pub is_dash : Kind → List ℕ → Bool
is_dash Half word = eqb (length word) 1 && eqb (get_or word 0 0) (code "-")
is_dash _ word = false

-- a number, where it is at most so large
abbrev pub up_to : ℕ → Option ℕ → Option ℕ
up_to most None = None
up_to most (Some n) = cond (leb n most) (Some n) None

-- the number that a word says, as one of its kind; 2^32 stands for a `-`
unfoldable pub number_as : Kind → List ℕ → Option ℕ
number_as k word = cond (is_dash k word) (Some (2 ^ 32)) (up_to (largest k) (number_of word))

-- a number and those after it, where there are all
abbrev pub before : Option ℕ → Option (List ℕ) → Option (List ℕ)
before None ns = None
before (Some n) ns = option_map (λ rest. n ∷ rest) ns

-- the numbers of a command's words, of which the first is number i; none where one of them says none
unfoldable pub numbers_from : Command → ℕ → List (List ℕ) → Option (List ℕ)
numbers_from c i [] = Some []
numbers_from c i (w ∷ ws) = before (number_as (kind_at c i) w) (numbers_from c (suc i) ws)

-- the numbers, if there are
abbrev pub or_wrong : Option (List ℕ) → Result (List ℕ) Fault
or_wrong None = Err NotNumber
or_wrong (Some ns) = Ok ns

-- the numbers of a command's words, or why they are wrong: the words are counted first
unfoldable pub numbers_of : Command → List (List ℕ) → Result (List ℕ) Fault
numbers_of c ws = cond (ltb (length ws) (length (kinds_of c)) || ltb (most_of c) (length ws)) (Err WrongWords) (or_wrong (numbers_from c 0 ws))

-- ---- laws: the words of a line

shorter_by : (line w rest : List ℕ) (o : Option (ℕ × ℕ)) → word_from line 0 ≡ o → parts line o ≡ Some (w, rest) → length rest < length line
shorter_by line w rest None e p = let z : ◌≡◌ {A = ℕ} 0 1 = cc in absurd (omega arith)
shorter_by line w rest (Some q) e p =
    let f = word_from_word line 0 q.0 q.1 e in
    let same = some_pair_parts (word_bytes line q.0 q.1) w (drop q.1 line) rest p in
    let some = f.some in
    let within = f.within in
    let size = length-drop q.1 line in
    let left : length rest ≡ length (drop q.1 line) = ap length (sym same.1) in
    omega arith

-- what follows a word is shorter than the line
pub shorter : (line w rest : List ℕ) → next_word line ≡ Some (w, rest) → length rest < length line
unfolding next_word
shorter line w rest e = shorter_by line w rest (word_from line 0) refl e

no_word : (line : List ℕ) → length line ≤ 0 → next_word line ≡ None
unfolding next_word word_from first_word
no_word [] h = refl
no_word (b ∷ rest) h = absurd (omega arith)

words_in_none : (n : ℕ) (line : List ℕ) → next_word line ≡ None → words_in n line ≡ []
unfolding words_in
words_in_none zero line e = refl
words_in_none (suc n) line e = ap (λ (o : Option (List ℕ × List ℕ)). with_rest o (words_in n)) e

words_on : (n m : ℕ) (line : List ℕ) (o : Option (List ℕ × List ℕ)) → next_word line ≡ o
    → ((rest : List ℕ) → length rest ≤ n → length rest ≤ m → words_in n rest ≡ words_in m rest)
    → length line ≤ suc n → length line ≤ suc m → with_rest o (words_in n) ≡ with_rest o (words_in m)
words_on n m line None e f h k = refl
words_on n m line (Some p) e f h k =
    let less = shorter line p.0 p.1 e in
    ap (λ (ws : List (List ℕ)). p.0 ∷ ws) (f p.1 (omega arith) (omega arith))

-- any number that is large enough gives all words
words_in_all : (n m : ℕ) (line : List ℕ) → length line ≤ n → length line ≤ m → words_in n line ≡ words_in m line
unfolding words_in
words_in_all zero m line h k = sym (words_in_none m line (no_word line h))
words_in_all (suc n) zero line h k = words_in_none (suc n) line (no_word line k)
words_in_all (suc n) (suc m) line h k = words_on n m line (next_word line) refl (words_in_all n m) h k

pub words_of_none : (line : List ℕ) → next_word line ≡ None → words_of line ≡ []
unfolding words_of
words_of_none line e = words_in_none (length line) line e

pub words_of_some : (line w rest : List ℕ) → next_word line ≡ Some (w, rest) → words_of line ≡ w ∷ words_of rest
unfolding words_of words_in
words_of_some line w rest e = by (length line) refl
  where
    by : (n : ℕ) → n ≡ length line → words_in n line ≡ w ∷ words_of rest
    by zero q = let less = shorter line w rest e in absurd (omega arith)
    by (suc n) q =
        let less = shorter line w rest e in
        ap (λ (o : Option (List ℕ × List ℕ)). with_rest o (words_in n)) e
        ∙ ap (λ (ws : List (List ℕ)). w ∷ ws) (words_in_all n (length rest) rest (omega arith) (omega arith))

-- ---- laws: the numbers of the words, one after the other

module _ (c : Command) (ws : List (List ℕ)) (ns : List ℕ) (k : ℕ) where
  -- the numbers so far, and those of the words from k on
  abbrev pub Reads : Type 0
  Reads = numbers_from c 0 ws ≡ option_map (λ rest. ns ++ rest) (numbers_from c k (drop k ws))

  at : (w : List ℕ) → k < length ws → w ≡ get_or ws k w
      → numbers_from c k (drop k ws) ≡ before (number_as (kind_at c k) w) (numbers_from c (suc k) (drop (suc k) ws))
  unfolding numbers_from
  at w h e = rw (drop-cons ws k w h, ← e) refl

  pub reads_end : k ≡ length ws → Reads → numbers_from c 0 ws ≡ Some ns
  unfolding numbers_from
  reads_end e r =
      let none : drop k ws ≡ [] = drop_of_length-le ws (omega arith) in
      r ∙ rw none (ap Some (append-nil ns))

  pub reads_none : (w : List ℕ) → k < length ws → w ≡ get_or ws k w → number_as (kind_at c k) w ≡ None → Reads → numbers_from c 0 ws ≡ None
  reads_none w h e n r = r ∙ rw (at w h e, n) refl

moved : (ns : List ℕ) (n : ℕ) (o : Option (List ℕ)) → option_map (λ rest. ns ++ rest) (before (Some n) o) ≡ option_map (λ rest. (ns ++ n ∷ []) ++ rest) o
moved ns n None = refl
moved ns n (Some rest) = ap Some (sym (append_assoc ns (n ∷ []) rest))

pub reads_more : (c : Command) (ws : List (List ℕ)) (ns ns' : List ℕ) (k k' : ℕ) (w : List ℕ) (n : ℕ) → ns' ≡ ns ++ n ∷ [] → k' ≡ k + 1
    → k < length ws → w ≡ get_or ws k w → number_as (kind_at c k) w ≡ Some n → Reads c ws ns k → Reads c ws ns' k'
reads_more c ws ns ns' k k' w n p q h e some r =
    rw (p, q, add-one) (r ∙ rw (at c ws ns k w h e, some) (moved ns n (numbers_from c (suc k) (drop (suc k) ws))))

-- ---- laws: one for each way to answer

module _ (c : Command) (ws : List (List ℕ)) where
  counted : (a b : Bool) → ltb (length ws) (length (kinds_of c)) ≡ a → ltb (most_of c) (length ws) ≡ b → length (kinds_of c) ≤ length ws → length ws ≤ most_of c
      → (a || b) ≡ false
  counted true b p q low high = let h = ltb-true (length ws) (length (kinds_of c)) p in absurd (omega arith)
  counted false true p q low high = let h = ltb-true (most_of c) (length ws) q in absurd (omega arith)
  counted false false p q low high = refl

  numbers_of_counted : length (kinds_of c) ≤ length ws → length ws ≤ most_of c → numbers_of c ws ≡ or_wrong (numbers_from c 0 ws)
  unfolding numbers_of
  numbers_of_counted low high =
      rw (counted (ltb (length ws) (length (kinds_of c))) (ltb (most_of c) (length ws)) refl refl low high) refl

  off : (n : ℕ) (a b : Bool) → n ≡ min (most_of c + 1) (length ws) → (n < length (kinds_of c)) ⊎ (most_of c < n)
      → ltb (length ws) (length (kinds_of c)) ≡ a → ltb (most_of c) (length ws) ≡ b → (a || b) ≡ true
  off n true b e h p q = refl
  off n false true e h p q = refl
  off n false false e (inl h) p q =
      let low = ltb-false (length ws) (length (kinds_of c)) p in
      let high = ltb-false (most_of c) (length ws) q in
      absurd (omega arith)
  off n false false e (inr h) p q = let high = ltb-false (most_of c) (length ws) q in absurd (omega arith)

  -- the words are counted up to one more than the command takes
  pub numbers_of_wrong : (n : ℕ) → n ≡ min (most_of c + 1) (length ws) → (n < length (kinds_of c)) ⊎ (most_of c < n) → numbers_of c ws ≡ Err WrongWords
  unfolding numbers_of
  numbers_of_wrong n e h = rw (off n (ltb (length ws) (length (kinds_of c))) (ltb (most_of c) (length ws)) e h refl refl) refl

  -- words of which there are neither too few nor too many
  pub numbers_of_read : (r : Result (Unit {0}) Fault) (ns : List ℕ) → length (kinds_of c) ≤ length ws → length ws ≤ most_of c
      → MatchResult r (λ u. numbers_from c 0 ws ≡ Some ns) (λ e. (numbers_from c 0 ws ≡ None) × (e ≡ NotNumber))
      → MatchResult r (λ u. numbers_of c ws ≡ Ok ns) (λ e. numbers_of c ws ≡ Err e)
  numbers_of_read (Ok u) ns low high h = numbers_of_counted low high ∙ ap or_wrong h
  numbers_of_read (Err e) ns low high h = numbers_of_counted low high ∙ ap or_wrong h.0 ∙ ap Err (sym h.1)

-- what the word at a place says
pub said : (c : Command) (i j : ℕ) (k : Kind) (w : List ℕ) (r o : Option ℕ) → i ≡ j → k ≡ kind_at c i → r ≡ number_as k w → r ≡ o
    → number_as (kind_at c j) w ≡ o
said c i j k w r o p q s t = ap (λ (n : ℕ). number_as (kind_at c n) w) (sym p) ∙ ap (λ (x : Kind). number_as x w) (sym q) ∙ sym s ∙ t

-- words counted up to one more than are taken, and found to be neither too few nor too many
pub counts : (least most n size : ℕ) → n ≡ min (most + 1) size → least ≤ n → n ≤ most → (least ≤ size) × (size ≤ most)
counts least most n size e h k = (omega arith, omega arith)
