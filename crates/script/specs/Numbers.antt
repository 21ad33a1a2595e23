-- SPDX-License-Identifier: Apache-2.0 AND BSD-3-Clause
-- A number is what its digits say. Assumes nothing.
use Rattle.std.specs.Prelude.{ℕ, suc, ◌+◌, ◌-◌, ◌*◌, ◌/◌, ◌^◌, ◌≤◌, ◌<◌, ◌≡◌, refl, ◌⊎◌, Bool, true, false, cond, ◌&&◌, List, [], ◌∷◌, eqb, leb, ltb, length, get_or, take, drop, Option, Some, None}
use Prim.Native.Char.{code}
use Rattle.std.proofs.Common.{sym, ap, ◌∙◌, inl, inr, add_assoc, add-zero, zero-add, add-mul, mul_assoc, mul-one, zero-mul, le-mul_of_pos_right, add-one, arith, lt-ltb, le-ltb, le-leb, drop_of_length-le, drop-cons, le-div_iff_mul-le, div-lt_iff_lt-mul, eq-eqb, ne_eqb, ltb-true, ltb-false}
use Rattle.std.proofs.Math.Nat.{pow-zero, pow-succ', one-le-pow}
use Rattle.std.proofs.Math.ListN.{get_or-eq_default}
use Rattle.std.proofs.lemmas.Bool.{lt-leb}
use Rattle.std.proofs.lemmas.Bool.Decides.{nat_tests}
use Rattle.std.specs.Char.{digit_value}
use Rattle.std.specs.Cmp.Lexicographic.{pointwise}

-- n is one of the numbers from a to e
abbrev pub between : ℕ → ℕ → ℕ → Bool
between a e n = leb a n && leb n e

-- what a byte counts as a digit: `0` to `9`, then `a` to `f` in either case; any other byte is no digit of a base up to 16
unfoldable pub digit_of : ℕ → ℕ
digit_of b =
    cond (between (code "0") (code "9") b) (b - code "0")
    (cond (between (code "A") (code "F") b) (b - code "A" + 10)
    (cond (between (code "a") (code "f") b) (b - code "a" + 10)
    16))

-- each byte is a digit of the base
unfoldable pub all_digits : ℕ → List ℕ → Bool
all_digits base [] = true
all_digits base (b ∷ rest) = ltb (digit_of b) base && all_digits base rest

-- what digits say in a base: each counts base times as much as the one after it
unfoldable pub value_of : ℕ → List ℕ → ℕ
value_of base [] = 0
value_of base (b ∷ rest) = digit_of b * base ^ length rest + value_of base rest

-- a value of 64 bits; a larger one is no number
unfoldable pub fitting : ℕ → Option ℕ
fitting n = cond (ltb n (2 ^ 64)) (Some n) None

-- a number in a base is at least one digit, and nothing but digits
unfoldable pub numeral : ℕ → List ℕ → Option ℕ
numeral base [] = None
numeral base (b ∷ rest) = cond (all_digits base (b ∷ rest)) (fitting (value_of base (b ∷ rest))) None

-- a word that starts with `0x`, in lower case
unfoldable pub marked : List ℕ → Bool
marked word = eqb (get_or word 0 0) (code "0") && eqb (get_or word 1 0) (code "x")

-- the number that a word says: hexadecimal after `0x`, else decimal
unfoldable pub number_of : List ℕ → Option ℕ
number_of word = cond (marked word) (numeral 16 (drop 2 word)) (numeral 10 word)

-- ---- laws: digits

and_false : (a : Bool) {b : Bool} → b ≡ false → (a && b) ≡ false
and_false true e = e
and_false false e = refl

and_true : (a : Bool) → (a && true) ≡ a
and_true true = refl
and_true false = refl

inside : (a e n : ℕ) → a ≤ n → n ≤ e → between a e n ≡ true
inside a e n low high = rw (le-leb a n low, le-leb n e high)

outside : (a e n : ℕ) → (n < a) ⊎ (e < n) → between a e n ≡ false
outside a e n (inl below) = rw (lt-leb a n below)
outside a e n (inr above) = and_false (leb a n) (lt-leb n e above)

pub digit_of_decimal : (b : ℕ) → 48 ≤ b → b ≤ 57 → b - 48 ≡ digit_of b
unfolding digit_of
digit_of_decimal b low high = rw (inside 48 57 b low high)

pub digit_of_upper : (b : ℕ) → 65 ≤ b → b ≤ 70 → b - 65 + 10 ≡ digit_of b
unfolding digit_of
digit_of_upper b low high = rw (outside 48 57 b (inr (omega arith)), inside 65 70 b low high)

pub digit_of_lower : (b : ℕ) → 97 ≤ b → b ≤ 102 → b - 97 + 10 ≡ digit_of b
unfolding digit_of
digit_of_lower b low high =
    rw (outside 48 57 b (inr (omega arith)), outside 65 70 b (inr (omega arith)), inside 97 102 b low high)

pub digit_of_none : (b : ℕ) → (b < 48) ⊎ (57 < b) → (b < 65) ⊎ (70 < b) → (b < 97) ⊎ (102 < b) → 16 ≡ digit_of b
unfolding digit_of
digit_of_none b decimal upper lower = rw (outside 48 57 b decimal, outside 65 70 b upper, outside 97 102 b lower)

-- the library's digits are these, as far as 16 of them
pub digit_read : (base b d : ℕ) → base ≤ 16 → digit_value b < base → d ≡ digit_value b → (d ≡ digit_of b) × (d < base)
unfolding digit_of
digit_read base b d h k e = grind (arith, nat_tests)

pub digit_none : (base b : ℕ) → base ≤ 16 → (digit_value b < base → ⊥) → base ≤ digit_of b
unfolding digit_of
digit_none base b h k = grind (arith, nat_tests)

-- ---- laws: `0x`

pub marked_prefix : (word : List ℕ) → pointwise eqb (take 2 word) (48 ∷ 120 ∷ []) ≡ marked word
unfolding marked
marked_prefix [] = refl
marked_prefix (x ∷ []) = refl
marked_prefix (x ∷ y ∷ rest) = ap (λ (t : Bool). eqb x 48 && t) (and_true (eqb y 120))

pub marked_short : (word : List ℕ) → length word < 2 → false ≡ marked word
unfolding marked
marked_short word h = sym (and_false (eqb (get_or word 0 0) 48) (ap (λ (x : ℕ). eqb x 120) (get_or-eq_default word 0 (omega arith))))

pub marked_not : (word : List ℕ) → (get_or word 0 0 ≡ 48 → ⊥) → false ≡ marked word
unfolding marked
marked_not word h = rw (ne_eqb (get_or word 0 0) 48 h)

pub marked-zero : (word : List ℕ) → get_or word 0 0 ≡ 48 → eqb (get_or word 1 0) 120 ≡ marked word
unfolding marked
marked-zero word h = rw (eq-eqb (get_or word 0 0) 48 h)

-- ---- laws: a value that fits

pub fitting_small : (n : ℕ) → n < 2 ^ 64 → fitting n ≡ Some n
unfolding fitting
fitting_small n h = rw (lt-ltb n (2 ^ 64) h)

pub fitting_large : (n : ℕ) → 2 ^ 64 ≤ n → fitting n ≡ None
unfolding fitting
fitting_large n h = rw (le-ltb n (2 ^ 64) h)

-- what a fitting value says of the number
pub fitting_value : (n w : ℕ) → fitting n ≡ Some w → (n ≡ w) × (w < 2 ^ 64)
unfolding fitting
fitting_value n w e = told (ltb n (2 ^ 64)) refl e
  where
    told : (t : Bool) → ltb n (2 ^ 64) ≡ t → cond t (Some n) None ≡ Some w → (n ≡ w) × (w < 2 ^ 64)
    told true h k = let same : n ≡ w = cc in let small = ltb-true n (2 ^ 64) h in (same, omega arith)
    told false h k = let z : ◌≡◌ {A = ℕ} 0 1 = cc in absurd (omega arith)

pub fitting_not : (n : ℕ) → fitting n ≡ None → 2 ^ 64 ≤ n
unfolding fitting
fitting_not n e = told (ltb n (2 ^ 64)) refl e
  where
    told : (t : Bool) → ltb n (2 ^ 64) ≡ t → cond t (Some n) None ≡ None → 2 ^ 64 ≤ n
    told true h k = let z : ◌≡◌ {A = ℕ} 0 1 = cc in absurd (omega arith)
    told false h k = ltb-false n (2 ^ 64) h

-- the test that refuses a digit before the value could wrap
pub room : (v base d : ℕ) → 0 < base → d < 2 ^ 64 → v ≤ (2 ^ 64 - 1 - d) / base → v * base + d < 2 ^ 64
room v base d h k e = omega (arith, (le-div_iff_mul-le h).0 e)

pub no_room : (v base d : ℕ) → 0 < base → d < 2 ^ 64 → (2 ^ 64 - 1 - d) / base < v → 2 ^ 64 ≤ v * base + d
no_room v base d h k e = omega (arith, (div-lt_iff_lt-mul h).0 e)

-- ---- laws: reading goes on, digit by digit

-- the number whose digits so far say v, and go on with a list
unfoldable pub goes_on : ℕ → ℕ → List ℕ → Option ℕ
goes_on base v l = cond (all_digits base l) (fitting (v * base ^ length l + value_of base l)) None

shifted : (base v d w n : ℕ) → v * base ^ suc n + (d * base ^ n + w) ≡ (v * base + d) * base ^ n + w
shifted base v d w n =
    sym (add_assoc (v * base ^ suc n) (d * base ^ n) w)
    ∙ ap (λ (x : ℕ). x + d * base ^ n + w) (ap (λ (x : ℕ). v * x) (pow-succ' base n) ∙ sym (mul_assoc v base (base ^ n)))
    ∙ ap (λ (x : ℕ). x + w) (sym (add-mul (v * base) d (base ^ n)))

stays_large : (base m w n : ℕ) → 0 < base → 2 ^ 64 ≤ m → 2 ^ 64 ≤ m * base ^ n + w
stays_large base m w n h k = omega (arith, le-mul_of_pos_right m (one-le-pow n base h))

digit_first : (base v b : ℕ) (rest : List ℕ) → digit_of b < base → goes_on base v (b ∷ rest) ≡ goes_on base (v * base + digit_of b) rest
unfolding goes_on all_digits value_of
digit_first base v b rest h = rw (lt-ltb (digit_of b) base h, shifted base v (digit_of b) (value_of base rest) (length rest))

none_first : (base v b : ℕ) (rest : List ℕ) → base ≤ digit_of b → goes_on base v (b ∷ rest) ≡ None
unfolding goes_on all_digits
none_first base v b rest h = rw (le-ltb (digit_of b) base h)

too_large : (base v : ℕ) (l : List ℕ) → 0 < base → 2 ^ 64 ≤ v → goes_on base v l ≡ None
unfolding goes_on
too_large base v l h k =
    ap (λ (x : Option ℕ). cond (all_digits base l) x None) (fitting_large _ (stays_large base v (value_of base l) (length l) h k))
    ∙ either (all_digits base l)
  where
    either : (t : Bool) → cond {A = Option ℕ} t None None ≡ None
    either true = refl
    either false = refl

pub numeral_empty : (base : ℕ) (l : List ℕ) → length l ≡ 0 → None ≡ numeral base l
unfolding numeral
numeral_empty base [] h = refl
numeral_empty base (b ∷ rest) h = absurd (omega arith)

pub numeral_begins : (base : ℕ) (l : List ℕ) → (length l ≡ 0 → ⊥) → numeral base l ≡ goes_on base 0 l
unfolding numeral goes_on
numeral_begins base [] h = absurd (h refl)
numeral_begins base (b ∷ rest) h = rw (zero-mul, zero-add)

pub numeral_none : (base from : ℕ) (l : List ℕ) → length l ≤ from → None ≡ numeral base (drop from l)
unfolding numeral
numeral_none base from l h = ap (numeral base) (sym (drop_of_length-le l h))

pub numeral_some : (base from : ℕ) (l : List ℕ) → from < length l → numeral base (drop from l) ≡ goes_on base 0 (drop from l)
unfolding numeral goes_on
numeral_some base from l h = rw (drop-cons l from 0, zero-mul, zero-add)

pub goes_on_end : (base v i : ℕ) (l : List ℕ) → length l ≤ i → v < 2 ^ 64 → goes_on base v (drop i l) ≡ Some v
unfolding goes_on all_digits value_of
goes_on_end base v i l h k = rw (drop_of_length-le l h, pow-zero, mul-one, add-zero) (fitting_small v k)

pub goes_on_none : (base v i d : ℕ) (l : List ℕ) → i < length l → d ≡ digit_of (get_or l i 0) → base ≤ d → goes_on base v (drop i l) ≡ None
goes_on_none base v i d l h e k = rw (drop-cons l i 0) (none_first base v (get_or l i 0) (drop (suc i) l) (rw e at k))

goes_on_digit : (base v i d : ℕ) (l : List ℕ) → i < length l → d ≡ digit_of (get_or l i 0) → d < base
    → goes_on base v (drop i l) ≡ goes_on base (v * base + d) (drop (i + 1) l)
goes_on_digit base v i d l h e k = rw (add-one, drop-cons l i 0, e) (digit_first base v (get_or l i 0) (drop (suc i) l) (rw e at k))

pub goes_on_value : (base v i d w : ℕ) (l : List ℕ) → i < length l → d ≡ digit_of (get_or l i 0) → d < base → fitting (v * base + d) ≡ Some w
    → goes_on base v (drop i l) ≡ goes_on base w (drop (i + 1) l)
goes_on_value base v i d w l h e k f =
    goes_on_digit base v i d l h e k ∙ ap (λ (x : ℕ). goes_on base x (drop (i + 1) l)) (fitting_value (v * base + d) w f).0

pub goes_on_large : (base v i d : ℕ) (l : List ℕ) → 0 < base → i < length l → d ≡ digit_of (get_or l i 0) → d < base
    → fitting (v * base + d) ≡ None → goes_on base v (drop i l) ≡ None
goes_on_large base v i d l p h e k f =
    goes_on_digit base v i d l h e k ∙ too_large base (v * base + d) (drop (i + 1) l) p (fitting_not (v * base + d) f)

-- the next byte of what is left is no digit of the base, or it is one
module _ (base v i x : ℕ) (l : List ℕ) (most : base ≤ 16) (inside : i < length l) (byte : x ≡ get_or l i 0) where
  pub next_none : (digit_value x < base → ⊥) → goes_on base v (drop i l) ≡ None
  next_none h = rw (drop-cons l i 0) (none_first base v (get_or l i 0) (drop (suc i) l) (rw byte at (digit_none base x most h)))

  pub next_digit : (d : ℕ) → (digit_value x < base) × (d ≡ digit_value x) → goes_on base v (drop i l) ≡ goes_on base (v * base + d) (drop (i + 1) l)
  next_digit d (small, is) =
      let read = digit_read base x d most small is in
      let digit : d ≡ digit_of (get_or l i 0) = rw byte at read.0 in
      rw (add-one, drop-cons l i 0, digit) (digit_first base v (get_or l i 0) (drop (suc i) l) (rw digit at read.1))

  pub next_large : (d : ℕ) → (digit_value x < base) × (d ≡ digit_value x) → 0 < base → 2 ^ 64 ≤ v * base + d → goes_on base v (drop i l) ≡ None
  next_large d h some large = next_digit d h ∙ too_large base (v * base + d) (drop (i + 1) l) some large

-- ---- laws: a word

pub number_of_hexadecimal : (word : List ℕ) → marked word ≡ true → number_of word ≡ numeral 16 (drop 2 word)
unfolding number_of
number_of_hexadecimal word e = rw e

pub number_of_decimal : (word : List ℕ) → marked word ≡ false → number_of word ≡ numeral 10 word
unfolding number_of
number_of_decimal word e = rw e

pub number_of_nothing : number_of [] ≡ None
unfolding number_of marked numeral
number_of_nothing = refl

-- the laws by which a word's digits are read one after the other
pub ruleset reading = (numeral_empty, numeral_begins, goes_on_end, next_none, next_digit, next_large)
