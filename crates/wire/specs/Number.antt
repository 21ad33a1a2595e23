-- SPDX-License-Identifier: Apache-2.0 AND BSD-3-Clause
-- Numbers in bytes, lowest byte first: all fields of a split queue are little-endian (VIRTIO 1.2, 2.6). One definition, and one law
-- of each kind, over the width.
use Rattle.std.specs.Prelude.{ℕ, zero, suc, ◌+◌, ◌*◌, ◌/◌, ◌%◌, ◌^◌, ◌≤◌, ◌<◌, ◌≡◌, refl, List, [], ◌∷◌, ◌++◌, length, get_or, take, drop}
use Rattle.std.proofs.Common.{zero-add, suc-add, mul_assoc, pow-suc, div-one, div-lt_iff_lt-mul, add-one, arith, sym, ap, ◌∙◌}
use Rattle.std.proofs.Math.Nat.{pow-zero, pow-succ', one-le-pow, div-div-eq-div-mul}
use Rattle.std.proofs.Math.Arith.{mod-mul}
use Rattle.std.proofs.lemmas.List.Edits.{sets}
use Rattle.std.specs.Int.{byte_at, bytes_low_first}
use borrow.Rule.Slice.PartMut.{put_mid}
use Rattle.wire.specs.Part.{part, length-part, part-add, part-cons, sets-append, put_mid-sets}

-- the number that bytes make, lowest byte first
abbrev pub number : List ℕ → ℕ
number [] = 0
number (b ∷ bs) = b + 256 * number bs

-- the n bytes of a number, lowest byte first
abbrev pub bytes : ℕ → ℕ → List ℕ
bytes zero v = []
bytes (suc n) v = v % 256 ∷ bytes n (v / 256)

-- every element is a byte
abbrev pub Bytes : List ℕ → Type 0
Bytes [] = Unit {0}
Bytes (b ∷ bs) = (b < 256) × Bytes bs

pub length-bytes : (n v : ℕ) → length (bytes n v) ≡ n
length-bytes zero v = refl
length-bytes (suc n) v = ap suc (length-bytes n (v / 256))

pow_pos : (n : ℕ) → 0 < 256 ^ n
pow_pos n = one-le-pow n 256 (omega arith)

-- ---- round trips
pub number-bytes : (n v : ℕ) → v < 256 ^ n → number (bytes n v) ≡ v
number-bytes zero v h = omega arith
number-bytes (suc n) v h =
    let f : v < 256 ^ n * 256 = omega (arith, pow-succ' 256 n) in
    omega (arith, number-bytes n (v / 256) ((div-lt_iff_lt-mul {k = 256} {x = v} {y = 256 ^ n} (omega arith)).1 f))

pub bytes-number : (bs : List ℕ) → Bytes bs → bytes (length bs) (number bs) ≡ bs
bytes-number [] h = refl
bytes-number (b ∷ bs) h =
    let u : (b + 256 * number bs) % 256 ≡ b = omega arith in
    let v : (b + 256 * number bs) / 256 ≡ number bs = omega arith in
    rw (u, v, bytes-number bs h.1)

bytes-take : (n : ℕ) (bs : List ℕ) → Bytes bs → Bytes (take n bs)
bytes-take zero bs h = tt
bytes-take (suc n) [] h = tt
bytes-take (suc n) (b ∷ bs) h = (h.0, bytes-take n bs h.1)

bytes-drop : (n : ℕ) (bs : List ℕ) → Bytes bs → Bytes (drop n bs)
bytes-drop zero bs h = h
bytes-drop (suc n) [] h = tt
bytes-drop (suc n) (b ∷ bs) h = bytes-drop n bs h.1

-- a part of a list of bytes is the bytes of its number
pub bytes-part : (bs : List ℕ) (i n : ℕ) → Bytes bs → i + n ≤ length bs → bytes n (number (part bs i n)) ≡ part bs i n
bytes-part bs i n h f =
    ap (λ (k : ℕ). bytes k (number (part bs i n))) (sym (length-part bs i n f)) ∙ bytes-number (part bs i n) (bytes-take n (drop i bs) (bytes-drop i bs h))

pub number_lt : (bs : List ℕ) → Bytes bs → number bs < 256 ^ length bs
number_lt [] h = omega arith
number_lt (b ∷ bs) h = omega (arith, number_lt bs h.1, pow-succ' 256 (length bs))

-- std's bytes of a number are these
byte_at_is : (i v : ℕ) → byte_at i v ≡ v / 256 ^ i % 256
byte_at_is zero v = rw (pow-zero, div-one)
byte_at_is (suc i) v = refl

low_first : (i n v : ℕ) → bytes_low_first i n v ≡ bytes n (v / 256 ^ i)
low_first i zero v = refl
low_first i (suc n) v =
    let e : v / 256 ^ suc i ≡ v / 256 ^ i / 256 = rw (pow-suc, div-div-eq-div-mul) in
    rw (byte_at_is i v, low_first (suc i) n v, e)

le_bytes : (n v : ℕ) → bytes_low_first 0 n v ≡ bytes n v
le_bytes n v = low_first 0 n v ∙ rw (pow-zero, div-one)

pub put_low_first : (l new : List ℕ) (i k n v : ℕ) → new ≡ bytes_low_first 0 n v → k ≡ n → i + n ≤ length l → put_mid i k l new ≡ sets l i (bytes n v)
put_low_first l new i k n v e f h =
    let g : new ≡ bytes n v = e ∙ le_bytes n v in
    rw g (put_mid-sets l (bytes n v) i k (rw length-bytes f) (rw length-bytes h))

-- ---- two numbers side by side are one
pub number-append : (xs ys : List ℕ) → number (xs ++ ys) ≡ number xs + 256 ^ length xs * number ys
number-append [] ys = omega arith
number-append (x ∷ xs) ys =
    omega (arith, number-append xs ys, ap (λ (p : ℕ). p * number ys) (pow-succ' 256 (length xs)), mul_assoc 256 (256 ^ length xs) (number ys))

pub number-part : (l : List ℕ) (i n k : ℕ) → i + n ≤ length l → number (part l i (n + k)) ≡ number (part l i n) + 256 ^ n * number (part l (i + n) k)
number-part l i n k h =
    ap number (part-add l i n k) ∙ number-append (part l i n) (part l (i + n) k)
    ∙ ap (λ (x : ℕ). number (part l i n) + 256 ^ x * number (part l (i + n) k)) (length-part l i n h)

pub number_two : (l : List ℕ) (i : ℕ) → i + 2 ≤ length l → number (part l i 2) ≡ get_or l i 0 + 256 * get_or l (i + 1) 0
number_two l i h =
    ap number (part-cons l i 1 (omega arith) ∙ ap (λ (x : List ℕ). get_or l i 0 ∷ x) (part-cons l (suc i) 0 (omega arith)))
    ∙ rw add-one (omega arith)

-- the low n bytes of a number are those of its remainder by 256 ^ n
bytes_low : (n v : ℕ) → bytes n (v % 256 ^ n) ≡ bytes n v
bytes_low zero v = refl
bytes_low (suc n) v =
    let w : v % 256 ^ suc n ≡ v / 256 % 256 ^ n * 256 + v % 256
    = ap (λ (x : ℕ). v % x) (pow-suc 256 n) ∙ mod-mul v (pow_pos n) (omega arith) in
    let low : v % 256 ^ suc n % 256 ≡ v % 256 = omega arith in
    let high : v % 256 ^ suc n / 256 ≡ v / 256 % 256 ^ n = omega arith in
    rw (low, high, bytes_low n (v / 256))

bytes_high : (n k v : ℕ) → bytes (n + k) v ≡ bytes n v ++ bytes k (v / 256 ^ n)
bytes_high zero k v = rw (zero-add, pow-zero, div-one)
bytes_high (suc n) k v =
    rw (suc-add, pow-succ' 256 n, ← div-div-eq-div-mul) (ap (λ (x : List ℕ). v % 256 ∷ x) (bytes_high n k (v / 256)))

-- a number stored in two parts, the low n bytes and then the k bytes above them
pub sets-bytes : (l : List ℕ) (i n k v : ℕ) → sets (sets l i (bytes n (v % 256 ^ n))) (i + n) (bytes k (v / 256 ^ n)) ≡ sets l i (bytes (n + k) v)
sets-bytes l i n k v =
    rw bytes_low
    (ap (λ (x : ℕ). sets (sets l i (bytes n v)) (i + x) (bytes k (v / 256 ^ n))) (sym (length-bytes n v))
    ∙ sym (ap (sets l i) (bytes_high n k v) ∙ sets-append l i (bytes n v) (bytes k (v / 256 ^ n))))
