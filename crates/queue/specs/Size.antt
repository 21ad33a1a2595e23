-- SPDX-License-Identifier: Apache-2.0 AND BSD-3-Clause
-- Sizes of a split queue (VIRTIO 1.2, 2.7): a power of two, at most 32,768. The code's tests and masks decide and compute what is said here.
use Rattle.std.specs.Prelude.{◌≡◌, ℕ, zero, suc, ◌+◌, ◌-◌, ◌*◌, ◌/◌, ◌%◌, ◌^◌, ◌<◌, ◌≤◌, min, Bool, true, false, ◌↔◌, ◌==◌, ◌≢◌, bit_and, count_ones, nat_le, refl}
use Rattle.std.proofs.Math.Nat.{mod-zero, mod_self, pow-succ', pow-le-pow_right}
use Rattle.std.proofs.Common.{mod-eq_of_lt, arith, sym, ap, ◌∙◌, true≢false, eq-eqb, eqb-true, le-leb, leb-true}
use Rattle.std.proofs.Math.Decide.{dec_le}
use Rattle.std.specs.Int.Bits.{and_step, and_self, and_zero_l}
use Rattle.std.specs.Int.Count.{ones_step}
use Rattle.std.proofs.lemmas.Nat.{and_mask, ones_le_self, zero_from_ones}
use Rattle.regions.specs.Table.{pick}

-- a power of two
abbrev pub Power : ℕ → Type 0
Power n = (k : ℕ) × (n ≡ 2 ^ k)

-- n is 2 ^ k, or a smaller power of two
unfoldable pub power_to : ℕ → ℕ → Bool
power_to zero n = n == 1
power_to (suc k) n = pick (n == 2 ^ suc k) true (power_to k n)

-- a number of 16 bits is a power of two
unfoldable pub is_power : ℕ → Bool
is_power n = power_to 15 n

-- the largest size of a split queue
abbrev pub max_queue_size : ℕ
max_queue_size = 32768

-- n can be the size of a queue whose largest size is max
unfoldable pub good_size : ℕ → ℕ → Bool
good_size n max = pick (is_power n) (nat_le n max) false

-- ---- power_to, is_power
to' : (k n : ℕ) (b : Bool) → (n == 2 ^ suc k) ≡ b → (power_to k n ≡ true → (j : ℕ) × (j ≤ k) × (n ≡ 2 ^ j))
    → pick b true (power_to k n) ≡ true → (j : ℕ) × (j ≤ suc k) × (n ≡ 2 ^ j)
to' k n true e f h = (suc k, omega arith, eqb-true n (2 ^ suc k) e)
to' k n false e f h = let w = f h in (w.0, omega arith, w.2)

power_to_is : (k n : ℕ) → power_to k n ≡ true → (j : ℕ) × (j ≤ k) × (n ≡ 2 ^ j)
unfolding power_to
power_to_is zero n e = (0, omega arith, eqb-true n 1 e)
power_to_is (suc k) n e = to' k n (n == 2 ^ suc k) refl (power_to_is k n) e

from' : (k n j : ℕ) (b : Bool) → (n == 2 ^ suc k) ≡ b → n ≡ 2 ^ j → j ≤ suc k → (j ≤ k → power_to k n ≡ true) → pick b true (power_to k n) ≡ true
from' k n j true e h l f = refl
from' k n j false e h l f = smaller (dec_le j k)
  where
    smaller : Dec (j ≤ k) → power_to k n ≡ true
    smaller (yes w) = f w
    smaller (no w) =
        let g : j ≡ suc k = omega arith in
        absurd (true≢false (sym (eq-eqb n (2 ^ suc k) (h ∙ ap (λ (x : ℕ). 2 ^ x) g)) ∙ e))

power_to_of : (k n j : ℕ) → j ≤ k → n ≡ 2 ^ j → power_to k n ≡ true
unfolding power_to
power_to_of zero n j l e = let g : j ≡ 0 = omega arith in eq-eqb n 1 (e ∙ ap (λ (x : ℕ). 2 ^ x) g)
power_to_of (suc k) n j l e = from' k n j (n == 2 ^ suc k) refl e l (λ w. power_to_of k n j w e)

pub is_power_power : (n : ℕ) → is_power n ≡ true → Power n
unfolding is_power
is_power_power n e = let w = power_to_is 15 n e in (w.0, w.2)

small : (n k : ℕ) → n < 65536 → n ≡ 2 ^ k → Dec (k ≤ 15) → k ≤ 15
small n k h e (yes w) = w
small n k h e (no w) = let l : 2 ^ 16 ≤ 2 ^ k = pow-le-pow_right {n = 2} (omega arith) {i = 16} {j = k} (omega arith) in absurd (omega arith)

pub power_is_power : (n : ℕ) → n < 65536 → Power n → is_power n ≡ true
unfolding is_power
power_is_power n h (k, e) = power_to_of 15 n k (small n k h e (dec_le k 15)) e

-- the test decides it, both ways
pub is_power_iff : (n : ℕ) → n < 65536 → (is_power n ≡ true) ↔ Power n
is_power_iff n h = (λ e. is_power_power n e, λ w. power_is_power n h w)

-- ---- the bit test: a power of two has no bit in common with the number before it
even_half : (n x b : ℕ) → 0 < n → n % 2 ≡ 0 → x ≡ b * 2 + min (n % 2) ((n - 1) % 2) → x ≡ 0 → b ≡ 0
even_half n x b h e f z = omega arith

odd_half : (n x b : ℕ) → 0 < n → n % 2 ≡ 1 → x ≡ b * 2 + min (n % 2) ((n - 1) % 2) → x ≡ 0 → b ≡ 0
odd_half n x b h e f z = omega arith

half_power : (n : ℕ) → n % 2 ≡ 0 → Power (n / 2) → Power n
half_power n e (k, f) = (suc k, let g : n ≡ 2 * (n / 2) = omega arith in g ∙ ap (λ (x : ℕ). 2 * x) f ∙ sym (pow-succ' 2 k))

half_lt : (k n : ℕ) → n < 2 ^ suc k → n / 2 < 2 ^ k
half_lt k n l = omega (arith, pow-succ' 2 k)

pub mask_power : (k n : ℕ) → n < 2 ^ k → 0 < n → bit_and n (n - 1) ≡ 0 → Power n
mask_power zero n l h e = absurd (omega arith)
mask_power (suc k) n l h e = parity (λ x. mask_power k (n / 2) (half_lt k n l) x) (dec_le (n % 2) 0)
  where
    parity : (0 < n / 2 → bit_and (n / 2) (n / 2 - 1) ≡ 0 → Power (n / 2)) → Dec (n % 2 ≤ 0) → Power n
    parity ih (yes w) =
        let z : bit_and (n / 2) ((n - 1) / 2) ≡ 0 = even_half n (bit_and n (n - 1)) (bit_and (n / 2) ((n - 1) / 2)) h (omega arith) (and_step n (n - 1)) e in
        let x : (n - 1) / 2 ≡ n / 2 - 1 = omega arith in
        half_power n (omega arith) (ih (omega arith) (rw x at z))
    parity ih (no w) =
        let z : bit_and (n / 2) ((n - 1) / 2) ≡ 0 = odd_half n (bit_and n (n - 1)) (bit_and (n / 2) ((n - 1) / 2)) h (omega arith) (and_step n (n - 1)) e in
        let x : (n - 1) / 2 ≡ n / 2 = omega arith in
        let y : bit_and (n / 2) (n / 2) ≡ 0 = rw x at z in
        (0, omega (arith, and_self (n / 2)))

power_mask : (n k : ℕ) → n ≡ 2 ^ k → bit_and n (n - 1) ≡ 0
power_mask n k e = rw e (and_mask (2 ^ k) k ∙ mod_self (2 ^ k))

-- a test that says of n what Power does is is_power
decided' : (n : ℕ) → n < 65536 → (a b : Bool) → is_power n ≡ b → (a ≡ true → Power n) → (Power n → a ≡ true) → a ≡ b
decided' n l true true e f g = refl
decided' n l false false e f g = refl
decided' n l true false e f g = absurd (true≢false (sym (power_is_power n l (f refl)) ∙ e))
decided' n l false true e f g = absurd (true≢false (sym (g (is_power_power n e))))

pub power_test : (n : ℕ) → n < 65536 → 0 < n → (bit_and n (n - 1) == 0) ≡ is_power n
power_test n l h = decided' n l _ _ refl (λ e. mask_power 16 n l h (eqb-true (bit_and n (n - 1)) 0 e)) (λ w. eq-eqb (bit_and n (n - 1)) 0 (power_mask n w.0 w.1))

-- ---- a power of two has one bit that is set: std's test by `count_ones` decides it
no_ones : count_ones 0 ≡ 0
no_ones = let l = ones_le_self 0 in omega arith

power_ones : (k n : ℕ) → n < 2 ^ k → count_ones n ≡ 1 → Power n
power_ones zero n l e = let z : n ≡ 0 = omega arith in absurd (let f : count_ones 0 ≡ 1 = rw z at e in omega (arith, no_ones))
power_ones (suc k) n l e = parity (power_ones k (n / 2) (half_lt k n l)) (dec_le (n % 2) 0)
  where
    parity : (count_ones (n / 2) ≡ 1 → Power (n / 2)) → Dec (n % 2 ≤ 0) → Power n
    parity ih (yes w) = let s = ones_step n in half_power n (omega arith) (ih (omega arith))
    parity ih (no w) = let s = ones_step n in let z : n / 2 ≡ 0 = zero_from_ones (n / 2) (omega arith) in (0, omega arith)

ones_power : (k : ℕ) → count_ones (2 ^ k) ≡ 1
ones_power zero = omega (arith, ones_step 1, no_ones)
ones_power (suc k) =
    let d : 2 ^ suc k ≡ 2 * 2 ^ k = pow-succ' 2 k in
    let h : 2 ^ suc k / 2 ≡ 2 ^ k = omega arith in
    let s : count_ones (2 ^ suc k) ≡ 2 ^ suc k % 2 + count_ones (2 ^ k) = rw h at (ones_step (2 ^ suc k)) in
    omega (arith, ones_power k)

pub one_bit : (n : ℕ) → n < 65536 → (count_ones n == 1) ≡ is_power n
one_bit n l = decided' n l _ _ refl (λ e. power_ones 16 n l (eqb-true (count_ones n) 1 e)) (λ w. eq-eqb (count_ones n) 1 (rw w.1 (ones_power w.0)))

pub power_zero : (n : ℕ) → n ≡ 0 → is_power n ≡ false
unfolding is_power power_to
power_zero n e = rw e

-- ---- good_size
-- by any test that decides whether n is a power of two
module _ (n max : ℕ) (b : Bool) (e : b ≡ is_power n) where
  pub good_power : b ≡ true → nat_le n max ≡ good_size n max
  unfolding good_size
  good_power f = rw (← e, f)

  pub good_other : b ≡ false → false ≡ good_size n max
  unfolding good_size
  good_other f = rw (← e, f)

-- for the proof of `good_size`: by std's test
module _ (n max : ℕ) (l : n < 65536) where
  pub good_one_bit : (count_ones n == 1) ≡ true → nat_le n max ≡ good_size n max
  good_one_bit e = good_power n max _ (one_bit n l) e

  pub good_other_bits : (count_ones n == 1) ≡ false → false ≡ good_size n max
  good_other_bits e = good_other n max _ (one_bit n l) e

-- a good size is a power of two up to the largest
good' : (n max : ℕ) (b : Bool) → is_power n ≡ b → pick b (nat_le n max) false ≡ true → Power n × (n ≤ max)
good' n max true e h = (is_power_power n e, leb-true n max h)
good' n max false e h = absurd (true≢false (sym h))

pub good_is : (n max : ℕ) → good_size n max ≡ true → Power n × (n ≤ max)
unfolding good_size
good_is n max h = good' n max (is_power n) refl h

-- and every such number is one
pub is_good : (n max : ℕ) → n < 65536 → Power n → n ≤ max → good_size n max ≡ true
unfolding good_size
is_good n max l w h = rw (power_is_power n l w) (le-leb n max h)

-- ---- places in a ring, for the proof of `place`
place_power : (index size k : ℕ) → size ≡ 2 ^ k → bit_and index (size - 1) ≡ index % size
place_power index size k e = rw e (and_mask index k)

-- the mask is the size less one, modulo 65,536
pub place_mask : (index size : ℕ) → index < 65536 → size < 65536 → bit_and size ((size + 65535) % 65536) ≡ 0 → bit_and index ((size + 65535) % 65536) ≡ index % size
place_mask index zero h l f = rw mod-zero (and_mask index 16 ∙ mod-eq_of_lt h)
place_mask index (suc s) h l f =
    let g : (suc s + 65535) % 65536 ≡ suc s - 1 = omega arith in
    let w = mask_power 16 (suc s) l (omega arith) (rw g at f) in
    rw g (place_power index (suc s) w.0 w.1)

-- a size with a bit in common with a mask has places
pub place_some : (size mask : ℕ) → (bit_and size mask ≢ 0) → 0 < size
place_some zero mask f = absurd (f (and_zero_l mask))
place_some (suc s) mask f = omega arith
