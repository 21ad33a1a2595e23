-- SPDX-License-Identifier: Apache-2.0 AND BSD-3-Clause
-- Numbers of entries and their places: whole numbers, since a step back from the first entry is allowed. Entry number z stands at place z modulo k
-- in a ring of k places.
use Rattle.std.specs.Prelude.{ℕ, zero, suc, ◌+◌, ◌-◌, ◌*◌, ◌/◌, ◌%◌, ◌^◌, ◌<◌, ◌≤◌, ◌≡◌, refl, Bool, true, false, cond, ltb, ℤ, pos, negsuc}
use Rattle.std.proofs.Common.{mod-lt, mul-suc, mul-le-mul_left, lt_of_not-le, pow-suc, zero-add, suc-add, mul-one, mul_assoc, arith, sym, ap, ◌∙◌, ltb-true, ltb-false}
use Rattle.std.proofs.Math.Nat.{mod-add-mod, div-add-mod, mul-add-mod_self_left, mod-mod_of_dvd, dvd_of_mod-eq-zero, mul-mod_right, pow-le-pow_right, pow-zero, one-le-pow}
use Rattle.std.proofs.Math.Decide.{dec_le}
use Rattle.std.proofs.Math.IntN.{sub_ℕ}
use Rattle.queue.specs.Size.{Power}

-- z modulo k, from 0 up to k
abbrev pub modulo : ℤ → ℕ → ℕ
modulo (pos n) k = n % k
modulo (negsuc n) k = k - 1 - n % k

module _ (a b k : ℕ) (some : 0 < k) where
  modulo' : (c : Bool) → ltb a b ≡ c → (modulo (cond c (negsuc (b - suc a)) (pos (a - b))) k < k) × ((modulo (cond c (negsuc (b - suc a)) (pos (a - b))) k + b) % k ≡ a % k)
  modulo' true e =
      let l = ltb-true a b e in
      let m : (b - suc a) % k < k = mod-lt (b - suc a) some in
      let s : k - 1 - (b - suc a) % k + b ≡ k * suc ((b - suc a) / k) + a = omega (arith, div-add-mod (b - suc a) k, mul-suc k ((b - suc a) / k)) in
      (omega arith, ap (λ (x : ℕ). x % k) s ∙ mul-add-mod_self_left k (suc ((b - suc a) / k)) a)
  modulo' false e =
      let l = ltb-false a b e in
      let s : a - b + b ≡ a = omega arith in
      (mod-lt (a - b) some, mod-add-mod (a - b) k b ∙ ap (λ (x : ℕ). x % k) s)

  pub modulo_lt : modulo (sub_ℕ a b) k < k
  modulo_lt = (modulo' (ltb a b) refl).0

  -- the difference, with what was taken away added again
  pub modulo-add : (modulo (sub_ℕ a b) k + b) % k ≡ a % k
  modulo-add = (modulo' (ltb a b) refl).1

-- two numbers less than n apart have different remainders by n
window' : (n j x : ℕ) → Dec (x / n ≤ j / n) → j < x → x < j + n → j % n ≡ x % n → ⊥
window' n j x (yes w) a b e = omega (arith, div-add-mod j n, div-add-mod x n, mul-le-mul_left n w)
window' n j x (no w) a b e =
    let g : suc (j / n) ≤ x / n = lt_of_not-le w in
    omega (arith, div-add-mod j n, div-add-mod x n, mul-le-mul_left n g, mul-suc n (j / n))

pub window : (n j x : ℕ) → j < x → x < j + n → j % n ≡ x % n → ⊥
window n j x a b e = window' n j x (dec_le (x / n) (j / n)) a b e

cancel : (k c d b : ℕ) → c < k → d < k → (c + b) % k ≡ (d + b) % k → c ≡ d
cancel k c d b h j e = order (dec_le c d) (dec_le d c)
  where
    order : Dec (c ≤ d) → Dec (d ≤ c) → c ≡ d
    order (yes x) (yes y) = omega arith
    order (yes x) (no y) = absurd (window k (c + b) (d + b) (omega arith) (omega arith) e)
    order (no x) (yes y) = absurd (window k (d + b) (c + b) (omega arith) (omega arith) (sym e))
    order (no x) (no y) = absurd (omega arith)

-- a number that gives a, if b is added, is a - b, by its remainder
pub is_modulo : (k x a b : ℕ) → 0 < k → (x + b) % k ≡ a % k → x % k ≡ modulo (sub_ℕ a b) k
is_modulo k x a b h e = cancel k (x % k) (modulo (sub_ℕ a b) k) b (mod-lt x h) (modulo_lt a b k h) (mod-add-mod x k b ∙ e ∙ sym (modulo-add a b k h))

-- ---- places by numbers modulo 65,536 are places by numbers
pub same_place : (size a b : ℕ) → 65536 % size ≡ 0 → a % 65536 ≡ b % 65536 → a % size ≡ b % size
same_place size a b two e =
    sym (mod-mod_of_dvd size a (dvd_of_mod-eq-zero size two)) ∙ ap (λ (x : ℕ). x % size) e ∙ mod-mod_of_dvd size b (dvd_of_mod-eq-zero size two)

-- where the size is a power of two, which divides 65,536
small : (k : ℕ) → 2 ^ k ≤ 65536 → Dec (k ≤ 16) → k ≤ 16
small k h (yes w) = w
small k h (no w) = let l : 2 ^ 17 ≤ 2 ^ k = pow-le-pow_right {n = 2} (omega arith) {i = 17} {j = k} (omega arith) in absurd (omega arith)

pow_split : (k j : ℕ) → 2 ^ (j + k) ≡ 2 ^ k * 2 ^ j
pow_split k zero = rw (zero-add, pow-zero, mul-one)
pow_split k (suc j) = rw (suc-add, pow-suc, pow-suc, pow_split k j, mul_assoc)

pub power_divides : (size : ℕ) → Power size → size ≤ 65536 → 65536 % size ≡ 0
power_divides size (k, e) h =
    let l : k ≤ 16 = small k (rw e at h) (dec_le k 16) in
    let s : 16 ≡ (16 - k) + k = omega arith in
    let f : 65536 ≡ 2 ^ k * 2 ^ (16 - k) = ap (λ (x : ℕ). 2 ^ x) s ∙ pow_split k (16 - k) in
    rw e (ap (λ (x : ℕ). x % 2 ^ k) f ∙ mul-mod_right (2 ^ k) (2 ^ (16 - k)))

pub power_some : (size : ℕ) → Power size → 0 < size
power_some size (k, e) = rw e (one-le-pow k 2 (omega arith))
