-- SPDX-License-Identifier: Apache-2.0 AND BSD-3-Clause
-- Numbers of 16 bits: they count modulo 65,536 (VIRTIO 1.2, 2.7.6 and 2.7.8).
use Rattle.std.specs.Prelude.{◌≡◌, ℕ, ◌+◌, ◌-◌, ◌%◌, ◌<◌}
use Rattle.std.proofs.Common.{sym, ◌∙◌}
use native.Mathlib.Omega.{arith}

-- one more
abbrev pub next16 : ℕ → ℕ
next16 n = (n + 1) % 65536

-- the difference
unfoldable pub sub16 : ℕ → ℕ → ℕ
sub16 a b = (a + (65536 - b % 65536)) % 65536

module _ (a b : ℕ) where
  pub sub16_lt : sub16 a b < 65536
  unfolding sub16
  sub16_lt = omega arith

  -- it is the number that gives a, if b is added
  pub sub16-add : (sub16 a b + b) % 65536 ≡ a % 65536
  unfolding sub16
  sub16-add = omega arith

-- two numbers of 16 bits that give the same, if b is added, are equal
pub cancel16 : (c d b : ℕ) → c < 65536 → d < 65536 → (c + b) % 65536 ≡ (d + b) % 65536 → c ≡ d
cancel16 c d b h k e = omega arith

-- what `wrapping_sub` of two such numbers computes
pub wraps_to : (a b : ℕ) → b < 65536 → (a + (65536 - b)) % 65536 ≡ sub16 a b
unfolding sub16
wraps_to a b h = omega arith

-- a number of 16 bits that gives a, if b is added, is the difference
pub is_sub16 : (r a b : ℕ) → r < 65536 → (r + b) % 65536 ≡ a → r ≡ sub16 a b
is_sub16 r a b h e = let f : (r + b) % 65536 ≡ a % 65536 = omega arith in cancel16 r (sub16 a b) b h (sub16_lt a b) (f ∙ sym (sub16-add a b))
