-- SPDX-License-Identifier: Apache-2.0 AND BSD-3-Clause
-- The notification test (VIRTIO 1.2, 2.7.7 and 2.7.10), which computes modulo 65,536, decides a question on numbers that don't wrap: whether the
-- other side named one of the entries that were added.
use Rattle.std.specs.Prelude.{ℕ, ◌+◌, ◌-◌, ◌%◌, ◌<◌, ◌≤◌, ◌↔◌, true, false, ◌≡◌}
use Rattle.std.proofs.Common.{arith, sym, ap, ◌∙◌}
use borrow.Author.Tests.{lt-ltb, le-ltb, ltb-true}
use Rattle.queue.specs.Wrap.{sub16, sub16_lt, sub16-add, cancel16}
use Rattle.queue.specs.Notify.{tells}

-- some entry with number n, a ≤ n < b, is the one that was named
pub record Named (a b event : ℕ) : Type 0 where
  pub n : ℕ
  pub low : a ≤ n
  pub high : n < b
  pub is : n % 65536 ≡ event % 65536

-- the two sides of the test
abbrev behind : ℕ → ℕ → ℕ
behind next event = sub16 (sub16 next event) 1

abbrev grew : ℕ → ℕ → ℕ
grew next added = sub16 next (sub16 next added)

same16 : (y x k : ℕ) → x % 65536 ≡ k % 65536 → (k + y) % 65536 ≡ (y + x) % 65536
same16 y x k e = omega arith

grew_is : (next added k : ℕ) → k < 65536 → added % 65536 ≡ k % 65536 → grew next added ≡ k
grew_is next added k h e =
    cancel16 (grew next added) k (sub16 next added) (sub16_lt _ _) h
    (sub16-add next (sub16 next added) ∙ sym (same16 (sub16 next added) added k e ∙ sub16-add next added))

-- the number behind by d: it is the event if d + 1 entries lie from it to the end
back_one : (x y d : ℕ) → (d + 1) % 65536 ≡ x % 65536 → (x + y) % 65536 ≡ (d + 1 + y) % 65536
back_one x y d e = omega arith

behind-add : (next event : ℕ) → (behind next event + 1 + event) % 65536 ≡ next % 65536
behind-add next event = sym (back_one (sub16 next event) event (behind next event) (sub16-add (sub16 next event) 1)) ∙ sub16-add next event

down : (b n d e : ℕ) → n + 1 + d ≡ b → (d + 1 + e) % 65536 ≡ b % 65536 → n % 65536 ≡ e % 65536
down b n d e h c = omega arith

up_sum : (n d e : ℕ) → n % 65536 ≡ e % 65536 → (d + (n + 1)) % 65536 ≡ (d + 1 + e) % 65536
up_sum n d e h = omega arith

up_all : (b n : ℕ) → n < b → b ≡ (b - n - 1) + (n + 1)
up_all b n h = omega arith

up : (b n d e : ℕ) → n % 65536 ≡ e % 65536 → n < b → (d + 1 + e) % 65536 ≡ b % 65536 → (d + (n + 1)) % 65536 ≡ ((b - n - 1) + (n + 1)) % 65536
up b n d e h l c = up_sum n d e h ∙ c ∙ ap (λ (x : ℕ). x % 65536) (up_all b n l)

-- the entries from number a up to a + k were added since, fewer than 65,536; next is the number of the next one
module _ (a k next added event : ℕ) (few : k < 65536) (at : next % 65536 ≡ (a + k) % 65536) (put : added % 65536 ≡ k % 65536) where
  far : (behind next event + 1 + event) % 65536 ≡ (a + k) % 65536
  far = behind-add next event ∙ at

  near : behind next event < k → Named a (a + k) event
  near h =
      record {
        n = (a + k) - 1 - behind next event;
        low = omega arith;
        high = omega arith;
        is = down (a + k) ((a + k) - 1 - behind next event) (behind next event) event (omega arith) far;
      }

  close : Named a (a + k) event → behind next event < k
  close w =
      let e : behind next event ≡ (a + k) - w.n - 1 =
      cancel16 (behind next event) ((a + k) - w.n - 1) (w.n + 1) (sub16_lt _ _) (omega arith) (up (a + k) w.n (behind next event) event w.is w.high far)
      in omega arith

  pub tells_iff : (tells next added event ≡ true) ↔ Named a (a + k) event
  unfolding tells
  tells_iff = (
    λ h. near (rw (grew_is next added k few put) at (ltb-true (behind next event) (grew next added) h)),
    λ w. lt-ltb (behind next event) (grew next added) (rw (grew_is next added k few put) (close w)),
  )

-- the bound is sharp: after 65,536 entries the test says no, whatever was named
pub tells_wraps : (next added event : ℕ) → added % 65536 ≡ 0 → tells next added event ≡ false
unfolding tells
tells_wraps next added event h = le-ltb (behind next event) (grew next added) (rw (grew_is next added 0 (omega arith) h) (omega arith))

-- although one of them is always the one that was named
among : (s a event : ℕ) → (s + a) % 65536 ≡ event % 65536 → (a + s) % 65536 ≡ event % 65536
among s a event e = omega arith

pub all_named : (a event : ℕ) → Named a (a + 65536) event
all_named a event =
    let l = sub16_lt event a in
    record { n = a + sub16 event a; low = omega arith; high = omega arith; is = among (sub16 event a) a event (sub16-add event a) }
