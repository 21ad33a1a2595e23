-- SPDX-License-Identifier: Apache-2.0 AND BSD-3-Clause
-- A pass ends (T1.7): from begin on, whatever the guest writes, it hands out at most as many heads as the queue has places, and one more for
-- each step back.
use Rattle.std.specs.Prelude.{◌≡◌, ℕ, ◌+◌, ◌%◌, ◌<◌, ◌≤◌, Bool, List, [], ◌∷◌, ◌≢◌, refl, Option, Some, None, Ok}
use Rattle.std.proofs.Math.Decide.{dec_le}
use native.Mathlib.Omega.{arith}
use Rattle.std.proofs.Common.{sym, ◌∙◌}
use Rattle.regions.specs.Table.{Table}
use Rattle.queue.specs.State.{with_next_avail, with_next_used, with_ready, with_event_idx}
use Rattle.queue.specs.Wrap.{next16, sub16, sub16_lt, sub16-add, cancel16}
use Rattle.queue.specs.Avail.{begin_of, begin_elim, head_of, head_elim, back_of}
use Rattle.queue.specs.Used.{put_of, put_elim}
use Rattle.queue.specs.Notify.{question_of, question_elim}
use Rattle.queue.specs.Config.{set_size_of, set_size_elim, set_desc_table_of, set_desc_table_elim, set_avail_ring_of, set_avail_ring_elim, set_used_ring_of, set_used_ring_elim}
use Rattle.queue.specs.Proper.{OfConfigured, OfAnswered}
use Rattle.queue.specs.declared.Queue.{Queue}
use Rattle.queue.specs.declared.AvailIter.{AvailIter}

-- ---- what can happen while a pass goes on: a next head, over whatever the guest has made of its memory and the VMM of its table; a step
-- back; or any other call, which leaves next available as it is and anything else as it likes
pub data Step : Type 0 where
  Next : Table → List ℕ → Step
  Back : Step
  Other : Queue → Step

abbrev pub queue_of : Queue → Option (ℕ × Queue) → Queue
queue_of q (Some (h, p)) = p
queue_of q None = q

abbrev pub count_of : Option (ℕ × Queue) → ℕ
count_of (Some (h, p)) = 1
count_of None = 0

-- the queue after a step
abbrev pub then : Queue → AvailIter → Step → Queue
then q p (Next t m) = queue_of q (head_of t q p m)
then q p Back = back_of q
then q p (Other o) = with_next_avail o q.next_avail

-- heads handed out, and steps back
abbrev pub head1 : Queue → AvailIter → Step → ℕ
head1 q p (Next t m) = count_of (head_of t q p m)
head1 q p Back = 0
head1 q p (Other o) = 0

abbrev pub back1 : Step → ℕ
back1 (Next t m) = 0
back1 Back = 1
back1 (Other o) = 0

abbrev pub heads : Queue → AvailIter → List Step → ℕ
heads q p [] = 0
heads q p (s ∷ ss) = head1 q p s + heads (then q p s) p ss

abbrev pub backs : List Step → ℕ
backs [] = 0
backs (s ∷ ss) = back1 s + backs ss

-- what is left of the pass
abbrev pub left : Queue → AvailIter → ℕ
left q p = sub16 p.last_index q.next_avail

-- ---- numbers of 16 bits
shift : (x n l : ℕ) → (x + (n + 1) % 65536) % 65536 ≡ l % 65536 → (x + 1 + n) % 65536 ≡ l % 65536
shift x n l e = omega arith

at_end : (x n p : ℕ) → n < 65536 → p < 65536 → x ≡ 65535 → (x + 1 + n) % 65536 ≡ p % 65536 → n ≡ p
at_end x n p a b f e = omega arith

-- a step on costs one of what is left
pub one_less : (n p : ℕ) → n < 65536 → p < 65536 → (n ≢ p) → 1 + sub16 p (next16 n) ≤ sub16 p n
one_less n p a b d = order (dec_le (sub16 p (next16 n)) 65534)
  where
    near : (sub16 p (next16 n) + 1 + n) % 65536 ≡ p % 65536
    near = shift (sub16 p (next16 n)) n p (sub16-add p (next16 n))

    order : Dec (sub16 p (next16 n) ≤ 65534) → 1 + sub16 p (next16 n) ≤ sub16 p n
    order (yes h) =
        let e : sub16 p (next16 n) + 1 ≡ sub16 p n = cancel16 (sub16 p (next16 n) + 1) (sub16 p n) n (omega arith) (sub16_lt p n) (near ∙ sym (sub16-add p n)) in
        omega arith
    order (no h) = let l = sub16_lt p (next16 n) in absurd (d (at_end (sub16 p (next16 n)) n p a b (omega arith) near))

down_up : (y n x p : ℕ) → (x + 1) % 65536 ≡ n % 65536 → (y + n) % 65536 ≡ p % 65536 → (y + 1 + x) % 65536 ≡ p % 65536
down_up y n x p e f = omega arith

-- a step back gives at most one more
pub one_more : (n p : ℕ) → sub16 p (sub16 n 1) ≤ sub16 p n + 1
one_more n p = order (dec_le (sub16 p n) 65534)
  where
    order : Dec (sub16 p n ≤ 65534) → sub16 p (sub16 n 1) ≤ sub16 p n + 1
    order (yes h) =
        let e : sub16 p n + 1 ≡ sub16 p (sub16 n 1) =
        cancel16 (sub16 p n + 1) (sub16 p (sub16 n 1)) (sub16 n 1) (omega arith) (sub16_lt p (sub16 n 1)) (down_up (sub16 p n) n (sub16 n 1) p (sub16-add n 1) (sub16-add p n) ∙ sym (sub16-add p (sub16 n 1)))
        in omega arith
    order (no h) = let l = sub16_lt p (sub16 n 1) in omega arith

-- ---- one step: it leaves a number of 16 bits, and a head costs one of what is left
pub record Stepped (q r : Queue) (p : AvailIter) (head back : ℕ) : Type 0 where
  pub small : r.next_avail < 65536
  pub fall : head + left r p ≤ left q p + back

module _ (q : Queue) (p : AvailIter) (a : q.next_avail < 65536) (b : p.last_index < 65536) where
  pub step_falls : (s : Step) → Stepped q (then q p s) p (head1 q p s) (back1 s)
  unfolding back_of
  step_falls (Next t m) =
      head_elim t q p m (λ r. Stepped q (queue_of q r) p (count_of r) 0) (record { small = a; fall = omega arith })
      (λ h d z e. record { small = omega arith; fall = let w = one_less q.next_avail p.last_index a b d in omega arith })
  step_falls Back = record { small = sub16_lt q.next_avail 1; fall = let w = one_more q.next_avail p.last_index in omega arith }
  step_falls (Other o) = record { small = a; fall = omega arith }

pub heads_left : (q : Queue) (p : AvailIter) → q.next_avail < 65536 → p.last_index < 65536 → (ss : List Step) → heads q p ss ≤ left q p + backs ss
heads_left q p a b [] = omega arith
heads_left q p a b (s ∷ ss) =
    let w = step_falls q p a b s in
    let i = heads_left (then q p s) p w.small b ss in
    omega (arith, w.fall)

-- what begin remembers is at most the size away
pub begin_left : (t : Table) (q : Queue) (m : List ℕ) (p : AvailIter) → begin_of t q m ≡ Ok p → left q p ≤ q.size
begin_left t q m p x =
    begin_elim t q m (λ r. r ≡ Ok p → left q p ≤ q.size)
    (λ e y. absurd (let z : ◌≡◌ {A = ℕ} 0 1 = cc in omega arith)) (λ e y. absurd (let z : ◌≡◌ {A = ℕ} 0 1 = cc in omega arith))
    (λ r z e y. absurd (let z : ◌≡◌ {A = ℕ} 0 1 = cc in omega arith)) (λ i r z e h y. absurd (let z : ◌≡◌ {A = ℕ} 0 1 = cc in omega arith))
    (λ i r z e h y. let w : i ≡ p.last_index = cc in rw (← w) h) x

-- ---- every call but begin, next head, pop, a step back, setting that position and reset is a step of the kind `Other`
abbrev pub Keeps : Queue → Queue → Type 0
Keeps q p = p.next_avail ≡ q.next_avail

module _ (q : Queue) where
  pub put_keeps : (t : Table) (m : List ℕ) (head n : ℕ) → OfConfigured (Keeps q) (put_of t q m head n)
  put_keeps t m head n = put_elim t q m head n (λ r k. OfConfigured (Keeps q) r) (λ h. tt) (λ h e. tt) (λ h e f. refl)

  pub question_keeps : (t : Table) (m : List ℕ) → OfAnswered (Keeps q) (question_of t q m)
  question_keeps t m = question_elim t q m (OfAnswered (Keeps q)) (λ e. refl) (λ e f. tt) (λ v e f. refl)

  pub set_size_keeps : (n : ℕ) → OfConfigured (Keeps q) (set_size_of q n)
  set_size_keeps n = set_size_elim q (OfConfigured (Keeps q)) n (λ e. refl) (λ e. tt)

  module _ (low high : Option ℕ) where
    pub set_desc_table_keeps : OfConfigured (Keeps q) (set_desc_table_of q low high)
    set_desc_table_keeps = set_desc_table_elim q (OfConfigured (Keeps q)) low high (λ e. refl) (λ e. tt)

    pub set_avail_ring_keeps : OfConfigured (Keeps q) (set_avail_ring_of q low high)
    set_avail_ring_keeps = set_avail_ring_elim q (OfConfigured (Keeps q)) low high (λ e. refl) (λ e. tt)

    pub set_used_ring_keeps : OfConfigured (Keeps q) (set_used_ring_of q low high)
    set_used_ring_keeps = set_used_ring_elim q (OfConfigured (Keeps q)) low high (λ e. refl) (λ e. tt)

  pub flags_keep : (b : Bool) (n : ℕ) → Keeps q (with_ready q b) × Keeps q (with_event_idx q b) × Keeps q (with_next_used q n)
  flags_keep b n = (refl, refl, refl)

-- From an accepted begin on, at most as many heads are handed out as the queue had places then, and one more for each step back. The two
-- premises on numbers are those of the fields' type.
pub pass_ends : (t : Table) (q : Queue) (m : List ℕ) (p : AvailIter) → q.next_avail < 65536 → p.last_index < 65536
    → begin_of t q m ≡ Ok p → (ss : List Step) → heads q p ss ≤ q.size + backs ss
pass_ends t q m p a b x ss = omega (arith, heads_left q p a b ss, begin_left t q m p x)
