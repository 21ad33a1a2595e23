-- SPDX-License-Identifier: Apache-2.0 AND BSD-3-Clause
-- The available ring (VIRTIO 1.2, 2.7.6): what begin, next head, pop and a step back answer and leave. None of them writes memory.
use Rattle.std.specs.Prelude.{◌≡◌, ℕ, ◌+◌, ◌*◌, ◌%◌, ◌<◌, ◌≤◌, Bool, true, false, List, ◌==◌, ◌≢◌, nat_le, Option, Some, None, Result, Ok, Err}
use Rattle.std.proofs.Common.{arith, sym, ◌∙◌, true≢false}
use Rattle.std.proofs.Math.Path.{refl, ap}
use borrow.Author.Tests.{eq-eqb, ne_eqb, eqb-true, eqb-false, le-leb, lt-leb, leb-true, leb-false}
use Rattle.regions.specs.Table.{pick, Table}
use Rattle.memory.specs.Access.{read2_of, Agree, read2_agree}
use Rattle.desc.specs.Layout.{avail_idx_addr, avail_entry_addr}
use Rattle.queue.specs.Cases.{pick_elim, pick_same}
use Rattle.queue.specs.State.{pass, with_next_avail}
use Rattle.queue.specs.Wrap.{next16, sub16}
use Rattle.queue.specs.declared.Queue.{Queue}
use Rattle.queue.specs.declared.AvailIter.{AvailIter}
use Rattle.queue.specs.declared.Error.{Error}
use Rattle.queue.specs.declared.Error.TheVariants.{QueueNotReady, InvalidAvailRingIndex, GuestMemory}

-- what reading idx, and the entry with the next number, finds
abbrev pub idx_read : Table → Queue → List ℕ → Option ℕ
idx_read t q m = read2_of t m (avail_idx_addr q.avail_ring)

abbrev pub entry_read : Table → Queue → List ℕ → Option ℕ
entry_read t q m = read2_of t m (avail_entry_addr q.avail_ring q.size q.next_avail)

-- begin: a driver never has more entries open than the queue has places
abbrev pub begun_on : Queue → Option ℕ → Result AvailIter Error
begun_on q (Some idx) = pick (nat_le (sub16 idx q.next_avail) q.size) (Ok (pass idx)) (Err InvalidAvailRingIndex)
begun_on q None = Err GuestMemory

unfoldable pub begin_of : Table → Queue → List ℕ → Result AvailIter Error
begin_of t q m =
    pick q.ready (pick (q.avail_ring == 0) (Err QueueNotReady) (begun_on q (idx_read t q m))) (Err QueueNotReady)

-- next head: the entry is not tested here
abbrev pub taken_on : Queue → Option ℕ → Option (ℕ × Queue)
taken_on q (Some head) = Some (head, with_next_avail q (next16 q.next_avail))
taken_on q None = None

unfoldable pub head_of : Table → Queue → AvailIter → List ℕ → Option (ℕ × Queue)
head_of t q p m =
    pick (q.next_avail == p.last_index) None (pick (q.size == 0) None (taken_on q (entry_read t q m)))

-- pop: begin and next head in one
abbrev pub pop_on : Table → Queue → List ℕ → Result AvailIter Error → Option (ℕ × Queue)
pop_on t q m (Ok p) = head_of t q p m
pop_on t q m (Err e) = None

unfoldable pub pop_of : Table → Queue → List ℕ → Option (ℕ × Queue)
pop_of t q m = pop_on t q m (begin_of t q m)

-- a step back: the entry before counts as not taken
unfoldable pub back_of : Queue → Queue
back_of q = with_next_avail q (sub16 q.next_avail 1)

-- ---- the cases of begin, in the order of its refusals
module _ (t : Table) (q : Queue) (m : List ℕ) where
  module _ (P : Result AvailIter Error → Type 0) (not-ready : q.ready ≡ false → P (Err QueueNotReady)) (no-ring : q.avail_ring ≡ 0 → P (Err QueueNotReady))
      (fault : q.ready ≡ true → (q.avail_ring ≢ 0) → idx_read t q m ≡ None → P (Err GuestMemory))
      (far : (idx : ℕ) → q.ready ≡ true → (q.avail_ring ≢ 0) → idx_read t q m ≡ Some idx → q.size < sub16 idx q.next_avail → P (Err InvalidAvailRingIndex))
      (on : (idx : ℕ) → q.ready ≡ true → (q.avail_ring ≢ 0) → idx_read t q m ≡ Some idx → sub16 idx q.next_avail ≤ q.size → P (Ok (pass idx))) where
    read' : q.ready ≡ true → (q.avail_ring ≢ 0) → (g : Option ℕ) → idx_read t q m ≡ g → P (begun_on q g)
    read' r z (Some idx) e =
        pick_elim P (nat_le (sub16 idx q.next_avail) q.size) (Ok (pass idx)) (Err InvalidAvailRingIndex)
        (λ h. on idx r z e (leb-true _ _ h)) (λ h. far idx r z e (leb-false _ _ h))
    read' r z None e = fault r z e

    pub begin_elim : P (begin_of t q m)
    unfolding begin_of
    begin_elim =
        pick_elim P q.ready (pick (q.avail_ring == 0) (Err QueueNotReady) (begun_on q (idx_read t q m))) (Err QueueNotReady)
        (λ r. pick_elim P (q.avail_ring == 0) (Err QueueNotReady) (begun_on q (idx_read t q m))
        (λ z. no-ring (eqb-true _ _ z)) (λ z. read' r (eqb-false _ _ z) (idx_read t q m) refl))
        not-ready

  -- the same, as equations
  pub begin_not_ready : q.ready ≡ false → begin_of t q m ≡ Err QueueNotReady
  unfolding begin_of
  begin_not_ready e = rw e

  ring_zero : (r b : Bool) → b ≡ true → pick r (pick b (Err QueueNotReady) (begun_on q (idx_read t q m))) (Err QueueNotReady) ≡ Err QueueNotReady
  ring_zero true true e = refl
  ring_zero true false e = absurd (true≢false (sym e))
  ring_zero false b e = refl

  pub begin_no_ring : q.avail_ring ≡ 0 → begin_of t q m ≡ Err QueueNotReady
  unfolding begin_of
  begin_no_ring z = ring_zero q.ready (q.avail_ring == 0) (eq-eqb _ _ z)

  pub begin_read : q.ready ≡ true → (q.avail_ring ≢ 0) → begin_of t q m ≡ begun_on q (idx_read t q m)
  unfolding begin_of
  begin_read e z = rw (e, ne_eqb _ _ z)

  pub begin_fault : q.ready ≡ true → (q.avail_ring ≢ 0) → idx_read t q m ≡ None → begin_of t q m ≡ Err GuestMemory
  begin_fault r z e = begin_read r z ∙ ap (begun_on q) e

  module _ (r : q.ready ≡ true) (z : q.avail_ring ≡ 0 → ⊥) (idx : ℕ) (e : idx_read t q m ≡ Some idx) where
    pub begin_index : q.size < sub16 idx q.next_avail → begin_of t q m ≡ Err InvalidAvailRingIndex
    begin_index h = begin_read r z ∙ ap (begun_on q) e ∙ rw (lt-leb _ _ h)

    pub begin_pass : sub16 idx q.next_avail ≤ q.size → begin_of t q m ≡ Ok (pass idx)
    begin_pass h = begin_read r z ∙ ap (begun_on q) e ∙ rw (le-leb _ _ h)

  -- the same over what reading idx found
  pub begin_on : q.ready ≡ true → (q.avail_ring ≢ 0) → (g : Option ℕ) → g ≡ idx_read t q m → (r : Result AvailIter Error) → r ≡ begun_on q g → r ≡ begin_of t q m
  begin_on e z g h r k = k ∙ ap (begun_on q) h ∙ sym (begin_read e z)

module _ (q : Queue) (g : Option ℕ) (idx d : ℕ) (e : g ≡ Some idx) (h : d ≡ sub16 idx q.next_avail) where
  pub begun_pass : d ≤ q.size → Ok (pass idx) ≡ begun_on q g
  begun_pass l = rw (e, ← h, le-leb _ _ l)

  pub begun_far : q.size < d → Err InvalidAvailRingIndex ≡ begun_on q g
  begun_far l = rw (e, ← h, lt-leb _ _ l)

pub begun_fault : (q : Queue) (g : Option ℕ) → g ≡ None → Err GuestMemory ≡ begun_on q g
begun_fault q g e = rw e

pub taken_head_lem : (q : Queue) (g : Option ℕ) (head n : ℕ) → g ≡ Some head → n ≡ next16 q.next_avail → Some (head, with_next_avail q n) ≡ taken_on q g
taken_head_lem q g head n e h = rw (e, h)

-- ---- the cases of next head
module _ (t : Table) (q : Queue) (p : AvailIter) (m : List ℕ) where
  module _ (P : Option (ℕ × Queue) → Type 0) (none : P None)
      (take : (head : ℕ) → (q.next_avail ≢ p.last_index) → 0 < q.size → entry_read t q m ≡ Some head → P (Some (head, with_next_avail q (next16 q.next_avail)))) where
    entry' : (q.next_avail ≢ p.last_index) → 0 < q.size → (g : Option ℕ) → entry_read t q m ≡ g → P (taken_on q g)
    entry' d s (Some head) e = take head d s e
    entry' d s None e = none

    some : (n : ℕ) → (n ≢ 0) → 0 < n
    some n z = omega arith

    pub head_elim : P (head_of t q p m)
    unfolding head_of
    head_elim =
        pick_elim P (q.next_avail == p.last_index) None (pick (q.size == 0) None (taken_on q (entry_read t q m)))
        (λ e. none)
        (λ e. pick_elim P (q.size == 0) None (taken_on q (entry_read t q m))
        (λ z. none) (λ z. entry' (eqb-false _ _ e) (some q.size (eqb-false _ _ z)) (entry_read t q m) refl))

  -- none: the pass is at its end, the queue has no places, or the entry can't be read
  pub head_end : q.next_avail ≡ p.last_index → head_of t q p m ≡ None
  unfolding head_of
  head_end e = rw (eq-eqb _ _ e)

  pub head_no_place : q.size ≡ 0 → head_of t q p m ≡ None
  unfolding head_of
  head_no_place z = rw (eq-eqb _ _ z, pick_same {A = Option (ℕ × Queue)} (q.next_avail == p.last_index) None)

  pub head_read : (q.next_avail ≢ p.last_index) → (q.size ≢ 0) → head_of t q p m ≡ taken_on q (entry_read t q m)
  unfolding head_of
  head_read e z = rw (ne_eqb _ _ e, ne_eqb _ _ z)

  -- the same over what reading the entry found
  pub head_on : (q.next_avail ≢ p.last_index) → (q.size ≢ 0) → (off : ℕ) → off ≡ 4 + 2 * (q.next_avail % q.size)
      → (g : Option ℕ) → g ≡ read2_of t m (q.avail_ring + off) → (r : Option (ℕ × Queue)) → r ≡ taken_on q g → r ≡ head_of t q p m
  head_on e z off o g h r k = k ∙ ap (taken_on q) (h ∙ ap (λ (x : ℕ). read2_of t m (q.avail_ring + x)) o) ∙ sym (head_read e z)

-- ---- pop
module _ (t : Table) (q : Queue) (m : List ℕ) where
  pop' : (b : Result AvailIter Error) → begin_of t q m ≡ b → pop_of t q m ≡ pop_on t q m b
  unfolding pop_of
  pop' b e = ap (pop_on t q m) e

  pub pop_begun : (p : AvailIter) → begin_of t q m ≡ Ok p → pop_of t q m ≡ head_of t q p m
  pop_begun p e = pop' (Ok p) e

  pub pop_refused : (e : Error) → begin_of t q m ≡ Err e → pop_of t q m ≡ None
  pop_refused e h = pop' (Err e) h

  -- the cases of pop: what it answers, begin and next head would have answered
  pub pop_elim : (P : Option (ℕ × Queue) → Type 0) → P None → ((p : AvailIter) → begin_of t q m ≡ Ok p → P (head_of t q p m)) → P (pop_of t q m)
  unfolding pop_of
  pop_elim P none take = begun' (begin_of t q m) refl
    where
      begun' : (b : Result AvailIter Error) → begin_of t q m ≡ b → P (pop_on t q m b)
      begun' (Ok p) e = take p e
      begun' (Err e) h = none

-- for the proof of `go_to_previous_position`
pub back_is : (q : Queue) → with_next_avail q ((q.next_avail + 65535) % 65536) ≡ back_of q
unfolding back_of sub16
back_is q = refl

-- ---- isolation: what lies outside the table has no influence
module _ (t : Table) (q : Queue) (m k : List ℕ) (h : Agree t m k) where
  pub begin_agree : begin_of t q m ≡ begin_of t q k
  unfolding begin_of
  begin_agree = rw (read2_agree t m k h)

  pub head_agree : (p : AvailIter) → head_of t q p m ≡ head_of t q p k
  unfolding head_of
  head_agree p = rw (read2_agree t m k h)

  pub pop_agree : pop_of t q m ≡ pop_of t q k
  unfolding pop_of
  pop_agree = ap (pop_on t q m) begin_agree ∙ on' (begin_of t q k)
    where
      on' : (b : Result AvailIter Error) → pop_on t q m b ≡ pop_on t q k b
      on' (Ok p) = head_agree p
      on' (Err e) = refl
