-- SPDX-License-Identifier: Apache-2.0 AND BSD-3-Clause
-- What every call keeps, by the cases of each: sizes stay proper, setters leave the numbers, memory keeps its length.
use Rattle.std.specs.Prelude.{ℕ, ◌<◌, ◌≡◌, refl, List, length, Bool, Option, Some, None, Result, Ok, Err}
use Rattle.std.proofs.Common.{arith, ap, ◌∙◌}
use Rattle.regions.specs.Table.{Table}
use Rattle.queue.specs.State.{with_next_avail}
use Rattle.queue.specs.Wrap.{next16}
use Rattle.queue.specs.Config.{set_size_elim, set_desc_table_elim, set_avail_ring_elim, set_used_ring_elim}
use Rattle.queue.specs.Avail.{begin_of, head_of, head_elim, head_read, taken_on, pop_of, pop_elim, entry_read}
use Rattle.queue.specs.Used.{put_of, put-length}
use Rattle.queue.specs.Notify.{stop_length, ask_length, ask_of, stop_of, question_of}
use Rattle.queue.specs.Proper.{Proper, OfConfigured, OfTaken, OfAnswered, reset_proper, set_size_proper, set_desc_table_proper, set_avail_ring_proper, set_used_ring_proper, set_ready_proper, set_event_idx_proper, set_next_avail_proper, set_next_used_proper, back_proper, head_proper, pop_proper, put_proper, question_proper}
use Rattle.queue.specs.declared.Queue.{Queue}
use Rattle.queue.specs.declared.AvailIter.{AvailIter}
use Rattle.ledger.specs.declared.Setting.{Setting}
use Rattle.ledger.specs.declared.Setting.TheVariants.{Size, DescTable, AvailRing, UsedRing, Ready, EventIdx}
use Rattle.ledger.specs.declared.Call.{Call}
use Rattle.ledger.specs.declared.Call.TheVariants.{Set, SetNextAvail, SetNextUsed, Reset, Valid, Begin, NextHead, Pop, GoBack, Put, Stop, Ask, Question}
use Rattle.ledger.specs.declared.Answer.TheVariants.{Took}
use Rattle.ledger.specs.World.{World, State, answer, Reached, begins, guest, device, step_of, step_mem, set_of, on_configured, on_begun, on_taken, on_stopped, on_asked, on_answered}
use Rattle.queue.specs.declared.Error.{Error}

-- ---- the queue that a call leaves: the one in its answer, or the caller's own
module _ (P : Queue → Type 0) (q : Queue) (p : AvailIter) (h : P q) where
  of_configured : (r : Result Queue Error) → OfConfigured P r → P (on_configured q p r).queue
  of_configured (Ok x) k = k
  of_configured (Err e) k = h

  of_begun : (r : Result AvailIter Error) → P (on_begun q p r).queue
  of_begun (Ok x) = h
  of_begun (Err e) = h

  of_taken : (r : Option (ℕ × Queue)) → OfTaken P r → P (on_taken q p r).queue
  of_taken (Some (x, y)) k = k
  of_taken None k = h

  of_stopped : (r : Result (Unit {0}) Error) → P (on_stopped q p r).queue
  of_stopped (Ok tt) = h
  of_stopped (Err e) = h

  of_asked : (r : Result Bool Error) → P (on_asked q p r).queue
  of_asked (Ok b) = h
  of_asked (Err e) = h

  of_answered : (r : Result (Bool × Queue) Error) → OfAnswered P r → P (on_answered q p r).queue
  of_answered (Ok (b, x)) k = k
  of_answered (Err e) k = h

pub begun-queue : (q : Queue) (p : AvailIter) (r : Result AvailIter Error) → (on_begun q p r).queue ≡ q
begun-queue q p r = of_begun (λ x. x ≡ q) q p refl r

pub stopped-queue : (q : Queue) (p : AvailIter) (r : Result (Unit {0}) Error) → (on_stopped q p r).queue ≡ q
stopped-queue q p r = of_stopped (λ x. x ≡ q) q p refl r

pub asked-queue : (q : Queue) (p : AvailIter) (r : Result Bool Error) → (on_asked q p r).queue ≡ q
asked-queue q p r = of_asked (λ x. x ≡ q) q p refl r

-- ---- sizes and alignments stay proper (T2.4)
module _ (q : Queue) (h : Proper q) where
  set_proper : (s : Setting) → OfConfigured Proper (set_of q s)
  set_proper (Size n) = set_size_proper q h n
  set_proper (DescTable low high) = set_desc_table_proper q h low high
  set_proper (AvailRing low high) = set_avail_ring_proper q h low high
  set_proper (UsedRing low high) = set_used_ring_proper q h low high
  set_proper (Ready b) = set_ready_proper q h b
  set_proper (EventIdx b) = set_event_idx_proper q h b

  pub step_proper : (t : Table) (p : AvailIter) (m : List ℕ) (c : Call) → Proper (step_of t q p m c).queue
  unfolding step_of
  step_proper t p m (Set s) = of_configured Proper q p h (set_of q s) (set_proper s)
  step_proper t p m (SetNextAvail n) = set_next_avail_proper q h n
  step_proper t p m (SetNextUsed n) = set_next_used_proper q h n
  step_proper t p m Reset = reset_proper q h
  step_proper t p m Valid = h
  step_proper t p m Begin = of_begun Proper q p h (begin_of t q m)
  step_proper t p m NextHead = of_taken Proper q p h (head_of t q p m) (head_proper q h t p m)
  step_proper t p m Pop = of_taken Proper q p h (pop_of t q m) (pop_proper q h t m)
  step_proper t p m GoBack = back_proper q h
  step_proper t p m (Put head n) = of_configured Proper q p h (put_of t q m head n) (put_proper q h t m head n)
  step_proper t p m Stop = of_stopped Proper q p h (stop_of t q m)
  step_proper t p m Ask = of_asked Proper q p h (ask_of t q m)
  step_proper t p m Question = of_answered Proper q p h (question_of t q m) (question_proper q h t m)

pub proper_always : {t : Table} {w : World} {s : State} → Proper w.queue → Reached t w s → Proper s.world.queue
proper_always h begins = h
proper_always h (guest r m) = proper_always h r
proper_always {t} h (device {s = s} r c) = step_proper s.world.queue (proper_always h r) t s.world.pass s.world.mem c

-- ---- setters leave the numbers
pub record Kept (q r : Queue) : Type 0 where
  pub avail : r.next_avail ≡ q.next_avail
  pub used : r.next_used ≡ q.next_used
  pub added : r.num_added ≡ q.num_added

module _ (q : Queue) where
  set_of_lem : (s : Setting) → OfConfigured (Kept q) (set_of q s)
  set_of_lem (Size n) = set_size_elim q (OfConfigured (Kept q)) n (λ e. record { avail = refl; used = refl; added = refl }) (λ e. tt)
  set_of_lem (DescTable low high) = set_desc_table_elim q (OfConfigured (Kept q)) low high (λ e. record { avail = refl; used = refl; added = refl }) (λ e. tt)
  set_of_lem (AvailRing low high) = set_avail_ring_elim q (OfConfigured (Kept q)) low high (λ e. record { avail = refl; used = refl; added = refl }) (λ e. tt)
  set_of_lem (UsedRing low high) = set_used_ring_elim q (OfConfigured (Kept q)) low high (λ e. record { avail = refl; used = refl; added = refl }) (λ e. tt)
  set_of_lem (Ready b) = record { avail = refl; used = refl; added = refl }
  set_of_lem (EventIdx b) = record { avail = refl; used = refl; added = refl }

  pub set-kept : (p : AvailIter) (s : Setting) → Kept q (on_configured q p (set_of q s)).queue
  set-kept p s = of_configured (Kept q) q p (record { avail = refl; used = refl; added = refl }) (set_of q s) (set_of_lem s)

-- ---- a head that was handed out is the entry that was read, and the position grew by one: next head and pop alike
pub take_elim : (t : Table) (q : Queue) (p : AvailIter) (m : List ℕ) (P : Option (ℕ × Queue) → Type 0) → P None
    → ((head : ℕ) → entry_read t q m ≡ Some head → P (Some (head, with_next_avail q (next16 q.next_avail)))) → P (head_of t q p m)
take_elim t q p m P none some = head_elim t q p m P none (λ h d s e. some h e)

pub popped_elim : (t : Table) (q : Queue) (m : List ℕ) (P : Option (ℕ × Queue) → Type 0) → P None
    → ((head : ℕ) → entry_read t q m ≡ Some head → P (Some (head, with_next_avail q (next16 q.next_avail)))) → P (pop_of t q m)
popped_elim t q m P none some = pop_elim t q m P none (λ p e. take_elim t q p m P none some)

-- an entry that can be read is handed out, if the pass is not at its end
pub handed_out : (t : Table) (w : World) → 0 < w.queue.size → (w.queue.next_avail ≡ w.pass.last_index → ⊥) → (head : ℕ)
    → entry_read t w.queue w.mem ≡ Some head → answer t w NextHead ≡ Took head
unfolding step_of
handed_out t w some d head e =
    ap (λ (x : Option (ℕ × Queue)). (on_taken w.queue w.pass x).answer)
    (head_read t w.queue w.pass w.mem d (λ z. omega arith) ∙ ap (taken_on w.queue) e)

-- ---- memory keeps its length
pub step-length : (t : Table) (q : Queue) (m : List ℕ) (c : Call) → length (step_mem t q m c) ≡ length m
unfolding step_mem
step-length t q m (Put head n) = put-length t q m head n
step-length t q m Stop = stop_length t q m
step-length t q m Ask = ask_length t q m
step-length t q m (Set s) = refl
step-length t q m (SetNextAvail n) = refl
step-length t q m (SetNextUsed n) = refl
step-length t q m Reset = refl
step-length t q m Valid = refl
step-length t q m Begin = refl
step-length t q m NextHead = refl
step-length t q m Pop = refl
step-length t q m GoBack = refl
step-length t q m Question = refl
