-- SPDX-License-Identifier: Apache-2.0 AND BSD-3-Clause
-- What holds after every run: the queue's positions are what the books say, and each head that was handed out was the entry of its number.
use Rattle.std.specs.Prelude.{ℕ, suc, ◌+◌, ◌%◌, ◌≤◌, ◌≡◌, Bool, true, false, List, [], ◌∷◌, ◌++◌, length, eqb, Some}
use native.Mathlib.Omega.{arith}
use Rattle.std.proofs.Math.Path.{refl}
use Rattle.std.proofs.Common.{sym, ◌∙◌, true≢false, eqb-true}
use Rattle.regions.specs.Table.{Table}
use Rattle.queue.specs.Wrap.{sub16, sub16-add}
use Rattle.queue.specs.Config.{reset_of}
use Rattle.queue.specs.Avail.{begin_of, back_of, entry_read}
use Rattle.queue.specs.Used.{put_of, put_elim}
use Rattle.queue.specs.Notify.{stop_of, ask_of, question_of, question_elim, tells}
use Rattle.queue.specs.declared.Queue.{Queue}
use Rattle.queue.specs.declared.AvailIter.{AvailIter}
use Rattle.queue.specs.declared.Error.TheVariants.{GuestMemory}
use Rattle.ledger.specs.declared.Call.{Call}
use Rattle.ledger.specs.declared.Call.TheVariants.{Set, SetNextAvail, SetNextUsed, Reset, Valid, Begin, NextHead, Pop, GoBack, Put, Stop, Ask, Question}
use Rattle.ledger.specs.declared.Answer.TheVariants.{Took, Yes, Refused}
use Rattle.ledger.specs.World.{World, State, UsedBook, AvailBook, Take, Query, Reached, begins, guest, device, step_of, answer, on_taken, on_configured, on_answered, yes_no, note_used, note_avail, note_query, by_put, by_take, by_question, asked}
use Rattle.ledger.specs.Calls.{set-kept, take_elim, popped_elim, begun-queue, stopped-queue, asked-queue}

-- ---- the used ring's numbers are what the book says
pub record UsedAgrees (q : Queue) (b : UsedBook) : Type 0 where
  pub count : q.next_used % 65536 ≡ (b.from + length b.puts) % 65536
  pub grew : b.known ≡ true → q.num_added % 65536 ≡ b.since % 65536
  pub fits : b.known ≡ true → b.since ≤ length b.puts

kept : (q r : Queue) (b : UsedBook) → r.next_used ≡ q.next_used → r.num_added ≡ q.num_added → UsedAgrees q b → UsedAgrees r b
kept q r b e f h = record { count = rw e h.count; grew = rw f h.grew; fits = h.fits }

one_more : (n x y : ℕ) → n % 65536 ≡ (x + y) % 65536 → (n + 1) % 65536 % 65536 ≡ (x + suc y) % 65536
one_more n x y e = omega arith

more_added : (n x : ℕ) → n % 65536 ≡ x % 65536 → (n + 1) % 65536 % 65536 ≡ (x + 1) % 65536
more_added n x e = omega arith

asked_by : (b : UsedBook) (e c : Bool) → e ≡ true → by_question b e (yes_no c) ≡ asked b
asked_by b true true z = refl
asked_by b true false z = refl
asked_by b false c z = absurd (true≢false (sym z))

module _ (t : Table) (q : Queue) (p : AvailIter) (m : List ℕ) (b : UsedBook) (h : UsedAgrees q b) where
  on_put : (head n : ℕ) → UsedAgrees (on_configured q p (put_of t q m head n)).queue (by_put b head n (on_configured q p (put_of t q m head n)).answer)
  on_put head n =
      put_elim t q m head n (λ r k. UsedAgrees (on_configured q p r).queue (by_put b head n (on_configured q p r).answer))
      (λ x. h) (λ x y. h)
      (λ x y z. record {
        count = one_more q.next_used b.from (length b.puts) h.count;
        grew = λ k. more_added q.num_added b.since (h.grew k);
        fits = λ k. let f = h.fits k in omega arith;
      })

  on_question : UsedAgrees (on_answered q p (question_of t q m)).queue (by_question b q.event_idx_enabled (on_answered q p (question_of t q m)).answer)
  on_question =
      question_elim t q m (λ r. UsedAgrees (on_answered q p r).queue (by_question b q.event_idx_enabled (on_answered q p r).answer))
      (λ e. off' q.event_idx_enabled e)
      (λ e f. fault' q.event_idx_enabled)
      (λ v e f. rw (asked_by b q.event_idx_enabled (tells q.next_used q.num_added v) e) (record { count = h.count; grew = λ k. refl; fits = λ k. omega arith }))
    where
      off' : (e : Bool) → e ≡ false → UsedAgrees q (by_question b e Yes)
      off' false z = h
      off' true z = absurd (true≢false z)

      fault' : (e : Bool) → UsedAgrees q (by_question b e (Refused GuestMemory))
      fault' false = h
      fault' true = h

  used_step : (c : Call) → UsedAgrees (step_of t q p m c).queue (note_used b q c (step_of t q p m c).answer)
  unfolding step_of note_used back_of reset_of
  used_step (Set s) = let k = set-kept q p s in kept q _ b k.used k.added h
  used_step (SetNextAvail n) = kept q _ b refl refl h
  used_step (SetNextUsed n) = record { count = omega arith; grew = λ k. absurd (true≢false (sym k)); fits = λ k. omega arith }
  used_step Reset = record { count = refl; grew = λ k. refl; fits = λ k. omega arith }
  used_step Valid = h
  used_step Begin = rw (begun-queue q p (begin_of t q m)) h
  used_step NextHead = take_elim t q p m (λ r. UsedAgrees (on_taken q p r).queue b) h (λ x e. kept q _ b refl refl h)
  used_step Pop = popped_elim t q m (λ r. UsedAgrees (on_taken q p r).queue b) h (λ x e. kept q _ b refl refl h)
  used_step GoBack = kept q _ b refl refl h
  used_step (Put head n) = on_put head n
  used_step Stop = rw (stopped-queue q p (stop_of t q m)) h
  used_step Ask = rw (asked-queue q p (ask_of t q m)) h
  used_step Question = on_question

first_added : (n : ℕ) → eqb n 0 ≡ true → n % 65536 ≡ 0
first_added n e = let z = eqb-true n 0 e in omega arith

pub used_always : {t : Table} {w : World} {s : State} → Reached t w s → UsedAgrees s.world.queue s.used
used_always {t} {w} begins = record { count = omega arith; grew = λ k. first_added w.queue.num_added k; fits = λ k. omega arith }
used_always (guest r m) = used_always r
used_always {t} (device {s = s} r c) = used_step t s.world.queue s.world.pass s.world.mem s.used (used_always r) c

-- ---- the available ring

-- a head that was taken as the n-th from start on: the world that it was taken from is one of the run, the position there, and the bytes
pub record Right (t : Table) (w : World) (start n : ℕ) (k : Take) : Type 0 where
  pub state : State
  pub reached : Reached t w state
  pub is : state.world ≡ k.before
  pub at : (k.before.queue.next_avail + k.backs) % 65536 ≡ (start + n) % 65536
  pub bytes : entry_read t k.before.queue k.before.mem ≡ Some k.head

abbrev pub Rights : Table → World → ℕ → List Take → Type 0
Rights t w start [] = Unit {0}
Rights t w start (k ∷ ks) = Right t w start (length ks) k × Rights t w start ks

pub record AvailAgrees (t : Table) (w : World) (q : Queue) (b : AvailBook) : Type 0 where
  pub at : (q.next_avail + b.backs) % 65536 ≡ (b.start + length b.takes) % 65536
  pub each : Rights t w b.start b.takes

one_taken : (x k y z : ℕ) → (x + k) % 65536 ≡ (y + z) % 65536 → ((x + 1) % 65536 + k) % 65536 ≡ (y + suc z) % 65536
one_taken x k y z e = omega arith

one_back : (x y k : ℕ) → (x + 1) % 65536 ≡ y % 65536 → (x + (k + 1)) % 65536 ≡ (y + k) % 65536
one_back x y k e = omega arith

module _ (t : Table) (w : World) (s : State) (r : Reached t w s) (h : AvailAgrees t w s.world.queue s.avail) where
  stayed : (x : Queue) → x.next_avail ≡ s.world.queue.next_avail → AvailAgrees t w x s.avail
  stayed x e = record { at = rw e h.at; each = h.each }

  on_took : (head : ℕ) → entry_read t s.world.queue s.world.mem ≡ Some head → (x : Queue) → x.next_avail ≡ (s.world.queue.next_avail + 1) % 65536
      → AvailAgrees t w x (by_take s.avail s.world (Took head))
  on_took head e x f =
      record {
        at = rw f (one_taken s.world.queue.next_avail s.avail.backs s.avail.start (length s.avail.takes) h.at);
        each = (record { state = s; reached = r; is = refl; at = h.at; bytes = e }, h.each);
      }

  avail_step : (c : Call) → AvailAgrees t w (step_of t s.world.queue s.world.pass s.world.mem c).queue (note_avail s.avail s.world c (answer t s.world c))
  unfolding step_of note_avail back_of reset_of
  avail_step (Set x) = stayed _ (set-kept s.world.queue s.world.pass x).avail
  avail_step (SetNextAvail n) = record { at = refl; each = tt }
  avail_step (SetNextUsed n) = stayed _ refl
  avail_step Reset = record { at = refl; each = tt }
  avail_step Valid = h
  avail_step Begin = rw (begun-queue s.world.queue s.world.pass (begin_of t s.world.queue s.world.mem)) h
  avail_step NextHead =
      take_elim t s.world.queue s.world.pass s.world.mem
      (λ x. AvailAgrees t w (on_taken s.world.queue s.world.pass x).queue (by_take s.avail s.world (on_taken s.world.queue s.world.pass x).answer))
      h (λ head e. on_took head e _ refl)
  avail_step Pop =
      popped_elim t s.world.queue s.world.mem
      (λ x. AvailAgrees t w (on_taken s.world.queue s.world.pass x).queue (by_take s.avail s.world (on_taken s.world.queue s.world.pass x).answer))
      h (λ head e. on_took head e _ refl)
  avail_step GoBack =
      record {
        at = one_back (sub16 s.world.queue.next_avail 1) s.world.queue.next_avail s.avail.backs (sub16-add s.world.queue.next_avail 1) ∙ h.at;
        each = h.each;
      }
  avail_step (Put head n) =
      put_elim t s.world.queue s.world.mem head n (λ x k. AvailAgrees t w (on_configured s.world.queue s.world.pass x).queue s.avail)
      (λ x. h) (λ x y. h) (λ x y z. stayed _ refl)
  avail_step Stop = rw (stopped-queue s.world.queue s.world.pass (stop_of t s.world.queue s.world.mem)) h
  avail_step Ask = rw (asked-queue s.world.queue s.world.pass (ask_of t s.world.queue s.world.mem)) h
  avail_step Question =
      question_elim t s.world.queue s.world.mem (λ x. AvailAgrees t w (on_answered s.world.queue s.world.pass x).queue s.avail)
      (λ e. h) (λ e f. h) (λ v e f. stayed _ refl)

pub avail_always : {t : Table} {w : World} {s : State} → Reached t w s → AvailAgrees t w s.world.queue s.avail
avail_always begins = record { at = refl; each = tt }
avail_always (guest r m) = avail_always r
avail_always {t} {w} (device {s = s} r c) = avail_step t w s r (avail_always r) c

pub right_of : (t : Table) (w : World) (start : ℕ) (later : List Take) (k : Take) (earlier : List Take) → Rights t w start (later ++ k ∷ earlier) → Right t w start (length earlier) k
right_of t w start [] k earlier h = h.0
right_of t w start (x ∷ later) k earlier h = right_of t w start later k earlier h.1

-- ---- the questions: each was asked in a world of the run, with the book that agrees with it, and answered as the call answers
pub record Fair (t : Table) (w : World) (x : Query) : Type 0 where
  pub agrees : UsedAgrees x.before.queue x.book
  pub answered : x.answer ≡ answer t x.before Question

abbrev pub AllFair : Table → World → List Query → Type 0
AllFair t w [] = Unit {0}
AllFair t w (x ∷ xs) = Fair t w x × AllFair t w xs

module _ (t : Table) (w : World) (s : State) (r : Reached t w s) (h : AllFair t w s.queries) where
  query_step : (c : Call) → AllFair t w (note_query s.queries s.used s.world c (answer t s.world c))
  unfolding note_query
  query_step Question = (record { agrees = used_always r; answered = refl }, h)
  query_step (Set x) = h
  query_step (SetNextAvail n) = h
  query_step (SetNextUsed n) = h
  query_step Reset = h
  query_step Valid = h
  query_step Begin = h
  query_step NextHead = h
  query_step Pop = h
  query_step GoBack = h
  query_step (Put head n) = h
  query_step Stop = h
  query_step Ask = h

pub queries_always : {t : Table} {w : World} {s : State} → Reached t w s → AllFair t w s.queries
queries_always begins = tt
queries_always (guest r m) = queries_always r
queries_always {t} {w} (device {s = s} r c) = query_step t w s r (queries_always r) c

pub fair_of : (t : Table) (w : World) (later : List Query) (x : Query) (earlier : List Query) → AllFair t w (later ++ x ∷ earlier) → Fair t w x
fair_of t w [] x earlier h = h.0
fair_of t w (y ∷ later) x earlier h = fair_of t w later x earlier h.1
