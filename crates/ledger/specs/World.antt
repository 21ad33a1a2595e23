-- SPDX-License-Identifier: Apache-2.0 AND BSD-3-Clause
-- The world: a queue, the pass that goes on, and guest memory; what can happen to it; and the ledger, which is in no memory: what was
-- called and answered, counted without wrapping. This is what has to be believed: the theorems (Theorems) speak of it.
use Rattle.std.specs.Prelude.{ℕ, ◌+◌, ◌≡◌, refl, Bool, true, false, List, [], ◌∷◌, ◌++◌, length, eqb, ℤ, Option, Some, None, Result, Ok, Err}
use Rattle.std.proofs.Common.{ap, ◌∙◌}
use Rattle.std.proofs.Math.IntN.{sub_ℕ}
use Rattle.regions.specs.Table.{pick, Table}
use Rattle.desc.specs.Layout.{avail_idx_addr, avail_entry_addr, used_event_addr, used_flags_addr, used_idx_addr, used_entry_addr, avail_event_addr}
use Rattle.queue.specs.State.{with_ready, with_event_idx, with_next_avail, with_next_used}
use Rattle.queue.specs.Config.{set_size_of, set_desc_table_of, set_avail_ring_of, set_used_ring_of, reset_of, valid_of}
use Rattle.queue.specs.Avail.{begin_of, head_of, pop_of, back_of}
use Rattle.queue.specs.Used.{put_of, put_mem}
use Rattle.queue.specs.Notify.{stop_of, stop_mem, ask_of, ask_mem, question_of}
use Rattle.queue.specs.declared.Queue.{Queue}
use Rattle.queue.specs.declared.AvailIter.{AvailIter}
use Rattle.ledger.specs.declared.Setting.{Setting}
use Rattle.ledger.specs.declared.Setting.TheVariants.{Size, DescTable, AvailRing, UsedRing, Ready, EventIdx}
use Rattle.ledger.specs.declared.Call.{Call}
use Rattle.ledger.specs.declared.Call.TheVariants.{Set, SetNextAvail, SetNextUsed, Reset, Valid, Begin, NextHead, Pop, GoBack, Put, Stop, Ask, Question}
use Rattle.ledger.specs.declared.Answer.{Answer}
use Rattle.ledger.specs.declared.Answer.TheVariants.{Done, Took, NoEntry, Yes, No, Refused}
use Rattle.ledger.specs.declared.Step.{Step}
use Rattle.queue.specs.declared.Error.{Error}

-- ---- one call: the functions that the queue's contracts cite, and nothing else

abbrev pub step : Answer → Queue → AvailIter → Step
step a q p = record { answer = a; queue = q; pass = p }

abbrev pub set_of : Queue → Setting → Result Queue Error
set_of q (Size n) = set_size_of q n
set_of q (DescTable low high) = set_desc_table_of q low high
set_of q (AvailRing low high) = set_avail_ring_of q low high
set_of q (UsedRing low high) = set_used_ring_of q low high
set_of q (Ready b) = Ok (with_ready q b)
set_of q (EventIdx b) = Ok (with_event_idx q b)

-- a refusal hands back no queue: the caller's own is still the one
abbrev pub on_configured : Queue → AvailIter → Result Queue Error → Step
on_configured q p (Ok r) = step Done r p
on_configured q p (Err e) = step (Refused e) q p

abbrev pub on_begun : Queue → AvailIter → Result AvailIter Error → Step
on_begun q p (Ok r) = step Done q r
on_begun q p (Err e) = step (Refused e) q p

abbrev pub on_taken : Queue → AvailIter → Option (ℕ × Queue) → Step
on_taken q p (Some (h, r)) = step (Took h) r p
on_taken q p None = step NoEntry q p

abbrev pub on_stopped : Queue → AvailIter → Result (Unit {0}) Error → Step
on_stopped q p (Ok tt) = step Done q p
on_stopped q p (Err e) = step (Refused e) q p

abbrev pub yes_no : Bool → Answer
yes_no true = Yes
yes_no false = No

abbrev pub on_asked : Queue → AvailIter → Result Bool Error → Step
on_asked q p (Ok b) = step (yes_no b) q p
on_asked q p (Err e) = step (Refused e) q p

abbrev pub on_answered : Queue → AvailIter → Result (Bool × Queue) Error → Step
on_answered q p (Ok (b, r)) = step (yes_no b) r p
on_answered q p (Err e) = step (Refused e) q p

-- what a call answers, and what it leaves of queue and pass
unfoldable pub step_of : Table → Queue → AvailIter → List ℕ → Call → Step
step_of t q p m (Set s) = on_configured q p (set_of q s)
step_of t q p m (SetNextAvail n) = step Done (with_next_avail q n) p
step_of t q p m (SetNextUsed n) = step Done (with_next_used q n) p
step_of t q p m Reset = step Done (reset_of q) p
step_of t q p m Valid = step (yes_no (valid_of t (length m) q)) q p
step_of t q p m Begin = on_begun q p (begin_of t q m)
step_of t q p m NextHead = on_taken q p (head_of t q p m)
step_of t q p m Pop = on_taken q p (pop_of t q m)
step_of t q p m GoBack = step Done (back_of q) p
step_of t q p m (Put head n) = on_configured q p (put_of t q m head n)
step_of t q p m Stop = on_stopped q p (stop_of t q m)
step_of t q p m Ask = on_asked q p (ask_of t q m)
step_of t q p m Question = on_answered q p (question_of t q m)

-- and what it leaves of guest memory
unfoldable pub step_mem : Table → Queue → List ℕ → Call → List ℕ
step_mem t q m (Put head n) = put_mem t q m head n
step_mem t q m Stop = stop_mem t q m
step_mem t q m Ask = ask_mem t q m
step_mem t q m (Set s) = m
step_mem t q m (SetNextAvail n) = m
step_mem t q m (SetNextUsed n) = m
step_mem t q m Reset = m
step_mem t q m Valid = m
step_mem t q m Begin = m
step_mem t q m NextHead = m
step_mem t q m Pop = m
step_mem t q m GoBack = m
step_mem t q m Question = m

-- ---- the world, and what can happen to it
pub record World : Type 0 where
  pub queue : Queue
  pub pass : AvailIter
  pub mem : List ℕ

-- the guest puts any bytes in the place of memory (of the same length, in the program: no theorem needs that), or the device makes a call
-- with any arguments
pub data Event : Type 0 where
  Guest : List ℕ → Event
  Device : Call → Event

abbrev pub answer : Table → World → Call → Answer
answer t w c = (step_of t w.queue w.pass w.mem c).answer

abbrev pub after_call : Table → World → Call → World
after_call t w c =
    record {
      queue = (step_of t w.queue w.pass w.mem c).queue;
      pass = (step_of t w.queue w.pass w.mem c).pass;
      mem = step_mem t w.queue w.mem c;
    }

abbrev pub after_guest : World → List ℕ → World
after_guest w m = record { queue = w.queue; pass = w.pass; mem = m }

-- ---- the fields of the two rings (VIRTIO 1.2, 2.7.6 and 2.7.8)

-- those of the used ring, which the device writes
pub data UsedField : Type 0 where
  Flags : UsedField
  Idx : UsedField
  Entry : ℕ → UsedField
  AvailEvent : UsedField

pub data Field : Type 0 where
  InUsed : UsedField → Field
  AvailIdx : Field
  AvailEntry : ℕ → Field
  UsedEvent : Field

-- where a field stands, with the rings as the queue has them configured, and its bytes; an entry is named by its number
abbrev pub field_addr : Queue → Field → ℕ
field_addr q (InUsed Flags) = used_flags_addr q.used_ring
field_addr q (InUsed Idx) = used_idx_addr q.used_ring
field_addr q (InUsed (Entry n)) = used_entry_addr q.used_ring q.size n
field_addr q (InUsed AvailEvent) = avail_event_addr q.used_ring q.size
field_addr q AvailIdx = avail_idx_addr q.avail_ring
field_addr q (AvailEntry n) = avail_entry_addr q.avail_ring q.size n
field_addr q UsedEvent = used_event_addr q.avail_ring q.size

abbrev pub field_size : Field → ℕ
field_size (InUsed (Entry n)) = 8
field_size (InUsed Flags) = 2
field_size (InUsed Idx) = 2
field_size (InUsed AvailEvent) = 2
field_size AvailIdx = 2
field_size (AvailEntry n) = 2
field_size UsedEvent = 2

-- what asking writes to (2.7.10)
abbrev pub ask_field : Queue → UsedField
ask_field q = pick q.event_idx_enabled AvailEvent Flags

-- the fields that a call may write: by their type, fields of the used ring
abbrev pub written : Queue → Call → List UsedField
written q (Put head n) = Entry q.next_used ∷ Idx ∷ []
written q Stop = pick q.event_idx_enabled [] (Flags ∷ [])
written q Ask = ask_field q ∷ []
written q (Set s) = []
written q (SetNextAvail n) = []
written q (SetNextUsed n) = []
written q Reset = []
written q Valid = []
written q Begin = []
written q NextHead = []
written q Pop = []
written q GoBack = []
written q Question = []

-- the fields that a call touches: that it reads, writes, or tests before it writes another; one for each time
abbrev pub touched : Queue → Call → List Field
touched q Begin = AvailIdx ∷ []
touched q NextHead = AvailEntry q.next_avail ∷ []
touched q Pop = AvailIdx ∷ AvailEntry q.next_avail ∷ []
touched q (Put head n) = InUsed Idx ∷ InUsed (Entry q.next_used) ∷ InUsed Idx ∷ []
touched q Stop = pick q.event_idx_enabled [] (InUsed Flags ∷ [])
touched q Ask = InUsed (ask_field q) ∷ AvailIdx ∷ []
touched q Question = pick q.event_idx_enabled (UsedEvent ∷ []) []
touched q (Set s) = []
touched q (SetNextAvail n) = []
touched q (SetNextUsed n) = []
touched q Reset = []
touched q Valid = []
touched q GoBack = []

-- ---- the books: kept from what was called and what was answered, never from the queue's positions; lists have the newest first

-- a put that was answered ok
pub record Given : Type 0 where
  pub head : ℕ
  pub len : ℕ

-- the puts that were answered ok, from the last reset or setting of the position on, the first of them number `from`; and how many of them came
-- after the last question that was answered with event index on, or after the reset: known unless the position was set in between
pub record UsedBook : Type 0 where
  pub from : ℕ
  pub puts : List Given
  pub since : ℕ
  pub known : Bool

-- a head that was handed out: the world that it was taken from, and the steps back until then
pub record Take : Type 0 where
  pub head : ℕ
  pub before : World
  pub backs : ℕ

-- the heads that were handed out, from the last reset or setting of the position on, and the steps back
pub record AvailBook : Type 0 where
  pub start : ℕ
  pub takes : List Take
  pub backs : ℕ

-- a question: the world and the book in which it was asked, and the answer
pub record Query : Type 0 where
  pub before : World
  pub book : UsedBook
  pub answer : Answer

-- a field, and the queue as it was configured when a call wrote it
pub record Written : Type 0 where
  pub queue : Queue
  pub field : UsedField

-- memory as the guest left it when it last acted, and the fields that the device may have written since
pub record WriteBook : Type 0 where
  pub guests : List ℕ
  pub fields : List Written

abbrev pub given : ℕ → ℕ → Given
given head n = record { head = head; len = n }

abbrev pub by_put : UsedBook → ℕ → ℕ → Answer → UsedBook
by_put b head n Done = record { from = b.from; puts = given head n ∷ b.puts; since = b.since + 1; known = b.known }
by_put b head n (Took h) = b
by_put b head n NoEntry = b
by_put b head n Yes = b
by_put b head n No = b
by_put b head n (Refused e) = b

abbrev pub asked : UsedBook → UsedBook
asked b = record { from = b.from; puts = b.puts; since = 0; known = true }

abbrev pub by_question : UsedBook → Bool → Answer → UsedBook
by_question b false a = b
by_question b true Yes = asked b
by_question b true No = asked b
by_question b true Done = b
by_question b true (Took h) = b
by_question b true NoEntry = b
by_question b true (Refused e) = b

unfoldable pub note_used : UsedBook → Queue → Call → Answer → UsedBook
note_used b q (Put head n) a = by_put b head n a
note_used b q Question a = by_question b q.event_idx_enabled a
note_used b q (SetNextUsed n) a = record { from = n; puts = []; since = 0; known = false }
note_used b q Reset a = record { from = 0; puts = []; since = 0; known = true }
note_used b q (Set s) a = b
note_used b q (SetNextAvail n) a = b
note_used b q Valid a = b
note_used b q Begin a = b
note_used b q NextHead a = b
note_used b q Pop a = b
note_used b q GoBack a = b
note_used b q Stop a = b
note_used b q Ask a = b

abbrev pub by_take : AvailBook → World → Answer → AvailBook
by_take b w (Took h) = record { start = b.start; takes = record { head = h; before = w; backs = b.backs } ∷ b.takes; backs = b.backs }
by_take b w Done = b
by_take b w NoEntry = b
by_take b w Yes = b
by_take b w No = b
by_take b w (Refused e) = b

unfoldable pub note_avail : AvailBook → World → Call → Answer → AvailBook
note_avail b w NextHead a = by_take b w a
note_avail b w Pop a = by_take b w a
note_avail b w GoBack a = record { start = b.start; takes = b.takes; backs = b.backs + 1 }
note_avail b w (SetNextAvail n) a = record { start = n; takes = []; backs = 0 }
note_avail b w Reset a = record { start = 0; takes = []; backs = 0 }
note_avail b w (Set s) a = b
note_avail b w (SetNextUsed n) a = b
note_avail b w Valid a = b
note_avail b w Begin a = b
note_avail b w (Put head n) a = b
note_avail b w Stop a = b
note_avail b w Ask a = b
note_avail b w Question a = b

unfoldable pub note_query : List Query → UsedBook → World → Call → Answer → List Query
note_query l b w Question a = record { before = w; book = b; answer = a } ∷ l
note_query l b w (Set s) a = l
note_query l b w (SetNextAvail n) a = l
note_query l b w (SetNextUsed n) a = l
note_query l b w Reset a = l
note_query l b w Valid a = l
note_query l b w Begin a = l
note_query l b w NextHead a = l
note_query l b w Pop a = l
note_query l b w GoBack a = l
note_query l b w (Put head n) a = l
note_query l b w Stop a = l
note_query l b w Ask a = l

abbrev pub with_fields : Queue → List UsedField → List Written → List Written
with_fields q [] l = l
with_fields q (f ∷ fs) l = record { queue = q; field = f } ∷ with_fields q fs l

-- ---- runs
pub record State : Type 0 where
  pub world : World
  pub used : UsedBook
  pub avail : AvailBook
  pub queries : List Query
  pub writes : WriteBook

-- nothing was called yet, whatever the world is; where nothing counts as added, as in a new queue, the count since the last question is known
abbrev pub first : World → State
first w =
    record {
      world = w;
      used = record { from = w.queue.next_used; puts = []; since = 0; known = eqb w.queue.num_added 0 };
      avail = record { start = w.queue.next_avail; takes = []; backs = 0 };
      queries = [];
      writes = record { guests = w.mem; fields = [] };
    }

-- the guest acts: the books of puts, heads and questions stay
abbrev pub rewritten : State → List ℕ → State
rewritten s m =
    record {
      world = after_guest s.world m;
      used = s.used;
      avail = s.avail;
      queries = s.queries;
      writes = record { guests = m; fields = [] };
    }

-- the device acts
abbrev pub called : Table → State → Call → State
called t s c =
    record {
      world = after_call t s.world c;
      used = note_used s.used s.world.queue c (answer t s.world c);
      avail = note_avail s.avail s.world c (answer t s.world c);
      queries = note_query s.queries s.used s.world c (answer t s.world c);
      writes = record {
        guests = s.writes.guests;
        fields = with_fields s.world.queue (written s.world.queue c) s.writes.fields;
      };
    }

abbrev pub next : Table → State → Event → State
next t s (Guest m) = rewritten s m
next t s (Device c) = called t s c

-- a run is a list of events, folded over a state
unfoldable pub run : Table → State → List Event → State
run t s [] = s
run t s (e ∷ es) = run t (next t s e) es

-- the states that runs from a world on lead to
pub data Reached (t : Table) (w : World) : State → Type 0 where
  begins : Reached t w (first w)
  guest : {s : State} → Reached t w s → (m : List ℕ) → Reached t w (rewritten s m)
  device : {s : State} → Reached t w s → (c : Call) → Reached t w (called t s c)

-- the two agree: what holds of every state that is reached holds after every run, and no other state is reached
next_reached : (t : Table) (w : World) (s : State) → Reached t w s → (e : Event) → Reached t w (next t s e)
next_reached t w s r (Guest m) = guest r m
next_reached t w s r (Device c) = device r c

run_from : (t : Table) (w : World) (s : State) → Reached t w s → (es : List Event) → Reached t w (run t s es)
unfolding run
run_from t w s r [] = r
run_from t w s r (e ∷ es) = run_from t w (next t s e) (next_reached t w s r e) es

pub run_reached : (t : Table) (w : World) (es : List Event) → Reached t w (run t (first w) es)
run_reached t w es = run_from t w (first w) begins es

run_more : (t : Table) (s : State) (es : List Event) (e : Event) → run t s (es ++ e ∷ []) ≡ next t (run t s es) e
unfolding run
run_more t s [] e = refl
run_more t s (x ∷ es) e = run_more t (next t s x) es e

one_more : (t : Table) (w : World) (s : State) (e : Event) → (es : List Event) × (run t (first w) es ≡ s) → (es : List Event) × (run t (first w) es ≡ next t s e)
one_more t w s e (es, h) = (es ++ e ∷ [], run_more t (first w) es e ∙ ap (λ (x : State). next t x e) h)

pub reached_run : (t : Table) (w : World) (s : State) → Reached t w s → (es : List Event) × (run t (first w) es ≡ s)
unfolding run
reached_run t w s begins = ([], refl)
reached_run t w s (guest {s = x} r m) = one_more t w x (Guest m) (reached_run t w x r)
reached_run t w s (device {s = x} r c) = one_more t w x (Device c) (reached_run t w x r)

-- ---- the words of the theorems

-- the number of the next put
abbrev pub next_put : UsedBook → ℕ
next_put b = b.from + length b.puts

-- the number of the next entry to take: start, with those taken, less the steps back; below 0 after a step back from the first entry
abbrev pub next_take : AvailBook → ℤ
next_take b = sub_ℕ (b.start + length b.takes) b.backs
