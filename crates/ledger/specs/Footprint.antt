-- SPDX-License-Identifier: Apache-2.0 AND BSD-3-Clause
-- What a call can see: its answer, and the queue that it leaves, are settled by the few fields that it touches. So isolation holds of whole runs,
-- and the fields that a run touches can be counted.
use Rattle.std.specs.Prelude.{ℕ, suc, ◌+◌, ◌<◌, ◌≤◌, ◌≡◌, Bool, List, [], ◌∷◌, length, ltb, Result, Ok, Err, Option, Some, None}
use Rattle.std.proofs.Common.{arith, ◌∙◌}
use Rattle.std.proofs.Math.Path.{refl, sym, ap}
use Rattle.std.proofs.Math.Bool.{true, false}
use Rattle.std.proofs.Math.ListN.{get_or}
use Rattle.wire.specs.Number.{bytes}
use Rattle.regions.specs.Table.{pick, Table, Maps}
use Rattle.regions.specs.Spots.{spots, Mapped, spots_mapped, length-spots}
use Rattle.memory.specs.Cells.{fetch, store, store_agree}
use Rattle.memory.specs.Access.{writable, bytes_at, read_of, read2_of, after, after-length, Agree}
use Rattle.desc.specs.Desc.{used_bytes}
use Rattle.desc.specs.Layout.{avail_idx_addr}
use Rattle.queue.specs.Wrap.{next16}
use Rattle.queue.specs.Avail.{begin_of, head_of, pop_of, pop_on, idx_read, entry_read}
use Rattle.queue.specs.Used.{put_of, put_mem, room, entry_addr, idx_addr, with_entry, with_idx}
use Rattle.queue.specs.Notify.{stop_of, stop_mem, ask_of, ask_mem, ask_addr, ask_value, flags_addr, question_of, answered_on, used_event_read}
use Rattle.queue.specs.declared.Queue.{Queue}
use Rattle.queue.specs.declared.AvailIter.{AvailIter}
use Rattle.ledger.specs.declared.Call.{Call}
use Rattle.ledger.specs.declared.Call.TheVariants.{Set, SetNextAvail, SetNextUsed, Reset, Valid, Begin, NextHead, Pop, GoBack, Put, Stop, Ask, Question}
use Rattle.ledger.specs.declared.Answer.{Answer}
use Rattle.ledger.specs.declared.Step.{Step}
use Rattle.ledger.specs.World.{World, Event, Guest, Device, Field, UsedEvent, step_of, step_mem, answer, after_call, after_guest, touched, field_addr, field_size, on_begun, on_taken, on_configured, on_stopped, on_asked, on_answered}
use Rattle.ledger.specs.Calls.{step-length}
use Rattle.queue.specs.declared.Error.{Error}

-- two memories hold the same bytes at the places of n bytes from guest address a on; at those of some fields
abbrev pub SameAt : Table → List ℕ → List ℕ → ℕ → ℕ → Type 0
SameAt t m k a n = (x i : ℕ) → a ≤ x → x < a + n → Maps t (length m) x i → get_or m i 0 ≡ get_or k i 0

abbrev pub SameIn : Table → List ℕ → List ℕ → Queue → List Field → Type 0
SameIn t m k q [] = Unit {0}
SameIn t m k q (f ∷ fs) = SameAt t m k (field_addr q f) (field_size f) × SameIn t m k q fs

-- ---- one access
fetch_same : (t : Table) (size a : ℕ) (ps : List (Option ℕ)) (m k : List ℕ) → Mapped t size a ps
    → ((x i : ℕ) → a ≤ x → x < a + length ps → Maps t size x i → get_or m i 0 ≡ get_or k i 0) → fetch m ps ≡ fetch k ps
fetch_same t size a [] m k h f = refl
fetch_same t size a (Some i ∷ ps) m k h f =
    cc (f a i (omega arith) (omega arith) h.0, fetch_same t size (suc a) ps m k h.1 (λ x j l u p. f x j (omega arith) (omega arith) p))
fetch_same t size a (None ∷ ps) m k h f = cc (fetch_same t size (suc a) ps m k h (λ x j l u p. f x j (omega arith) (omega arith) p))

module _ (t : Table) (m k : List ℕ) (e : length m ≡ length k) where
  bytes_same : (a n : ℕ) → SameAt t m k a n → bytes_at t m a n ≡ bytes_at t k a n
  unfolding bytes_at
  bytes_same a n h =
      rw (← e, fetch_same t (length m) a (spots t (length m) a n) m k (spots_mapped t (length m) a n) (λ x i l u p. h x i l (rw length-spots at u) p))

  read2_same : (a : ℕ) → SameAt t m k a 2 → read2_of t m a ≡ read2_of t k a
  unfolding read_of
  read2_same a h = rw (e, bytes_same a 2 h)

  module _ (i : ℕ) (h : get_or m i 0 ≡ get_or k i 0) where
    after' : (c : Bool) (a : ℕ) (bs : List ℕ)
        → get_or (pick c (store m (spots t (length m) a (length bs)) bs) m) i 0 ≡ get_or (pick c (store k (spots t (length m) a (length bs)) bs) k) i 0
    after' true a bs = store_agree m k (spots t (length m) a (length bs)) bs i e h
    after' false a bs = h

    after_same : (a : ℕ) (bs : List ℕ) → get_or (after t m a bs) i 0 ≡ get_or (after t k a bs) i 0
    unfolding after
    after_same a bs = rw (← e) (after' (writable t (length m) a (length bs)) a bs)

-- ---- one call
-- the answer is the same, and bytes that were the same are the same again
pub record Sees (t : Table) (q : Queue) (p : AvailIter) (m k : List ℕ) (c : Call) : Type 0 where
  pub step : step_of t q p m c ≡ step_of t q p k c
  pub mem : (i : ℕ) → get_or m i 0 ≡ get_or k i 0 → get_or (step_mem t q m c) i 0 ≡ get_or (step_mem t q k c) i 0

module _ (t : Table) (q : Queue) (p : AvailIter) (m k : List ℕ) (e : length m ≡ length k) where
  begin_same : idx_read t q m ≡ idx_read t q k → begin_of t q m ≡ begin_of t q k
  unfolding begin_of
  begin_same h = rw h

  head_same : (r : AvailIter) → entry_read t q m ≡ entry_read t q k → head_of t q r m ≡ head_of t q r k
  unfolding head_of
  head_same r h = rw h

  pop_same : idx_read t q m ≡ idx_read t q k → entry_read t q m ≡ entry_read t q k → pop_of t q m ≡ pop_of t q k
  unfolding pop_of
  pop_same h f = ap (pop_on t q m) (begin_same h) ∙ on' (begin_of t q k)
    where
      on' : (b : Result AvailIter Error) → pop_on t q m b ≡ pop_on t q k b
      on' (Ok r) = head_same r f
      on' (Err x) = refl

  put_same : (head n : ℕ) → put_of t q m head n ≡ put_of t q k head n
  unfolding put_of
  put_same head n = rw e

  put_mem_same : (head n i : ℕ) → get_or m i 0 ≡ get_or k i 0 → get_or (put_mem t q m head n) i 0 ≡ get_or (put_mem t q k head n) i 0
  unfolding put_mem
  put_mem_same head n i h = rw (← e) (both (ltb head q.size) (room t q (length m)))
    where
      done : get_or (with_idx t q (with_entry t q m head n)) i 0 ≡ get_or (with_idx t q (with_entry t q k head n)) i 0
      done =
          after_same t (with_entry t q m head n) (with_entry t q k head n)
          (after-length t m (entry_addr q) (used_bytes head n) ∙ e ∙ sym (after-length t k (entry_addr q) (used_bytes head n))) i
          (after_same t m k e i h (entry_addr q) (used_bytes head n)) (idx_addr q) (bytes 2 (next16 q.next_used))

      both : (a b : Bool) → get_or (pick a (pick b (with_idx t q (with_entry t q m head n)) m) m) i 0 ≡ get_or (pick a (pick b (with_idx t q (with_entry t q k head n)) k) k) i 0
      both true true = done
      both true false = h
      both false b = h

  stop_same : stop_of t q m ≡ stop_of t q k
  unfolding stop_of
  stop_same = rw e

  stop_mem_same : (i : ℕ) → get_or m i 0 ≡ get_or k i 0 → get_or (stop_mem t q m) i 0 ≡ get_or (stop_mem t q k) i 0
  unfolding stop_mem
  stop_mem_same i h = on' q.event_idx_enabled
    where
      on' : (b : Bool) → get_or (pick b m (after t m (flags_addr q) (bytes 2 1))) i 0 ≡ get_or (pick b k (after t k (flags_addr q) (bytes 2 1))) i 0
      on' true = h
      on' false = after_same t m k e i h (flags_addr q) (bytes 2 1)

  ask_mem_same : (i : ℕ) → get_or m i 0 ≡ get_or k i 0 → get_or (ask_mem t q m) i 0 ≡ get_or (ask_mem t q k) i 0
  unfolding ask_mem
  ask_mem_same i h = after_same t m k e i h (ask_addr q) (bytes 2 (ask_value q))

  asked-length : (x : List ℕ) → length (ask_mem t q x) ≡ length x
  unfolding ask_mem
  asked-length x = after-length t x (ask_addr q) (bytes 2 (ask_value q))

  ask_same : SameAt t m k (avail_idx_addr q.avail_ring) 2 → ask_of t q m ≡ ask_of t q k
  unfolding ask_of
  ask_same h =
      rw (e, read2_same t (ask_mem t q m) (ask_mem t q k) (asked-length m ∙ e ∙ sym (asked-length k)) (avail_idx_addr q.avail_ring) (λ x i l u a. ask_mem_same i (h x i l u (rw asked-length at a))))

  question_same : SameIn t m k q (pick q.event_idx_enabled (UsedEvent ∷ []) []) → question_of t q m ≡ question_of t q k
  unfolding question_of
  question_same h = on' q.event_idx_enabled h
    where
      on' : (b : Bool) → SameIn t m k q (pick b (UsedEvent ∷ []) []) → pick b (answered_on q (used_event_read t q m)) (Ok (true, q)) ≡ pick b (answered_on q (used_event_read t q k)) (Ok (true, q))
      on' true s = ap (answered_on q) (read2_same t m k e (field_addr q UsedEvent) s.0)
      on' false s = refl

  pub sees : (c : Call) → SameIn t m k q (touched q c) → Sees t q p m k c
  unfolding step_of step_mem
  sees Begin s = record { step = ap (on_begun q p) (begin_same (read2_same t m k e _ s.0)); mem = λ i h. h }
  sees NextHead s = record { step = ap (on_taken q p) (head_same p (read2_same t m k e _ s.0)); mem = λ i h. h }
  sees Pop s = record { step = ap (on_taken q p) (pop_same (read2_same t m k e _ s.0) (read2_same t m k e _ s.1.0)); mem = λ i h. h }
  sees (Put head n) s = record { step = ap (on_configured q p) (put_same head n); mem = λ i h. put_mem_same head n i h }
  sees Stop s = record { step = ap (on_stopped q p) stop_same; mem = λ i h. stop_mem_same i h }
  sees Ask s = record { step = ap (on_asked q p) (ask_same s.1.0); mem = λ i h. ask_mem_same i h }
  sees Question s = record { step = ap (on_answered q p) (question_same s); mem = λ i h. h }
  sees Valid s = record { step = rw e; mem = λ i h. h }
  sees (Set x) s = record { step = refl; mem = λ i h. h }
  sees (SetNextAvail n) s = record { step = refl; mem = λ i h. h }
  sees (SetNextUsed n) s = record { step = refl; mem = λ i h. h }
  sees Reset s = record { step = refl; mem = λ i h. h }
  sees GoBack s = record { step = refl; mem = λ i h. h }

-- ---- isolation of a whole run
pub all_same : (t : Table) (m k : List ℕ) → Agree t m k → (q : Queue) (fs : List Field) → SameIn t m k q fs
all_same t m k h q [] = tt
all_same t m k h q (f ∷ fs) = (λ x i l u p. h.at x i p, all_same t m k h q fs)

step_agree : (t : Table) (q : Queue) (p : AvailIter) (m k : List ℕ) → Agree t m k → (c : Call) → Agree t (step_mem t q m c) (step_mem t q k c)
step_agree t q p m k h c =
    record {
      sized = step-length t q m c ∙ h.sized ∙ sym (step-length t q k c);
      at = λ a i x. (sees t q p m k h.sized c (all_same t m k h q (touched q c))).mem i (h.at a i (rw step-length at x));
    }

-- the device makes the same calls, and after each of its own events the guest's memories agree at the places that the table maps
pub data Alike (t : Table) : List Event → List Event → Type 0 where
  nothing : Alike t [] []
  guests : {es fs : List Event} → (m k : List ℕ) → Agree t m k → Alike t es fs → Alike t (Guest m ∷ es) (Guest k ∷ fs)
  calls : {es fs : List Event} → (c : Call) → Alike t es fs → Alike t (Device c ∷ es) (Device c ∷ fs)

-- all answers of a run, in order
unfoldable pub answers : Table → World → List Event → List Answer
answers t w [] = []
answers t w (Guest m ∷ es) = answers t (after_guest w m) es
answers t w (Device c ∷ es) = answer t w c ∷ answers t (after_call t w c) es

abbrev pub world : Queue → AvailIter → List ℕ → World
world q p m = record { queue = q; pass = p; mem = m }

pub same_answers : (t : Table) (q : Queue) (p : AvailIter) (m k : List ℕ) → Agree t m k → (es fs : List Event) → Alike t es fs
    → answers t (world q p m) es ≡ answers t (world q p k) fs
unfolding answers
same_answers t q p m k h es fs nothing = refl
same_answers t q p m k h es fs (guests {es = xs} {fs = ys} x y a r) = same_answers t q p x y a xs ys r
same_answers t q p m k h es fs (calls {es = xs} {fs = ys} c r) =
    on (λ x. same_answers t x.queue x.pass (step_mem t q m c) (step_mem t q k c) (step_agree t q p m k h c) xs ys r)
    (step_of t q p m c) (sees t q p m k h.sized c (all_same t m k h q (touched q c))).step
  where
    on : ((x : Step) → answers t (world x.queue x.pass (step_mem t q m c)) xs ≡ answers t (world x.queue x.pass (step_mem t q k c)) ys)
        → (x : Step) → x ≡ step_of t q p k c
        → x.answer ∷ answers t (world x.queue x.pass (step_mem t q m c)) xs
        ≡ (step_of t q p k c).answer ∷ answers t (world (step_of t q p k c).queue (step_of t q p k c).pass (step_mem t q k c)) ys
    on ih x z = rw (← z) (ap (λ (l : List Answer). x.answer ∷ l) (ih x))

-- ---- the fields that a run touches
unfoldable pub steps : Table → World → List Event → ℕ
steps t w [] = 0
steps t w (Guest m ∷ es) = steps t (after_guest w m) es
steps t w (Device c ∷ es) = length (touched w.queue c) + steps t (after_call t w c) es

-- at most so many for each call
abbrev pub bound : Call → ℕ
bound Begin = 1
bound NextHead = 1
bound Pop = 2
bound (Put head n) = 3
bound Stop = 1
bound Ask = 2
bound Question = 1
bound (Set s) = 0
bound (SetNextAvail n) = 0
bound (SetNextUsed n) = 0
bound Reset = 0
bound Valid = 0
bound GoBack = 0

abbrev pub bounds : List Event → ℕ
bounds [] = 0
bounds (Guest m ∷ es) = bounds es
bounds (Device c ∷ es) = bound c + bounds es

few_stop : (b : Bool) (f : Field) → length (pick b [] (f ∷ [])) ≤ 1
few_stop true f = omega arith
few_stop false f = omega arith

few_question : (b : Bool) (f : Field) → length (pick b (f ∷ []) []) ≤ 1
few_question true f = omega arith
few_question false f = omega arith

few : (q : Queue) (c : Call) → length (touched q c) ≤ bound c
few q Begin = omega arith
few q NextHead = omega arith
few q Pop = omega arith
few q (Put head n) = omega arith
few q Stop = few_stop q.event_idx_enabled _
few q Ask = omega arith
few q Question = few_question q.event_idx_enabled _
few q (Set s) = omega arith
few q (SetNextAvail n) = omega arith
few q (SetNextUsed n) = omega arith
few q Reset = omega arith
few q Valid = omega arith
few q GoBack = omega arith

pub few_steps : (t : Table) (w : World) (es : List Event) → steps t w es ≤ bounds es
unfolding steps
few_steps t w [] = omega arith
few_steps t w (Guest m ∷ es) = few_steps t (after_guest w m) es
few_steps t w (Device c ∷ es) = omega (arith, few w.queue c, few_steps t (after_call t w c) es)
