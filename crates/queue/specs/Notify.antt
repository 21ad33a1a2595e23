-- SPDX-License-Identifier: Apache-2.0 AND BSD-3-Clause
-- Notification (VIRTIO 1.2, 2.7.7 and 2.7.10): what stopping, asking and the question answer, and what they leave in memory.
use Rattle.std.specs.Prelude.{◌≡◌, ℕ, ◌+◌, ◌*◌, ◌<◌, Bool, true, false, not, List, length, ◌==◌, nat_lt, slice_index, Result, Ok, Err, Option, Some, None}
use Rattle.std.proofs.Common.{arith, ◌∙◌, true≢false}
use Rattle.std.proofs.Math.Path.{refl, sym, ap}
use Rattle.wire.specs.Number.{bytes}
use Rattle.regions.specs.Table.{pick, Table, Maps, InMemory, Good}
use Rattle.memory.specs.Access.{writable, after, read2_of, Wrote, Outside, Agree, after-length, after_refused, after_agree, after_elsewhere, after_unmapped, read2_agree}
use Rattle.desc.specs.Layout.{avail_idx_addr, used_event_addr, used_flags_addr, avail_event_addr}
use Rattle.queue.specs.Cases.{pick_elim}
use Rattle.queue.specs.State.{with_added}
use Rattle.queue.specs.Wrap.{sub16}
use Rattle.queue.specs.Used.{writable_all}
use Rattle.queue.specs.declared.Queue.{Queue}
use Rattle.queue.specs.declared.Error.{Error}
use Rattle.queue.specs.declared.Error.TheVariants.{GuestMemory}

-- ---- stop: with event index off, 1 (NO_NOTIFY) to the used ring's flags; with event index on, nothing
abbrev pub flags_addr : Queue → ℕ
flags_addr q = used_flags_addr q.used_ring

unfoldable pub stop_of : Table → Queue → List ℕ → Result (Unit {0}) Error
stop_of t q m = pick q.event_idx_enabled (Ok tt) (pick (writable t (length m) (flags_addr q) 2) (Ok tt) (Err GuestMemory))

unfoldable pub stop_mem : Table → Queue → List ℕ → List ℕ
stop_mem t q m = pick q.event_idx_enabled m (after t m (flags_addr q) (bytes 2 1))

-- ---- ask: with event index on, next available to avail_event; with event index off, 0 to the flags; then idx is read
abbrev pub ask_addr : Queue → ℕ
ask_addr q = pick q.event_idx_enabled (avail_event_addr q.used_ring q.size) (flags_addr q)

abbrev pub ask_word : Bool → ℕ → ℕ
ask_word event next = pick event next 0

abbrev pub ask_value : Queue → ℕ
ask_value q = ask_word q.event_idx_enabled q.next_avail

unfoldable pub ask_mem : Table → Queue → List ℕ → List ℕ
ask_mem t q m = after t m (ask_addr q) (bytes 2 (ask_value q))

abbrev pub heard_on : ℕ → Option ℕ → Result Bool Error
heard_on next (Some idx) = Ok (not (idx == next))
heard_on next None = Err GuestMemory

unfoldable pub ask_of : Table → Queue → List ℕ → Result Bool Error
ask_of t q m =
    pick (writable t (length m) (ask_addr q) 2) (heard_on q.next_avail (read2_of t (ask_mem t q m) (avail_idx_addr q.avail_ring))) (Err GuestMemory)

-- ---- the question. With event index on: of the entries that were added since the last one, the driver named one in used_event
unfoldable pub tells : ℕ → ℕ → ℕ → Bool
tells next added event = nat_lt (sub16 (sub16 next event) 1) (sub16 next (sub16 next added))

abbrev pub used_event_read : Table → Queue → List ℕ → Option ℕ
used_event_read t q m = read2_of t m (used_event_addr q.avail_ring q.size)

abbrev pub answered_on : Queue → Option ℕ → Result (Bool × Queue) Error
answered_on q (Some event) = Ok (tells q.next_used q.num_added event, with_added q 0)
answered_on q None = Err GuestMemory

unfoldable pub question_of : Table → Queue → List ℕ → Result (Bool × Queue) Error
question_of t q m = pick q.event_idx_enabled (answered_on q (used_event_read t q m)) (Ok (true, q))

-- ---- what the calls that write answer, and what they leave
pub record Stop (t : Table) (q : Queue) (m : List ℕ) (r : Result (Unit {0}) Error) (m' : List ℕ) : Type 0 where
  pub answer : r ≡ stop_of t q m
  pub mem : m' ≡ stop_mem t q m

pub record Ask (t : Table) (q : Queue) (m : List ℕ) (r : Result Bool Error) (m' : List ℕ) : Type 0 where
  pub answer : r ≡ ask_of t q m
  pub mem : m' ≡ ask_mem t q m

-- where asking writes, from the start of the used ring
abbrev pub ask_off : Bool → ℕ → ℕ
ask_off event size = pick event (4 + 8 * size) 0

-- ---- the cases of stop
module _ (t : Table) (q : Queue) (m : List ℕ) where
  module _ (P : Result (Unit {0}) Error → List ℕ → Type 0) (quiet : q.event_idx_enabled ≡ true → P (Ok tt) m)
      (told : q.event_idx_enabled ≡ false → writable t (length m) (flags_addr q) 2 ≡ true → P (Ok tt) (after t m (flags_addr q) (bytes 2 1)))
      (fault : q.event_idx_enabled ≡ false → writable t (length m) (flags_addr q) 2 ≡ false → P (Err GuestMemory) m) where
    stop' : (e w : Bool) → q.event_idx_enabled ≡ e → writable t (length m) (flags_addr q) 2 ≡ w
        → P (pick e (Ok tt) (pick w (Ok tt) (Err GuestMemory))) (pick e m (after t m (flags_addr q) (bytes 2 1)))
    stop' true w e f = quiet e
    stop' false true e f = told e f
    stop' false false e f = rw (after_refused t m (flags_addr q) (bytes 2 1) f) (fault e f)

    pub stop_elim : P (stop_of t q m) (stop_mem t q m)
    unfolding stop_of stop_mem
    stop_elim = stop' q.event_idx_enabled (writable t (length m) (flags_addr q) 2) refl refl

  -- for the proof of `disable_notification`
  pub stop_on : q.event_idx_enabled ≡ true → Stop t q m (Ok tt) m
  unfolding stop_of stop_mem
  stop_on e = record { answer = rw e; mem = rw e }

  module _ (e : q.event_idx_enabled ≡ false) (b : Bool) (m₁ : List ℕ) (w : Wrote t m (q.used_ring + 0) (bytes 2 1) b m₁) where
    pub stop_written : b ≡ true → Stop t q m (Ok tt) m₁
    unfolding stop_of stop_mem
    stop_written f = record { answer = rw (e, sym w.ok ∙ f); mem = rw e w.mem }

    pub stop_fault : b ≡ false → Stop t q m (Err GuestMemory) m₁
    unfolding stop_of stop_mem
    stop_fault f = record { answer = rw (e, sym w.ok ∙ f); mem = rw e w.mem }

-- ---- ask
module _ (t : Table) (q : Queue) (m : List ℕ) where
  module _ (P : Result Bool Error → List ℕ → Type 0) (fault : writable t (length m) (ask_addr q) 2 ≡ false → P (Err GuestMemory) m)
      (unread : writable t (length m) (ask_addr q) 2 ≡ true → read2_of t (ask_mem t q m) (avail_idx_addr q.avail_ring) ≡ None → P (Err GuestMemory) (ask_mem t q m))
      (heard : (idx : ℕ) → writable t (length m) (ask_addr q) 2 ≡ true → read2_of t (ask_mem t q m) (avail_idx_addr q.avail_ring) ≡ Some idx
      → P (Ok (not (idx == q.next_avail))) (ask_mem t q m)) where
    read' : writable t (length m) (ask_addr q) 2 ≡ true → (g : Option ℕ) → read2_of t (ask_mem t q m) (avail_idx_addr q.avail_ring) ≡ g → P (heard_on q.next_avail g) (ask_mem t q m)
    read' e (Some idx) f = heard idx e f
    read' e None f = unread e f

    none : writable t (length m) (ask_addr q) 2 ≡ false → ask_mem t q m ≡ m
    unfolding ask_mem
    none e = after_refused t m (ask_addr q) (bytes 2 (ask_value q)) e

    ask' : (b : Bool) → writable t (length m) (ask_addr q) 2 ≡ b
        → P (pick b (heard_on q.next_avail (read2_of t (ask_mem t q m) (avail_idx_addr q.avail_ring))) (Err GuestMemory)) (ask_mem t q m)
    ask' true e = read' e (read2_of t (ask_mem t q m) (avail_idx_addr q.avail_ring)) refl
    ask' false e = rw (none e) (fault e)

    pub ask_elim : P (ask_of t q m) (ask_mem t q m)
    unfolding ask_of
    ask_elim = ask' (writable t (length m) (ask_addr q) 2) refl

  -- for the proof of `enable_notification`
  module _ (off word : ℕ) (o : off ≡ ask_off q.event_idx_enabled q.size) (v : word ≡ ask_value q)
      (b : Bool) (m₁ : List ℕ) (w : Wrote t m (q.used_ring + off) (bytes 2 word) b m₁) where
    addr' : (e : Bool) → q.used_ring + ask_off e q.size ≡ pick e (avail_event_addr q.used_ring q.size) (flags_addr q)
    addr' true = refl
    addr' false = refl

    addr : q.used_ring + off ≡ ask_addr q
    addr = ap (λ (x : ℕ). q.used_ring + x) o ∙ addr' q.event_idx_enabled

    ok : b ≡ writable t (length m) (ask_addr q) 2
    ok = w.ok ∙ ap (λ (x : ℕ). writable t (length m) x 2) addr

    wrote : m₁ ≡ ask_mem t q m
    unfolding ask_mem
    wrote = w.mem ∙ ap (λ (x : ℕ). after t m x (bytes 2 word)) addr ∙ ap (λ (x : ℕ). after t m (ask_addr q) (bytes 2 x)) v

    pub ask_fault : b ≡ false → Ask t q m (Err GuestMemory) m₁
    unfolding ask_of
    ask_fault f = record { answer = rw (sym ok ∙ f); mem = wrote }

    pub ask_heard : b ≡ true → (g : Option ℕ) → read2_of t m₁ (q.avail_ring + 2) ≡ g → Ask t q m (heard_on q.next_avail g) m₁
    unfolding ask_of
    ask_heard f g h =
        record { answer = rw (sym ok ∙ f) (ap (heard_on q.next_avail) (sym h ∙ ap (λ (x : List ℕ). read2_of t x (q.avail_ring + 2)) wrote)); mem = wrote }

-- ---- the question
-- for the proof of `event_passed`
pub tells_is : (next added event old x far grew : ℕ) → old ≡ sub16 next added → x ≡ sub16 next event → far ≡ sub16 x 1 → grew ≡ sub16 next old
    → nat_lt far grew ≡ tells next added event
unfolding tells
tells_is next added event old x far grew a b c d = rw (d, c, b, a)

module _ (t : Table) (q : Queue) (m : List ℕ) where
  module _ (P : Result (Bool × Queue) Error → Type 0) (off : q.event_idx_enabled ≡ false → P (Ok (true, q)))
      (fault : q.event_idx_enabled ≡ true → used_event_read t q m ≡ None → P (Err GuestMemory))
      (answer : (event : ℕ) → q.event_idx_enabled ≡ true → used_event_read t q m ≡ Some event → P (Ok (tells q.next_used q.num_added event, with_added q 0))) where
    event' : q.event_idx_enabled ≡ true → (g : Option ℕ) → used_event_read t q m ≡ g → P (answered_on q g)
    event' e (Some event) f = answer event e f
    event' e None f = fault e f

    pub question_elim : P (question_of t q m)
    unfolding question_of
    question_elim =
        pick_elim P q.event_idx_enabled (answered_on q (used_event_read t q m)) (Ok (true, q)) (λ e. event' e (used_event_read t q m) refl) off

  pub question_off : q.event_idx_enabled ≡ false → question_of t q m ≡ Ok (true, q)
  unfolding question_of
  question_off e = rw e

  pub question_read : q.event_idx_enabled ≡ true → question_of t q m ≡ answered_on q (used_event_read t q m)
  unfolding question_of
  question_read e = rw e

  -- the same over what reading used_event found
  pub question_on : q.event_idx_enabled ≡ true → (off : ℕ) → off ≡ 4 + 2 * q.size → (g : Option ℕ) → g ≡ read2_of t m (q.avail_ring + off)
      → (r : Result (Bool × Queue) Error) → r ≡ answered_on q g → r ≡ question_of t q m
  question_on e off o g h r k =
      k ∙ ap (answered_on q) (h ∙ ap (λ (x : ℕ). read2_of t m (q.avail_ring + x)) o) ∙ sym (question_read e)

pub heard_value : (next : ℕ) (g : Option ℕ) (idx : ℕ) → g ≡ Some idx → Ok (not (idx == next)) ≡ heard_on next g
heard_value next g idx e = rw e

pub heard_fault : (next : ℕ) (g : Option ℕ) → g ≡ None → Err GuestMemory ≡ heard_on next g
heard_fault next g e = rw e

pub answered_fault : (q : Queue) (g : Option ℕ) → g ≡ None → Err GuestMemory ≡ answered_on q g
answered_fault q g e = rw e

pub answered_value : (q : Queue) (g : Option ℕ) (event : ℕ) (b : Bool) → g ≡ Some event → b ≡ tells q.next_used q.num_added event → Ok (b, with_added q 0) ≡ answered_on q g
answered_value q g event b e f = rw (e, f)

-- ---- what stop and ask leave
module _ (t : Table) (q : Queue) (m : List ℕ) where
  pub stop_length : length (stop_mem t q m) ≡ length m
  stop_length = stop_elim t q m (λ r k. length k ≡ length m) (λ e. refl) (λ e f. after-length t m (flags_addr q) (bytes 2 1)) (λ e f. refl)

  -- a refused stop changes nothing
  pub stop_refused : (e : Error) → stop_of t q m ≡ Err e → stop_mem t q m ≡ m
  stop_refused e x =
      stop_elim t q m (λ r k. r ≡ Err e → k ≡ m) (λ h y. refl) (λ h f y. absurd (let z : ◌≡◌ {A = ℕ} 0 1 = cc in omega arith)) (λ h f y. refl) x

  -- a byte outside the flags is as it was, and so is one that the table does not map
  pub stop_elsewhere : Good t → (x i : ℕ) → Maps t (length m) x i → Outside x (flags_addr q) 2 → slice_index (stop_mem t q m) i ≡ slice_index m i
  stop_elsewhere g x i a o =
      stop_elim t q m (λ r k. slice_index k i ≡ slice_index m i) (λ e. refl) (λ e f. after_elsewhere t m (flags_addr q) (bytes 2 1) i g x a o) (λ e f. refl)

  pub stop_unmapped : (i : ℕ) → ((x : ℕ) → Maps t (length m) x i → ⊥) → slice_index (stop_mem t q m) i ≡ slice_index m i
  stop_unmapped i u =
      stop_elim t q m (λ r k. slice_index k i ≡ slice_index m i) (λ e. refl) (λ e f. after_unmapped t m (flags_addr q) (bytes 2 1) i u) (λ e f. refl)

  -- where a field is written it is whole in memory
  pub stop_inside : q.event_idx_enabled ≡ false → stop_of t q m ≡ (Ok tt) → (k : ℕ) → k < 2 → InMemory t (length m) (flags_addr q + k)
  stop_inside e x =
      stop_elim t q m (λ r n. r ≡ (Ok tt) → (k : ℕ) → k < 2 → InMemory t (length m) (flags_addr q + k)) (λ h y. absurd (true≢false (sym h ∙ e)))
      (λ h f y. writable_all t (length m) (flags_addr q) 2 f) (λ h f y. absurd (let z : ◌≡◌ {A = ℕ} 0 1 = cc in omega arith)) x

  pub ask_inside : (b : Bool) → ask_of t q m ≡ Ok b → (k : ℕ) → k < 2 → InMemory t (length m) (ask_addr q + k)
  ask_inside b x =
      ask_elim t q m (λ r n. r ≡ Ok b → (k : ℕ) → k < 2 → InMemory t (length m) (ask_addr q + k))
      (λ e y. absurd (let z : ◌≡◌ {A = ℕ} 0 1 = cc in omega arith)) (λ e f y. absurd (let z : ◌≡◌ {A = ℕ} 0 1 = cc in omega arith))
      (λ i e f y. writable_all t (length m) (ask_addr q) 2 e) x

  pub ask_length : length (ask_mem t q m) ≡ length m
  unfolding ask_mem
  ask_length = after-length t m (ask_addr q) (bytes 2 (ask_value q))

  -- an ask that can't write changes nothing: only a write that was made before a read that failed stays
  pub ask_unwritten : writable t (length m) (ask_addr q) 2 ≡ false → ask_mem t q m ≡ m
  unfolding ask_mem
  ask_unwritten e = after_refused t m (ask_addr q) (bytes 2 (ask_value q)) e

  -- a byte outside the field is as it was, and so is one that the table does not map
  pub ask_elsewhere : Good t → (x i : ℕ) → Maps t (length m) x i → Outside x (ask_addr q) 2 → slice_index (ask_mem t q m) i ≡ slice_index m i
  unfolding ask_mem
  ask_elsewhere g x i a o = after_elsewhere t m (ask_addr q) (bytes 2 (ask_value q)) i g x a o

  pub ask_unmapped : (i : ℕ) → ((x : ℕ) → Maps t (length m) x i → ⊥) → slice_index (ask_mem t q m) i ≡ slice_index m i
  unfolding ask_mem
  ask_unmapped i u = after_unmapped t m (ask_addr q) (bytes 2 (ask_value q)) i u

-- ---- isolation: what lies outside the table has no influence
module _ (t : Table) (q : Queue) (m k : List ℕ) (h : Agree t m k) where
  pub stop_agree : stop_of t q m ≡ stop_of t q k
  unfolding stop_of
  stop_agree = rw h.sized

  stop_mem' : (e : Bool) → Agree t (pick e m (after t m (flags_addr q) (bytes 2 1))) (pick e k (after t k (flags_addr q) (bytes 2 1)))
  stop_mem' true = h
  stop_mem' false = after_agree t m k h (flags_addr q) (bytes 2 1)

  pub stop_mem_agree : Agree t (stop_mem t q m) (stop_mem t q k)
  unfolding stop_mem
  stop_mem_agree = stop_mem' q.event_idx_enabled

  pub ask_mem_agree : Agree t (ask_mem t q m) (ask_mem t q k)
  unfolding ask_mem
  ask_mem_agree = after_agree t m k h (ask_addr q) (bytes 2 (ask_value q))

  pub ask_agree : ask_of t q m ≡ ask_of t q k
  unfolding ask_of
  ask_agree = rw (h.sized, read2_agree t (ask_mem t q m) (ask_mem t q k) ask_mem_agree)

  pub question_agree : question_of t q m ≡ question_of t q k
  unfolding question_of
  question_agree = rw (read2_agree t m k h)
