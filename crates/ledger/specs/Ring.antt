-- SPDX-License-Identifier: Apache-2.0 AND BSD-3-Clause
-- The used ring as the driver reads it: a put writes its entry and idx, and the device never overwrites an entry within a lap.
use Rattle.std.specs.Prelude.{ℕ, suc, ◌+◌, ◌*◌, ◌%◌, ◌<◌, ◌≤◌, ◌⊎◌, Bool, true, List, [], ◌∷◌, ◌++◌, length}
use Rattle.std.proofs.Common.{mod-lt, arith, ◌∙◌, inl, inr, length-append}
use Rattle.std.proofs.Math.Decide.{dec_le}
use Rattle.std.proofs.Math.Path.{◌≡◌, refl, ap}
use Rattle.std.proofs.Math.Bool.{false}
use Rattle.wire.specs.Number.{bytes}
use Rattle.wire.specs.Part.{Apart}
use Rattle.regions.specs.Table.{pick, Table, Good}
use Rattle.memory.specs.Access.{writable, bytes_at, after, after-length, bytes_apart, bytes_back}
use Rattle.desc.specs.Layout.{used_idx_addr, used_entry_addr, avail_event_addr}
use Rattle.desc.specs.Desc.{used_bytes}
use Rattle.queue.specs.Wrap.{next16}
use Rattle.queue.specs.Used.{put_elim, entry_addr, idx_addr, with_entry, with_idx}
use Rattle.queue.specs.Notify.{stop_mem, ask_mem, ask_addr, ask_value, flags_addr}
use Rattle.queue.specs.Proper.{Proper}
use Rattle.queue.specs.declared.Queue.{Queue}
use Rattle.queue.specs.declared.AvailIter.{AvailIter}
use Rattle.ledger.specs.declared.Call.{Call}
use Rattle.ledger.specs.declared.Call.TheVariants.{Set, SetNextAvail, SetNextUsed, Reset, Valid, Begin, NextHead, Pop, GoBack, Put, Stop, Ask, Question}
use Rattle.ledger.specs.declared.Answer.{Answer}
use Rattle.ledger.specs.declared.Answer.TheVariants.{Done, Took, NoEntry, Yes, No, Refused}
use Rattle.ledger.specs.World.{World, State, UsedBook, Given, given, Reached, begins, guest, device, step_of, step_mem, answer, first, rewritten, called, on_configured, note_used, by_put, by_question, next_put}
use Rattle.ledger.specs.Number.{window, same_place, power_divides, power_some}
use Rattle.ledger.specs.Calls.{proper_always}
use Rattle.ledger.specs.Always.{UsedAgrees, used_always}

-- the ring at guest address ring, of size places, holds the history: idx is the number of the next put, and each of the last puts, as many as there
-- are places, stands at its place (newest first: `later` of them came after it)
pub record Holds (t : Table) (ring size : ℕ) (m : List ℕ) (from : ℕ) (puts : List Given) : Type 0 where
  pub idx : 0 < length puts → bytes_at t m (used_idx_addr ring) 2 ≡ bytes 2 ((from + length puts) % 65536)
  pub entries : (later : List Given) (x : Given) (earlier : List Given) → puts ≡ later ++ x ∷ earlier → length later < size
      → bytes_at t m (used_entry_addr ring size (from + length earlier)) 8 ≡ used_bytes x.head x.len

not_empty : (later : List Given) (x : Given) (earlier : List Given) → [] ≡ later ++ x ∷ earlier → ⊥
not_empty [] x earlier e = let z : ◌≡◌ {A = ℕ} 0 1 = cc in omega arith
not_empty (y ∷ later) x earlier e = let z : ◌≡◌ {A = ℕ} 0 1 = cc in omega arith

empty : (t : Table) (ring size : ℕ) (m : List ℕ) (from : ℕ) → Holds t ring size m from []
empty t ring size m from = record { idx = λ h. absurd (omega arith); entries = λ l x r e h. absurd (not_empty l x r e) }

-- bytes that are the same leave what the ring holds
module _ (t : Table) (ring size : ℕ) (m k : List ℕ) (from : ℕ) (puts : List Given)
    (idx : bytes_at t k (used_idx_addr ring) 2 ≡ bytes_at t m (used_idx_addr ring) 2)
    (entries : (n : ℕ) → bytes_at t k (used_entry_addr ring size n) 8 ≡ bytes_at t m (used_entry_addr ring size n) 8) where
  kept : Holds t ring size m from puts → Holds t ring size k from puts
  kept h = record { idx = λ p. idx ∙ h.idx p; entries = λ l x r e p. entries (from + length r) ∙ h.entries l x r e p }

-- the entry of the next put is apart from those of the last lap
next_apart : (ring size n c : ℕ) → n < c → c < n + size → Apart (used_entry_addr ring size c) 8 (used_entry_addr ring size n) 8
next_apart ring size n c a b = order (dec_le (c % size) (n % size))
  where
    order : Dec (c % size ≤ n % size) → Apart (used_entry_addr ring size c) 8 (used_entry_addr ring size n) 8
    order (yes w) = let d : n % size ≡ c % size → ⊥ = window size n c a b in inl (omega arith)
    order (no w) = inr (omega arith)

grown_idx : (a b : ℕ) → a % 65536 ≡ b % 65536 → (a + 1) % 65536 ≡ (b + 1) % 65536
grown_idx a b e = omega arith

-- ---- one call, in a world whose numbers agree with the book
module _ (t : Table) (g : Good t) (q : Queue) (p : AvailIter) (m : List ℕ) (b : UsedBook) (a : UsedAgrees q b) (two : 65536 % q.size ≡ 0) (some : 0 < q.size) where
  -- the place of the next put, by its number
  here : entry_addr q ≡ used_entry_addr q.used_ring q.size (next_put b)
  here = ap (λ (x : ℕ). q.used_ring + (4 + 8 * x)) (same_place q.size q.next_used (next_put b) two a.count)

  -- a put that is done: its entry stands, and idx; the entries of the last lap are as they were
  module _ (head x : ℕ) where
    done_new : writable t (length m) (entry_addr q) 8 ≡ true → bytes_at t (with_idx t q (with_entry t q m head x)) (used_entry_addr q.used_ring q.size (next_put b)) 8 ≡ used_bytes head x
    done_new w =
        rw (← here)
        (bytes_apart t g (with_entry t q m head x) (idx_addr q) (bytes 2 (next16 q.next_used)) (entry_addr q) 8 (inl (omega arith))
        ∙ bytes_back t g m (entry_addr q) (used_bytes head x) w)

    done_idx : writable t (length m) (idx_addr q) 2 ≡ true → bytes_at t (with_idx t q (with_entry t q m head x)) (idx_addr q) 2 ≡ bytes 2 ((next_put b + 1) % 65536)
    done_idx w =
        bytes_back t g (with_entry t q m head x) (idx_addr q) (bytes 2 (next16 q.next_used)) (rw after-length w)
        ∙ ap (bytes 2) (grown_idx q.next_used (next_put b) a.count)

    done_old : (n : ℕ) → n < next_put b → next_put b < n + q.size
        → bytes_at t (with_idx t q (with_entry t q m head x)) (used_entry_addr q.used_ring q.size n) 8 ≡ bytes_at t m (used_entry_addr q.used_ring q.size n) 8
    done_old n l u =
        bytes_apart t g (with_entry t q m head x) (idx_addr q) (bytes 2 (next16 q.next_used)) (used_entry_addr q.used_ring q.size n) 8 (inl (omega arith))
        ∙ bytes_apart t g m (entry_addr q) (used_bytes head x) (used_entry_addr q.used_ring q.size n) 8
        (rw here (next_apart q.used_ring q.size n (next_put b) l u))

  -- flags and avail_event are apart from idx and the entries
  word_idx : (e : Bool) → Apart (pick e (avail_event_addr q.used_ring q.size) (flags_addr q)) 2 (used_idx_addr q.used_ring) 2
  word_idx true = inr (omega arith)
  word_idx false = inl (omega arith)

  word_entry : (e : Bool) (n : ℕ) → Apart (pick e (avail_event_addr q.used_ring q.size) (flags_addr q)) 2 (used_entry_addr q.used_ring q.size n) 8
  word_entry true n = let l : n % q.size < q.size = mod-lt n some in inr (omega arith)
  word_entry false n = inl (omega arith)

  ask_idx : bytes_at t (ask_mem t q m) (used_idx_addr q.used_ring) 2 ≡ bytes_at t m (used_idx_addr q.used_ring) 2
  unfolding ask_mem
  ask_idx = bytes_apart t g m (ask_addr q) (bytes 2 (ask_value q)) (used_idx_addr q.used_ring) 2 (word_idx q.event_idx_enabled)

  ask_entry : (n : ℕ) → bytes_at t (ask_mem t q m) (used_entry_addr q.used_ring q.size n) 8 ≡ bytes_at t m (used_entry_addr q.used_ring q.size n) 8
  unfolding ask_mem
  ask_entry n = bytes_apart t g m (ask_addr q) (bytes 2 (ask_value q)) (used_entry_addr q.used_ring q.size n) 8 (word_entry q.event_idx_enabled n)

  stop' : (e : Bool) (c n : ℕ) → Apart (flags_addr q) 2 c n → bytes_at t (pick e m (after t m (flags_addr q) (bytes 2 1))) c n ≡ bytes_at t m c n
  stop' true c n h = refl
  stop' false c n h = bytes_apart t g m (flags_addr q) (bytes 2 1) c n h

  stop_idx : bytes_at t (stop_mem t q m) (used_idx_addr q.used_ring) 2 ≡ bytes_at t m (used_idx_addr q.used_ring) 2
  unfolding stop_mem
  stop_idx = stop' q.event_idx_enabled (used_idx_addr q.used_ring) 2 (word_idx false)

  stop_entry : (n : ℕ) → bytes_at t (stop_mem t q m) (used_entry_addr q.used_ring q.size n) 8 ≡ bytes_at t m (used_entry_addr q.used_ring q.size n) 8
  unfolding stop_mem
  stop_entry n = stop' q.event_idx_enabled (used_entry_addr q.used_ring q.size n) 8 (word_entry false n)

  -- the device never overwrites an entry of the last lap
  module _ (n : ℕ) (old : n < next_put b) where
    abbrev Stays : List ℕ → Type 0
    Stays k = bytes_at t k (used_entry_addr q.used_ring q.size n) 8 ≡ bytes_at t m (used_entry_addr q.used_ring q.size n) 8

    pub entry-step : (c : Call) → next_put (note_used b q c (step_of t q p m c).answer) ≤ n + q.size → Stays (step_mem t q m c)
    unfolding step_of step_mem note_used
    entry-step (Put head x) l =
        put_elim t q m head x (λ r k. next_put (by_put b head x (on_configured q p r).answer) ≤ n + q.size → Stays k) (λ h u. refl) (λ h e u. refl)
        (λ h e f u. done_old head x n old (omega arith)) l
    entry-step Stop l = stop_entry n
    entry-step Ask l = ask_entry n
    entry-step (Set s) l = refl
    entry-step (SetNextAvail x) l = refl
    entry-step (SetNextUsed x) l = refl
    entry-step Reset l = refl
    entry-step Valid l = refl
    entry-step Begin l = refl
    entry-step NextHead l = refl
    entry-step Pop l = refl
    entry-step GoBack l = refl
    entry-step Question l = refl

  -- and the ring, where it was before the call, holds the history as it is after it
  module _ (h : Holds t q.used_ring q.size m b.from b.puts) where
    entry_new : (head n : ℕ) → writable t (length m) (entry_addr q) 8 ≡ true → (x : Given) (earlier : List Given) → given head n ∷ b.puts ≡ x ∷ earlier
        → bytes_at t (with_idx t q (with_entry t q m head n)) (used_entry_addr q.used_ring q.size (b.from + length earlier)) 8 ≡ used_bytes x.head x.len
    entry_new head n w x earlier e =
        let i : given head n ≡ x = cc in
        let j : b.puts ≡ earlier = cc in
        rw (← i, ← j) (done_new head n w)

    entry_old : (head n : ℕ) (later : List Given) (x : Given) (earlier : List Given) → b.puts ≡ later ++ x ∷ earlier → suc (length later) < q.size
        → bytes_at t (with_idx t q (with_entry t q m head n)) (used_entry_addr q.used_ring q.size (b.from + length earlier)) 8 ≡ used_bytes x.head x.len
    entry_old head n later x earlier e l =
        let c : length b.puts ≡ length later + suc (length earlier) = ap length e ∙ length-append later (x ∷ earlier) in
        done_old head n (b.from + length earlier) (omega arith) (omega arith) ∙ h.entries later x earlier e (omega arith)

    entry_of_lem : (head n : ℕ) → writable t (length m) (entry_addr q) 8 ≡ true → (later : List Given) (x : Given) (earlier : List Given)
        → given head n ∷ b.puts ≡ later ++ x ∷ earlier → length later < q.size
        → bytes_at t (with_idx t q (with_entry t q m head n)) (used_entry_addr q.used_ring q.size (b.from + length earlier)) 8 ≡ used_bytes x.head x.len
    entry_of_lem head n w [] x earlier e l = entry_new head n w x earlier e
    entry_of_lem head n w (y ∷ later) x earlier e l = entry_old head n later x earlier (cc) l

    abbrev Ring : List ℕ → UsedBook → Type 0
    Ring k c = Holds t q.used_ring q.size k c.from c.puts

    on_question : (e : Bool) (x : Answer) → Ring m (by_question b e x)
    on_question false x = h
    on_question true Yes = h
    on_question true No = h
    on_question true Done = h
    on_question true (Took y) = h
    on_question true NoEntry = h
    on_question true (Refused y) = h

    ring_step : (c : Call) → Ring (step_mem t q m c) (note_used b q c (step_of t q p m c).answer)
    unfolding step_of step_mem note_used
    ring_step (Put head n) =
        put_elim t q m head n (λ r k. Ring k (by_put b head n (on_configured q p r).answer)) (λ x. h) (λ x y. h)
        (λ x y z. record { idx = λ l. done_idx head n z ∙ ap (λ (k : ℕ). bytes 2 (k % 65536)) (omega arith); entries = entry_of_lem head n y })
    ring_step Stop = kept t q.used_ring q.size m (stop_mem t q m) b.from b.puts stop_idx stop_entry h
    ring_step Ask = kept t q.used_ring q.size m (ask_mem t q m) b.from b.puts ask_idx ask_entry h
    ring_step Question = on_question q.event_idx_enabled _
    ring_step (SetNextUsed n) = empty t _ _ _ _
    ring_step Reset = empty t _ _ _ _
    ring_step (Set s) = h
    ring_step (SetNextAvail n) = h
    ring_step Valid = h
    ring_step Begin = h
    ring_step NextHead = h
    ring_step Pop = h
    ring_step GoBack = h

-- ---- right after a put
pub record Stands (t : Table) (s : State) (head n : ℕ) : Type 0 where
  -- it is the newest of the history
  pub book : (called t s (Put head n)).used.puts ≡ given head n ∷ s.used.puts
  -- its entry stands at the place of its number
  pub entry : bytes_at t (called t s (Put head n)).world.mem (used_entry_addr s.world.queue.used_ring s.world.queue.size (next_put s.used)) 8 ≡ used_bytes head n
  -- and idx is the start and the length of the history
  pub idx : bytes_at t (called t s (Put head n)).world.mem (used_idx_addr s.world.queue.used_ring) 2 ≡ bytes 2 (next_put (called t s (Put head n)).used % 65536)

pub divides : (q : Queue) → Proper q → 65536 % q.size ≡ 0
divides q h = power_divides q.size h.power (let a = h.fits in let b = h.top in omega arith)

module _ (t : Table) (g : Good t) (s : State) (h : UsedAgrees s.world.queue s.used) (p : Proper s.world.queue) (head n : ℕ) where
  stands' : answer t s.world (Put head n) ≡ Done
      → ((called t s (Put head n)).used.puts ≡ given head n ∷ s.used.puts)
      × (bytes_at t (called t s (Put head n)).world.mem (used_entry_addr s.world.queue.used_ring s.world.queue.size (next_put s.used)) 8 ≡ used_bytes head n)
      × (bytes_at t (called t s (Put head n)).world.mem (used_idx_addr s.world.queue.used_ring) 2 ≡ bytes 2 (next_put (called t s (Put head n)).used % 65536))
  unfolding step_of step_mem note_used
  stands' =
      put_elim t s.world.queue s.world.mem head n
      (λ r k. (on_configured s.world.queue s.world.pass r).answer ≡ Done
      → ((by_put s.used head n (on_configured s.world.queue s.world.pass r).answer).puts ≡ given head n ∷ s.used.puts)
      × (bytes_at t k (used_entry_addr s.world.queue.used_ring s.world.queue.size (next_put s.used)) 8 ≡ used_bytes head n)
      × (bytes_at t k (used_idx_addr s.world.queue.used_ring) 2 ≡ bytes 2 (next_put (by_put s.used head n (on_configured s.world.queue s.world.pass r).answer) % 65536)))
      (λ x e. absurd (let z : ◌≡◌ {A = ℕ} 0 1 = cc in omega arith))
      (λ x y e. absurd (let z : ◌≡◌ {A = ℕ} 0 1 = cc in omega arith))
      (λ x y z e. (
        refl,
        done_new t g s.world.queue s.world.pass s.world.mem s.used h (divides s.world.queue p) (power_some s.world.queue.size p.power) head n y,
        done_idx t g s.world.queue s.world.pass s.world.mem s.used h (divides s.world.queue p) (power_some s.world.queue.size p.power) head n z
            ∙ ap (λ (k : ℕ). bytes 2 (k % 65536)) (omega arith),
      ))

  pub put_stands : answer t s.world (Put head n) ≡ Done → Stands t s head n
  put_stands e = let x = stands' e in record { book = x.0; entry = x.1; idx = x.2 }

-- ---- the whole ring, in runs in which the guest leaves idx and the entries alone, and no setter moves a ring that has entries
pub record Leaves (t : Table) (w : World) (m : List ℕ) : Type 0 where
  pub idx : bytes_at t m (used_idx_addr w.queue.used_ring) 2 ≡ bytes_at t w.mem (used_idx_addr w.queue.used_ring) 2
  pub entries : (n : ℕ) → bytes_at t m (used_entry_addr w.queue.used_ring w.queue.size n) 8 ≡ bytes_at t w.mem (used_entry_addr w.queue.used_ring w.queue.size n) 8

pub record Unmoved (q r : Queue) : Type 0 where
  pub ring : r.used_ring ≡ q.used_ring
  pub size : r.size ≡ q.size

pub data Lawful (t : Table) (w : World) : State → Type 0 where
  lawful_begins : Lawful t w (first w)
  lawful_guest : {s : State} → Lawful t w s → (m : List ℕ) → Leaves t s.world m → Lawful t w (rewritten s m)
  lawful_device : {s : State} → Lawful t w s → (c : Call) → ((called t s c).used.puts ≡ []) ⊎ Unmoved s.world.queue (called t s c).world.queue → Lawful t w (called t s c)

pub lawful_reached : {t : Table} {w : World} {s : State} → Lawful t w s → Reached t w s
lawful_reached lawful_begins = begins
lawful_reached (lawful_guest r m l) = guest (lawful_reached r) m
lawful_reached (lawful_device r c k) = device (lawful_reached r) c

moved : (t : Table) (q r : Queue) (k : List ℕ) (from : ℕ) (puts : List Given) → (puts ≡ []) ⊎ Unmoved q r → Holds t q.used_ring q.size k from puts → Holds t r.used_ring r.size k from puts
moved t q r k from puts (inl e) h = rw e (empty t _ _ k from)
moved t q r k from puts (inr u) h = rw (u.ring, u.size) h

pub history : {t : Table} {w : World} {s : State} → Good t → Proper w.queue → Lawful t w s
    → Holds t s.world.queue.used_ring s.world.queue.size s.world.mem s.used.from s.used.puts
history g p lawful_begins = empty _ _ _ _ _
history {t} g p (lawful_guest {s = s} r m l) =
    kept t s.world.queue.used_ring s.world.queue.size s.world.mem m s.used.from s.used.puts l.idx l.entries (history g p r)
history {t} {w} g p (lawful_device {s = s} r c k) =
    let x = proper_always p (lawful_reached r) in
    moved t s.world.queue (called t s c).world.queue (called t s c).world.mem (called t s c).used.from (called t s c).used.puts k
    (ring_step t g s.world.queue s.world.pass s.world.mem s.used (used_always (lawful_reached r)) (divides s.world.queue x) (power_some s.world.queue.size x.power) (history g p r) c)

-- ---- one entry, as far as the guest has not overwritten it
-- from one state of a run to a later one: the guest leaves the entry with number n alone; no setter moves the ring or sets its numbers back
pub data Spared (t : Table) (n : ℕ) (s : State) : State → Type 0 where
  at_once : Spared t n s s
  by_guest : {r : State} → Spared t n s r → (m : List ℕ)
      → bytes_at t m (used_entry_addr r.world.queue.used_ring r.world.queue.size n) 8 ≡ bytes_at t r.world.mem (used_entry_addr r.world.queue.used_ring r.world.queue.size n) 8
      → Spared t n s (rewritten r m)
  by_device : {r : State} → Spared t n s r → (c : Call) → Unmoved r.world.queue (called t r c).world.queue → next_put r.used ≤ next_put (called t r c).used
      → Spared t n s (called t r c)

spared_reached : {t : Table} {w : World} {n : ℕ} {s r : State} → Reached t w s → Spared t n s r → Reached t w r
spared_reached h at_once = h
spared_reached h (by_guest x m e) = guest (spared_reached h x) m
spared_reached h (by_device x c u l) = device (spared_reached h x) c

-- the ring is where it was, and its numbers went on
record Further (q : Queue) (a : ℕ) (r : Queue) (b : ℕ) : Type 0 where
  unmoved : Unmoved q r
  on : a ≤ b

spared_further : {t : Table} {n : ℕ} {s r : State} → Spared t n s r → Further s.world.queue (next_put s.used) r.world.queue (next_put r.used)
spared_further at_once = record { unmoved = record { ring = refl; size = refl }; on = omega arith }
spared_further (by_guest x m e) = spared_further x
spared_further (by_device x c u l) =
    let f = spared_further x in
    record { unmoved = record { ring = u.ring ∙ f.unmoved.ring; size = u.size ∙ f.unmoved.size }; on = let h = f.on in omega arith }

abbrev pub entry_of : Table → Queue → List ℕ → ℕ → List ℕ
entry_of t q m n = bytes_at t m (used_entry_addr q.used_ring q.size n) 8

moved_entry : (t : Table) (q r : Queue) (m k : List ℕ) (n : ℕ) → Unmoved q r → entry_of t q m n ≡ entry_of t q k n → entry_of t r m n ≡ entry_of t q k n
moved_entry t q r m k n u e = rw (u.ring, u.size) e

-- (the number stands before the later state: the recursion on `Spared` asks for that order)
entry_stays' : {t : Table} {w : World} {s : State} {n : ℕ} {r : State} → Good t → Proper w.queue → Reached t w s → Spared t n s r
    → n < next_put s.used → next_put r.used ≤ n + r.world.queue.size
    → entry_of t r.world.queue r.world.mem n ≡ entry_of t s.world.queue s.world.mem n
entry_stays' g p h at_once o l = refl
entry_stays' g p h (by_guest x m e) o l = e ∙ entry_stays' g p h x o l
entry_stays' {t} {w} {s} {n = n} g p h (by_device {r = r} x c u k) o l =
    let f = spared_further x in
    let y = proper_always p (spared_reached h x) in
    let i : (called t r c).world.queue.size ≡ r.world.queue.size = u.size in
    let j : next_put (called t r c).used ≤ n + r.world.queue.size = rw i at l in
    let o' : n < next_put r.used = let z = f.on in omega arith in
    moved_entry t r.world.queue (called t r c).world.queue (called t r c).world.mem r.world.mem n u
    (entry-step t g r.world.queue r.world.pass r.world.mem r.used (used_always (spared_reached h x)) (divides r.world.queue y) (power_some r.world.queue.size y.power) n o' c j)
    ∙ entry_stays' g p h x o (omega arith)

pub entry_stays : {t : Table} {w : World} {s r : State} {n : ℕ} → Good t → Proper w.queue → Reached t w s → Spared t n s r
    → n < next_put s.used → next_put r.used ≤ n + r.world.queue.size
    → entry_of t r.world.queue r.world.mem n ≡ entry_of t s.world.queue s.world.mem n
entry_stays g p h x o l = entry_stays' g p h x o l
