-- SPDX-License-Identifier: Apache-2.0 AND BSD-3-Clause
-- Any interleaving of the device's calls with a guest that rewrites its memory. `Reached t w s`: some list of events leads from the world w to the
-- state s (World, `run_reached` and `reached_run`). A state has the world and the books, kept from the calls and their answers alone and counted
-- without wrapping. What each theorem assumes stands in its statement; Witness shows that it can be met, or that it is needed.
use Rattle.std.specs.Prelude.{ℕ, ◌+◌, ◌*◌, ◌%◌, ◌<◌, ◌≤◌, ◌≡◌, ◌⊎◌, ◌↔◌, true, false, List, ◌∷◌, ◌++◌, length, get_or, ℤ, Option, Some}
use Rattle.std.proofs.Common.{arith, ◌∙◌}
use Rattle.std.proofs.Math.IntN.{sub_ℕ}
use Rattle.regions.specs.Table.{Table, Good}
use Rattle.memory.specs.Access.{Agree, read2_of}
use Rattle.queue.specs.Avail.{entry_read}
use Rattle.queue.specs.Notify.{used_event_read}
use Rattle.queue.specs.Proper.{Proper}
use Rattle.queue.specs.declared.Queue.{Queue}
use Rattle.queue.specs.declared.AvailIter.{AvailIter}
use Rattle.ledger.specs.declared.Call.{Call}
use Rattle.ledger.specs.declared.Call.TheVariants.{NextHead, Put, Ask}
use Rattle.ledger.specs.declared.Answer.TheVariants.{Done, Took, Yes, No}
use Rattle.ledger.specs.declared.Step.{Step}
use Rattle.ledger.specs.World.{World, Event, Take, Query, State, Reached, run, first, run_reached, answer, after_call, next_put, next_take, touched}
use Rattle.ledger.specs.Number.{modulo, is_modulo, same_place, power_some}
use Rattle.ledger.specs.Named.{Named}
use Rattle.ledger.specs.Calls.{proper_always}
use Rattle.ledger.specs.Calls as calls
use Rattle.ledger.specs.Always.{used_always, avail_always, queries_always, right_of, fair_of}
use Rattle.ledger.specs.Writes.{LiesIn, writes_always}
use Rattle.ledger.specs.Footprint.{SameIn, Sees, sees, Alike, answers, world, same_answers, steps, bounds, few_steps}
use Rattle.ledger.specs.Ring.{Stands, put_stands, Lawful, Holds, Spared, entry_of, divides}
use Rattle.ledger.specs.Ring as ring
use Rattle.ledger.specs.Notice.{since_number, question_iff, question_wraps, question_off_yes}
use Rattle.ledger.specs.Step.{Stepped, stepped_is}
use Rattle.ledger.specs.Driver.{Told}
use Rattle.ledger.specs.Driver as driver

-- ---- T3.1: taken once and in order

-- entry number z of the available ring, as it stands in a world: the two bytes at place z modulo the size (2.7.6)
abbrev pub entry : Table → World → ℤ → Option ℕ
entry t w z = read2_of t w.mem (w.queue.avail_ring + (4 + 2 * modulo z w.queue.size))

-- The head that was handed out as the n-th (`earlier` came before it), from the last reset or setting of the position on, is the entry with the number
-- start + n, less the steps back: the two bytes that stood at its place when it was taken.
pub taken_in_order : {t : Table} {w : World} {s : State} → Reached t w s → Proper w.queue → (later : List Take) (k : Take) (earlier : List Take)
    → s.avail.takes ≡ later ++ k ∷ earlier → entry t k.before (sub_ℕ (s.avail.start + length earlier) k.backs) ≡ Some k.head
taken_in_order {t} {w} {s} r p later k earlier e =
    let x = right_of t w s.avail.start later k earlier (rw e at (avail_always r).each) in
    let y : Proper k.before.queue = rw x.is at (proper_always p x.reached) in
    rw (← (is_modulo k.before.queue.size k.before.queue.next_avail (s.avail.start + length earlier) k.backs (power_some _ y.power)
    (same_place k.before.queue.size (k.before.queue.next_avail + k.backs) (s.avail.start + length earlier) (divides k.before.queue y) x.at)))
    x.bytes

-- Next available is the number of the next entry, modulo 65,536: no entry is skipped, and none is taken twice.
pub next_available : {t : Table} {w : World} {s : State} → Reached t w s → s.world.queue.next_avail % 65536 ≡ modulo (next_take s.avail) 65536
next_available {s = s} r =
    is_modulo 65536 s.world.queue.next_avail (s.avail.start + length s.avail.takes) s.avail.backs (omega arith) (avail_always r).at

-- And the next entry is handed out, if the pass is not at its end: whichever of position and remembered idx is the larger number.
pub handed_out : (t : Table) (w : World) → Proper w.queue → (w.queue.next_avail ≡ w.pass.last_index → ⊥) → (head : ℕ)
    → entry_read t w.queue w.mem ≡ Some head → answer t w NextHead ≡ Took head
handed_out t w p d head e = calls.handed_out t w (power_some _ p.power) d head e

-- ---- T3.2: the used ring's history is what the device was told

-- Next used is the number of the next put, modulo 65,536: the start, with the puts that were answered ok.
pub next_used_lem : {t : Table} {w : World} {s : State} → Reached t w s → s.world.queue.next_used % 65536 ≡ next_put s.used % 65536
next_used_lem r = (used_always r).count

-- Right after a put that is answered ok it is the newest of the history, its entry stands at the place of its number, and idx is the start and the
-- length of the history, modulo 65,536.
pub put_written : {t : Table} {w : World} {s : State} → Reached t w s → Good t → Proper w.queue → (head n : ℕ) → answer t s.world (Put head n) ≡ Done → Stands t s head n
put_written {t} {s = s} r g p head n ok = put_stands t g s (used_always r) (proper_always p r) head n ok

-- As long as the guest leaves the used ring alone and no setter moves it, idx and the last puts, as many as the ring has places, stand in it.
pub history : {t : Table} {w : World} {s : State} → Lawful t w s → Good t → Proper w.queue
    → Holds t s.world.queue.used_ring s.world.queue.size s.world.mem s.used.from s.used.puts
history l g p = ring.history g p l

-- Each entry by itself stands until the guest overwrites it, or as many puts came after it as the ring has places.
pub entry_stays : {t : Table} {w : World} {s r : State} {n : ℕ} → Reached t w s → Good t → Proper w.queue → Spared t n s r
    → n < next_put s.used → next_put r.used ≤ n + r.world.queue.size
    → entry_of t r.world.queue r.world.mem n ≡ entry_of t s.world.queue s.world.mem n
entry_stays h g p x o l = ring.entry_stays g p h x o l

-- ---- T3.3: nothing else is written

-- A byte that is not what the guest left when it last acted lies in an entry of the used ring, its idx, its flags or avail_event, at the address that
-- was configured when a call of the device wrote it.
pub nothing_else : {t : Table} {w : World} {s : State} → Reached t w s → (j : ℕ)
    → (get_or s.world.mem j 0 ≡ get_or s.writes.guests j 0) ⊎ LiesIn t (length s.writes.guests) s.writes.fields j
nothing_else r j = writes_always r j

-- ---- T3.4: notification

-- A question was asked with event index on. With fewer than 65,536 entries put since the last one that was answered so, or since the reset, the answer
-- was yes if and only if used_event, as it stood in memory then, was the number modulo 65,536 of one of them.
pub notification : {t : Table} {w : World} {s : State} → Reached t w s → (later : List Query) (x : Query) (earlier : List Query) → s.queries ≡ later ++ x ∷ earlier
    → x.before.queue.event_idx_enabled ≡ true → (event : ℕ) → used_event_read t x.before.queue x.before.mem ≡ Some event
    → x.book.known ≡ true → x.book.since < 65536
    → (x.answer ≡ Yes) ↔ Named (since_number x.book) (next_put x.book) event
notification {t} {w} {s} r later x earlier e on event read known few =
    let f = fair_of t w later x earlier (rw e at (queries_always r)) in
    rw f.answered (question_iff t x.before x.book f.agrees known event on read few)

-- With event index off it was yes.
pub notification_off : {t : Table} {w : World} {s : State} → Reached t w s → (later : List Query) (x : Query) (earlier : List Query) → s.queries ≡ later ++ x ∷ earlier
    → x.before.queue.event_idx_enabled ≡ false → x.answer ≡ Yes
notification_off {t} {w} r later x earlier e off =
    (fair_of t w later x earlier (rw e at (queries_always r))).answered ∙ question_off_yes t x.before off

-- The bound is sharp: with exactly 65,536 the answer was no, although one of them was named.
pub notification_wraps : {t : Table} {w : World} {s : State} → Reached t w s → (later : List Query) (x : Query) (earlier : List Query) → s.queries ≡ later ++ x ∷ earlier
    → x.before.queue.event_idx_enabled ≡ true → (event : ℕ) → used_event_read t x.before.queue x.before.mem ≡ Some event
    → x.book.known ≡ true → x.book.since ≡ 65536
    → (x.answer ≡ No) × Named (since_number x.book) (next_put x.book) event
notification_wraps {t} {w} r later x earlier e on event read known many =
    let f = fair_of t w later x earlier (rw e at (queries_always r)) in
    rw f.answered (question_wraps t x.before x.book f.agrees known event on read many)

-- ---- T3.5: the other direction

-- After asking answered that nothing came, idx is next available, and a driver that adds entries from there on finds, by the field that the device left
-- (avail_event with event index on, the flags with it off), that it must tell the device.
pub asked_told : (t : Table) → Good t → (w : World) → answer t w Ask ≡ No → Told t w
asked_told = driver.asked_told

-- ---- T3.6, the round trip of a chain, is in the crate `chain`; T1.7, a pass ends, in `queue` (Pass, `pass_ends`).

-- ---- isolation of a whole run

-- Two runs in which the device makes the same calls, and after each event of the guest the memories agree at the places that the table maps, give the
-- same answers throughout.
pub isolation : (t : Table) (q : Queue) (p : AvailIter) (m k : List ℕ) → Agree t m k → (es fs : List Event) → Alike t es fs
    → answers t (world q p m) es ≡ answers t (world q p k) fs
isolation = same_answers

-- ---- the step bound of a whole run

-- A run touches at most so many fields of guest memory as the bounds of its calls add up to: 3 for a put, 2 for pop and ask, 1 for begin, next head, stop
-- and the question, 0 for the others. A walk over a chain adds at most its ration (the crate `chain`).
pub step-bound : (t : Table) (w : World) (es : List Event) → steps t w es ≤ bounds es
step-bound = few_steps

-- What makes these fields all that a call touches: two memories of equal length that hold the same bytes in them give the same answer, queue and pass, and
-- agree afterwards wherever they agreed before.
pub touched-only : (t : Table) (q : Queue) (p : AvailIter) (m k : List ℕ) → length m ≡ length k → (c : Call) → SameIn t m k q (touched q c) → Sees t q p m k c
touched-only t q p m k e c s = sees t q p m k e c s

-- ---- the tie to the code

-- The functions `make` and `step` of the library, which make one call, the latter chosen by a number, have the contract `Stepped`: they answer as the
-- call does in the world that they find, and leave the world after it.
pub code_steps : (t : Table) (w : World) (c : Call) (r : Step) (m : List ℕ) → Stepped t w.queue w.pass w.mem c r m
    → (r.answer ≡ answer t w c) × (world r.queue r.pass m ≡ after_call t w c)
code_steps = stepped_is

-- ---- over lists of events: so each of these theorems is read
pub next_used_run : (t : Table) (w : World) (es : List Event) → (run t (first w) es).world.queue.next_used % 65536 ≡ next_put (run t (first w) es).used % 65536
next_used_run t w es = next_used_lem (run_reached t w es)
