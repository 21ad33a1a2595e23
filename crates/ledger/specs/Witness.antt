-- SPDX-License-Identifier: Apache-2.0 AND BSD-3-Clause
-- Each premise of the theorems is met by a value, or shown to be needed by a run in which the conclusion fails without it. Runs are computed.
use Rattle.std.specs.Prelude.{ℕ, zero, suc, ◌+◌, ◌*◌, ◌%◌, ◌<◌, ◌≡◌, refl, Bool, true, false, List, [], ◌∷◌, ◌++◌, length, Result, Ok, Some, Option, None}
use Rattle.std.specs.Option.{option_or}
use Rattle.std.proofs.Math.Nat.{mod-one}
use Rattle.std.proofs.Common.{mod-lt, arith, sym, ◌∙◌, inl, inr, length-append}
use Rattle.std.proofs.Math.Numerals.{add-one}
use Rattle.std.proofs.Math.Path.{ap}
use Rattle.std.proofs.Math.ListN.{get_or-append}
use Rattle.wire.specs.Number.{number}
use Rattle.wire.specs.Part.{Apart}
use Rattle.regions.specs.Table.{Table, Maps, Good, one_good, one_single, single_one, rows, extent, extent-fits, row, spot, spot_maps, maps_spot, place_of, stretch_of, stretch_in, stretch_r, stretch_r_inv}
use Rattle.regions.specs.declared.Run.{Run}
use Rattle.regions.specs.Spots.{covered, spots}
use Rattle.memory.specs.Access.{readable, writable, bytes_at, after, read_of, read2_of, Agree, bytes_apart}
use Rattle.desc.specs.Layout.{used_entry_addr, used_idx_addr, avail_event_addr}
use Rattle.queue.specs.State.{queue, pass}
use Rattle.queue.specs.Wrap.{sub16}
use Rattle.queue.specs.Config.{fresh, set_avail_ring_of, set_used_ring_of, whole_of}
use Rattle.queue.specs.Avail.{begin_of, head_of}
use Rattle.queue.specs.Used.{put_of, put_mem, room, grown, put_done, put-length}
use Rattle.queue.specs.Notify.{ask_of, ask_mem, question_of, tells, used_event_read}
use Rattle.queue.specs.Proper.{Proper}
use Rattle.queue.specs.declared.Queue.{Queue}
use Rattle.ledger.specs.declared.Setting.TheVariants.{AvailRing, UsedRing, Ready, EventIdx}
use Rattle.ledger.specs.declared.Call.TheVariants.{Set, SetNextUsed, Begin, NextHead, Put, Ask, Question}
use Rattle.ledger.specs.declared.Answer.TheVariants.{Done, Took, Yes, No}
use Rattle.ledger.specs.World.{World, Event, Device, State, Query, step_of, step_mem, answer, after_call, run, first, called, note_used, note_avail, note_query, by_put, on_configured, Reached, begins, device, next_put}
use Rattle.ledger.specs.Footprint.{answers, world}
use Rattle.ledger.specs.Ring.{Leaves}
use Rattle.ledger.specs.Named.{Named}
use Rattle.ledger.specs.Always.{used_always}
use Rattle.ledger.specs.Notice.{since_number, question_wraps}
use Rattle.queue.specs.declared.Error.{Error}

pub zeros : ℕ → List ℕ
zeros zero = []
zeros (suc n) = 0 ∷ zeros n

-- ---- a driver and a device that keep every rule
-- one region of 64 bytes; the rings at 16 and 32; the driver has made entry 0 available, with head 1
pub region : Table
region = 0 ∷ 64 ∷ 0 ∷ []

pub region_good : Good region
unfolding region
region_good = one_good 0 64 0

pub image : List ℕ
image = zeros 18 ++ 1 ∷ 0 ∷ 1 ∷ 0 ∷ zeros 42

-- a new queue with two places
pub start : World
start = world (fresh 2) (pass 0) image

pub start_proper : Proper start.queue
unfolding start
start_proper = record { largest = (1, refl); top = omega arith; power = (1, refl); fits = omega arith; desc = refl; avail = refl; used = refl }

pub events : List Event
events =
    Device (Set (AvailRing (Some 16) (Some 0))) ∷ Device (Set (UsedRing (Some 32) (Some 0))) ∷ Device (Set (EventIdx true)) ∷ Device (Set (Ready true))
    ∷ Device Begin ∷ Device NextHead ∷ Device (Put 1 7) ∷ Device Question ∷ Device Ask ∷ []

-- a head is taken, a put is done, the driver is to be notified, and nothing came: the premises on answers are met
pub run-answers : answers region start events ≡ Done ∷ Done ∷ Done ∷ Done ∷ Done ∷ Took 1 ∷ Done ∷ Yes ∷ No ∷ []
unfolding answers step_of step_mem region start image events zeros set_avail_ring_of set_used_ring_of whole_of begin_of head_of put_of put_mem room question_of ask_of ask_mem tells sub16 read_of readable writable bytes_at after covered spots spot stretch_of stretch_in stretch_r extent rows
run-answers = refl

-- and when the question was asked one entry had been put since the start
pub last_known : List Query → Bool
last_known [] = false
last_known (x ∷ xs) = x.book.known

pub last_since : List Query → ℕ
last_since [] = 0
last_since (x ∷ xs) = x.book.since

pub run_known : (last_known (run region (first start) events).queries ≡ true) × (last_since (run region (first start) events).queries ≡ 1)
unfolding last_known last_since run note_used note_avail note_query step_of step_mem region start image events zeros set_avail_ring_of set_used_ring_of whole_of begin_of head_of put_of put_mem room question_of ask_of ask_mem tells sub16 read_of readable writable bytes_at after covered spots spot stretch_of stretch_in stretch_r extent rows
run_known = (refl, refl)

-- a driver whose rings don't overlap writes elsewhere, and so leaves the used ring alone, as `history` asks
pub driver_leaves : (t : Table) → Good t → (w : World) → 0 < w.queue.size → (a : ℕ) (bs : List ℕ) → Apart a (length bs) w.queue.used_ring (4 + 8 * w.queue.size)
    → Leaves t w (after t w.mem a bs)
driver_leaves t g w some a bs (inl h) =
    record {
      idx = bytes_apart t g w.mem a bs (used_idx_addr w.queue.used_ring) 2 (inl (omega arith));
      entries = λ n. bytes_apart t g w.mem a bs (used_entry_addr w.queue.used_ring w.queue.size n) 8 (inl (omega arith));
    }
driver_leaves t g w some a bs (inr h) =
    record {
      idx = bytes_apart t g w.mem a bs (used_idx_addr w.queue.used_ring) 2 (inr (omega arith));
      entries = λ n. let l : n % w.queue.size < w.queue.size = mod-lt n some in
          bytes_apart t g w.mem a bs (used_entry_addr w.queue.used_ring w.queue.size n) 8 (inr (omega arith));
    }

-- two memories that differ only in a byte outside the one region agree, as `isolation` asks
below : (n size a j : ℕ) (s : Option Run) → stretch_r (row 0 n 0) size a ≡ s → place_of (option_or s None) ≡ Some j → j < n
below n size a j (Some u) e h =
    let f = stretch_r_inv (row 0 n 0) size a u.at u.len e in
    let k = (extent-fits (row 0 n 0) size).len in
    let z : u.at ≡ j = cc in
    omega (arith, f.0.inside, f.0.is)
below n size a j None e h = absurd (let z : ◌≡◌ {A = ℕ} 0 1 = cc in omega arith)

spot_below : (n size a j : ℕ) → spot (0 ∷ n ∷ 0 ∷ []) size a ≡ Some j → j < n
unfolding spot stretch_of stretch_in rows
spot_below n size a j e = below n size a j (stretch_r (row 0 n 0) size a) refl e

inside : (n size a i : ℕ) → Maps (0 ∷ n ∷ 0 ∷ []) size a i → i < n
inside n size a i h =
    let w = maps_spot (0 ∷ n ∷ 0 ∷ []) size a i h in
    let k = single_one (0 ∷ n ∷ 0 ∷ []) (one_single 0 n 0) size a i w.0 h (spot_maps (0 ∷ n ∷ 0 ∷ []) size a w.0 w.1) in
    rw k (spot_below n size a w.0 w.1)

pub outside_agrees : (m : List ℕ) (x y : ℕ) → Agree (0 ∷ length m ∷ 0 ∷ []) (m ++ x ∷ []) (m ++ y ∷ [])
outside_agrees m x y =
    record {
      sized = length-append m (x ∷ []) ∙ sym (length-append m (y ∷ []));
      at = λ a i h. let l = inside (length m) (length (m ++ x ∷ [])) a i h in
          get_or-append m (x ∷ []) 0 i l ∙ sym (get_or-append m (y ∷ []) 0 i l);
    }

-- ---- what is needed
-- `Good`, for `put_written`: guest addresses 2 and 4 share a byte, so writing idx spoils the entry of head 0
pub clash : Table
clash = 0 ∷ 4 ∷ 0 ∷ 4 ∷ 28 ∷ 2 ∷ []

pub one_place : Queue
one_place = queue 1 0 0 true 0 1 true 0 0 0

pub put_clashes : (answer clash (world one_place (pass 0) (zeros 32)) (Put 0 7) ≡ Done)
    × (bytes_at clash (after_call clash (world one_place (pass 0) (zeros 32)) (Put 0 7)).mem (used_entry_addr 0 1 0) 8 ≡ 1 ∷ 0 ∷ 0 ∷ 0 ∷ 7 ∷ 0 ∷ 0 ∷ 0 ∷ [])
unfolding clash one_place zeros step_of step_mem put_of put_mem room read_of readable writable bytes_at after covered spots spot stretch_of stretch_in stretch_r extent rows
put_clashes = (refl, refl)

-- and for `asked_told`: the two bytes of avail_event, at 20 and 21, share a byte; next available is 1, and the driver reads 0
pub share : Table
share = 0 ∷ 21 ∷ 0 ∷ 21 ∷ 1 ∷ 20 ∷ []

pub asking : World
asking = world (queue 1 1 0 true 0 1 true 0 0 8) (pass 1) (0 ∷ 0 ∷ 1 ∷ zeros 21)

pub ask_clashes : (answer share asking Ask ≡ No) × (read2_of share (after_call share asking Ask).mem (avail_event_addr 8 1) ≡ Some 0)
unfolding share asking zeros step_of step_mem ask_of ask_mem read_of readable writable bytes_at after covered spots spot stretch_of stretch_in stretch_r extent rows
ask_clashes = (refl, refl)

-- `Proper`: with 3 places, 65,536 is no multiple of the size. The put with number 65,536, whose place is 1, is written at place 0
pub three : World
three = world (queue 4 0 65535 false 0 3 true 0 0 0) (pass 0) (zeros 32)

pub two_puts : State
two_puts = run region (first three) (Device (Put 1 8) ∷ Device (Put 2 9) ∷ [])

pub place_lost : (two_puts.used.from + length two_puts.used.puts ≡ 65537)
    × (bytes_at region two_puts.world.mem (used_entry_addr 0 3 65536) 8 ≡ zeros 8)
unfolding two_puts three run note_used note_avail note_query region zeros step_of step_mem put_of put_mem room read_of readable writable bytes_at after covered spots spot stretch_of stretch_in stretch_r extent rows
place_lost = (refl, refl)

-- the position not set since the last question: after it was set, no entry has been put, and the answer is yes, since `added` still counts one
pub counted : World
counted = world (queue 2 0 0 true 0 2 true 0 16 32) (pass 0) (zeros 24 ++ 99 ∷ zeros 39)

pub position_set : List Event
position_set = Device (Put 1 8) ∷ Device (SetNextUsed 100) ∷ Device Question ∷ []

pub set_position_told : answers region counted position_set ≡ Done ∷ Done ∷ Yes ∷ []
unfolding answers counted position_set region zeros step_of step_mem put_of put_mem room question_of tells sub16 read_of readable writable bytes_at after covered spots spot stretch_of stretch_in stretch_r extent rows
set_position_told = refl

pub set_position_none : (last_since (run region (first counted) position_set).queries ≡ 0) × (last_known (run region (first counted) position_set).queries ≡ false)
unfolding last_known last_since run note_used note_avail note_query counted position_set region zeros step_of step_mem put_of put_mem room question_of tells sub16 read_of readable writable bytes_at after covered spots spot stretch_of stretch_in stretch_r extent rows
set_position_none = (refl, refl)

-- ---- exactly 65,536 puts are reached, by as many puts to a queue of one place; and then the driver is not notified, whatever it named
pub single : World
single = world (queue 1 0 0 true 0 1 true 0 16 32) (pass 0) (zeros 64)

filled : ℕ → State
filled zero = first single
filled (suc k) = called region (filled k) (Put 0 0)

record Filled (k : ℕ) (s : State) : Type 0 where
  reached : Reached region single s
  size : s.world.queue.size ≡ 1
  ring : s.world.queue.used_ring ≡ 32
  avail : s.world.queue.avail_ring ≡ 16
  on : s.world.queue.event_idx_enabled ≡ true
  long : length s.world.mem ≡ 64
  since : s.used.since ≡ k
  known : s.used.known ≡ true

room_there : (q : Queue) (n : ℕ) → q.size ≡ 1 → q.used_ring ≡ 32 → n ≡ 64 → room region q n ≡ true
unfolding room writable covered spots spot stretch_of stretch_in stretch_r extent rows region
room_there q n e f h = rw (e, f, h, mod-one)

module _ (k : ℕ) (s : State) (h : Filled k s) where
  done : put_of region s.world.queue s.world.mem 0 0 ≡ Ok (grown s.world.queue)
  done =
      sym (put_done region s.world.queue s.world.mem 0 0 (let e = h.size in omega arith)
      (room_there s.world.queue (length s.world.mem) h.size h.ring h.long)).answer

  filled_put : Filled (suc k) (called region s (Put 0 0))
  unfolding step_of step_mem note_used
  filled_put =
      record {
        reached = device h.reached (Put 0 0);
        size = ap (λ (r : Result Queue Error). (on_configured s.world.queue s.world.pass r).queue.size) done ∙ h.size;
        ring = ap (λ (r : Result Queue Error). (on_configured s.world.queue s.world.pass r).queue.used_ring) done ∙ h.ring;
        avail = ap (λ (r : Result Queue Error). (on_configured s.world.queue s.world.pass r).queue.avail_ring) done ∙ h.avail;
        on = ap (λ (r : Result Queue Error). (on_configured s.world.queue s.world.pass r).queue.event_idx_enabled) done ∙ h.on;
        long = put-length region s.world.queue s.world.mem 0 0 ∙ h.long;
        since = ap (λ (r : Result Queue Error). (by_put s.used 0 0 (on_configured s.world.queue s.world.pass r).answer).since) done ∙ ap (λ (x : ℕ). x + 1) h.since ∙ add-one k;
        known = ap (λ (r : Result Queue Error). (by_put s.used 0 0 (on_configured s.world.queue s.world.pass r).answer).known) done ∙ h.known;
      }

filled_is : (k : ℕ) → Filled k (filled k)
unfolding filled single zeros
filled_is zero = record { reached = begins; size = refl; ring = refl; avail = refl; on = refl; long = refl; since = refl; known = refl }
filled_is (suc k) = filled_put k (filled k) (filled_is k)

event_there : (size avail n : ℕ) → size ≡ 1 → avail ≡ 16 → n ≡ 64 → readable region n (avail + (4 + 2 * size)) 2 ≡ true
unfolding readable covered spots spot stretch_of stretch_in stretch_r extent rows region
event_there size avail n x y z = rw (x, y, z)

read_there : (q : Queue) (m : List ℕ) → q.size ≡ 1 → q.avail_ring ≡ 16 → length m ≡ 64 → (event : ℕ) × (used_event_read region q m ≡ Some event)
unfolding read_of
read_there q m e f h = (number (bytes_at region m (q.avail_ring + (4 + 2 * q.size)) 2), rw (event_there q.size q.avail_ring (length m) e f h))

wraps_at : (k : ℕ) (s : State) → k ≡ 65536 → Filled k s → (event : ℕ) × (answer region s.world Question ≡ No) × Named (since_number s.used) (next_put s.used) event
wraps_at k s e h =
    let r = read_there s.world.queue s.world.mem h.size h.avail h.long in
    let w = question_wraps region s.world s.used (used_always h.reached) h.known r.0 h.on r.1 (h.since ∙ e) in
    (r.0, w.0, w.1)

pub wraps_reached : (s : State) × Reached region single s × ((event : ℕ) × (answer region s.world Question ≡ No) × Named (since_number s.used) (next_put s.used) event)
wraps_reached = (filled 65536, (filled_is 65536).reached, wraps_at 65536 (filled 65536) refl (filled_is 65536))
