-- SPDX-License-Identifier: Apache-2.0 AND BSD-3-Clause
-- After asking answered that nothing came, the field that the device left makes a lawful driver tell it (VIRTIO 1.2, 2.7.10).
use Rattle.std.specs.Prelude.{ℕ, ◌+◌, ◌%◌, ◌<◌, Bool, true, false, not, List, length, eqb, Some}
use Rattle.std.proofs.Common.{arith, ◌∙◌, eqb-true}
use Rattle.std.proofs.Math.Path.{◌≡◌, refl, ap}
use Rattle.wire.specs.Number.{number, bytes}
use Rattle.regions.specs.Table.{pick, Table, Good}
use Rattle.memory.specs.Access.{writable, read2_of, read2_is, after-length, bytes_back, writable-readable}
use Rattle.desc.specs.Layout.{avail_idx_addr, avail_event_addr, used_flags_addr}
use Rattle.queue.specs.Notify.{ask_mem, ask_addr, ask_value, ask_word, ask_elim}
use Rattle.queue.specs.declared.Queue.{Queue}
use Rattle.ledger.specs.declared.Call.TheVariants.{Ask}
use Rattle.ledger.specs.declared.Answer.TheVariants.{No}
use Rattle.ledger.specs.World.{World, step_of, step_mem, answer, after_call, on_asked, yes_no}
use Rattle.ledger.specs.Named.{Named}

-- the driver's test, after it has added the entries from number a up to b: with the event index on, avail_event names one of them; with it off, the
-- low bit of the used ring's flags is 0
abbrev pub TellsOn : Bool → Table → Queue → List ℕ → ℕ → ℕ → Type 0
TellsOn true t q m a b = (event : ℕ) × (read2_of t m (avail_event_addr q.used_ring q.size) ≡ Some event) × Named a b event
TellsOn false t q m a b = (flags : ℕ) × (read2_of t m (used_flags_addr q.used_ring) ≡ Some flags) × (flags % 2 ≡ 0)

abbrev pub MustTell : Table → Queue → List ℕ → ℕ → ℕ → Type 0
MustTell t q m a b = TellsOn q.event_idx_enabled t q m a b

-- ---- what asking left, if it answered that nothing came
record Quiet (t : Table) (q : Queue) (m k : List ℕ) : Type 0 where
  written : writable t (length m) (ask_addr q) 2 ≡ true
  idx : read2_of t k (avail_idx_addr q.avail_ring) ≡ Some q.next_avail

same_idx : (x next : ℕ) (b : Bool) → eqb x next ≡ b → yes_no (not b) ≡ No → x ≡ next
same_idx x next true e h = eqb-true x next e
same_idx x next false e h = absurd (let z : ◌≡◌ {A = ℕ} 0 1 = cc in omega arith)

module _ (t : Table) (w : World) where
  quiet : answer t w Ask ≡ No → Quiet t w.queue w.mem (after_call t w Ask).mem
  unfolding step_of step_mem
  quiet =
      ask_elim t w.queue w.mem (λ r k. (on_asked w.queue w.pass r).answer ≡ No → Quiet t w.queue w.mem k)
      (λ e h. absurd (let z : ◌≡◌ {A = ℕ} 0 1 = cc in omega arith))
      (λ e f h. absurd (let z : ◌≡◌ {A = ℕ} 0 1 = cc in omega arith))
      (λ x e f h. record { written = e; idx = f ∙ ap Some (same_idx x w.queue.next_avail _ refl h) })

number_two : (v : ℕ) → number (bytes 2 v) ≡ v % 65536
number_two v = omega arith

field : (t : Table) → Good t → (q : Queue) (m : List ℕ) → writable t (length m) (ask_addr q) 2 ≡ true → read2_of t (ask_mem t q m) (ask_addr q) ≡ Some (ask_value q % 65536)
unfolding ask_mem
field t g q m w =
    rw (read2_is, after-length, writable-readable t (length m) (ask_addr q) 2 w, bytes_back t g m (ask_addr q) (bytes 2 (ask_value q)) w)
    (ap Some (number_two (ask_value q)))

on_field : (e : Bool) (t : Table) (q : Queue) (m : List ℕ) (a k : ℕ) → a % 65536 ≡ q.next_avail % 65536 → 0 < k
    → read2_of t m (pick e (avail_event_addr q.used_ring q.size) (used_flags_addr q.used_ring)) ≡ Some (ask_word e q.next_avail % 65536) → TellsOn e t q m a (a + k)
on_field true t q m a k c s h = (q.next_avail % 65536, h, record { n = a; low = omega arith; high = omega arith; is = omega arith })
on_field false t q m a k c s h = (0, h, refl)

pub record Told (t : Table) (w : World) : Type 0 where
  -- nothing came: idx is next available
  pub idx : read2_of t (after_call t w Ask).mem (avail_idx_addr w.queue.avail_ring) ≡ Some w.queue.next_avail
  -- a driver whose next entry has that number, and that adds k entries and leaves the field as the device left it, finds that it must tell the device
  pub told : (m : List ℕ) → read2_of t m (ask_addr w.queue) ≡ read2_of t (after_call t w Ask).mem (ask_addr w.queue)
      → (a k : ℕ) → a % 65536 ≡ w.queue.next_avail % 65536 → 0 < k → MustTell t w.queue m a (a + k)

pub asked_told : (t : Table) → Good t → (w : World) → answer t w Ask ≡ No → Told t w
unfolding step_mem
asked_told t g w h =
    let x = quiet t w h in
    record {
      idx = x.idx;
      told = λ m s a k c o. on_field w.queue.event_idx_enabled t w.queue m a k c o (s ∙ field t g w.queue w.mem x.written);
    }
