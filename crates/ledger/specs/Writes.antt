-- SPDX-License-Identifier: Apache-2.0 AND BSD-3-Clause
-- What the device writes: a byte that is not what the guest left lies in a field that a call of the device names.
use Rattle.std.specs.Prelude.{ℕ, suc, ◌+◌, ◌<◌, ◌≡◌, ◌⊎◌, Bool, true, false, List, [], ◌∷◌, length, get_or, eqb, Option, Some, None}
use Rattle.std.proofs.Common.{add-zero, arith, ◌∙◌, inr, eqb-true}
use Rattle.std.proofs.Math.Path.{refl}
use Rattle.std.proofs.Math.Logic.{inl}
use Rattle.std.proofs.lemmas.Bool.{eqb-false}
use Rattle.wire.specs.Number.{bytes}
use Rattle.regions.specs.Table.{pick, Table, Maps}
use Rattle.regions.specs.Spots.{spots, Mapped, spots_mapped, length-spots}
use Rattle.memory.specs.Cells.{Off, store_off}
use Rattle.memory.specs.Access.{writable, after, after_done, after_refused, after-length}
use Rattle.desc.specs.Desc.{used_bytes}
use Rattle.queue.specs.Wrap.{next16}
use Rattle.queue.specs.Used.{put_mem, put_elim, entry_addr, idx_addr, with_entry, with_idx}
use Rattle.queue.specs.Notify.{stop_mem, ask_mem, ask_value, flags_addr}
use Rattle.queue.specs.declared.Queue.{Queue}
use Rattle.ledger.specs.declared.Call.{Call}
use Rattle.ledger.specs.declared.Call.TheVariants.{Set, SetNextAvail, SetNextUsed, Reset, Valid, Begin, NextHead, Pop, GoBack, Put, Stop, Ask, Question}
use Rattle.ledger.specs.World.{World, State, UsedField, Flags, Idx, Entry, AvailEvent, InUsed, Written, Reached, begins, guest, device, step_mem, written, with_fields, field_addr, field_size}
use Rattle.ledger.specs.Calls.{step-length}

-- place j of a slice of size bytes is one of those of the n bytes from guest address a on
pub record Lies (t : Table) (size a n j : ℕ) : Type 0 where
  pub k : ℕ
  pub inside : k < n
  pub at : Maps t size (a + k) j

-- place j lies in one of the fields, at the address that was configured when it was written
abbrev pub LiesIn : Table → ℕ → List Written → ℕ → Type 0
LiesIn t size [] j = ⊥
LiesIn t size (x ∷ xs) j = Lies t size (field_addr x.queue (InUsed x.field)) (field_size (InUsed x.field)) j ⊎ LiesIn t size xs j

-- ---- one write
module _ (t : Table) (size j : ℕ) where
  further : (a n : ℕ) → Lies t size (suc a) n j → Lies t size a (suc n) j
  further a n l =
      record { k = suc l.k; inside = let h = l.inside in omega arith; at = let e : suc a + l.k ≡ a + suc l.k = omega arith in rw e at l.at }

  found : (a : ℕ) (ps : List (Option ℕ)) → Mapped t size a ps → Off ps j ⊎ Lies t size a (length ps) j
  found a [] h = inl tt
  found a (Some i ∷ ps) h = here (eqb j i) refl (found (suc a) ps h.1)
    where
      here : (b : Bool) → eqb j i ≡ b → Off ps j ⊎ Lies t size (suc a) (length ps) j → Off (Some i ∷ ps) j ⊎ Lies t size a (suc (length ps)) j
      here true e r = inr (record { k = 0; inside = omega arith; at = rw (eqb-true j i e, add-zero) h.0 })
      here false e (inl o) = inl (eqb-false j i e, o)
      here false e (inr l) = inr (further a (length ps) l)
  found a (None ∷ ps) h = later (found (suc a) ps h)
    where
      later : Off ps j ⊎ Lies t size (suc a) (length ps) j → Off (None ∷ ps) j ⊎ Lies t size a (suc (length ps)) j
      later (inl o) = inl o
      later (inr l) = inr (further a (length ps) l)

-- a byte is as it was, or its place is one of those that were written
abbrev Kept : Table → List ℕ → List ℕ → ℕ → ℕ → ℕ → Type 0
Kept t m m' a n j = (get_or m' j 0 ≡ get_or m j 0) ⊎ Lies t (length m) a n j

module _ (t : Table) (m : List ℕ) (a : ℕ) (bs : List ℕ) (j : ℕ) where
  stored : writable t (length m) a (length bs) ≡ true → Off (spots t (length m) a (length bs)) j ⊎ Lies t (length m) a (length (spots t (length m) a (length bs))) j
      → Kept t m (after t m a bs) a (length bs) j
  stored w (inl o) = inl (rw (after_done t m a bs w) (store_off m (spots t (length m) a (length bs)) bs j o))
  stored w (inr l) = inr (rw length-spots at l)

  after' : (b : Bool) → writable t (length m) a (length bs) ≡ b → Kept t m (after t m a bs) a (length bs) j
  after' true w = stored w (found t (length m) j a (spots t (length m) a (length bs)) (spots_mapped t (length m) a (length bs)))
  after' false w = inl (rw (after_refused t m a bs w))

  after_kept : Kept t m (after t m a bs) a (length bs) j
  after_kept = after' _ refl

-- ---- one call
abbrev pub InFields : Table → ℕ → Queue → List UsedField → ℕ → Type 0
InFields t size q [] j = ⊥
InFields t size q (f ∷ fs) j = Lies t size (field_addr q (InUsed f)) (field_size (InUsed f)) j ⊎ InFields t size q fs j

module _ (t : Table) (q : Queue) (m : List ℕ) (j : ℕ) where
  abbrev Same : List ℕ → List UsedField → Type 0
  Same m' fs = (get_or m' j 0 ≡ get_or m j 0) ⊎ InFields t (length m) q fs j

  one : (m' : List ℕ) (f : UsedField) → Kept t m m' (field_addr q (InUsed f)) (field_size (InUsed f)) j → Same m' (f ∷ [])
  one m' f (inl e) = inl e
  one m' f (inr l) = inr (inl l)

  two : (x m' : List ℕ) (f g : UsedField) → length x ≡ length m → Kept t m x (field_addr q (InUsed f)) (field_size (InUsed f)) j
      → Kept t x m' (field_addr q (InUsed g)) (field_size (InUsed g)) j → Same m' (f ∷ g ∷ [])
  two x m' f g s (inr l) r = inr (inl l)
  two x m' f g s (inl e) (inl h) = inl (h ∙ e)
  two x m' f g s (inl e) (inr l) = inr (inr (inl (rw s at l)))

  on_ask : (e : Bool) (v : ℕ) → Same (after t m (pick e (field_addr q (InUsed AvailEvent)) (field_addr q (InUsed Flags))) (bytes 2 v)) (pick e AvailEvent Flags ∷ [])
  on_ask true v = one (after t m (field_addr q (InUsed AvailEvent)) (bytes 2 v)) AvailEvent (after_kept t m (field_addr q (InUsed AvailEvent)) (bytes 2 v) j)
  on_ask false v = one (after t m (field_addr q (InUsed Flags)) (bytes 2 v)) Flags (after_kept t m (field_addr q (InUsed Flags)) (bytes 2 v) j)

  on_stop : (e : Bool) → Same (pick e m (after t m (flags_addr q) (bytes 2 1))) (pick e [] (Flags ∷ []))
  on_stop true = inl refl
  on_stop false = one (after t m (flags_addr q) (bytes 2 1)) Flags (after_kept t m (flags_addr q) (bytes 2 1) j)

  on_put : (head n : ℕ) → Same (put_mem t q m head n) (Entry q.next_used ∷ Idx ∷ [])
  on_put head n =
      put_elim t q m head n (λ r k. Same k (Entry q.next_used ∷ Idx ∷ [])) (λ h. inl refl) (λ h e. inl refl)
      (λ h e f. two (with_entry t q m head n) (with_idx t q (with_entry t q m head n)) (Entry q.next_used) Idx (after-length t m (entry_addr q) (used_bytes head n))
      (after_kept t m (entry_addr q) (used_bytes head n) j)
      (after_kept t (with_entry t q m head n) (idx_addr q) (bytes 2 (next16 q.next_used)) j))

  pub step_writes : (c : Call) → Same (step_mem t q m c) (written q c)
  unfolding step_mem stop_mem ask_mem
  step_writes (Put head n) = on_put head n
  step_writes Stop = on_stop q.event_idx_enabled
  step_writes Ask = on_ask q.event_idx_enabled (ask_value q)
  step_writes (Set s) = inl refl
  step_writes (SetNextAvail n) = inl refl
  step_writes (SetNextUsed n) = inl refl
  step_writes Reset = inl refl
  step_writes Valid = inl refl
  step_writes Begin = inl refl
  step_writes NextHead = inl refl
  step_writes Pop = inl refl
  step_writes GoBack = inl refl
  step_writes Question = inl refl

-- ---- every run
in_old : (t : Table) (size : ℕ) (q : Queue) (fs : List UsedField) (l : List Written) (j : ℕ) → LiesIn t size l j → LiesIn t size (with_fields q fs l) j
in_old t size q [] l j h = h
in_old t size q (f ∷ fs) l j h = inr (in_old t size q fs l j h)

in_new : (t : Table) (size : ℕ) (q : Queue) (fs : List UsedField) (l : List Written) (j : ℕ) → InFields t size q fs j → LiesIn t size (with_fields q fs l) j
in_new t size q [] l j h = elim h [ ]
in_new t size q (f ∷ fs) l j (inl h) = inl h
in_new t size q (f ∷ fs) l j (inr h) = inr (in_new t size q fs l j h)

pub length_always : {t : Table} {w : World} {s : State} → Reached t w s → length s.world.mem ≡ length s.writes.guests
length_always begins = refl
length_always (guest r m) = refl
length_always {t} (device {s = s} r c) = step-length t s.world.queue s.world.mem c ∙ length_always r

module _ (t : Table) (q : Queue) (m base : List ℕ) (j : ℕ) (c : Call) (l : List Written) (s : length m ≡ length base) where
  both : (get_or m j 0 ≡ get_or base j 0) ⊎ LiesIn t (length base) l j → (get_or (step_mem t q m c) j 0 ≡ get_or m j 0) ⊎ InFields t (length m) q (written q c) j
      → (get_or (step_mem t q m c) j 0 ≡ get_or base j 0) ⊎ LiesIn t (length base) (with_fields q (written q c) l) j
  both (inr h) x = inr (in_old t (length base) q (written q c) l j h)
  both (inl e) (inl f) = inl (f ∙ e)
  both (inl e) (inr h) = inr (in_new t (length base) q (written q c) l j (rw s at h))

pub writes_always : {t : Table} {w : World} {s : State} → Reached t w s → (j : ℕ)
    → (get_or s.world.mem j 0 ≡ get_or s.writes.guests j 0) ⊎ LiesIn t (length s.writes.guests) s.writes.fields j
writes_always begins j = inl refl
writes_always (guest r m) j = inl refl
writes_always {t} (device {s = s} r c) j =
    both t s.world.queue s.world.mem s.writes.guests j c s.writes.fields (length_always r) (writes_always r j)
    (step_writes t s.world.queue s.world.mem j c)
