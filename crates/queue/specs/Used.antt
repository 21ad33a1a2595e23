-- SPDX-License-Identifier: Apache-2.0 AND BSD-3-Clause
-- The used ring (VIRTIO 1.2, 2.7.8): what a put answers, and what it leaves in memory.
use Rattle.std.specs.Prelude.{◌≡◌, ℕ, ◌+◌, ◌*◌, ◌%◌, ◌<◌, ◌≤◌, Bool, true, false, List, length, ◌≢◌, nat_lt, slice_index, Result, Ok, Err}
use Rattle.std.proofs.Common.{arith, sym, ◌∙◌, true≢false, inl, lt-ltb, le-ltb, ltb-true, ltb-false}
use Rattle.std.proofs.Math.Path.{refl}
use Rattle.wire.specs.Number.{bytes}
use Rattle.wire.specs.Part.{Apart}
use Rattle.regions.specs.Table.{pick, Table, Maps, InMemory, Good}
use Rattle.memory.specs.Access.{writable, writable-readable, readable_all, after, bytes_at, WroteBoth, Outside, Agree, after-length, after_agree, after_elsewhere, after_unmapped, bytes_apart, bytes_back}
use Rattle.desc.specs.Layout.{used_entry_addr, used_idx_addr}
use Rattle.desc.specs.Desc.{used_bytes}
use Rattle.queue.specs.State.{numbered}
use Rattle.queue.specs.Wrap.{next16}
use Rattle.queue.specs.declared.Queue.{Queue}
use Rattle.queue.specs.declared.Error.{Error}
use Rattle.queue.specs.declared.Error.TheVariants.{InvalidDescriptorIndex, GuestMemory}

-- where the next entry and idx stand
abbrev pub entry_addr : Queue → ℕ
entry_addr q = used_entry_addr q.used_ring q.size q.next_used

abbrev pub idx_addr : Queue → ℕ
idx_addr q = used_idx_addr q.used_ring

-- the queue after one more entry
abbrev pub grown : Queue → Queue
grown q = numbered q q.next_avail (next16 q.next_used) (next16 q.num_added)

-- memory with the entry written, and with the grown number written to idx
abbrev pub with_entry : Table → Queue → List ℕ → ℕ → ℕ → List ℕ
with_entry t q m head n = after t m (entry_addr q) (used_bytes head n)

abbrev pub with_idx : Table → Queue → List ℕ → List ℕ
with_idx t q m = after t m (idx_addr q) (bytes 2 (next16 q.next_used))

-- the entry and idx can both be written, in a memory of size bytes
unfoldable pub room : Table → Queue → ℕ → Bool
room t q size = pick (writable t size (entry_addr q) 8) (writable t size (idx_addr q) 2) false

-- a head of size or more is refused; where the entry or idx can't be written nothing is changed
unfoldable pub put_of : Table → Queue → List ℕ → ℕ → ℕ → Result Queue Error
put_of t q m head n =
    pick (nat_lt head q.size) (pick (room t q (length m)) (Ok (grown q)) (Err GuestMemory)) (Err InvalidDescriptorIndex)

unfoldable pub put_mem : Table → Queue → List ℕ → ℕ → ℕ → List ℕ
put_mem t q m head n = pick (nat_lt head q.size) (pick (room t q (length m)) (with_idx t q (with_entry t q m head n)) m) m

-- what a put answers, and what it leaves
pub record Put (t : Table) (q : Queue) (m : List ℕ) (head n : ℕ) (r : Result Queue Error) (m' : List ℕ) : Type 0 where
  pub answer : r ≡ put_of t q m head n
  pub mem : m' ≡ put_mem t q m head n

-- ---- room
module _ (t : Table) (q : Queue) (size : ℕ) where
  room' : (a b : Bool) → pick a b false ≡ true → (a ≡ true) × (b ≡ true)
  room' true b e = (refl, e)
  room' false b e = absurd (true≢false (sym e))

  pub room_both : room t q size ≡ true → (writable t size (entry_addr q) 8 ≡ true) × (writable t size (idx_addr q) 2 ≡ true)
  unfolding room
  room_both e = room' (writable t size (entry_addr q) 8) (writable t size (idx_addr q) 2) e

  no_idx' : (a b : Bool) → b ≡ false → pick a b false ≡ false
  no_idx' true b e = e
  no_idx' false b e = refl

  pub room_no_idx : writable t size (idx_addr q) 2 ≡ false → room t q size ≡ false
  unfolding room
  room_no_idx e = no_idx' (writable t size (entry_addr q) 8) (writable t size (idx_addr q) 2) e

  pub room_no_entry : writable t size (entry_addr q) 8 ≡ false → room t q size ≡ false
  unfolding room
  room_no_entry e = rw e

-- ---- the cases of a put, in the order of its refusals: the answer, with what is left in memory
module _ (t : Table) (q : Queue) (m : List ℕ) (head n : ℕ) where
  module _ (P : Result Queue Error → List ℕ → Type 0)
      (beyond : q.size ≤ head → P (Err InvalidDescriptorIndex) m)
      (fault : head < q.size → room t q (length m) ≡ false → P (Err GuestMemory) m)
      (done : head < q.size → writable t (length m) (entry_addr q) 8 ≡ true → writable t (length m) (idx_addr q) 2 ≡ true → P (Ok (grown q)) (with_idx t q (with_entry t q m head n))) where
    elim' : (a b : Bool) → nat_lt head q.size ≡ a → room t q (length m) ≡ b
        → P (pick a (pick b (Ok (grown q)) (Err GuestMemory)) (Err InvalidDescriptorIndex)) (pick a (pick b (with_idx t q (with_entry t q m head n)) m) m)
    elim' true true e f = let w = room_both t q (length m) f in done (ltb-true _ _ e) w.0 w.1
    elim' true false e f = fault (ltb-true _ _ e) f
    elim' false b e f = beyond (ltb-false _ _ e)

    pub put_elim : P (put_of t q m head n) (put_mem t q m head n)
    unfolding put_of put_mem
    put_elim = elim' (nat_lt head q.size) (room t q (length m)) refl refl

  -- the same, as equations
  pub put_beyond : q.size ≤ head → Put t q m head n (Err InvalidDescriptorIndex) m
  unfolding put_of put_mem
  put_beyond h = record { answer = rw (le-ltb _ _ h); mem = rw (le-ltb _ _ h) }

  pub put_fault : head < q.size → room t q (length m) ≡ false → Put t q m head n (Err GuestMemory) m
  unfolding put_of put_mem
  put_fault h e = record { answer = rw (lt-ltb _ _ h, e); mem = rw (lt-ltb _ _ h, e) }

  pub put_done : head < q.size → room t q (length m) ≡ true → Put t q m head n (Ok (grown q)) (with_idx t q (with_entry t q m head n))
  unfolding put_of put_mem
  put_done h e = record { answer = rw (lt-ltb _ _ h, e); mem = rw (lt-ltb _ _ h, e) }

pub grown_is : (q : Queue) (used added : ℕ) → used ≡ next16 q.next_used → added ≡ next16 q.num_added → numbered q q.next_avail used added ≡ grown q
grown_is q used added e f = rw (e, f)

-- ---- for the proof of `add_used`
module _ (t : Table) (q : Queue) (m : List ℕ) (head n : ℕ) (inside : head < q.size) (off : ℕ) (o : off ≡ 4 + 8 * (q.next_used % q.size))
    (r : Bool) (m₁ : List ℕ) (w : WroteBoth t m (q.used_ring + off) (used_bytes head n) (idx_addr q) (bytes 2 (next16 q.next_used)) r m₁) where
  room_is : r ≡ room t q (length m)
  unfolding room
  room_is = rw o at w.ok

  pub placed_refused : r ≡ false → Put t q m head n (Err GuestMemory) m₁
  placed_refused f = let h : m₁ ≡ m = rw f at w.mem in rw h (put_fault t q m head n inside (sym room_is ∙ f))

  pub placed_done : r ≡ true → Put t q m head n (Ok (grown q)) m₁
  placed_done f = let h : m₁ ≡ with_idx t q (with_entry t q m head n) = rw (f, o) at w.mem in rw h (put_done t q m head n inside (sym room_is ∙ f))

-- ---- what a put leaves
pub writable_all : (t : Table) (size a n : ℕ) → writable t size a n ≡ true → (k : ℕ) → k < n → InMemory t size (a + k)
writable_all t size a n e = readable_all t size a n (writable-readable t size a n e)

module _ (t : Table) (q : Queue) (m : List ℕ) (head n : ℕ) where
  pub put-length : length (put_mem t q m head n) ≡ length m
  put-length =
      put_elim t q m head n (λ r k. length k ≡ length m) (λ h. refl) (λ h e. refl)
      (λ h e f. after-length t (with_entry t q m head n) (idx_addr q) (bytes 2 (next16 q.next_used)) ∙ after-length t m (entry_addr q) (used_bytes head n))

  -- a refused put changes nothing
  pub put_refused : (e : Error) → put_of t q m head n ≡ Err e → put_mem t q m head n ≡ m
  put_refused e x =
      put_elim t q m head n (λ r k. r ≡ Err e → k ≡ m) (λ h y. refl) (λ h f y. refl)
      (λ h f g y. absurd (let z : ◌≡◌ {A = ℕ} 0 1 = cc in omega arith)) x

  -- also where idx is the part that can't be written: the numbers have not grown then, and the entry is not there
  pub put_idx_refused : writable t (length m) (idx_addr q) 2 ≡ false → ((p : Queue) → put_of t q m head n ≢ Ok p) × (put_mem t q m head n ≡ m)
  put_idx_refused e =
      put_elim t q m head n (λ r k. ((p : Queue) → r ≢ Ok p) × (k ≡ m))
      (λ h. (λ p x. let z : ◌≡◌ {A = ℕ} 0 1 = cc in omega arith, refl)) (λ h f. (λ p x. let z : ◌≡◌ {A = ℕ} 0 1 = cc in omega arith, refl))
      (λ h f g. absurd (true≢false (sym g ∙ e)))

  -- only next used and added grow
  pub put-queue : (p : Queue) → put_of t q m head n ≡ Ok p → p ≡ grown q
  put-queue p x =
      put_elim t q m head n (λ r k. r ≡ Ok p → p ≡ grown q) (λ h y. absurd (let z : ◌≡◌ {A = ℕ} 0 1 = cc in omega arith))
      (λ h f y. absurd (let z : ◌≡◌ {A = ℕ} 0 1 = cc in omega arith)) (λ h f g y. cc) x

  -- a byte outside the entry and idx is as it was, and so is one that the table does not map
  pub put_elsewhere : Good t → (x i : ℕ) → Maps t (length m) x i → Outside x (entry_addr q) 8 → Outside x (idx_addr q) 2 → slice_index (put_mem t q m head n) i ≡ slice_index m i
  put_elsewhere g x i a o u =
      put_elim t q m head n (λ r k. slice_index k i ≡ slice_index m i) (λ h. refl) (λ h e. refl)
      (λ h e f. after_elsewhere t (with_entry t q m head n) (idx_addr q) (bytes 2 (next16 q.next_used)) i g x (rw after-length a) u
      ∙ after_elsewhere t m (entry_addr q) (used_bytes head n) i g x a o)

  pub put_unmapped : (i : ℕ) → ((x : ℕ) → Maps t (length m) x i → ⊥) → slice_index (put_mem t q m head n) i ≡ slice_index m i
  put_unmapped i u =
      put_elim t q m head n (λ r k. slice_index k i ≡ slice_index m i) (λ h. refl) (λ h e. refl)
      (λ h e f. after_unmapped t (with_entry t q m head n) (idx_addr q) (bytes 2 (next16 q.next_used)) i (λ x p. u x (rw after-length at p))
      ∙ after_unmapped t m (entry_addr q) (used_bytes head n) i u)

  -- a put that is done has written inside: the entry and idx are whole in memory
  pub put_inside : (p : Queue) → put_of t q m head n ≡ Ok p
      → ((k : ℕ) → k < 8 → InMemory t (length m) (entry_addr q + k)) × ((k : ℕ) → k < 2 → InMemory t (length m) (idx_addr q + k))
  put_inside p x =
      put_elim t q m head n (λ r k. r ≡ Ok p → ((k : ℕ) → k < 8 → InMemory t (length m) (entry_addr q + k)) × ((k : ℕ) → k < 2 → InMemory t (length m) (idx_addr q + k)))
      (λ h y. absurd (let z : ◌≡◌ {A = ℕ} 0 1 = cc in omega arith)) (λ h f y. absurd (let z : ◌≡◌ {A = ℕ} 0 1 = cc in omega arith))
      (λ h f g y. (writable_all t (length m) (entry_addr q) 8 f, writable_all t (length m) (idx_addr q) 2 g)) x

-- ---- what a put that is done leaves for the driver to read
module _ (t : Table) (g : Good t) (q : Queue) (m : List ℕ) (head n : ℕ) (inside : head < q.size) (ok : room t q (length m) ≡ true) where
  done_mem : put_mem t q m head n ≡ with_idx t q (with_entry t q m head n)
  done_mem = sym (put_done t q m head n inside ok).mem

  -- idx is the grown number
  pub put_idx : bytes_at t (put_mem t q m head n) (idx_addr q) 2 ≡ bytes 2 (next16 q.next_used)
  put_idx =
      rw done_mem (bytes_back t g (with_entry t q m head n) (idx_addr q) (bytes 2 (next16 q.next_used)) (rw after-length (room_both t q (length m) ok).1))

  -- the entry stands at its place
  pub put_entry : bytes_at t (put_mem t q m head n) (entry_addr q) 8 ≡ used_bytes head n
  put_entry =
      rw done_mem
      (bytes_apart t g (with_entry t q m head n) (idx_addr q) (bytes 2 (next16 q.next_used)) (entry_addr q) 8 (inl (omega arith))
      ∙ bytes_back t g m (entry_addr q) (used_bytes head n) (room_both t q (length m) ok).0)

  -- bytes apart from both are as they were
  pub put_others : (b k : ℕ) → Apart (entry_addr q) 8 b k → Apart (idx_addr q) 2 b k → bytes_at t (put_mem t q m head n) b k ≡ bytes_at t m b k
  put_others b k h j =
      rw done_mem
      (bytes_apart t g (with_entry t q m head n) (idx_addr q) (bytes 2 (next16 q.next_used)) b k j
      ∙ bytes_apart t g m (entry_addr q) (used_bytes head n) b k h)

-- ---- isolation: what lies outside the table has no influence on a put
pick_agree : (b : Bool) (t : Table) (m k x y : List ℕ) → Agree t m k → Agree t x y → Agree t (pick b x m) (pick b y k)
pick_agree true t m k x y h g = g
pick_agree false t m k x y h g = h

module _ (t : Table) (q : Queue) (m k : List ℕ) (h : Agree t m k) (head n : ℕ) where
  pub put_agree : put_of t q m head n ≡ put_of t q k head n
  unfolding put_of
  put_agree = rw h.sized

  pub put_mem_agree : Agree t (put_mem t q m head n) (put_mem t q k head n)
  unfolding put_mem
  put_mem_agree =
      rw (← h.sized)
      (pick_agree (nat_lt head q.size) t m k _ _ h
      (pick_agree (room t q (length m)) t m k _ _ h
      (after_agree t (with_entry t q m head n) (with_entry t q k head n) (after_agree t m k h (entry_addr q) (used_bytes head n)) (idx_addr q) (bytes 2 (next16 q.next_used)))))
