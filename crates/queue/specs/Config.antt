-- SPDX-License-Identifier: Apache-2.0 AND BSD-3-Clause
-- Configuration: what the driver sets, what is refused, and what reset leaves.
use Rattle.std.specs.Prelude.{◌≡◌, ℕ, ◌+◌, ◌*◌, ◌/◌, ◌%◌, ◌^◌, Bool, true, false, ◌↔◌, List, length, ◌==◌, ◌≢◌, refl, Option, unwrap_or, Result, Ok, Err}
use Rattle.std.proofs.Common.{add-zero, sym, true≢false}
use borrow.Author.Tests.{eq-eqb, ne_eqb, eqb-true, eqb-false}
use Rattle.regions.specs.Table.{pick, Table}
use Rattle.memory.specs.Access.{readable, writable, Agree}
use Rattle.desc.specs.Layout.{desc_table_size, avail_ring_size, used_ring_size}
use Rattle.queue.specs.Cases.{pick_elim}
use Rattle.queue.specs.State.{queue, with_size, with_desc_table, with_avail_ring, with_used_ring}
use Rattle.queue.specs.Size.{good_size, max_queue_size}
use Rattle.queue.specs.declared.Queue.{Queue}
use Rattle.queue.specs.declared.Error.TheVariants.{InvalidMaxSize, InvalidSize, InvalidDescTableAlign, InvalidAvailRingAlign, InvalidUsedRingAlign}
use Rattle.queue.specs.declared.Error.{Error}

-- the start: all but the largest size
abbrev pub fresh : ℕ → Queue
fresh max = queue max 0 0 false 0 max false 0 0 0

-- a queue with the largest size max
unfoldable pub new_of : ℕ → Result Queue Error
new_of max = pick (good_size max max_queue_size) (Ok (fresh max)) (Err InvalidMaxSize)

unfoldable pub reset_of : Queue → Queue
reset_of q = fresh q.max_size

unfoldable pub set_size_of : Queue → ℕ → Result Queue Error
set_size_of q n = pick (good_size n q.max_size) (Ok (with_size q n)) (Err InvalidSize)

-- an address by its halves: a half that is not given keeps the bits of the address that is there
abbrev pub low_of : ℕ → Option ℕ → ℕ
low_of old half = unwrap_or half (old % 2 ^ 32)

abbrev pub high_of : ℕ → Option ℕ → ℕ
high_of old half = unwrap_or half (old / 2 ^ 32)

unfoldable pub whole_of : ℕ → Option ℕ → Option ℕ → ℕ
whole_of old low high = high_of old high * 2 ^ 32 + low_of old low

-- an address, where it is a multiple of d, or the reason e
abbrev pub aligned_of : ℕ → ℕ → Error → Result ℕ Error
aligned_of a d e = pick (a % d == 0) (Ok a) (Err e)

-- the queue with the address in its place
abbrev pub set_at : (ℕ → Queue) → Result ℕ Error → Result Queue Error
set_at with_addr (Ok a) = Ok (with_addr a)
set_at with_addr (Err e) = Err e

-- the test is made on the whole
unfoldable pub set_desc_table_of : Queue → Option ℕ → Option ℕ → Result Queue Error
set_desc_table_of q low high = set_at (with_desc_table q) (aligned_of (whole_of q.desc_table low high) 16 InvalidDescTableAlign)

unfoldable pub set_avail_ring_of : Queue → Option ℕ → Option ℕ → Result Queue Error
set_avail_ring_of q low high = set_at (with_avail_ring q) (aligned_of (whole_of q.avail_ring low high) 2 InvalidAvailRingAlign)

unfoldable pub set_used_ring_of : Queue → Option ℕ → Option ℕ → Result Queue Error
set_used_ring_of q low high = set_at (with_used_ring q) (aligned_of (whole_of q.used_ring low high) 4 InvalidUsedRingAlign)

-- ready, and the whole of the three areas in a memory of n bytes
unfoldable pub valid_of : Table → ℕ → Queue → Bool
valid_of t n q =
    pick q.ready
    (pick (readable t n q.desc_table (desc_table_size q.size))
    (pick (readable t n q.avail_ring (avail_ring_size q.size))
    (writable t n q.used_ring (used_ring_size q.size))
    false)
    false)
    false

-- ---- the cases of each call
module _ (max : ℕ) (P : Result Queue Error → Type 0) where
  pub new_elim : (good_size max max_queue_size ≡ true → P (Ok (fresh max))) → (good_size max max_queue_size ≡ false → P (Err InvalidMaxSize)) → P (new_of max)
  unfolding new_of
  new_elim f g = pick_elim P (good_size max max_queue_size) _ _ f g

module _ (q : Queue) (P : Result Queue Error → Type 0) where
  pub set_size_elim : (n : ℕ) → (good_size n q.max_size ≡ true → P (Ok (with_size q n))) → (good_size n q.max_size ≡ false → P (Err InvalidSize)) → P (set_size_of q n)
  unfolding set_size_of
  set_size_elim n f g = pick_elim P (good_size n q.max_size) _ _ f g

  -- an address that is a multiple of d, or not
  module _ (with_addr : ℕ → Queue) (a d : ℕ) (e : Error) (f : a % d ≡ 0 → P (Ok (with_addr a))) (g : (a % d ≢ 0) → P (Err e)) where
    at' : (b : Bool) → (a % d == 0) ≡ b → P (set_at with_addr (pick b (Ok a) (Err e)))
    at' true x = f (eqb-true _ _ x)
    at' false x = g (eqb-false _ _ x)

    set_at_elim : P (set_at with_addr (aligned_of a d e))
    set_at_elim = at' _ refl

  module _ (low high : Option ℕ) where
    pub set_desc_table_elim : (whole_of q.desc_table low high % 16 ≡ 0 → P (Ok (with_desc_table q (whole_of q.desc_table low high))))
        → ((whole_of q.desc_table low high % 16 ≢ 0) → P (Err InvalidDescTableAlign)) → P (set_desc_table_of q low high)
    unfolding set_desc_table_of
    set_desc_table_elim f g = set_at_elim (with_desc_table q) (whole_of q.desc_table low high) 16 InvalidDescTableAlign f g

    pub set_avail_ring_elim : (whole_of q.avail_ring low high % 2 ≡ 0 → P (Ok (with_avail_ring q (whole_of q.avail_ring low high))))
        → ((whole_of q.avail_ring low high % 2 ≢ 0) → P (Err InvalidAvailRingAlign)) → P (set_avail_ring_of q low high)
    unfolding set_avail_ring_of
    set_avail_ring_elim f g = set_at_elim (with_avail_ring q) (whole_of q.avail_ring low high) 2 InvalidAvailRingAlign f g

    pub set_used_ring_elim : (whole_of q.used_ring low high % 4 ≡ 0 → P (Ok (with_used_ring q (whole_of q.used_ring low high))))
        → ((whole_of q.used_ring low high % 4 ≢ 0) → P (Err InvalidUsedRingAlign)) → P (set_used_ring_of q low high)
    unfolding set_used_ring_of
    set_used_ring_elim f g = set_at_elim (with_used_ring q) (whole_of q.used_ring low high) 4 InvalidUsedRingAlign f g

-- ---- the same as equations, case by case
module _ (max : ℕ) (b : Bool) (e : b ≡ good_size max 32768) where
  pub new_refused : b ≡ false → Err InvalidMaxSize ≡ new_of max
  unfolding new_of
  new_refused f = rw (← e, f)

  pub new_made : b ≡ true → (q : Queue) → q ≡ fresh max → Ok q ≡ new_of max
  unfolding new_of
  new_made f q h = rw (← e, f, h)

pub reset_is : (q p : Queue) → p ≡ fresh q.max_size → p ≡ reset_of q
unfolding reset_of
reset_is q p e = e

module _ (q : Queue) (n : ℕ) (b : Bool) (e : b ≡ good_size n q.max_size) where
  pub set_size_refused : b ≡ false → Err InvalidSize ≡ set_size_of q n
  unfolding set_size_of
  set_size_refused f = rw (← e, f)

  pub set_size_set : b ≡ true → Ok (with_size q n) ≡ set_size_of q n
  unfolding set_size_of
  set_size_set f = rw (← e, f)

pub whole_is : (old : ℕ) (low high : Option ℕ) (l h : ℕ) → l ≡ low_of old low → h ≡ high_of old high → h * 4294967296 + l ≡ whole_of old low high
unfolding whole_of
whole_is old low high l h e f = rw (e, f)

-- an address that is a multiple of d is taken, any other is refused
module _ (with_addr : ℕ → Queue) (w d : ℕ) (x : Error) (a : ℕ) (e : a ≡ w) where
  set_at_refused : (a % d ≢ 0) → Err x ≡ set_at with_addr (aligned_of w d x)
  set_at_refused f = rw (← e, ne_eqb _ _ f)

  set_at_set : a % d ≡ 0 → Ok (with_addr a) ≡ set_at with_addr (aligned_of w d x)
  set_at_set f = rw (← e, eq-eqb _ _ f)

module _ (q : Queue) (low high : Option ℕ) (a : ℕ) where
  pub set_desc_table_refused : a ≡ whole_of q.desc_table low high → (a % 16 ≢ 0) → Err InvalidDescTableAlign ≡ set_desc_table_of q low high
  unfolding set_desc_table_of
  set_desc_table_refused e f = set_at_refused (with_desc_table q) _ 16 InvalidDescTableAlign a e f

  pub set_desc_table_set : a ≡ whole_of q.desc_table low high → a % 16 ≡ 0 → Ok (with_desc_table q a) ≡ set_desc_table_of q low high
  unfolding set_desc_table_of
  set_desc_table_set e f = set_at_set (with_desc_table q) _ 16 InvalidDescTableAlign a e f

  pub set_avail_ring_refused : a ≡ whole_of q.avail_ring low high → (a % 2 ≢ 0) → Err InvalidAvailRingAlign ≡ set_avail_ring_of q low high
  unfolding set_avail_ring_of
  set_avail_ring_refused e f = set_at_refused (with_avail_ring q) _ 2 InvalidAvailRingAlign a e f

  pub set_avail_ring_set : a ≡ whole_of q.avail_ring low high → a % 2 ≡ 0 → Ok (with_avail_ring q a) ≡ set_avail_ring_of q low high
  unfolding set_avail_ring_of
  set_avail_ring_set e f = set_at_set (with_avail_ring q) _ 2 InvalidAvailRingAlign a e f

  pub set_used_ring_refused : a ≡ whole_of q.used_ring low high → (a % 4 ≢ 0) → Err InvalidUsedRingAlign ≡ set_used_ring_of q low high
  unfolding set_used_ring_of
  set_used_ring_refused e f = set_at_refused (with_used_ring q) _ 4 InvalidUsedRingAlign a e f

  pub set_used_ring_set : a ≡ whole_of q.used_ring low high → a % 4 ≡ 0 → Ok (with_used_ring q a) ≡ set_used_ring_of q low high
  unfolding set_used_ring_of
  set_used_ring_set e f = set_at_set (with_used_ring q) _ 4 InvalidUsedRingAlign a e f

module _ (t : Table) (n : ℕ) (q : Queue) where
  pub valid_not_ready : q.ready ≡ false → false ≡ valid_of t n q
  unfolding valid_of
  valid_not_ready e = rw e

  module _ (e : q.ready ≡ true) (d : Bool) (f : d ≡ readable t n (q.desc_table + 0) (desc_table_size q.size)) where
    desc : d ≡ readable t n q.desc_table (desc_table_size q.size)
    desc = rw add-zero at f

    pub valid_no_table : d ≡ false → false ≡ valid_of t n q
    unfolding valid_of
    valid_no_table x = rw (e, ← desc, x)

    module _ (x : d ≡ true) (a : Bool) (g : a ≡ readable t n (q.avail_ring + 0) (avail_ring_size q.size)) where
      avail : a ≡ readable t n q.avail_ring (avail_ring_size q.size)
      avail = rw add-zero at g

      pub valid_no_avail : a ≡ false → false ≡ valid_of t n q
      unfolding valid_of
      valid_no_avail y = rw (e, ← desc, x, ← avail, y)

      pub valid_used : a ≡ true → (u : Bool) → u ≡ writable t n (q.used_ring + 0) (used_ring_size q.size) → u ≡ valid_of t n q
      unfolding valid_of
      valid_used y u h = rw (e, ← desc, x, ← avail, y) (rw add-zero at h)

-- a queue is valid if and only if it is ready and the three areas are whole in memory
abbrev pub Valid : Table → ℕ → Queue → Type 0
Valid t n q =
    (q.ready ≡ true)
    × (readable t n q.desc_table (desc_table_size q.size) ≡ true)
    × (readable t n q.avail_ring (avail_ring_size q.size) ≡ true)
    × (writable t n q.used_ring (used_ring_size q.size) ≡ true)

all' : (r d a u : Bool) → pick r (pick d (pick a u false) false) false ≡ true → (r ≡ true) × (d ≡ true) × (a ≡ true) × (u ≡ true)
all' true true true u e = (refl, refl, refl, e)
all' true true false u e = absurd (true≢false (sym e))
all' true false a u e = absurd (true≢false (sym e))
all' false d a u e = absurd (true≢false (sym e))

pub valid_iff : (t : Table) (n : ℕ) (q : Queue) → (valid_of t n q ≡ true) ↔ Valid t n q
unfolding valid_of
valid_iff t n q = (λ e. all' q.ready _ _ _ e, λ w. rw (w.0, w.1, w.2) w.3)

-- ---- isolation: whether a queue is valid hangs on the table and on how long memory is
pub valid_agree : (t : Table) (q : Queue) (m k : List ℕ) → Agree t m k → valid_of t (length m) q ≡ valid_of t (length k) q
valid_agree t q m k h = rw h.sized
