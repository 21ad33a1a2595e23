-- SPDX-License-Identifier: Apache-2.0 AND BSD-3-Clause
-- Laying a chain (VIRTIO 1.2, 2.7.5, 2.7.13.1): the descriptors that are stored, the tests before, and what is said of the memory after: definitions only.
use Rattle.std.specs.Prelude.{ℕ, zero, suc, ◌+◌, ◌*◌, ◌/◌, ◌≡◌, Bool, true, false, not, Result, Ok, Err, List, [], ◌∷◌, length, get_or, ltb, leb, eqb}
use Rattle.regions.specs.Table.{pick, Table, Good}
use Rattle.memory.specs.Access.{writable, after}
use Rattle.desc.specs.Layout.{desc_addr}
use Rattle.desc.specs.Desc.{descriptor, desc_bytes, is_indirect}
use Rattle.desc.specs.declared.Descriptor.{Descriptor}
use Rattle.chain.specs.Sequence.{sum_max, total, only}
use Rattle.chain.specs.Steps.{chain_at, step_of, filtered_of, Yields}
use Rattle.chain.specs.declared.lay.LayError.{LayError}
use Rattle.chain.specs.declared.lay.LayError.TheVariants.{BadCount, BadPlace, SamePlace, Indirect, TooLong, Unmapped}

-- a list of descriptors as a caller gives it: of each its place in the table, its addr, its len and its flags
pub record Listed : Type 0 where
  pub places : List ℕ
  pub addrs : List ℕ
  pub lens : List ℕ
  pub flags : List ℕ

abbrev pub listed : List ℕ → List ℕ → List ℕ → List ℕ → Listed
listed ps bs ls fs = record { places = ps; addrs = bs; lens = ls; flags = fs }

-- the k-th as it is stored: flag NEXT and the next place if another follows, neither if not
abbrev pub link_flags : Bool → ℕ → ℕ
link_flags more f = f / 2 * 2 + pick more 1 0

unfoldable pub link : Listed → ℕ → Descriptor
link x k = descriptor (get_or x.addrs k 0) (get_or x.lens k 0) (link_flags (ltb (k + 1) (length x.places)) (get_or x.flags k 0)) (get_or x.places (k + 1) 0)

-- n of them from the k-th on, and all of them
unfoldable pub links_from : Listed → ℕ → ℕ → List Descriptor
links_from x zero k = []
links_from x (suc n) k = link x k ∷ links_from x n (suc k)

abbrev pub links : Listed → List Descriptor
links x = links_from x (length x.places) 0

-- memory after n of them were stored at their places, from the k-th on
unfoldable pub stored : Table → ℕ → Listed → ℕ → ℕ → List ℕ → List ℕ
stored t table x zero k m = m
stored t table x (suc n) k m = stored t table x n (suc k) (after t m (desc_addr table (get_or x.places k 0)) (desc_bytes (link x k)))

-- ---- the tests
-- p holds of each of the n numbers from k on
unfoldable pub every : (ℕ → Bool) → ℕ → ℕ → Bool
every p zero k = true
every p (suc n) k = pick (p k) (every p n (suc k)) false

-- at least one, at most as many as the table has, and as many of each
unfoldable pub counted : ℕ → Listed → Bool
counted q x =
    pick (ltb 0 (length x.places)) (pick (leb (length x.places) q)
    (pick (eqb (length x.addrs) (length x.places)) (pick (eqb (length x.lens) (length x.places)) (eqb (length x.flags) (length x.places)) false) false) false) false

-- the k-th place is in a table of q; it is none of those before; the k-th descriptor is no table; it can be stored
unfoldable pub below : ℕ → List ℕ → ℕ → Bool
below q ps k = ltb (get_or ps k 0) q

unfoldable pub differs : List ℕ → ℕ → ℕ → Bool
differs ps k j = not (eqb (get_or ps j 0) (get_or ps k 0))

unfoldable pub fresh : List ℕ → ℕ → Bool
fresh ps k = every (differs ps k) k 0

unfoldable pub direct : Listed → ℕ → Bool
direct x k = not (is_indirect (link x k))

unfoldable pub can_store : Table → ℕ → ℕ → List ℕ → ℕ → Bool
can_store t size table ps k = writable t size (desc_addr table (get_or ps k 0)) 16

-- ---- what lay_chain answers, the first reason against it that holds, and what it leaves
abbrev pub Laid : Type 0
Laid = Result (Unit {0}) LayError

unfoldable pub lay_of : Table → ℕ → ℕ → ℕ → Listed → Laid
lay_of t size table q x =
    pick (counted q x)
    (pick (every (below q x.places) (length x.places) 0)
    (pick (every (fresh x.places) (length x.places) 0)
    (pick (every (direct x) (length x.places) 0)
    (pick (leb (total (links x)) sum_max)
    (pick (every (can_store t size table x.places) (length x.places) 0) (Ok tt) (Err Unmapped))
    (Err TooLong))
    (Err Indirect))
    (Err SamePlace))
    (Err BadPlace))
    (Err BadCount)

abbrev pub is_done : Laid → Bool
is_done (Ok u) = true
is_done (Err e) = false

-- the plain walk from i on yields ds, the filtered ones their share of it, and then none
pub record WalksTo (t : Table) (m : List ℕ) (table q i : ℕ) (ds : List Descriptor) : Type 0 where
  pub plain : Yields (step_of t m) (chain_at table q i) ds
  pub readable : Yields (filtered_of false t m) (chain_at table q i) (only false ds)
  pub writable : Yields (filtered_of true t m) (chain_at table q i) (only true ds)

pub record LaidDown (t : Table) (m : List ℕ) (table q : ℕ) (x : Listed) (r : Laid) (m' : List ℕ) : Type 0 where
  pub is : r ≡ lay_of t (length m) table q x
  pub mem : m' ≡ pick (is_done r) (stored t table x (length x.places) 0 m) m
  -- the round trip, where no two guest addresses share a byte
  pub back : Good t → r ≡ Ok tt → WalksTo t m' table q (get_or x.places 0 0) (links x)
