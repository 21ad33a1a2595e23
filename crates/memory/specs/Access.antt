-- SPDX-License-Identifier: Apache-2.0 AND BSD-3-Clause
-- What an access to guest memory finds and leaves, for every table, every slice and every address.
--
-- The words for callers:
--   readable t size a n, writable t size a n   whether the n bytes from guest address a on can be read, written
--   bytes_at t m a n                            the bytes that are read
--   after t m a bs                             memory after bs was written there: as it was, if that is refused
--   read_of n f t m a                             the answer of a read of n bytes, of which f makes a value; read2_of: of a number of 2 bytes
-- The laws for callers, who never open a definition:
--   after-length      a write keeps the length
--   after_refused     a refused write changes nothing
--   bytes_apart       bytes apart from a write are as before            (Good t: no two guest addresses share a byte)
--   bytes_back        what was written is read back                     (Good t)
--   writable-readable what can be written can be read
--   readable_all, all_readable   an access works if and only if each of its bytes is in memory
--   bytes_are         the k-th byte is the one at the place of the k-th address   (Single t: no guest address has two places)
-- and isolation: memories that agree at every place that the table maps (Agree)
--   bytes_agree, read_agree     give equal answers
--   after_agree                                agree again after equal writes
--   after_unmapped    a byte at a place that the table does not map is never changed
--   after_elsewhere   nor is one whose guest address lies outside the write       (Good t)
use Rattle.std.specs.Prelude.{ℕ, zero, suc, ◌+◌, ◌≤◌, ◌<◌, ◌^◌, ◌≡◌, Bool, true, false, Option, Some, None, is_some, ◌⊎◌, List, [], ◌∷◌, ◌++◌, length, get_or}
use Rattle.std.proofs.Common.{ap, ◌∙◌, true≢false, inl, inr}
use native.Mathlib.Omega.{arith}
use Rattle.std.proofs.Math.Path.{refl, sym}
use Rattle.std.proofs.lemmas.List.Edits.{sets}
use Rattle.wire.specs.Number.{number, bytes}
use Rattle.wire.specs.Part.{Apart, part, part-sets}
use Rattle.regions.specs.Table.{pick, Table, Maps, InMemory, Good, good_one, Single, single_one, maps_room}
use Rattle.regions.specs.Spots.{spots, length-spots, whole, covered, covered_is, covered_run, covered_all, all_covered, past_covered, covered_top, Seated, RunAt, Mapped, spots_mapped}
use Rattle.memory.specs.Cells.{fetch, store, length-fetch, length-store, fetch_run, store_run, Off, AllOff, Distinct, store_off, fetch_off, fetch_back, store_agree}

-- ---- what contracts cite

-- the n bytes from guest address a on can all be read
unfoldable pub readable : Table → ℕ → ℕ → ℕ → Bool
readable t size a n = covered t size a n

-- they can all be written
unfoldable pub writable : Table → ℕ → ℕ → ℕ → Bool
writable t size a n = covered t size a n

-- the n bytes from guest address a on
unfoldable pub bytes_at : Table → List ℕ → ℕ → ℕ → List ℕ
bytes_at t m a n = pick (readable t (length m) a n) (fetch m (spots t (length m) a n)) []

-- memory after bs was written at guest address a: as it was, if that is refused
unfoldable pub after : Table → List ℕ → ℕ → List ℕ → List ℕ
after t m a bs = pick (writable t (length m) a (length bs)) (store m (spots t (length m) a (length bs)) bs) m

-- what a write of bs at guest address a answers, and what it leaves
pub record Wrote (t : Table) (m : List ℕ) (a : ℕ) (bs : List ℕ) (r : Bool) (m' : List ℕ) : Type 0 where
  pub ok : r ≡ writable t (length m) a (length bs)
  pub mem : m' ≡ after t m a bs

-- what a write of bs at a, and of cs at b after it, answers and leaves: both are written, or nothing is
pub record WroteBoth (t : Table) (m : List ℕ) (a : ℕ) (bs : List ℕ) (b : ℕ) (cs : List ℕ) (r : Bool) (m' : List ℕ) : Type 0 where
  pub ok : r ≡ pick (writable t (length m) a (length bs)) (writable t (length m) b (length cs)) false
  pub mem : m' ≡ pick r (after t (after t m a bs) b cs) m

-- a read of n bytes, as the value that f makes of them
unfoldable pub read_of : {A : Type 0} → ℕ → (List ℕ → A) → Table → List ℕ → ℕ → Option A
read_of n f t m a = pick (readable t (length m) a n) (Some (f (bytes_at t m a n))) None

-- a read of 2 bytes, as one number
abbrev pub read2_of : Table → List ℕ → ℕ → Option ℕ
read2_of t m a = read_of 2 number t m a

-- ---- readable, writable
module _ (t : Table) (size a n : ℕ) where
  pub readable_is : readable t size a n ≡ covered t size a n
  unfolding readable
  readable_is = refl

  pub writable_is : writable t size a n ≡ covered t size a n
  unfolding writable
  writable_is = refl

  pub writable-readable : writable t size a n ≡ true → readable t size a n ≡ true
  unfolding writable readable
  writable-readable e = e

  pub readable_all : readable t size a n ≡ true → (k : ℕ) → k < n → InMemory t size (a + k)
  unfolding readable
  readable_all e k h = covered_all t size a n e k (a + k) h refl

  pub all_readable : ((k : ℕ) → k < n → InMemory t size (a + k)) → readable t size a n ≡ true
  unfolding readable
  all_readable f = all_covered t size a n (λ k x h e. rw e (f k h))

  pub readable-covered : (r : Bool) → r ≡ readable t size a n → r ≡ true → covered t size a n ≡ true
  unfolding readable
  readable-covered r e f = sym e ∙ f

  pub writable-covered : (r : Bool) → r ≡ writable t size a n → r ≡ true → covered t size a n ≡ true
  unfolding writable
  writable-covered r e f = sym e ∙ f

  pub readable_top : (r : Bool) → 1 ≤ n → r ≡ readable t size a n → r ≡ true → a < 2 ^ 64
  unfolding readable
  readable_top r h e f = let w = covered_top t size a n (sym e ∙ f) 0 (omega arith) in omega arith

  pub writable_top : (r : Bool) → 1 ≤ n → r ≡ writable t size a n → r ≡ true → a < 2 ^ 64
  unfolding writable
  writable_top r h e f = let w = covered_top t size a n (sym e ∙ f) 0 (omega arith) in omega arith

  pub readable_past : 1 ≤ n → 2 ^ 64 < a + n → readable t size a n ≡ false
  unfolding readable
  readable_past h p = past_covered t size a n h p

  pub writable_past : 1 ≤ n → 2 ^ 64 < a + n → writable t size a n ≡ false
  unfolding writable
  writable_past h p = past_covered t size a n h p

  whole-readable : readable t size a n ≡ true → whole (spots t size a n) ≡ true
  unfolding readable
  whole-readable e = sym (covered_is t size a n) ∙ e

  whole-writable : writable t size a n ≡ true → whole (spots t size a n) ≡ true
  unfolding writable
  whole-writable e = sym (covered_is t size a n) ∙ e

-- ---- bytes_at
pub bytes_ok : (t : Table) (m : List ℕ) (a n : ℕ) → readable t (length m) a n ≡ true → bytes_at t m a n ≡ fetch m (spots t (length m) a n)
unfolding bytes_at
bytes_ok t m a n e = rw e

pub length-bytes_at : (t : Table) (m : List ℕ) (a n : ℕ) → readable t (length m) a n ≡ true → length (bytes_at t m a n) ≡ n
length-bytes_at t m a n e = rw (bytes_ok t m a n e) (length-fetch m (spots t (length m) a n) ∙ length-spots t (length m) a n)

-- ---- read_of
module _ {A : Type 0} (n : ℕ) (f : List ℕ → A) (t : Table) (m : List ℕ) (a : ℕ) where
  pub read_is : read_of n f t m a ≡ pick (readable t (length m) a n) (Some (f (bytes_at t m a n))) None
  unfolding read_of
  read_is = refl

pub read2_is : (t : Table) (m : List ℕ) (a : ℕ) → read2_of t m a ≡ pick (readable t (length m) a 2) (Some (number (bytes_at t m a 2))) None
read2_is t m a = read_is 2 number t m a

-- ---- after
pick-length : (b : Bool) (m ps : List ℕ) → length ps ≡ length m → length (pick b ps m) ≡ length m
pick-length true m ps e = e
pick-length false m ps e = refl

pub after-length : (t : Table) (m : List ℕ) (a : ℕ) (bs : List ℕ) → length (after t m a bs) ≡ length m
unfolding after
after-length t m a bs = pick-length (writable t (length m) a (length bs)) m _ (length-store m (spots t (length m) a (length bs)) bs)

pub after_refused : (t : Table) (m : List ℕ) (a : ℕ) (bs : List ℕ) → writable t (length m) a (length bs) ≡ false → after t m a bs ≡ m
unfolding after
after_refused t m a bs e = rw e

pub after_done : (t : Table) (m : List ℕ) (a : ℕ) (bs : List ℕ) → writable t (length m) a (length bs) ≡ true → after t m a bs ≡ store m (spots t (length m) a (length bs)) bs
unfolding after
after_done t m a bs e = rw e

-- ---- the fast way
pub seated_covered : (t : Table) (size a n : ℕ) (p : Option ℕ) → Seated t size a n p → is_some p ≡ true → covered t size a n ≡ true
seated_covered t size a n (Some i) s h = covered_run t size a n i (s.at i refl)
seated_covered t size a n None s h = absurd (true≢false (sym h))

module _ (t : Table) (m : List ℕ) (a : ℕ) where
  pub readable_run : (n i : ℕ) → RunAt t (length m) a n i → readable t (length m) a n ≡ true
  readable_run n i e = readable_is t (length m) a n ∙ covered_run t (length m) a n i e

  pub writable_run : (n i : ℕ) → RunAt t (length m) a n i → writable t (length m) a n ≡ true
  writable_run n i e = writable_is t (length m) a n ∙ covered_run t (length m) a n i e

  pub bytes_run : (n i : ℕ) → RunAt t (length m) a n i → bytes_at t m a n ≡ part m i n
  bytes_run n i e = bytes_ok t m a n (readable_run n i e) ∙ ap (fetch m) e.is ∙ fetch_run m i n e.fits

  pub after_run : (bs : List ℕ) (i : ℕ) → RunAt t (length m) a (length bs) i → after t m a bs ≡ sets m i bs
  after_run bs i e =
      after_done t m a bs (writable_run (length bs) i e) ∙ ap (λ (ps : List (Option ℕ)). store m ps bs) e.is ∙ store_run m i bs

-- n is what the code has for the size k
module _ {A : Type 0} (k : ℕ) (f : List ℕ → A) (t : Table) (m : List ℕ) (a n : ℕ) (e : n ≡ k) (i : ℕ) (r : RunAt t (length m) a n i) where
  pub read_run : (x : A) → x ≡ f (part m i k) → Some x ≡ read_of k f t m a
  read_run x h = let w : RunAt t (length m) a k i = rw e at r in rw (read_is, readable_run t m a k i w, bytes_run t m a k i w, h)

pub read2_run : (t : Table) (m : List ℕ) (a i : ℕ) → RunAt t (length m) a 2 i → read2_of t m a ≡ Some (number (part m i 2))
read2_run t m a i e = rw (read2_is, readable_run t m a 2 i e, bytes_run t m a 2 i e)

pub run_fits : (t : Table) (size a n k : ℕ) → n ≡ k → (i : ℕ) → RunAt t size a n i → i + k ≤ size
run_fits t size a n k e i r = let w = r.fits in omega arith

-- ---- the slow way
module _ {A : Type 0} (k : ℕ) (f : List ℕ → A) (t : Table) (m : List ℕ) (a n : ℕ) (e : n ≡ k) (r : Bool) (o : r ≡ readable t (length m) a n) where
  pub read_refused : r ≡ false → None ≡ read_of k f t m a
  read_refused h = let w : r ≡ readable t (length m) a k = rw e at o in rw (read_is, sym w ∙ h)

  pub read_slow : r ≡ true → (bs : List ℕ) → bs ≡ fetch m (spots t (length m) a k) → (x : A) → x ≡ f bs → Some x ≡ read_of k f t m a
  read_slow h bs b x g =
      let w : r ≡ readable t (length m) a k = rw e at o in rw (read_is, bytes_ok t m a k (sym w ∙ h), sym w ∙ h, g, b)

-- at two bytes
module _ (t : Table) (m : List ℕ) (a : ℕ) where
  pub read2_slow : (r : Bool) → r ≡ readable t (length m) a 2 → r ≡ true → Some (number (fetch m (spots t (length m) a 2))) ≡ read2_of t m a
  read2_slow r e f = rw (read2_is, bytes_ok t m a 2 (sym e ∙ f), sym e ∙ f)

  pub read2_refused : (r : Bool) → r ≡ readable t (length m) a 2 → r ≡ false → None ≡ read2_of t m a
  read2_refused r e f = rw (read2_is, sym e ∙ f)

-- a buffer as long as the access
pub buffer-covered : (t : Table) (size a n : ℕ) → covered t size a n ≡ true → (out : List ℕ) → length out ≡ n → covered t size a (length out) ≡ true
buffer-covered t size a n c out e = rw e c

-- ---- places of the table
-- a place that the table maps from no address is none of them
mapped_off : (t : Table) (size a : ℕ) (ps : List (Option ℕ)) (i : ℕ) → Mapped t size a ps → ((x : ℕ) → Maps t size x i → ⊥) → Off ps i
mapped_off t size a [] i h f = tt
mapped_off t size a (Some j ∷ ps) i h f = ((λ e. f a (rw e h.0)), mapped_off t size (suc a) ps i h.1 f)
mapped_off t size a (None ∷ ps) i h f = mapped_off t size (suc a) ps i h f

-- x is none of the n addresses from a on
abbrev pub Outside : ℕ → ℕ → ℕ → Type 0
Outside x a n = (x < a) ⊎ (a + n ≤ x)

outside_next : (x a n : ℕ) → Outside x a (suc n) → Outside x (suc a) n × (x ≡ a → ⊥)
outside_next x a n (inl h) = (inl (omega arith), (λ e. omega arith))
outside_next x a n (inr h) = (inr (omega arith), (λ e. omega arith))

module _ (t : Table) (g : Good t) (size : ℕ) where
  -- the place of an address outside the access is none of them
  other_off : (a : ℕ) (ps : List (Option ℕ)) (x i : ℕ) → Mapped t size a ps → Maps t size x i → Outside x a (length ps) → Off ps i
  other_off a [] x i h m o = tt
  other_off a (Some j ∷ ps) x i h m o =
      let w = outside_next x a (length ps) o in
      ((λ e. w.1 (good_one t g size x a j (rw e at m) h.0)), other_off (suc a) ps x i h.1 m w.0)
  other_off a (None ∷ ps) x i h m o = other_off (suc a) ps x i h m (outside_next x a (length ps) o).0

  -- the places of accesses apart are apart
  apart_next : (a n b k : ℕ) → Apart a n b (suc k) → Outside b a n × Apart a n (suc b) k
  apart_next a n b k (inl o) = (inr (omega arith), inl (omega arith))
  apart_next a n b k (inr o) = (inl (omega arith), inr (omega arith))

  mapped_apart : (a : ℕ) (ps : List (Option ℕ)) (b : ℕ) (qs : List (Option ℕ)) → Mapped t size a ps → Mapped t size b qs → Apart a (length ps) b (length qs) → AllOff ps qs
  mapped_apart a ps b [] h k o = tt
  mapped_apart a ps b (Some i ∷ qs) h k o =
      let w = apart_next a (length ps) b (length qs) o in
      (other_off a ps b i h k.0 w.0, mapped_apart a ps (suc b) qs h k.1 w.1)
  mapped_apart a ps b (None ∷ qs) h k o = mapped_apart a ps (suc b) qs h k (apart_next a (length ps) b (length qs) o).1

  mapped_distinct : (a : ℕ) (ps : List (Option ℕ)) → Mapped t size a ps → Distinct size ps
  mapped_distinct a [] h = tt
  mapped_distinct a (Some i ∷ ps) h =
      (maps_room t size a i h.0, other_off (suc a) ps a i h.1 h.0 (inl (omega arith)), mapped_distinct (suc a) ps h.1)
  mapped_distinct a (None ∷ ps) h = mapped_distinct (suc a) ps h

-- ---- a write leaves the bytes apart from it
module _ (t : Table) (g : Good t) (m : List ℕ) (a : ℕ) (bs : List ℕ) (b n : ℕ) (h : Apart a (length bs) b n) where
  all_off : AllOff (spots t (length m) a (length bs)) (spots t (length m) b n)
  all_off =
      mapped_apart t g (length m) a (spots t (length m) a (length bs)) b (spots t (length m) b n)
      (spots_mapped t (length m) a (length bs)) (spots_mapped t (length m) b n) (rw (length-spots, length-spots) h)

  apart' : (c : Bool) → fetch (pick c (store m (spots t (length m) a (length bs)) bs) m) (spots t (length m) b n) ≡ fetch m (spots t (length m) b n)
  apart' true = fetch_off m (spots t (length m) a (length bs)) bs (spots t (length m) b n) all_off
  apart' false = refl

  fetch-after : fetch (after t m a bs) (spots t (length m) b n) ≡ fetch m (spots t (length m) b n)
  unfolding after
  fetch-after = apart' (writable t (length m) a (length bs))

  pub bytes_apart : bytes_at t (after t m a bs) b n ≡ bytes_at t m b n
  unfolding bytes_at
  bytes_apart = rw (after-length, fetch-after)

-- ---- what was written is read back
module _ (t : Table) (g : Good t) (m : List ℕ) (a : ℕ) (bs : List ℕ) (ok : writable t (length m) a (length bs) ≡ true) where
  fetch-written : fetch (store m (spots t (length m) a (length bs)) bs) (spots t (length m) a (length bs)) ≡ bs
  fetch-written =
      fetch_back m (spots t (length m) a (length bs)) bs
      (mapped_distinct t g (length m) a (spots t (length m) a (length bs)) (spots_mapped t (length m) a (length bs)))
      (whole-writable t (length m) a (length bs) ok) (length-spots t (length m) a (length bs))

  pub bytes_back : bytes_at t (after t m a bs) a (length bs) ≡ bs
  unfolding bytes_at
  bytes_back = rw (after-length, writable-readable t (length m) a (length bs) ok, after_done t m a bs ok) fetch-written

-- a write to a run of places is read back from any table
pub bytes_back_run : (t : Table) (m : List ℕ) (a : ℕ) (bs : List ℕ) (i : ℕ) → RunAt t (length m) a (length bs) i → bytes_at t (after t m a bs) a (length bs) ≡ bs
bytes_back_run t m a bs i e =
    bytes_run t (after t m a bs) a (length bs) i (rw after-length e) ∙ rw (after_run t m a bs i e) (part-sets m i bs e.fits)

-- ---- where no guest address has two places, the k-th byte is the one at the place of the k-th address, whatever the rows' order
fetch_single : (t : Table) (s : Single t) (size a : ℕ) (ps : List (Option ℕ)) (m : List ℕ) → Mapped t size a ps → whole ps ≡ true
    → (k x i : ℕ) → k < length ps → x ≡ a + k → Maps t size x i → get_or (fetch m ps) k 0 ≡ get_or m i 0
fetch_single t s size a [] m h w k x i l e q = absurd (omega arith)
fetch_single t s size a (None ∷ ps) m h w k x i l e q = absurd (true≢false (sym w))
fetch_single t s size a (Some j ∷ ps) m h w zero x i l e q =
    let z : x ≡ a = omega arith in ap (λ (y : ℕ). get_or m y 0) (single_one t s size a j i h.0 (rw z at q))
fetch_single t s size a (Some j ∷ ps) m h w (suc k) x i l e q = fetch_single t s size (suc a) ps m h.1 w k x i (omega arith) (omega arith) q

pub bytes_are : (t : Table) → Single t → (m : List ℕ) (a n : ℕ) → readable t (length m) a n ≡ true → (k i : ℕ) → k < n → Maps t (length m) (a + k) i → get_or (bytes_at t m a n) k 0 ≡ get_or m i 0
bytes_are t s m a n o k i h q =
    rw (bytes_ok t m a n o)
    (fetch_single t s (length m) a (spots t (length m) a n) m (spots_mapped t (length m) a n) (whole-readable t (length m) a n o) k (a + k) i (rw length-spots h) refl q)

-- ---- isolation
-- two memories of equal length that hold the same bytes at every place that the table maps
pub record Agree (t : Table) (m k : List ℕ) : Type 0 where
  pub sized : length m ≡ length k
  pub at : (a i : ℕ) → Maps t (length m) a i → get_or m i 0 ≡ get_or k i 0

pub agree_refl : (t : Table) (m : List ℕ) → Agree t m m
agree_refl t m = record { sized = refl; at = λ a i h. refl }

fetch_agree : (t : Table) (size a : ℕ) (ps : List (Option ℕ)) (m k : List ℕ) → Mapped t size a ps → ((x i : ℕ) → Maps t size x i → get_or m i 0 ≡ get_or k i 0) → fetch m ps ≡ fetch k ps
fetch_agree t size a [] m k h f = refl
fetch_agree t size a (Some i ∷ ps) m k h f = cc (f a i h.0, fetch_agree t size (suc a) ps m k h.1 f)
fetch_agree t size a (None ∷ ps) m k h f = cc (fetch_agree t size (suc a) ps m k h f)

module _ (t : Table) (m k : List ℕ) (h : Agree t m k) where
  pub bytes_agree : (a n : ℕ) → bytes_at t m a n ≡ bytes_at t k a n
  unfolding bytes_at
  bytes_agree a n =
      rw (← h.sized, fetch_agree t (length m) a (spots t (length m) a n) m k (spots_mapped t (length m) a n) h.at)

  pub read_agree : {A : Type 0} (n : ℕ) (f : List ℕ → A) (a : ℕ) → read_of n f t m a ≡ read_of n f t k a
  unfolding read_of
  read_agree n f a = rw (h.sized, bytes_agree a n)

  pub read2_agree : (a : ℕ) → read2_of t m a ≡ read2_of t k a
  read2_agree a = read_agree 2 number a

  agree' : (c : Bool) (a : ℕ) (bs : List ℕ) (i : ℕ) → get_or m i 0 ≡ get_or k i 0
      → get_or (pick c (store m (spots t (length m) a (length bs)) bs) m) i 0 ≡ get_or (pick c (store k (spots t (length m) a (length bs)) bs) k) i 0
  agree' true a bs i e = store_agree m k (spots t (length m) a (length bs)) bs i h.sized e
  agree' false a bs i e = e

  agree_at : (a : ℕ) (bs : List ℕ) (i : ℕ) → get_or m i 0 ≡ get_or k i 0 → get_or (after t m a bs) i 0 ≡ get_or (after t k a bs) i 0
  unfolding after
  agree_at a bs i e = rw (← h.sized) (agree' (writable t (length m) a (length bs)) a bs i e)

  pub after_agree : (a : ℕ) (bs : List ℕ) → Agree t (after t m a bs) (after t k a bs)
  after_agree a bs =
      record {
        sized = after-length t m a bs ∙ h.sized ∙ sym (after-length t k a bs);
        at = λ x i p. agree_at a bs i (h.at x i (rw after-length at p));
      }

-- a byte that is at none of the access's places, and so one that the table does not map, is as it was
module _ (t : Table) (m : List ℕ) (a : ℕ) (bs : List ℕ) (i : ℕ) where
  off' : (c : Bool) → Off (spots t (length m) a (length bs)) i → get_or (pick c (store m (spots t (length m) a (length bs)) bs) m) i 0 ≡ get_or m i 0
  off' true h = store_off m (spots t (length m) a (length bs)) bs i h
  off' false h = refl

  after_off : Off (spots t (length m) a (length bs)) i → get_or (after t m a bs) i 0 ≡ get_or m i 0
  unfolding after
  after_off h = off' (writable t (length m) a (length bs)) h

  pub after_unmapped : ((x : ℕ) → Maps t (length m) x i → ⊥) → get_or (after t m a bs) i 0 ≡ get_or m i 0
  after_unmapped f = after_off (mapped_off t (length m) a (spots t (length m) a (length bs)) i (spots_mapped t (length m) a (length bs)) f)

  pub after_elsewhere : Good t → (x : ℕ) → Maps t (length m) x i → Outside x a (length bs) → get_or (after t m a bs) i 0 ≡ get_or m i 0
  after_elsewhere g x p o =
      after_off (other_off t g (length m) a (spots t (length m) a (length bs)) x i (spots_mapped t (length m) a (length bs)) p (rw length-spots o))
