-- SPDX-License-Identifier: Apache-2.0 AND BSD-3-Clause
-- The queue in ten words that the caller lends, and what a call answers: a number.
--
--   0 to 65,535     done (0), no (0), yes (1), a head, an idx, or how many descriptors there are
--   65,536          there is none
--   above           a refusal: what the caller lent is as it was, but for a put that stands where its question can't be answered
--                   (65,548), and for asking, which keeps a write that it made before the read that failed
use Rattle.std.specs.Prelude.{ℕ, max, ◌≡◌, Bool, false, not, List, [], ◌∷◌, length, get_or, eqb, leb, Option, Some, None, Result, Ok, Err, ◌⊎◌, ◌≤◌, ◌<◌, refl, true}
use Rattle.std.proofs.lemmas.List.Edits.{sets}
use Rattle.std.proofs.Common.{◌∙◌, inl, inr, true≢false}
use Rattle.std.proofs.Math.Path.{sym}
use borrow.Author.Tests.{leb-true, le-leb, lt-leb}
use Rattle.regions.specs.Table.{pick}
use Rattle.queue.specs.State.{queue}
use Rattle.queue.specs.declared.Queue.{Queue}
use Rattle.lent.specs.Refusal.{refusal_code}
use Rattle.lent.specs.declared.refusal.Refusal.{Refusal}
use Rattle.lent.specs.declared.refusal.Refusal.TheVariants.{StateShort, StateField}
use Rattle.lent.specs.declared.state.Reply.{Reply}

-- ---- a call's answer: a number with the queue (or the chain) after it, a number alone where it stays as it is, or a refusal
abbrev pub Answer : Type 0 → Type 0
Answer A = Result (Reply A) Refusal

abbrev pub done : {A : Type 0} → ℕ → A → Reply A
done c x = record { code = c; after = Some x }

abbrev pub number : {A : Type 0} → ℕ → Reply A
number c = record { code = c; after = None }

abbrev pub Now : {A : Type 0} → ℕ → A → Answer A
Now c x = Ok (done c x)

abbrev pub Same : {A : Type 0} → ℕ → Answer A
Same c = Ok (number c)

-- the ten words of a queue, in the order of its fields; a flag is 0 or 1
abbrev pub bit : Bool → ℕ
bit b = pick b 1 0

abbrev pub words_of : Queue → List ℕ
words_of q =
    q.max_size ∷ q.next_avail ∷ q.next_used ∷ bit q.event_idx_enabled ∷ q.num_added
    ∷ q.size ∷ bit q.ready ∷ q.desc_table ∷ q.avail_ring ∷ q.used_ring ∷ []

-- the queue that the words hold
abbrev pub queue_in : List ℕ → Queue
queue_in ws =
    queue (get_or ws 0 0) (get_or ws 1 0) (get_or ws 2 0) (eqb (get_or ws 3 0) 1) (get_or ws 4 0) (get_or ws 5 0) (eqb (get_or ws 6 0) 1) (get_or ws 7 0) (get_or ws 8 0) (get_or ws 9 0)

-- the largest of the five numbers of 16 bits, and of the two flags: no number is too large for its field
abbrev pub number16 : List ℕ → ℕ
number16 ws = max (max (max (get_or ws 0 0) (get_or ws 1 0)) (max (get_or ws 2 0) (get_or ws 4 0))) (get_or ws 5 0)

abbrev pub number1 : List ℕ → ℕ
number1 ws = max (get_or ws 3 0) (get_or ws 6 0)

unfoldable pub fits : List ℕ → Bool
fits ws = pick (leb (number16 ws) 65535) (leb (number1 ws) 1) false

-- fewer than ten words, or one of them too large, is a refusal of its own
abbrev pub Loaded : Type 0
Loaded = Result Queue Refusal

unfoldable pub load_of : List ℕ → Loaded
load_of ws = pick (leb 10 (length ws)) (pick (fits ws) (Ok (queue_in ws)) (Err StateField)) (Err StateShort)

-- the same by parts: a flag, and the queue of ten words, where they hold one
abbrev pub flag_of : ℕ → Option Bool
flag_of n = pick (leb n 1) (Some (eqb n 1)) None

unfoldable pub read_of : List ℕ → Option Queue
read_of ws = pick (fits ws) (Some (queue_in ws)) None

-- what is done with the queue that the words hold, if they hold one
abbrev pub on_loaded : Loaded → (Queue → Answer Queue) → Answer Queue
on_loaded (Ok q) f = f q
on_loaded (Err e) f = Err e

-- the number that is answered, and the words afterwards
abbrev pub code_of : {A : Type 0} → Answer A → ℕ
code_of (Ok x) = x.code
code_of (Err e) = refusal_code e

abbrev pub kept_after : List ℕ → Option Queue → List ℕ
kept_after ws (Some q) = pick (leb 10 (length ws)) (sets ws 0 (words_of q)) ws
kept_after ws None = ws

abbrev pub kept : List ℕ → Answer Queue → List ℕ
kept ws (Ok x) = kept_after ws x.after
kept ws (Err e) = ws

pub record Settled (ws : List ℕ) (x : Answer Queue) (r : ℕ) (ws' : List ℕ) : Type 0 where
  pub answer : r ≡ code_of x
  pub state : ws' ≡ kept ws x

-- a call on the queue that the words hold, if they hold one: what it answers, and the words afterwards
abbrev pub Called : List ℕ → (Queue → Answer Queue) → ℕ → List ℕ → Type 0
Called ws f r ws' = Settled ws (on_loaded (load_of ws) f) r ws'

-- a number that crosses as a flag: any but 0 sets it
abbrev pub is_set : ℕ → Bool
is_set n = not (eqb n 0)

-- ---- the cases of loading
pub pick_true : (a b : Bool) → pick a b false ≡ true → (a ≡ true) × (b ≡ true)
pick_true true b e = (refl, e)
pick_true false b e = absurd (true≢false (sym e))

module _ (ws : List ℕ) where
  pub fits_all : fits ws ≡ true → (number16 ws ≤ 65535) × (number1 ws ≤ 1)
  unfolding fits
  fits_all e = let w = pick_true (leb (number16 ws) 65535) (leb (number1 ws) 1) e in (leb-true _ _ w.0, leb-true _ _ w.1)

  pub fits_flags : number16 ws ≤ 65535 → leb (number1 ws) 1 ≡ fits ws
  unfolding fits
  fits_flags h = rw (le-leb _ _ h)

  pub fits_not : 65535 < number16 ws → false ≡ fits ws
  unfolding fits
  fits_not h = rw (lt-leb _ _ h)

  pub load_short : length ws < 10 → Err StateShort ≡ load_of ws
  unfolding load_of
  load_short h = rw (lt-leb _ _ h)

  module _ (h : 10 ≤ length ws) (b : Bool) (e : b ≡ fits ws) where
    pub load_unfit : b ≡ false → Err StateField ≡ load_of ws
    unfolding load_of
    load_unfit f = rw (le-leb _ _ h, sym e ∙ f)

    pub load_good : b ≡ true → (q : Queue) → q ≡ queue_in ws → Ok q ≡ load_of ws
    unfolding load_of
    load_good f q g = rw (le-leb _ _ h, sym e ∙ f, g)

  -- ---- the cases of settling
  module _ (x : Answer Queue) where
    pub settled_refused : (e : Refusal) → x ≡ Err e → Settled ws x (refusal_code e) ws
    settled_refused e f = rw f (record { answer = refl; state = refl })

    module _ (c : ℕ) where
      pub settled_same : x ≡ Same c → Settled ws x c ws
      settled_same e = rw e (record { answer = refl; state = refl })

      -- a number alone, be it of an answer or of a refusal
      pub settled_alone : (x ≡ Same c) ⊎ ((e : Refusal) × (x ≡ Err e) × (refusal_code e ≡ c)) → Settled ws x c ws
      settled_alone (inl e) = settled_same e
      settled_alone (inr w) = rw (sym w.2) (settled_refused w.0 w.1)

      module _ (q : Queue) (e : x ≡ Now c q) where
        pub settled_now : 10 ≤ length ws → (ws' : List ℕ) → ws' ≡ sets ws 0 (words_of q) → Settled ws x c ws'
        settled_now h ws' f = rw e (record { answer = refl; state = f ∙ sym (rw (le-leb _ _ h)) })

        pub settled_short : length ws < 10 → Settled ws x c ws
        settled_short h = rw e (record { answer = refl; state = sym (rw (lt-leb _ _ h)) })
