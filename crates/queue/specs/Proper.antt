-- SPDX-License-Identifier: Apache-2.0 AND BSD-3-Clause
-- The states that setters and reset can reach (T2.4): every call keeps them, so every queue that was made by `new` is one of them.
use Rattle.std.specs.Prelude.{◌≡◌, ℕ, ◌%◌, ◌<◌, ◌≤◌, Bool, true, List, refl, Option, Some, IfSome, Result, Ok, IfOk}
use Rattle.std.proofs.Common.{arith}
use Rattle.regions.specs.Table.{Table}
use Rattle.queue.specs.State.{with_next_avail, with_next_used, with_event_idx, with_ready, numbered}
use Rattle.queue.specs.Size.{Power, good_size, good_is, is_good, max_queue_size}
use Rattle.queue.specs.Config.{fresh, new_of, new_elim, reset_of, set_size_of, set_size_elim, set_desc_table_of, set_desc_table_elim, set_avail_ring_of, set_avail_ring_elim, set_used_ring_of, set_used_ring_elim}
use Rattle.queue.specs.Avail.{head_of, head_elim, pop_of, pop_elim, back_of}
use Rattle.queue.specs.Used.{put_of, put_elim}
use Rattle.queue.specs.Notify.{question_of, question_elim}
use Rattle.queue.specs.declared.Queue.{Queue}
use Rattle.queue.specs.declared.AvailIter.{AvailIter}
use Rattle.queue.specs.declared.Error.{Error}

-- sizes are powers of two, the size at most the largest, that at most 32,768; the areas are aligned as VIRTIO 1.2, 2.7, says
pub record Proper (q : Queue) : Type 0 where
  pub largest : Power q.max_size
  pub top : q.max_size ≤ max_queue_size
  pub power : Power q.size
  pub fits : q.size ≤ q.max_size
  pub desc : q.desc_table % 16 ≡ 0
  pub avail : q.avail_ring % 2 ≡ 0
  pub used : q.used_ring % 4 ≡ 0

-- what holds of the queue in an answer, if there is one: in that of a setter or a put, of a taken head, of the question
abbrev pub OfConfigured : (Queue → Type 0) → Result Queue Error → Type 0
OfConfigured P r = IfOk r P

abbrev pub OfTaken : (Queue → Type 0) → Option (ℕ × Queue) → Type 0
OfTaken P r = IfSome r (λ x. P x.1)

abbrev pub OfAnswered : (Queue → Type 0) → Result (Bool × Queue) Error → Type 0
OfAnswered P r = IfOk r (λ x. P x.1)

-- a queue at its start
fresh_proper : (max : ℕ) → Power max → max ≤ max_queue_size → Proper (fresh max)
fresh_proper max p h = record { largest = p; top = h; power = p; fits = omega arith; desc = refl; avail = refl; used = refl }

pub new_proper : (max : ℕ) → OfConfigured Proper (new_of max)
new_proper max = new_elim max (OfConfigured Proper) (λ e. let w = good_is max max_queue_size e in fresh_proper max w.0 w.1) (λ e. tt)

-- and every such largest size is taken
pub new_takes : (max : ℕ) → Power max → max ≤ max_queue_size → new_of max ≡ Ok (fresh max)
unfolding new_of
new_takes max p h = rw (is_good max max_queue_size (omega arith) p h)

module _ (q : Queue) (p : Proper q) where
  pub reset_proper : Proper (reset_of q)
  unfolding reset_of
  reset_proper = fresh_proper q.max_size p.largest p.top

  pub set_size_proper : (n : ℕ) → OfConfigured Proper (set_size_of q n)
  set_size_proper n =
      set_size_elim q (OfConfigured Proper) n
      (λ e. let w = good_is n q.max_size e in
      record { largest = p.largest; top = p.top; power = w.0; fits = w.1; desc = p.desc; avail = p.avail; used = p.used }) (λ e. tt)

  -- a size is taken if and only if it is a power of two up to the largest: the other direction is `set_size_proper`
  pub set_size_takes : (n : ℕ) → n < 65536 → Power n → n ≤ q.max_size → good_size n q.max_size ≡ true
  set_size_takes n l w h = is_good n q.max_size l w h

  pub set_desc_table_proper : (low high : Option ℕ) → OfConfigured Proper (set_desc_table_of q low high)
  set_desc_table_proper low high =
      set_desc_table_elim q (OfConfigured Proper) low high
      (λ e. record { largest = p.largest; top = p.top; power = p.power; fits = p.fits; desc = e; avail = p.avail; used = p.used }) (λ e. tt)

  pub set_avail_ring_proper : (low high : Option ℕ) → OfConfigured Proper (set_avail_ring_of q low high)
  set_avail_ring_proper low high =
      set_avail_ring_elim q (OfConfigured Proper) low high
      (λ e. record { largest = p.largest; top = p.top; power = p.power; fits = p.fits; desc = p.desc; avail = e; used = p.used }) (λ e. tt)

  pub set_used_ring_proper : (low high : Option ℕ) → OfConfigured Proper (set_used_ring_of q low high)
  set_used_ring_proper low high =
      set_used_ring_elim q (OfConfigured Proper) low high
      (λ e. record { largest = p.largest; top = p.top; power = p.power; fits = p.fits; desc = p.desc; avail = p.avail; used = e }) (λ e. tt)

  -- the numbers and the flags are none of it
  pub numbered_proper : (a u n : ℕ) → Proper (numbered q a u n)
  numbered_proper a u n =
      record { largest = p.largest; top = p.top; power = p.power; fits = p.fits; desc = p.desc; avail = p.avail; used = p.used }

  pub set_next_avail_proper : (n : ℕ) → Proper (with_next_avail q n)
  set_next_avail_proper n = numbered_proper n q.next_used q.num_added

  pub set_next_used_proper : (n : ℕ) → Proper (with_next_used q n)
  set_next_used_proper n = numbered_proper q.next_avail n q.num_added

  pub set_ready_proper : (b : Bool) → Proper (with_ready q b)
  set_ready_proper b =
      record { largest = p.largest; top = p.top; power = p.power; fits = p.fits; desc = p.desc; avail = p.avail; used = p.used }

  pub set_event_idx_proper : (b : Bool) → Proper (with_event_idx q b)
  set_event_idx_proper b =
      record { largest = p.largest; top = p.top; power = p.power; fits = p.fits; desc = p.desc; avail = p.avail; used = p.used }

  pub back_proper : Proper (back_of q)
  unfolding back_of
  back_proper = numbered_proper _ _ _

  pub head_proper : (t : Table) (i : AvailIter) (m : List ℕ) → OfTaken Proper (head_of t q i m)
  head_proper t i m = head_elim t q i m (OfTaken Proper) tt (λ h d s e. numbered_proper _ _ _)

  pub pop_proper : (t : Table) (m : List ℕ) → OfTaken Proper (pop_of t q m)
  pop_proper t m = pop_elim t q m (OfTaken Proper) tt (λ i e. head_proper t i m)

  pub put_proper : (t : Table) (m : List ℕ) (head n : ℕ) → OfConfigured Proper (put_of t q m head n)
  put_proper t m head n = put_elim t q m head n (λ r k. OfConfigured Proper r) (λ h. tt) (λ h e. tt) (λ h e f. numbered_proper _ _ _)

  pub question_proper : (t : Table) (m : List ℕ) → OfAnswered Proper (question_of t q m)
  question_proper t m = question_elim t q m (OfAnswered Proper) (λ e. p) (λ e f. tt) (λ v e f. numbered_proper _ _ _)

-- ---- every state that calls can reach from `new`
pub data Reached : Queue → Type 0 where
  made : (max : ℕ) (q : Queue) → new_of max ≡ Ok q → Reached q
  sized : (q p : Queue) (n : ℕ) → Reached q → set_size_of q n ≡ Ok p → Reached p
  desc_set : (q p : Queue) (low high : Option ℕ) → Reached q → set_desc_table_of q low high ≡ Ok p → Reached p
  avail_set : (q p : Queue) (low high : Option ℕ) → Reached q → set_avail_ring_of q low high ≡ Ok p → Reached p
  used_set : (q p : Queue) (low high : Option ℕ) → Reached q → set_used_ring_of q low high ≡ Ok p → Reached p
  readied : (q : Queue) (b : Bool) → Reached q → Reached (with_ready q b)
  evented : (q : Queue) (b : Bool) → Reached q → Reached (with_event_idx q b)
  avail_at : (q : Queue) (n : ℕ) → Reached q → Reached (with_next_avail q n)
  used_at : (q : Queue) (n : ℕ) → Reached q → Reached (with_next_used q n)
  restarted : (q : Queue) → Reached q → Reached (reset_of q)
  back : (q : Queue) → Reached q → Reached (back_of q)
  took : (q p : Queue) (t : Table) (i : AvailIter) (m : List ℕ) (h : ℕ) → Reached q → head_of t q i m ≡ Some (h, p) → Reached p
  popped : (q p : Queue) (t : Table) (m : List ℕ) (h : ℕ) → Reached q → pop_of t q m ≡ Some (h, p) → Reached p
  put : (q p : Queue) (t : Table) (m : List ℕ) (head n : ℕ) → Reached q → put_of t q m head n ≡ Ok p → Reached p
  asked : (q p : Queue) (t : Table) (m : List ℕ) (b : Bool) → Reached q → question_of t q m ≡ Ok (b, p) → Reached p

pub reached_proper : {q : Queue} → Reached q → Proper q
reached_proper (made max q e) = rw e at (new_proper max)
reached_proper (sized p q n r e) = rw e at (set_size_proper p (reached_proper r) n)
reached_proper (desc_set p q low high r e) = rw e at (set_desc_table_proper p (reached_proper r) low high)
reached_proper (avail_set p q low high r e) = rw e at (set_avail_ring_proper p (reached_proper r) low high)
reached_proper (used_set p q low high r e) = rw e at (set_used_ring_proper p (reached_proper r) low high)
reached_proper (readied p b r) = set_ready_proper p (reached_proper r) b
reached_proper (evented p b r) = set_event_idx_proper p (reached_proper r) b
reached_proper (avail_at p n r) = set_next_avail_proper p (reached_proper r) n
reached_proper (used_at p n r) = set_next_used_proper p (reached_proper r) n
reached_proper (restarted p r) = reset_proper p (reached_proper r)
reached_proper (back p r) = back_proper p (reached_proper r)
reached_proper (took p q t i m h r e) = rw e at (head_proper p (reached_proper r) t i m)
reached_proper (popped p q t m h r e) = rw e at (pop_proper p (reached_proper r) t m)
reached_proper (put p q t m head n r e) = rw e at (put_proper p (reached_proper r) t m head n)
reached_proper (asked p q t m b r e) = rw e at (question_proper p (reached_proper r) t m)
