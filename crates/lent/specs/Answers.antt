-- SPDX-License-Identifier: Apache-2.0 AND BSD-3-Clause
-- What the library's answers are as numbers.
use Rattle.std.specs.Prelude.{ℕ, Bool, List, length, leb, Option, Some, None, Result, Ok, Err}
use Rattle.regions.specs.Table.{pick, Table}
use Rattle.queue.specs.Used.{put_of, put_mem}
use Rattle.queue.specs.Notify.{question_of}
use Rattle.queue.specs.declared.AvailIter.{AvailIter}
use Rattle.queue.specs.declared.Queue.{Queue}
use Rattle.queue.specs.declared.Error.{Error}
use Rattle.queue.specs.declared.Error.TheVariants.{GuestMemory}
use Rattle.lent.specs.State.{Answer, Loaded, done, number, Same, bit}
use Rattle.lent.specs.declared.refusal.Refusal.TheVariants.{StateShort, Call}
use Rattle.lent.specs.declared.state.Reply.{Reply}

-- ---- the answers: what a call found or did, or its reason
abbrev pub of_call : {A : Type 0} → Result A Error → (A → Reply Queue) → Answer Queue
of_call (Ok x) f = Ok (f x)
of_call (Err e) f = Err (Call e)

abbrev pub configured : Result Queue Error → Answer Queue
configured x = of_call x (done 0)

abbrev pub placed : Result Queue Error → Answer Queue
placed = configured

abbrev pub got : Option ℕ → Answer Queue
got (Some n) = Same n
got None = Err (Call GuestMemory)

abbrev pub begun : Result AvailIter Error → Answer Queue
begun x = of_call x (λ p. number p.last_index)

abbrev pub stopped : Result (Unit {0}) Error → Answer Queue
stopped x = of_call x (λ u. number 0)

abbrev pub asked : Result Bool Error → Answer Queue
asked x = of_call x (λ b. number (bit b))

abbrev pub answered : Result (Bool × Queue) Error → Answer Queue
answered x = of_call x (λ y. done (bit y.0) y.1)

abbrev pub head_reply : Option (ℕ × Queue) → Reply Queue
head_reply (Some x) = done x.0 x.1
head_reply None = number 65536

abbrev pub taken : Option (ℕ × Queue) → Answer Queue
taken x = Ok (head_reply x)

-- half of an address, if it is given
abbrev pub half_of : Bool → ℕ → Option ℕ
half_of given x = pick given (Some x) None

-- ---- put and question in one: the question is asked only where the put is done; where it can't be answered then, the put stands
abbrev pub put_then_answered : Queue → Result (Bool × Queue) Error → Reply Queue
put_then_answered p (Ok x) = done (bit x.0) x.1
put_then_answered p (Err e) = done 65548 p

abbrev pub asked_after : Table → List ℕ → Result Queue Error → Answer Queue
asked_after t m x = of_call x (λ p. put_then_answered p (question_of t p m))

abbrev pub put_asked : Table → List ℕ → ℕ → ℕ → Queue → Answer Queue
put_asked t m head n q = asked_after t (put_mem t q m head n) (put_of t q m head n)

-- a new queue needs ten words, whatever they hold
abbrev pub made_on : List ℕ → Answer Queue → Answer Queue
made_on ws x = pick (leb 10 (length ws)) x (Err StateShort)

-- memory after a call on the queue that the words hold
abbrev pub mem_of : Loaded → (Queue → List ℕ) → List ℕ → List ℕ
mem_of (Ok q) f m = f q
mem_of (Err e) f m = m
