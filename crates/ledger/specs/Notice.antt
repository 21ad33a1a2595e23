-- SPDX-License-Identifier: Apache-2.0 AND BSD-3-Clause
-- The question whether the driver must be notified, in a world whose numbers agree with the book.
use Rattle.std.specs.Prelude.{ℕ, ◌+◌, ◌-◌, ◌%◌, ◌<◌, ◌≡◌, refl, ◌↔◌, Bool, true, false, Result, Some}
use Rattle.std.proofs.Common.{arith, sym, ◌∙◌, true≢false}
use Rattle.std.proofs.Math.Path.{ap}
use Rattle.std.proofs.Math.Logic.Iff
use Rattle.regions.specs.Table.{Table}
use Rattle.queue.specs.Notify.{tells, used_event_read, question_off, question_read, answered_on}
use Rattle.ledger.specs.declared.Call.TheVariants.{Question}
use Rattle.ledger.specs.declared.Answer.TheVariants.{Yes, No}
use Rattle.ledger.specs.World.{World, UsedBook, step_of, answer, on_answered, yes_no, next_put}
use Rattle.ledger.specs.Named.{Named, tells_iff, tells_wraps, all_named}
use Rattle.ledger.specs.Always.{UsedAgrees}
use Rattle.queue.specs.declared.Queue.{Queue}
use Rattle.queue.specs.declared.Error.{Error}

yes_iff : (c : Bool) → (yes_no c ≡ Yes) ↔ (c ≡ true)
yes_iff true = (λ h. refl, λ h. refl)
yes_iff false = (λ h. absurd (let z : ◌≡◌ {A = ℕ} 0 1 = cc in omega arith), λ h. absurd (true≢false (sym h)))

-- the entries that were put since the last question are those from this number on
abbrev pub since_number : UsedBook → ℕ
since_number b = next_put b - b.since

module _ (t : Table) (w : World) where
  pub question_is : (event : ℕ) → w.queue.event_idx_enabled ≡ true → used_event_read t w.queue w.mem ≡ Some event
      → answer t w Question ≡ yes_no (tells w.queue.next_used w.queue.num_added event)
  unfolding step_of
  question_is event on read =
      ap (λ (x : Result (Bool × Queue) Error). (on_answered w.queue w.pass x).answer) (question_read t w.queue w.mem on ∙ ap (answered_on w.queue) read)

  pub question_off_yes : w.queue.event_idx_enabled ≡ false → answer t w Question ≡ Yes
  unfolding step_of
  question_off_yes off = ap (λ (x : Result (Bool × Queue) Error). (on_answered w.queue w.pass x).answer) (question_off t w.queue w.mem off)

  module _ (b : UsedBook) (h : UsedAgrees w.queue b) (known : b.known ≡ true) (event : ℕ)
      (on : w.queue.event_idx_enabled ≡ true) (read : used_event_read t w.queue w.mem ≡ Some event) where
    from_first : since_number b + b.since ≡ next_put b
    from_first = let f = h.fits known in omega arith

    pub question_iff : b.since < 65536 → (answer t w Question ≡ Yes) ↔ Named (since_number b) (next_put b) event
    question_iff few =
        rw (question_is event on read)
        (Iff.trans (yes_iff (tells w.queue.next_used w.queue.num_added event))
        (rw from_first at
        (tells_iff (since_number b) b.since w.queue.next_used w.queue.num_added event few (rw from_first h.count) (h.grew known))))

    pub question_wraps : b.since ≡ 65536 → (answer t w Question ≡ No) × Named (since_number b) (next_put b) event
    question_wraps e =
        let z : w.queue.num_added % 65536 ≡ 0 = h.grew known ∙ ap (λ (x : ℕ). x % 65536) e in
        let n : since_number b + 65536 ≡ next_put b = ap (λ (x : ℕ). since_number b + x) (sym e) ∙ from_first in
        (question_is event on read ∙ ap yes_no (tells_wraps w.queue.next_used w.queue.num_added event z), rw n at (all_named (since_number b) event))
