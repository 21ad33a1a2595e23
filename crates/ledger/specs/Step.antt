-- SPDX-License-Identifier: Apache-2.0 AND BSD-3-Clause
-- The tie to the code: what the function that makes a call answers and leaves is one step of the world, and which call a number chooses.
use Rattle.std.specs.Prelude.{ℕ, ◌<◌, ◌≤◌, ◌≡◌, refl, Bool, List, length, eqb, ltb, Option, Result, Ok, Err}
use Rattle.std.proofs.Math.Path.{ap}
use Rattle.std.proofs.Common.{◌∙◌}
use borrow.Author.Tests.{ne_eqb, lt-ltb, le-ltb}
use Rattle.regions.specs.Table.{pick, Table}
use Rattle.queue.specs.State.{with_next_avail, with_next_used}
use Rattle.queue.specs.Config.{reset_of, valid_of}
use Rattle.queue.specs.Avail.{begin_of, head_of, pop_of, back_of}
use Rattle.queue.specs.Used as used
use Rattle.queue.specs.Notify as notify
use Rattle.queue.specs.declared.Queue.{Queue}
use Rattle.queue.specs.declared.AvailIter.{AvailIter}
use Rattle.ledger.specs.declared.Args.{Args}
use Rattle.ledger.specs.declared.Setting.{Setting}
use Rattle.ledger.specs.declared.Setting.TheVariants.{Size, DescTable, AvailRing, UsedRing, Ready, EventIdx}
use Rattle.ledger.specs.declared.Call.{Call}
use Rattle.ledger.specs.declared.Call.TheVariants.{Set, SetNextAvail, SetNextUsed, Reset, Valid, Begin, NextHead, Pop, GoBack, Put, Stop, Ask, Question}
use Rattle.ledger.specs.declared.Answer.TheVariants.{Done, Refused}
use Rattle.ledger.specs.declared.Step.{Step}
use Rattle.ledger.specs.Footprint.{world}
use Rattle.ledger.specs.World.{World, answer, after_call, step_of, step_mem, step, yes_no, set_of, on_configured, on_begun, on_taken, on_stopped, on_asked, on_answered}
use Rattle.queue.specs.declared.Error.{Error}

-- what a function that makes the call c answers and leaves, from queue q, pass p and memory m
pub record Stepped (t : Table) (q : Queue) (p : AvailIter) (m : List ℕ) (c : Call) (r : Step) (m' : List ℕ) : Type 0 where
  pub step : r ≡ step_of t q p m c
  pub mem : m' ≡ step_mem t q m c

-- the step of a call that may be refused: a refusal leaves the queue and the pass
abbrev pub tried : Queue → AvailIter → Result Step Error → Step
tried q p (Ok s) = s
tried q p (Err e) = step (Refused e) q p

same_world : {q r : Queue} {p o : AvailIter} {m k : List ℕ} → q ≡ r → p ≡ o → m ≡ k → world q p m ≡ world r o k
same_world e f h = cc

-- so it answers as the call does in the world that it finds, and leaves the world after it
pub stepped_is : (t : Table) (w : World) (c : Call) (r : Step) (m' : List ℕ) → Stepped t w.queue w.pass w.mem c r m'
    → (r.answer ≡ answer t w c) × (world r.queue r.pass m' ≡ after_call t w c)
stepped_is t w c r m' h =
    (ap (λ (x : Step). x.answer) h.step, same_world (ap (λ (x : Step). x.queue) h.step) (ap (λ (x : Step). x.pass) h.step) h.mem)

-- the call that a number chooses
unfoldable pub setting_of : ℕ → Args → Setting
setting_of op a =
    pick (eqb op 0) (Size a.number)
    (pick (eqb op 1) (DescTable a.low a.high)
    (pick (eqb op 2) (AvailRing a.low a.high)
    (pick (eqb op 3) (UsedRing a.low a.high)
    (pick (eqb op 4) (Ready a.on) (EventIdx a.on)))))

unfoldable pub ring_call_of : ℕ → Args → Call
ring_call_of op a =
    pick (eqb op 11) NextHead
    (pick (eqb op 12) Pop
    (pick (eqb op 13) GoBack
    (pick (eqb op 14) (Put a.number a.length)
    (pick (eqb op 15) Stop
    (pick (eqb op 16) Ask Question)))))

unfoldable pub call_of : ℕ → Args → Call
call_of op a =
    pick (ltb op 6) (Set (setting_of op a))
    (pick (eqb op 6) (SetNextAvail a.number)
    (pick (eqb op 7) (SetNextUsed a.number)
    (pick (eqb op 8) Reset
    (pick (eqb op 9) Valid
    (pick (eqb op 10) Begin (ring_call_of op a))))))

-- ---- case by case: a law for each call
module _ (t : Table) (q : Queue) (p : AvailIter) (m : List ℕ) (c : Call) (r : Step) where
  pub made_set : (s : Setting) → c ≡ Set s → (g : Result Queue Error) → g ≡ set_of q s → r ≡ on_configured q p g → Stepped t q p m c r m
  unfolding step_of step_mem
  made_set s e g h k = rw e (record { step = k ∙ ap (on_configured q p) h; mem = refl })

  pub made_next_avail : (n : ℕ) → c ≡ SetNextAvail n → (x : Queue) → x ≡ with_next_avail q n → r ≡ step Done x p → Stepped t q p m c r m
  unfolding step_of step_mem
  made_next_avail n e x h k = rw e (record { step = k ∙ ap (λ (y : Queue). step Done y p) h; mem = refl })

  pub made_next_used : (n : ℕ) → c ≡ SetNextUsed n → (x : Queue) → x ≡ with_next_used q n → r ≡ step Done x p → Stepped t q p m c r m
  unfolding step_of step_mem
  made_next_used n e x h k = rw e (record { step = k ∙ ap (λ (y : Queue). step Done y p) h; mem = refl })

  pub made_reset : c ≡ Reset → (x : Queue) → x ≡ reset_of q → r ≡ step Done x p → Stepped t q p m c r m
  unfolding step_of step_mem
  made_reset e x h k = rw e (record { step = k ∙ ap (λ (y : Queue). step Done y p) h; mem = refl })

  pub made_valid : c ≡ Valid → (b : Bool) → b ≡ valid_of t (length m) q → r ≡ step (yes_no b) q p → Stepped t q p m c r m
  unfolding step_of step_mem
  made_valid e b h k = rw e (record { step = k ∙ ap (λ (x : Bool). step (yes_no x) q p) h; mem = refl })

  pub made_begin : c ≡ Begin → (g : Result AvailIter Error) → g ≡ begin_of t q m → r ≡ on_begun q p g → Stepped t q p m c r m
  unfolding step_of step_mem
  made_begin e g h k = rw e (record { step = k ∙ ap (on_begun q p) h; mem = refl })

  pub made_head : c ≡ NextHead → (g : Option (ℕ × Queue)) → g ≡ head_of t q p m → r ≡ on_taken q p g → Stepped t q p m c r m
  unfolding step_of step_mem
  made_head e g h k = rw e (record { step = k ∙ ap (on_taken q p) h; mem = refl })

  pub made_pop : c ≡ Pop → (g : Option (ℕ × Queue)) → g ≡ pop_of t q m → r ≡ on_taken q p g → Stepped t q p m c r m
  unfolding step_of step_mem
  made_pop e g h k = rw e (record { step = k ∙ ap (on_taken q p) h; mem = refl })

  pub made_back : c ≡ GoBack → (x : Queue) → x ≡ back_of q → r ≡ step Done x p → Stepped t q p m c r m
  unfolding step_of step_mem
  made_back e x h k = rw e (record { step = k ∙ ap (λ (y : Queue). step Done y p) h; mem = refl })

  pub made_put : (head n : ℕ) → c ≡ Put head n → (g : Result Queue Error) (m' : List ℕ) → used.Put t q m head n g m' → r ≡ on_configured q p g → Stepped t q p m c r m'
  unfolding step_of step_mem
  made_put head n e g m' w k = rw e (record { step = k ∙ ap (on_configured q p) w.answer; mem = w.mem })

  pub made_stop : c ≡ Stop → (g : Result (Unit {0}) Error) (m' : List ℕ) → notify.Stop t q m g m' → r ≡ on_stopped q p g → Stepped t q p m c r m'
  unfolding step_of step_mem
  made_stop e g m' w k = rw e (record { step = k ∙ ap (on_stopped q p) w.answer; mem = w.mem })

  pub made_ask : c ≡ Ask → (g : Result Bool Error) (m' : List ℕ) → notify.Ask t q m g m' → r ≡ on_asked q p g → Stepped t q p m c r m'
  unfolding step_of step_mem
  made_ask e g m' w k = rw e (record { step = k ∙ ap (on_asked q p) w.answer; mem = w.mem })

  pub made_question : c ≡ Question → (g : Result (Bool × Queue) Error) → g ≡ notify.question_of t q m → r ≡ on_answered q p g → Stepped t q p m c r m
  unfolding step_of step_mem
  made_question e g h k = rw e (record { step = k ∙ ap (on_answered q p) h; mem = refl })

-- the number that none of the arms names
module _ (op : ℕ) (a : Args) where
  pub setting_rest : (op ≡ 0 → ⊥) → (op ≡ 1 → ⊥) → (op ≡ 2 → ⊥) → (op ≡ 3 → ⊥) → (op ≡ 4 → ⊥) → EventIdx a.on ≡ setting_of op a
  unfolding setting_of
  setting_rest h i j k l = rw (ne_eqb op 0 h, ne_eqb op 1 i, ne_eqb op 2 j, ne_eqb op 3 k, ne_eqb op 4 l)

  pub ring_rest : (op ≡ 11 → ⊥) → (op ≡ 12 → ⊥) → (op ≡ 13 → ⊥) → (op ≡ 14 → ⊥) → (op ≡ 15 → ⊥) → (op ≡ 16 → ⊥) → Question ≡ ring_call_of op a
  unfolding ring_call_of
  ring_rest h i j k l n = rw (ne_eqb op 11 h, ne_eqb op 12 i, ne_eqb op 13 j, ne_eqb op 14 k, ne_eqb op 15 l, ne_eqb op 16 n)

  pub call_setting : (s : Setting) → op < 6 → s ≡ setting_of op a → Set s ≡ call_of op a
  unfolding call_of
  call_setting s h e = rw (lt-ltb op 6 h) (ap Set e)

  pub call_rest : (c : Call) → 6 ≤ op → (op ≡ 6 → ⊥) → (op ≡ 7 → ⊥) → (op ≡ 8 → ⊥) → (op ≡ 9 → ⊥) → (op ≡ 10 → ⊥) → c ≡ ring_call_of op a → c ≡ call_of op a
  unfolding call_of
  call_rest c b h i j k l e = rw (le-ltb op 6 b, ne_eqb op 6 h, ne_eqb op 7 i, ne_eqb op 8 j, ne_eqb op 9 k, ne_eqb op 10 l) e
