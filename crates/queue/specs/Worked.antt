-- SPDX-License-Identifier: Apache-2.0 AND BSD-3-Clause
-- Worked values of begin, next head and the notification test: computed from the definitions.
use Rattle.std.specs.Prelude.{◌≡◌, ℕ, ◌+◌, ◌*◌, true, false, List, Some, None, Ok, Err}
use Rattle.std.proofs.Math.Path.{refl, ap}
use Rattle.std.proofs.Common.{◌∙◌, arith}
use Rattle.regions.specs.Table.{Table}
use Rattle.memory.specs.Access.{read2_of}
use Rattle.queue.specs.State.{queue, pass}
use Rattle.queue.specs.Wrap.{sub16}
use Rattle.queue.specs.Size.{is_power, power_to, good_size}
use Rattle.queue.specs.Config.{fresh, new_of, whole_of}
use Rattle.queue.specs.Avail.{begin_of, begin_read, begun_on, head_of, head_read, head_end, taken_on, idx_read}
use Rattle.queue.specs.Notify.{tells, question_of, question_read, answered_on, used_event_read}
use Rattle.queue.specs.declared.Queue.{Queue}
use Rattle.queue.specs.declared.Error.TheVariants.{InvalidAvailRingIndex, InvalidMaxSize}

-- size 8, ready, the rings at 128 and 256, with these numbers
abbrev eight : ℕ → ℕ → ℕ → Queue
eight avail used added = queue 8 avail used true added 8 true 0 128 256

module _ (t : Table) (m : List ℕ) where
  -- next available 65,535, idx 3: begin works
  begin_wraps : idx_read t (eight 65535 0 0) m ≡ Some 3 → begin_of t (eight 65535 0 0) m ≡ Ok (pass 3)
  unfolding sub16
  begin_wraps e = begin_read t (eight 65535 0 0) m refl (λ z. omega arith) ∙ ap (begun_on (eight 65535 0 0)) e

  -- then 4 heads, from places 7, 0, 1, 2, whatever the guest has written there
  first_head : (h : ℕ) → read2_of t m (128 + (4 + 2 * 7)) ≡ Some h → head_of t (eight 65535 0 0) (pass 3) m ≡ Some (h, eight 0 0 0)
  first_head h e = head_read t (eight 65535 0 0) (pass 3) m (λ z. omega arith) (λ z. omega arith) ∙ ap (taken_on (eight 65535 0 0)) e

  second_head : (h : ℕ) → read2_of t m (128 + (4 + 2 * 0)) ≡ Some h → head_of t (eight 0 0 0) (pass 3) m ≡ Some (h, eight 1 0 0)
  second_head h e = head_read t (eight 0 0 0) (pass 3) m (λ z. omega arith) (λ z. omega arith) ∙ ap (taken_on (eight 0 0 0)) e

  third_head : (h : ℕ) → read2_of t m (128 + (4 + 2 * 1)) ≡ Some h → head_of t (eight 1 0 0) (pass 3) m ≡ Some (h, eight 2 0 0)
  third_head h e = head_read t (eight 1 0 0) (pass 3) m (λ z. omega arith) (λ z. omega arith) ∙ ap (taken_on (eight 1 0 0)) e

  fourth_head : (h : ℕ) → read2_of t m (128 + (4 + 2 * 2)) ≡ Some h → head_of t (eight 2 0 0) (pass 3) m ≡ Some (h, eight 3 0 0)
  fourth_head h e = head_read t (eight 2 0 0) (pass 3) m (λ z. omega arith) (λ z. omega arith) ∙ ap (taken_on (eight 2 0 0)) e

  no_fifth_head : head_of t (eight 3 0 0) (pass 3) m ≡ None
  no_fifth_head = head_end t (eight 3 0 0) (pass 3) m refl

  -- next available 0, idx 9: refused, and idx 8 is not
  begin_far : idx_read t (eight 0 0 0) m ≡ Some 9 → begin_of t (eight 0 0 0) m ≡ Err InvalidAvailRingIndex
  unfolding sub16
  begin_far e = begin_read t (eight 0 0 0) m refl (λ z. omega arith) ∙ ap (begun_on (eight 0 0 0)) e

  begin_full : idx_read t (eight 0 0 0) m ≡ Some 8 → begin_of t (eight 0 0 0) m ≡ Ok (pass 8)
  unfolding sub16
  begin_full e = begin_read t (eight 0 0 0) m refl (λ z. omega arith) ∙ ap (begun_on (eight 0 0 0)) e

  -- the question: next used 10, added 3, used_event 6
  question_six : used_event_read t (eight 0 10 3) m ≡ Some 6 → question_of t (eight 0 10 3) m ≡ Ok (false, eight 0 10 0)
  unfolding tells sub16
  question_six e = question_read t (eight 0 10 3) m refl ∙ ap (answered_on (eight 0 10 3)) e

  question_seven : used_event_read t (eight 0 10 3) m ≡ Some 7 → question_of t (eight 0 10 3) m ≡ Ok (true, eight 0 10 0)
  unfolding tells sub16
  question_seven e = question_read t (eight 0 10 3) m refl ∙ ap (answered_on (eight 0 10 3)) e

-- the notification test by itself
told : (tells 10 3 6 ≡ false) × (tells 10 3 7 ≡ true) × (tells 10 3 8 ≡ true) × (tells 10 3 9 ≡ true) × (tells 10 3 10 ≡ false) × (tells 1 2 65535 ≡ true)
unfolding tells sub16
told = (refl, refl, refl, refl, refl, refl)

-- after exactly 65,536 entries added has wrapped to 0 and the test says no
wrapped : tells 5 0 3 ≡ false
unfolding tells sub16
wrapped = refl

-- sizes: 8 and 32,768 are powers of two, 0, 3 and 65,535 are none
powers : (is_power 1 ≡ true) × (is_power 8 ≡ true) × (is_power 32768 ≡ true) × (is_power 0 ≡ false) × (is_power 3 ≡ false) × (is_power 65535 ≡ false)
unfolding is_power power_to
powers = (refl, refl, refl, refl, refl, refl)

made : (new_of 8 ≡ Ok (fresh 8)) × (new_of 0 ≡ Err InvalidMaxSize) × (new_of 24 ≡ Err InvalidMaxSize)
unfolding new_of good_size is_power power_to
made = (refl, refl, refl)

-- halves: the one that is not given keeps its bits
halves : (whole_of 0x1122334455667780 (Some 0x99aabbc0) None ≡ 0x1122334499aabbc0) × (whole_of 0x1122334455667780 None (Some 1) ≡ 0x155667780)
unfolding whole_of
halves = (refl, refl)
