-- SPDX-License-Identifier: Apache-2.0 AND BSD-3-Clause
-- The words that the iterator gives are those of the line.
use Rattle.std.proofs.Common.{◌≡◌, ◌<◌, ℕ, List, Option, Some, None, length, get_or, min, ap, ◌∙◌, Bor}
use Rattle.std.specs.Prelude.{MatchOption}
use Rattle.std.specs.Iterator.{Yields, Drains}
use Rattle.std.specs.Iterator.Adapters.{take_source, take_count, take_steps}
use Rattle.std.specs.declared.iter.Take.{Take}
use Rattle.std.proofs.lemmas.List.{length-take}
use Rattle.std.proofs.lemmas.Iterator.{YieldsList, YieldsList-from_take}
use Rattle.std.proofs.lemmas.Iterator.Consumers.{YieldsList-from_shown, YieldsList-at, YieldsList-turn, YieldsList-end, count_from_yields_List}
use Rattle.script.specs.declared.words.Words.{Words}
use Rattle.script.specs.Words.{next_word}
use Rattle.lines.specs.Read.{words_of, words_of_none, words_of_some}

abbrev pub words_steps : Words → Option (Bor (List ℕ)) → Words → Type 0
words_steps s r t = MatchOption r ((next_word s.0.now ≡ None) × (t ≡ s)) (λ w. next_word s.0.now ≡ Some (w.now, t.0.now))

road : (s : Words) → YieldsList words_steps (λ w. w.now) s (words_of s.0.now)
road s =
    YieldsList-from_shown words_steps (λ w. w.now) (λ t. words_of t.0.now)
    (λ s t h. ap length (words_of_none s.0.now h.0))
    (λ s x t h. words_of_some s.0.now x.now t.0.now h)
    s

-- counted are as many words as there are, up to a number
pub count_is : (line : Words) (s : Take Words) (most n : ℕ) → take_source s ≡ line → take_count s ≡ most
    → (xs : List (Bor (List ℕ))) × Drains (take_steps words_steps) s xs × (n ≡ length xs) → n ≡ min most (length (words_of line.0.now))
count_is line s most n e f ran =
    count_from_yields_List s n ran (YieldsList-from_take most (YieldsList-at e (road line)) f) ∙ length-take most (words_of line.0.now)

-- the word of a turn is the one after those that came
pub turn_is : (line s t u : Words) (xs : List (Bor (List ℕ))) (r : Option (Bor (List ℕ))) (w : Bor (List ℕ)) → s ≡ line → Yields words_steps s xs t
    → r ≡ Some w → words_steps t r u
    → (length xs < length (words_of line.0.now)) × (w.now ≡ get_or (words_of line.0.now) (length xs) w.now)
turn_is line s t u xs r w e y some steps = YieldsList-turn (YieldsList-at e (road line)) xs t y r u w some steps

-- in the end as many came as there are
pub end_is : (line s t u : Words) (xs : List (Bor (List ℕ))) (r : Option (Bor (List ℕ))) → s ≡ line → Yields words_steps s xs t
    → r ≡ None → words_steps t r u → length xs ≡ length (words_of line.0.now)
end_is line s t u xs r e y none steps = (YieldsList-end (YieldsList-at e (road line)) xs t y r u none steps).1
