-- SPDX-License-Identifier: Apache-2.0 AND BSD-3-Clause
use Rattle.std.proofs.Common.{◌≡◌, ◌≤◌, ◌<◌, ◌+◌, ◌⊎◌, length, min, inl, inr}
use Rattle.lines.specs.Forms.{kinds_of, most_of}
use Rattle.lines.specs.Read.{counts, numbers_of_read, numbers_of_wrong, words_of}
use Rattle.lines.proofs.reading.Numbers.read.Goals as goal

pub returns-then-len-kinds_of-clause-numbers : goal.returns-then-len-kinds_of-clause-numbers
returns-then-len-kinds_of-clause-numbers c =
    let n : c.count_words-len.result ≡ min (most_of c.args.c + 1) (length (words_of c.args.words.now)) = rw c.most_of-most.ensures.most at c.count_words-len.ensures in
    let off : (c.count_words-len.result < length c.kinds_of.result.now) ⊎ (c.most_of-most.result < c.count_words-len.result) = elim c.then-len-kinds_of.either [ inl h ↦ inl h | inr h ↦ inr h.1 ] in
    numbers_of_wrong c.args.c _ c.count_words-len.result n (rw (c.kinds_of.ensures.kinds, c.most_of-most.ensures.most) at off)

pub returns-clause-numbers : goal.returns-clause-numbers
returns-clause-numbers c =
    let n : c.count_words-len.result ≡ min (most_of c.args.c + 1) (length (words_of c.args.words.now)) = rw c.most_of-most.ensures.most at c.count_words-len.ensures in
    let low : length (kinds_of c.args.c) ≤ c.count_words-len.result = rw c.kinds_of.ensures.kinds at c.if-len-kinds_of.false in
    let high : c.count_words-len.result ≤ most_of c.args.c = rw c.most_of-most.ensures.most at c.if-most-len.false in
    let size = counts (length (kinds_of c.args.c)) (most_of c.args.c) c.count_words-len.result _ n low high in
    numbers_of_read c.args.c _ c.read_all.result _ size.0 size.1 c.read_all.ensures.numbers
