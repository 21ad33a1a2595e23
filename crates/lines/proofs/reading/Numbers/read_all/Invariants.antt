-- SPDX-License-Identifier: Apache-2.0 AND BSD-3-Clause
-- Each word so far is a number, and the line's numbers go on with those of the words that are left.
use Rattle.std.proofs.Common.{◌≡◌, ◌≤◌, length}
use Rattle.lines.specs.Read.{Reads, words_of}
use Rattle.lines.proofs.reading.Numbers.read_all.Given as goal

abbrev pub invariant-loop-word : goal.invariant-loop-word
invariant-loop-word l = record {
  room : length l.self.values.items ≤ 65;
  as_many : length l.self.values.items ≡ length l.yielded;
  reads : Reads l.c (words_of l.words) l.self.values.items (length l.yielded);
}
