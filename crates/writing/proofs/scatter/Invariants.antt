-- SPDX-License-Identifier: Apache-2.0 AND BSD-3-Clause
use Rattle.std.proofs.Common.{◌≡◌, ◌≤◌, length, take}
use Rattle.regions.specs.Spots.{spots}
use Rattle.memory.specs.Cells.{store}
use Rattle.writing.proofs.scatter.Given as goal

abbrev pub invariant-loop-k : goal.invariant-loop-k
invariant-loop-k l = (l.k ≤ length l.src) × (length l.mem ≡ length l.initial.mem) × (l.mem ≡ store l.initial.mem (spots l.regions (length l.initial.mem) l.a l.k) (take l.k l.src))
