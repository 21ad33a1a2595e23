-- SPDX-License-Identifier: Apache-2.0 AND BSD-3-Clause
use Rattle.std.proofs.Common.{◌≡◌, ◌≤◌, length, take}
use Rattle.regions.specs.Spots.{spots}
use Rattle.memory.specs.Cells.{fetch}
use Rattle.memory.proofs.gather.Given as goal

abbrev pub invariant-loop-k : goal.invariant-loop-k
invariant-loop-k l = (l.k ≤ length l.initial.out) × (length l.out ≡ length l.initial.out) × (take l.k l.out ≡ fetch l.mem (spots l.regions (length l.mem) l.a l.k))
