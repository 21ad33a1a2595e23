-- SPDX-License-Identifier: Apache-2.0 AND BSD-3-Clause
use Rattle.std.proofs.Common.{◌≡◌, ◌+◌, ◌^◌, ◌<◌, drop, sum}
use Rattle.chain.proofs.lay.total.Given as goal

abbrev pub invariant-loop-len : goal.invariant-loop-len
invariant-loop-len l = (l.sum < 2 ^ 32) × (l.sum + sum (drop l.len-index l.lens) ≡ sum l.lens)
