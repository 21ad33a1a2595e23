-- SPDX-License-Identifier: Apache-2.0 AND BSD-3-Clause
use Rattle.std.proofs.Common.{arith}
use Rattle.queue.specs.Wrap.{wraps_to}
use Rattle.queue.specs.Notify.{tells_is}
use Rattle.queue.proofs.notify.event_passed.Goals as goal

pub returns : goal.returns
returns c = tells_is _ _ _ _ _ _ _ (wraps_to _ _ (omega arith)) (wraps_to _ _ (omega arith)) (wraps_to _ 1 (omega arith)) (wraps_to _ _ (omega arith))
