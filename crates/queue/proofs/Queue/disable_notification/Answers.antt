-- SPDX-License-Identifier: Apache-2.0 AND BSD-3-Clause
use Rattle.std.proofs.Common.{refl}
use Rattle.queue.specs.Notify.{stop_fault, stop_on, stop_written}
use Rattle.queue.proofs.Queue.disable_notification.Goals as goal

pub returns-then-self : goal.returns-then-self
returns-then-self c = stop_on _ _ _ c.if-self.true

pub returns-then-not-write : goal.returns-then-not-write
returns-then-not-write c = stop_fault _ _ _ c.if-self.false _ _ c.if-not-write.ensures refl

pub returns : goal.returns
returns c = stop_written _ _ _ c.if-self.false _ _ c.if-not-write.ensures refl
