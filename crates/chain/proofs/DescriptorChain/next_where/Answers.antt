-- SPDX-License-Identifier: Apache-2.0 AND BSD-3-Clause
use Rattle.std.proofs.Common.{sym}
use Rattle.chain.specs.Walk.{sought_end, sought_found, sought_on, step_falls}
use Rattle.chain.proofs.DescriptorChain.next_where.Goals as goal

pub returns-then-is_write_only-writable : goal.returns-then-is_write_only-writable
returns-then-is_write_only-writable c = sought_found _ _ _ _ _ c.loop-d.invariant _ c.next.ensures _ _ c.in-Some.is _ c.is_write_only.ensures c.if-is_write_only-writable.true

pub loop-d-smaller : goal.loop-d-smaller
loop-d-smaller c = (step_falls _ _ _ _ _ (sym c.in-Some.ensures)).ration

pub loop-d-preserved : goal.loop-d-preserved
loop-d-preserved c = sought_on _ _ _ _ _ c.loop-d.invariant _ c.next.ensures _ _ c.in-Some.is _ c.is_write_only.ensures c.if-is_write_only-writable.false

pub returns : goal.returns
returns c = sought_end _ _ _ _ _ c.loop-d.invariant _ c.next.ensures c.in_default.is
