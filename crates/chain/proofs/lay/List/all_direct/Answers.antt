-- SPDX-License-Identifier: Apache-2.0 AND BSD-3-Clause
use Rattle.std.proofs.Common.{arith, refl}
use Rattle.chain.specs.Laying.{direct_no, direct_yes, every_no, every_below, every_yes}
use Rattle.chain.proofs.lay.List.all_direct.Goals as goal

pub returns-then-refers_to_indirect_table : goal.returns-then-refers_to_indirect_table
returns-then-refers_to_indirect_table c = every_no _ _ c.loop-k.k (omega arith) (direct_no _ _ _ _ c.link.ensures c.if-refers_to_indirect_table.ensures refl)

pub loop-k-preserved : goal.loop-k-preserved
loop-k-preserved c = every_below _ _ c.loop-k.invariant (direct_yes _ _ _ _ c.link.ensures c.if-refers_to_indirect_table.ensures refl)

pub returns : goal.returns
returns c = every_yes _ _ (λ i h. c.loop-k.invariant i (omega arith))
