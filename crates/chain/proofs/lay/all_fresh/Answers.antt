-- SPDX-License-Identifier: Apache-2.0 AND BSD-3-Clause
use Rattle.std.proofs.Common.{◌∙◌, arith, ap, not, sym}
use Rattle.chain.specs.Laying.{every_no, every_below, every_yes, fresh_contains}
use Rattle.chain.proofs.lay.all_fresh.Goals as goal

pub returns-then-contains : goal.returns-then-contains
returns-then-contains c = every_no _ _ c.loop-k.k (omega arith) (fresh_contains _ _ (omega arith) ∙ ap not (sym c.if-contains.ensures.value))

pub loop-k-preserved : goal.loop-k-preserved
loop-k-preserved c = every_below _ _ c.loop-k.invariant (fresh_contains _ _ (omega arith) ∙ ap not (sym c.if-contains.ensures.value))

pub returns : goal.returns
returns c = every_yes _ _ (λ i h. c.loop-k.invariant i (omega arith))
