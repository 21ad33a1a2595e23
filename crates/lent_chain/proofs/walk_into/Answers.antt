-- SPDX-License-Identifier: Apache-2.0 AND BSD-3-Clause
use Rattle.std.proofs.Common.{arith, sym}
use Rattle.lent_chain.specs.Walk.{rows_end, rows_full, rows_next}
use Rattle.lent_chain.proofs.walk_into.Goals as goal

pub loop-k-preserved : goal.loop-k-preserved
loop-k-preserved c = rows_next _ _ _ _ _ _ _ c.loop-k.invariant _ _ (sym c.in-Some.ensures) (omega arith) _ c.put_triple.ensures

pub returns-in_default : goal.returns-in_default
returns-in_default c = rows_end _ _ _ _ _ _ _ c.loop-k.invariant (sym c.in_default.ensures)

pub returns : goal.returns
returns c = rows_full _ _ _ _ _ _ _ c.loop-k.invariant (omega arith)
