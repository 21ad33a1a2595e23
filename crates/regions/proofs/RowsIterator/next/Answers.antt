-- SPDX-License-Identifier: Apache-2.0 AND BSD-3-Clause
use Rattle.std.proofs.Common.{ap, arith, length}
use Rattle.regions.specs.Table.{rows_next, rows_none, rows_short}
use Rattle.regions.proofs.RowsIterator.next.Goals as goal

pub returns-in_err-self-clause-steps : goal.returns-in_err-self-clause-steps
returns-in_err-self-clause-steps c = let h = c.in_err-self.ensures in rw c.from_residual.ensures (rows_none _ _ (omega arith), rows_none _ _ (omega arith))

pub returns-in_default-clause-steps : goal.returns-in_default-clause-steps
returns-in_default-clause-steps c = (rows_short _ _ (omega arith), rows_short _ _ (omega arith))

pub returns-clause-steps : goal.returns-clause-steps
returns-clause-steps c = rows_next _ _ _ (omega arith) (omega arith)

pub returns-clause-goes : goal.returns-clause-goes
returns-clause-goes c =
    let e = rows_next c.args.self.now.count c.in_ok-self.field-0 c.args.self.now.words.now (omega arith) (omega arith) in
    record { on = λ f. (tt, tt, omega (arith, ap length e)); keeps = tt; rests = λ f. tt }
