-- SPDX-License-Identifier: Apache-2.0 AND BSD-3-Clause
use Rattle.std.proofs.Common.{arith, sym}
use Rattle.regions.specs.Spots.{left_enough, left_next, left_no_steps, left_nothing, left_top, none_covered}
use Rattle.regions.proofs.covers.Goals as goal

pub returns-then-left-eq0 : goal.returns-then-left-eq0
returns-then-left-eq0 c = sym (none_covered _ _ _ _ c.if-left-eq0.true)

pub returns-in_default : goal.returns-in_default
returns-in_default c = sym (left_nothing _ _ _ _ _ _ _ c.loop.invariant (sym c.in_default.ensures))

pub returns-then-left-run : goal.returns-then-left-run
returns-then-left-run c = sym (left_enough _ _ _ _ _ _ _ c.loop.invariant _ _ (sym c.in-Some.ensures) c.if-left-run.true)

pub returns-in_default-checked_add : goal.returns-in_default-checked_add
returns-in_default-checked_add c = sym (left_top _ _ _ _ _ _ _ c.loop.invariant _ _ (sym c.in-Some.ensures) c.if-left-run.false (omega arith))

pub loop-preserved : goal.loop-preserved
loop-preserved c = left_next _ _ _ _ _ _ _ c.loop.invariant _ _ (sym c.in-Some.ensures) c.if-left-run.false _ _ c.in-Some-checked_add.ensures.1 (omega arith)

pub returns : goal.returns
returns c = sym (left_no_steps _ _ _ _ _ _ _ c.loop.invariant (omega arith))
