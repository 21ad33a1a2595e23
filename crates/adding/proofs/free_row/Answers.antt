-- SPDX-License-Identifier: Apache-2.0 AND BSD-3-Clause
use Rattle.std.proofs.Common.{arith, inl, refl, rules, ◌∙◌}
use Rattle.std.proofs.lemmas.Iterator.Consumers.{YieldsList-from_first}
use Rattle.std.proofs.lemmas.Iterator.Search.{position_from_yields_List}
use borrow.Author.Tests.{tests}
use Rattle.regions.specs.Table.{rows_left, few_rows}
use Rattle.adding.specs.Grow.{free_row_is, is_free}
use Rattle.adding.proofs.free_row.Goals as goal

pub position-requires-clause-fits : goal.position-requires-clause-fits
position-requires-clause-fits c = inl (omega (arith, few_rows _ _ c.of.ensures))

pub returns-in_err-k : goal.returns-in_err-k
returns-in_err-k c =
    let p = position_from_yields_List is_free c.position.new.self _ _ c.in_err-k.ensures.ran (YieldsList-from_first (λ x. x) rows_left _ refl) (λ x b q k. search (rules, tests)) in
    c.from_residual.ensures ∙ free_row_is _ _ _ c.of.ensures p

pub overflow_mul-result : goal.overflow_mul-result
overflow_mul-result c = omega (arith, c.in_ok-k.ensures.bound, few_rows _ _ c.of.ensures)

pub returns : goal.returns
returns c =
    let p = position_from_yields_List is_free c.position.new.self _ _ c.in_ok-k.ensures.ran (YieldsList-from_first (λ x. x) rows_left _ refl) (λ x b q k. search (rules, tests)) in
    free_row_is _ _ _ c.of.ensures p
