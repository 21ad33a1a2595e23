-- SPDX-License-Identifier: Apache-2.0 AND BSD-3-Clause
use Rattle.std.proofs.Common.{rules}
use Rattle.std.proofs.lemmas.Iterator.Consumers.{YieldsList-from_first}
use Rattle.std.proofs.lemmas.Iterator.Search.{any_from_yields_List}
use borrow.Author.Tests.{tests}
use Rattle.regions.specs.Table.{rows_left}
use Rattle.adding.specs.Grow.{shares_in, shares_r}
use Rattle.adding.proofs.shares_any.Goals as goal

pub returns : goal.returns
unfolding shares_in
returns c =
    any_from_yields_List (λ r. shares_r r c.args.base c.args.len) c.any.new.self _ _ c.any.ensures.ran (YieldsList-from_first (λ x. x) rows_left _ c.of.ensures) (λ x b q k. search (rules, tests))
