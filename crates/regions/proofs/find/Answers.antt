-- SPDX-License-Identifier: Apache-2.0 AND BSD-3-Clause
use Rattle.std.proofs.Common.{List, ap, rules, ◌∙◌}
use Rattle.regions.specs.Table.{Row, rows_left, stretch_in, stretch_of, stretch_r}
use Rattle.regions.proofs.FindMap.{found}
use Rattle.regions.proofs.find.Goals as goal

pub returns : goal.returns
unfolding stretch_of stretch_in
returns c =
    found rows_left _ _ (λ r. stretch_r r c.args.size c.args.a) (λ x o q k. search rules) _ _ c.find_map.ensures.runs
    ∙ ap (λ (rs : List Row). stretch_in rs c.args.size c.args.a) c.of.ensures
