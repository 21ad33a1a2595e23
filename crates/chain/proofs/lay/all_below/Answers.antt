-- SPDX-License-Identifier: Apache-2.0 AND BSD-3-Clause
use Rattle.std.proofs.Common.{◌∙◌, ltb, rules, tests}
use Rattle.std.proofs.lemmas.Iterator.{YieldsList-from_slice}
use Rattle.std.proofs.lemmas.Iterator.Search.{all_from_yields_List}
use Rattle.chain.specs.Laying.{all_below-every}
use Rattle.chain.proofs.lay.all_below.Goals as goal

pub returns : goal.returns
returns c =
    all_from_yields_List (λ p. ltb p c.args.queue_size) _ _ _ c.all.ensures.ran (YieldsList-from_slice c.args.places.now cc) (λ x b q k. search (rules, tests))
    ∙ all_below-every _ _
