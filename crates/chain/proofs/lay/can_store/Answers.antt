-- SPDX-License-Identifier: Apache-2.0 AND BSD-3-Clause
use Rattle.std.proofs.Common.{◌∙◌, rules, tests}
use Rattle.std.proofs.lemmas.Iterator.{YieldsList-from_slice}
use Rattle.std.proofs.lemmas.Iterator.Search.{all_from_yields_List}
use Rattle.memory.specs.Access.{writable}
use Rattle.desc.specs.Layout.{desc_addr}
use Rattle.chain.specs.Laying.{can_store-every}
use Rattle.chain.proofs.lay.can_store.Goals as goal

pub returns : goal.returns
returns c =
    all_from_yields_List (λ p. writable c.args.regions.now c.args.size (desc_addr c.args.desc_table p) 16) _ _ _ c.all.ensures.ran
    (YieldsList-from_slice c.args.places.now cc) (λ x b q k. search (rules, tests))
    ∙ can_store-every _ _ _ _
