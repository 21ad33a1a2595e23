-- SPDX-License-Identifier: Apache-2.0 AND BSD-3-Clause
use Rattle.std.proofs.Common.{◌∙◌}
use Rattle.chain.specs.Laying.{sum_is}
use Rattle.chain.specs.ListOf.{list_of}
use Rattle.chain.proofs.lay.List.sum_fits.Goals as goal

pub returns : goal.returns
returns c = c.is_some.ensures ∙ sum_is (list_of c.args.self) c.args.self.same _ c.total.ensures
