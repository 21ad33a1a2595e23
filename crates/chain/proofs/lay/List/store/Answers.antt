-- SPDX-License-Identifier: Apache-2.0 AND BSD-3-Clause
use Rattle.std.proofs.Common.{arith, length}
use Rattle.chain.specs.Laying.{stored_end, stored_on}
use Rattle.chain.specs.ListOf.{list_of}
use Rattle.chain.proofs.lay.List.store.Goals as goal

pub loop-k-preserved : goal.loop-k-preserved
loop-k-preserved c = stored_on c.args.regions.now c.args.desc_table (list_of c.args.self) (length c.args.self.places.now) c.loop-k.k c.args.mem.now c.loop-k.mem c.loop-k.invariant _ _ _ (omega arith) c.link.ensures c.write_descriptor.ensures

pub returns : goal.returns
returns c = stored_end c.args.regions.now c.args.desc_table (list_of c.args.self) (length c.args.self.places.now) c.loop-k.k c.args.mem.now c.loop-k.mem c.loop-k.invariant (omega arith)
