-- SPDX-License-Identifier: Apache-2.0 AND BSD-3-Clause
use Rattle.std.proofs.Common.{length, sym, ap, arith}
use Rattle.chain.specs.Steps.{chain_at}
use Rattle.chain.specs.Walk.{step_falls, walk_of_short, walk_end, walk_next}
use Rattle.lay_demo.proofs.Guest.count.Goals as goal

pub overflow_add-n : goal.overflow_add-n
overflow_add-n c = omega (arith, ap length (walk_next _ _ _ _ _ (sym c.in-Some.ensures)), walk_of_short c.args.self.now.regions c.args.self.now.mem (chain_at 0 8 c.args.head))

pub loop-rest-smaller : goal.loop-rest-smaller
loop-rest-smaller c = (step_falls _ _ _ _ _ (sym c.in-Some.ensures)).ration

pub loop-rest-preserved : goal.loop-rest-preserved
loop-rest-preserved c = omega (arith, ap length (walk_next _ _ _ _ _ (sym c.in-Some.ensures)))

pub returns : goal.returns
returns c = omega (arith, ap length (walk_end _ _ _ (sym c.in_default.ensures)))
