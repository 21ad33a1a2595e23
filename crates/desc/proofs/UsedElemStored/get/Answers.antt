-- SPDX-License-Identifier: Apache-2.0 AND BSD-3-Clause
use Rattle.desc.specs.Desc.{used_part}
use Rattle.desc.proofs.UsedElemStored.get.Goals as goal

pub returns : goal.returns
returns c = cc (used_part c.args.s.now c.args.i c.requires, c.get.ensures, c.get-2.ensures)
