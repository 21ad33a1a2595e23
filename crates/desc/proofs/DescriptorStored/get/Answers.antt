-- SPDX-License-Identifier: Apache-2.0 AND BSD-3-Clause
use Rattle.desc.specs.Desc.{desc_part}
use Rattle.desc.proofs.DescriptorStored.get.Goals as goal

pub returns : goal.returns
returns c = cc (desc_part c.args.s.now c.args.i c.requires, c.get.ensures, c.get-2.ensures, c.get-3.ensures, c.get-4.ensures)
