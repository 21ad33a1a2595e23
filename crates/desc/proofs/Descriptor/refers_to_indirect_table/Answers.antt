-- SPDX-License-Identifier: Apache-2.0 AND BSD-3-Clause
use Rattle.desc.specs.Desc.{flag}
use Rattle.desc.proofs.Descriptor.refers_to_indirect_table.Goals as goal

pub returns : goal.returns
returns c = flag c.args.self.flags 2
