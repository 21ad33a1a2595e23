-- SPDX-License-Identifier: Apache-2.0 AND BSD-3-Clause
-- The list of descriptors that a value of the program's own type stands for.
use Rattle.chain.specs.Links.{Listed, listed}
use Rattle.chain.specs.declared.lay.List.{List}

abbrev pub list_of : List → Listed
list_of l = listed l.places.now l.addrs.now l.lens.now l.flags.now
