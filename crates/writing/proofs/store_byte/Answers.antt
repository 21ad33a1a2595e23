-- SPDX-License-Identifier: Apache-2.0 AND BSD-3-Clause
use Rattle.regions.specs.Table.{spot_found, spot_room}
use Rattle.writing.proofs.store_byte.Goals as goal

pub bounds-mem-run : goal.bounds-mem-run
bounds-mem-run c = spot_room _ _ _ _ (spot_found _ _ _ _ _ c.find.ensures c.in-Some.is)
