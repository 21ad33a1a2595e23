-- SPDX-License-Identifier: Apache-2.0 AND BSD-3-Clause
-- What is left goes into the state so far.
use Rattle.std.proofs.Common.{◌≡◌, drop}
use Rattle.script.specs.Crc.{crc_on}
use Rattle.script.proofs.crc.crc_by.Given as goal

abbrev pub invariant-loop-b : goal.invariant-loop-b
invariant-loop-b l = crc_on l.state l.part ≡ crc_on l.c (drop l.b-index l.part)
