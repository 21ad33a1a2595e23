-- SPDX-License-Identifier: Apache-2.0 AND BSD-3-Clause
-- The number's digits so far say `value`, and go on with what is left.
use Rattle.std.proofs.Common.{◌≡◌, ◌<◌, ◌^◌, drop}
use Rattle.script.specs.Numbers.{numeral, goes_on}
use Rattle.script.proofs.numbers.value_of.Given as goal

abbrev pub invariant-loop-b : goal.invariant-loop-b
invariant-loop-b l = (numeral l.base l.digits ≡ goes_on l.base l.value (drop l.b-index l.digits)) × (l.value < 2 ^ 64)
