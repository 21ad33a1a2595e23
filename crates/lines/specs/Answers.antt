-- SPDX-License-Identifier: Apache-2.0 AND BSD-3-Clause
-- What a command answers. Assumes nothing.
use Rattle.std.specs.Prelude.{Bool, true, false}
use Rattle.lines.specs.declared.state.Answer.{Answer}
use Rattle.lines.specs.declared.state.Answer.TheVariants.{Yes, No}

-- `yes` to true, `no` to false
abbrev pub yes_no : Bool → Answer
yes_no true = Yes
yes_no false = No
