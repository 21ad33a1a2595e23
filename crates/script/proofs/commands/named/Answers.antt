-- SPDX-License-Identifier: Apache-2.0 AND BSD-3-Clause
-- An arm for each name; past them all the word is none of them.
use Rattle.std.proofs.Common.{rules}
use Rattle.script.specs.Commands.{command_of_none, table}
use Rattle.script.specs.Text.{text_bytes}
use Rattle.script.proofs.commands.named.Goals as goal

pub returns-in_default : goal.returns-in_default
unfolding table text_bytes
returns-in_default c = command_of_none _ (search rules)
