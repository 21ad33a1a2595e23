-- SPDX-License-Identifier: Apache-2.0 AND BSD-3-Clause
-- The words that each command takes. Assumes nothing.
use Rattle.std.specs.Prelude.{ℕ, ◌-◌, ◌^◌, List, [], ◌∷◌, length, unwrap_or}
use Rattle.std.specs.Option.{option_or}
use Rattle.std.specs.List.{slice_get}
use Rattle.script.specs.declared.commands.Command.{Command}
use Rattle.script.specs.declared.commands.Command.TheVariants as command
use Rattle.lines.specs.declared.forms.Kind.{Kind}
use Rattle.lines.specs.declared.forms.Kind.TheVariants as kind

-- the kinds of the numbers that a command takes
abbrev pub kinds_of : Command → List Kind
kinds_of command.Memory = kind.U64 ∷ []
kinds_of command.Region = kind.U64 ∷ kind.U64 ∷ kind.U64 ∷ []
kinds_of command.Bytes = kind.U64 ∷ kind.Byte ∷ []
kinds_of command.Fill = kind.U64 ∷ kind.U64 ∷ kind.Byte ∷ []
kinds_of command.U16 = kind.U64 ∷ kind.U16 ∷ []
kinds_of command.U32 = kind.U64 ∷ kind.U32 ∷ []
kinds_of command.U64 = kind.U64 ∷ kind.U64 ∷ []
kinds_of command.Desc = kind.U64 ∷ kind.U64 ∷ kind.U32 ∷ kind.U16 ∷ kind.U16 ∷ []
kinds_of command.Dump = kind.U64 ∷ kind.Count ∷ []
kinds_of command.Queue = kind.U16 ∷ []
kinds_of command.Size = kind.U16 ∷ []
kinds_of command.NextAvail = kind.U16 ∷ []
kinds_of command.NextUsed = kind.U16 ∷ []
kinds_of command.Chain = kind.U16 ∷ []
kinds_of command.Table = kind.Half ∷ kind.Half ∷ []
kinds_of command.Avail = kind.Half ∷ kind.Half ∷ []
kinds_of command.Used = kind.Half ∷ kind.Half ∷ []
kinds_of command.Ready = kind.Bit ∷ []
kinds_of command.Event = kind.Bit ∷ []
kinds_of command.Put = kind.U16 ∷ kind.U32 ∷ []
kinds_of _ = []

-- how many numbers a command takes at most: `bytes` takes more of its last kind
abbrev pub most_of : Command → ℕ
most_of command.Bytes = 65
most_of c = length (kinds_of c)

-- the kind of number i of a command: the last kind goes on
unfoldable pub kind_at : Command → ℕ → Kind
kind_at c i = unwrap_or (option_or (slice_get (kinds_of c) i) (slice_get (kinds_of c) (length (kinds_of c) - 1))) kind.U64

-- the largest number of a kind
abbrev pub largest : Kind → ℕ
largest kind.Byte = 255
largest kind.U16 = 65535
largest kind.Bit = 1
largest kind.U32 = 0xFFFF_FFFF
largest kind.Half = 0xFFFF_FFFF
largest kind.Count = 256
largest kind.U64 = 2 ^ 64 - 1
