-- SPDX-License-Identifier: Apache-2.0 AND BSD-3-Clause
-- What checking a line finds. Assumes nothing.
use Rattle.std.specs.Prelude.{ℕ, ◌≤◌, ◌≡◌, Bool, true, false, Option, Some, None, Result, Ok, Err}
use Rattle.script.specs.declared.commands.Command.{Command}
use Rattle.script.specs.declared.commands.Command.TheVariants as command
use Rattle.lines.specs.declared.state.Fault.{Fault}
use Rattle.lines.specs.declared.checks.Work.{Work}
use Rattle.lines.specs.declared.checks.Work.TheVariants as work
use Rattle.lines.specs.declared.checks.Ready.{Ready}

-- work on a part of the image has that part in an image of this size
abbrev pub Inside : ℕ → Work → Type 0
Inside size work.Whole = Unit {0}
Inside size (work.Place start end) = (start ≤ end) × (end ≤ size)
Inside size work.Make = Unit {0}
Inside size (work.Config q) = Unit {0}
Inside size (work.Avail q) = Unit {0}
Inside size (work.Used q) = Unit {0}
Inside size (work.Pass q pass) = Unit {0}
Inside size (work.Chain walked) = Unit {0}

-- a command on a part of the image has that part in an image of this size
abbrev pub InImage : ℕ → Result (Option Ready) Fault → Type 0
InImage size (Err f) = Unit {0}
InImage size (Ok None) = Unit {0}
InImage size (Ok (Some r)) = Inside size r.work

-- no command on a part of the image
abbrev pub HasNoPlace : Work → Type 0
HasNoPlace work.Whole = Unit {0}
HasNoPlace (work.Place start end) = ⊥
HasNoPlace work.Make = Unit {0}
HasNoPlace (work.Config q) = Unit {0}
HasNoPlace (work.Avail q) = Unit {0}
HasNoPlace (work.Used q) = Unit {0}
HasNoPlace (work.Pass q pass) = Unit {0}
HasNoPlace (work.Chain walked) = Unit {0}

-- a command on a part of the image
abbrev pub HasPlace : Work → Type 0
HasPlace w = HasNoPlace w → ⊥

abbrev pub NoPlace : Result (Option Ready) Fault → Type 0
NoPlace (Err f) = Unit {0}
NoPlace (Ok None) = Unit {0}
NoPlace (Ok (Some r)) = HasNoPlace r.work

-- the commands on a part of the image
abbrev pub on_part : Command → Bool
on_part command.Bytes = true
on_part command.Fill = true
on_part command.U16 = true
on_part command.U32 = true
on_part command.U64 = true
on_part command.Desc = true
on_part command.Dump = true
on_part _ = false

-- these commands work on a part of the image, and no other one does
abbrev pub WorksBy : Command → Work → Type 0
WorksBy c w = (on_part c ≡ true → HasPlace w) × (on_part c ≡ false → HasNoPlace w)

-- a line works on what its command works on
abbrev pub ByCommand : Result (Option Ready) Fault → Type 0
ByCommand (Err f) = Unit {0}
ByCommand (Ok None) = Unit {0}
ByCommand (Ok (Some r)) = WorksBy r.command r.work

-- ---- laws

inside : (size : ℕ) (w : Work) → HasNoPlace w → Inside size w
inside size work.Whole h = tt
inside size (work.Place start end) h = elim h [ ]
inside size work.Make h = tt
inside size (work.Config q) h = tt
inside size (work.Avail q) h = tt
inside size (work.Used q) h = tt
inside size (work.Pass q pass) h = tt
inside size (work.Chain walked) h = tt

pub in_image : (size : ℕ) (r : Result (Option Ready) Fault) → NoPlace r → InImage size r
in_image size (Err f) h = tt
in_image size (Ok None) h = tt
in_image size (Ok (Some r)) h = inside size r.work h

pub place_in : (size : ℕ) (r : Result (Option Ready) Fault) {ready : Ready} {start end : ℕ} → InImage size r → r ≡ Ok (Some ready)
    → ready.work ≡ work.Place start end → (start ≤ end) × (end ≤ size)
place_in size r {ready} h e p = let inside : Inside size ready.work = rw e at h in rw p at inside
