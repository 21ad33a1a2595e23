-- SPDX-License-Identifier: Apache-2.0 AND BSD-3-Clause
-- What running a line may change. Assumes nothing.
use Rattle.std.specs.Prelude.{ℕ, ◌≡◌, List, Option, Some, None, Result, Ok, Err}
use Rattle.lines.specs.declared.state.Done.{Done}
use Rattle.lines.specs.declared.state.Fault.{Fault}

-- a line without words, and one that is an error, leave the image and the table as they were
abbrev pub Kept : Result (Option Done) Fault → List ℕ → List ℕ → List ℕ → List ℕ → Type 0
Kept (Ok None) image image' table table' = (image' ≡ image) × (table' ≡ table)
Kept (Err f) image image' table table' = (image' ≡ image) × (table' ≡ table)
Kept (Ok (Some d)) image image' table table' = Unit {0}
