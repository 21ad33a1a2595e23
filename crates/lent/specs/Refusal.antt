-- SPDX-License-Identifier: Apache-2.0 AND BSD-3-Clause
-- The number of each refusal.
use Rattle.std.specs.Prelude.{ℕ, Ok, Err}
use Rattle.adding.specs.Grow.{Adding}
use Rattle.adding.specs.declared.AddError.TheVariants.{Full, Empty, PastTop, PastSlice, Overlap}
use Rattle.queue.specs.declared.Error.{Error}
use Rattle.queue.specs.declared.Error.TheVariants.{InvalidMaxSize, InvalidSize, InvalidDescTableAlign, InvalidAvailRingAlign, InvalidUsedRingAlign, QueueNotReady, InvalidAvailRingIndex, InvalidDescriptorIndex, GuestMemory}
use Rattle.lent.specs.declared.refusal.Refusal.{Refusal}
use Rattle.lent.specs.declared.refusal.Refusal.TheVariants.{StateShort, StateField, ChainShort, ChainField, NoRoom, Call, Other}

abbrev pub error_code : Error → ℕ
error_code InvalidMaxSize = 65539
error_code InvalidSize = 65540
error_code InvalidDescTableAlign = 65541
error_code InvalidAvailRingAlign = 65542
error_code InvalidUsedRingAlign = 65543
error_code QueueNotReady = 65544
error_code InvalidAvailRingIndex = 65545
error_code InvalidDescriptorIndex = 65546
error_code GuestMemory = 65547

abbrev pub refusal_code : Refusal → ℕ
refusal_code StateShort = 65537
refusal_code StateField = 65538
refusal_code ChainShort = 65549
refusal_code ChainField = 65550
refusal_code NoRoom = 65551
refusal_code (Call e) = error_code e
refusal_code (Other n) = n

-- ---- a region
abbrev pub adding_code : Adding → ℕ
adding_code (Ok u) = 0
adding_code (Err Full) = 65552
adding_code (Err Empty) = 65553
adding_code (Err PastTop) = 65554
adding_code (Err PastSlice) = 65555
adding_code (Err Overlap) = 65556
