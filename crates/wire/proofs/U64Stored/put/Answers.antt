-- SPDX-License-Identifier: Apache-2.0 AND BSD-3-Clause
use Rattle.std.proofs.Common.{arith, ◌∙◌}
use Rattle.wire.specs.Number.{put_low_first}
use Rattle.wire.proofs.U64Stored.put.Goals as goal

pub returns : goal.returns
returns c = put_low_first _ _ _ _ 8 _ (c.copy_from_slice.ensures.after ∙ c.to_le_bytes.ensures) (omega arith) (omega arith)
