-- SPDX-License-Identifier: Apache-2.0 AND BSD-3-Clause
use Rattle.std.proofs.Common.{◌≡◌, ◌∙◌, arith, refl, sym, Err}
use Rattle.std.proofs.lemmas.Grind.{common_steps}
use Rattle.queue.specs.Notify.{ask_fault, ask_heard}
use Rattle.queue.specs.declared.Error.TheVariants.{GuestMemory}
use Rattle.queue.proofs.Queue.enable_notification.Goals as goal

pub returns-then-not-write : goal.returns-then-not-write
returns-then-not-write c = ask_fault _ _ _ _ _ c.ask_offset-off.ensures c.ask_word-word.ensures _ _ c.if-not-write.ensures refl

pub returns-in_err-idx : goal.returns-in_err-idx
returns-in_err-idx c =
    let h = ask_heard _ c.args.self _ _ _ c.ask_offset-off.ensures c.ask_word-word.ensures _ _ c.if-not-write.ensures refl _ (sym c.avail_idx.ensures ∙ c.in_err-idx.ensures.ok_part) in
    let e : c.from_residual.result ≡ Err GuestMemory = grind (arith, common_steps) in
    rw e h

pub returns : goal.returns
returns c = ask_heard _ c.args.self _ _ _ c.ask_offset-off.ensures c.ask_word-word.ensures _ _ c.if-not-write.ensures refl _ (sym c.avail_idx.ensures ∙ c.in_ok-idx.ensures.ok_part)
