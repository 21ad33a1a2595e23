-- SPDX-License-Identifier: Apache-2.0 AND BSD-3-Clause
use Rattle.std.proofs.Common.{◌∙◌, sym, ◌+◌, ◌<◌, ◌^◌, arith, refl, length-take-le}
use Rattle.memory.specs.Cells.{gathered}
use Rattle.memory.specs.Access.{read_refused, read_slow, readable_top, readable-covered, buffer-covered}
use Rattle.memory.proofs.read_across.Goals as goal

pub returns-then-not-can_read : goal.returns-then-not-can_read
returns-then-not-can_read g c = read_refused _ _ _ _ _ _ c.SIZE.ensures _ c.if-not-can_read.ensures refl

pub overflow_add-addr : goal.overflow_add-addr
overflow_add-addr g c = let w = g.met.T.Stored.sized in let h : c.args.addr + c.args.off < 2 ^ 64 = readable_top _ _ _ c.SIZE.result _ (omega arith) c.if-not-can_read.ensures refl in omega arith

pub gather-requires : goal.gather-requires
gather-requires g c = let w = g.met.T.Stored.sized in
    buffer-covered _ _ _ _ (readable-covered _ _ _ _ _ c.if-not-can_read.ensures refl) _ (length-take-le c.SIZE-2.result _ (omega arith) ∙ c.SIZE-2.ensures ∙ sym c.SIZE.ensures)

pub returns : goal.returns
returns g c = let w = g.met.T.Stored.sized in
    read_slow _ _ _ _ _ _ c.SIZE.ensures _ c.if-not-can_read.ensures refl _ (gathered _ _ _ _ _ _ (length-take-le c.SIZE-2.result _ (omega arith) ∙ c.SIZE-2.ensures) c.gather.ensures) _ c.get.ensures
