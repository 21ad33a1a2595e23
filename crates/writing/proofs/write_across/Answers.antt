-- SPDX-License-Identifier: Apache-2.0 AND BSD-3-Clause
use Rattle.std.proofs.Common.{◌∙◌, sym, ◌+◌, ◌<◌, ◌^◌, arith, refl, length-take-le}
use Rattle.memory.specs.Access.{writable-covered, writable_top, buffer-covered}
use Rattle.writing.specs.Writes.{wrote_refused, wrote_slow, buffered}
use Rattle.writing.proofs.write_across.Goals as goal

pub returns-then-not-can_write : goal.returns-then-not-can_write
returns-then-not-can_write g c = wrote_refused _ _ _ _ _ (c.SIZE.ensures ∙ sym (g.met.T.Stored.length_is c.args.x)) _ c.if-not-can_write.ensures refl

pub overflow_add-addr : goal.overflow_add-addr
overflow_add-addr g c = let w = g.met.T.Stored.sized in let h : c.args.addr + c.args.off < 2 ^ 64 = writable_top _ _ _ c.SIZE.result _ (omega arith) c.if-not-can_write.ensures refl in omega arith

pub scatter-requires : goal.scatter-requires
scatter-requires g c = let w = g.met.T.Stored.sized in
    buffer-covered _ _ _ _ (writable-covered _ _ _ _ _ c.if-not-can_write.ensures refl) _ (c.put.auto.s ∙ length-take-le c.SIZE-2.result _ (omega arith) ∙ c.SIZE-2.ensures ∙ sym c.SIZE.ensures)

pub returns : goal.returns
returns g c = let w = g.met.T.Stored.sized in
    wrote_slow _ _ _ _ _ (c.SIZE.ensures ∙ sym (g.met.T.Stored.length_is c.args.x)) _ c.if-not-can_write.ensures refl _ _
    (buffered _ _ _ _ (length-take-le c.SIZE-2.result _ (omega arith) ∙ c.SIZE-2.ensures) (g.met.T.Stored.length_is c.args.x) c.put.ensures) c.scatter.ensures
