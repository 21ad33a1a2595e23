-- SPDX-License-Identifier: Apache-2.0 AND BSD-3-Clause
use Rattle.std.proofs.Common.{rules, length, ◌∙◌, arith, [], ◌∷◌, length-append}
use Rattle.lines.specs.Read.{reads_end, reads_more, reads_none, said}
use Rattle.lines.proofs.Road.{end_is, turn_is}
use Rattle.lines.proofs.reading.Numbers.read_all.Goals as goal

pub returns-in_default-clause-numbers : goal.returns-in_default-clause-numbers
returns-in_default-clause-numbers c =
    let t = turn_is _ _ _ _ c.loop-word.yielded _ c.in-Some.word c.into_iter-word-iterator.ensures.into_iter_gives c.loop-word.yielded_by c.in-Some.is c.next.ensures.steps in
    let place = c.len.ensures.value ∙ c.loop-word.invariant.as_many in (
      reads_none c.args.c _ c.loop-word.self.values.items (length c.loop-word.yielded) c.in-Some.word.now t.0 t.1
          (said c.args.c _ _ _ _ _ _ place c.kind_at.ensures c.read_kind.ensures c.in_default.is) c.loop-word.invariant.reads,
      search rules,
    )

pub push-requires : goal.push-requires
push-requires c =
    let t = turn_is _ _ _ _ c.loop-word.yielded _ c.in-Some.word c.into_iter-word-iterator.ensures.into_iter_gives c.loop-word.yielded_by c.in-Some.is c.next.ensures.steps in
    let as_many = c.loop-word.invariant.as_many in
    let room = c.requires in
    (search rules, omega arith)

pub loop-word-preserved : goal.loop-word-preserved
loop-word-preserved c =
    let t = turn_is _ _ _ _ c.loop-word.yielded _ c.in-Some.word c.into_iter-word-iterator.ensures.into_iter_gives c.loop-word.yielded_by c.in-Some.is c.next.ensures.steps in
    let as_many = c.loop-word.invariant.as_many in
    let room = c.requires in
    let pushed = c.push.ensures.len in
    let one_more = length-append c.loop-word.yielded (c.in-Some.word ∷ []) in
    let says = said c.args.c _ _ _ _ _ _ (c.len.ensures.value ∙ as_many) c.kind_at.ensures c.read_kind.ensures c.in-Some-read_kind.is in
    record {
      room = omega arith;
      as_many = omega arith;
      reads = reads_more c.args.c _ c.loop-word.self.values.items c.push.new.self.items (length c.loop-word.yielded) _ c.in-Some.word.now
          c.in-Some-read_kind.value c.push.ensures.items one_more t.0 t.1 says c.loop-word.invariant.reads;
    }

pub returns-clause-numbers : goal.returns-clause-numbers
returns-clause-numbers c =
    let e = end_is _ _ _ _ c.loop-word.yielded _ c.into_iter-word-iterator.ensures.into_iter_gives c.loop-word.yielded_by c.in-None.is c.next.ensures.steps in
    reads_end c.args.c _ c.loop-word.self.values.items (length c.loop-word.yielded) e c.loop-word.invariant.reads
