-- SPDX-License-Identifier: Apache-2.0 AND BSD-3-Clause
use Rattle.std.proofs.Common.{ℕ, ◌+◌, ◌*◌, ◌∙◌, ap, refl}
use Rattle.queue.specs.Used.{placed_done, placed_refused, put_beyond}
use Rattle.queue.proofs.Queue.add_used.Goals as goal

pub returns-then-head_index-self : goal.returns-then-head_index-self
returns-then-head_index-self c = put_beyond _ _ _ _ _ c.if-head_index-self.true

pub returns-then-not-publish_used : goal.returns-then-not-publish_used
returns-then-not-publish_used c = placed_refused _ c.args.self _ _ _ c.if-head_index-self.false _ (c.used_offset-off.ensures ∙ ap (λ (x : ℕ). 4 + 8 * x) c.place.ensures) _ _ c.if-not-publish_used.ensures refl

pub returns : goal.returns
returns c = placed_done _ c.args.self _ _ _ c.if-head_index-self.false _ (c.used_offset-off.ensures ∙ ap (λ (x : ℕ). 4 + 8 * x) c.place.ensures) _ _ c.if-not-publish_used.ensures refl
