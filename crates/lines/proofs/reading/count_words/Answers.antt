-- SPDX-License-Identifier: Apache-2.0 AND BSD-3-Clause
use Rattle.lines.proofs.Road.{count_is}
use Rattle.lines.proofs.reading.count_words.Goals as goal

pub returns : goal.returns
returns c = count_is _ c.take.result c.args.most c.count.result c.take.ensures.source c.take.ensures.count c.count.ensures.ran
