-- SPDX-License-Identifier: Apache-2.0 AND BSD-3-Clause
use Rattle.std.proofs.Common.{◌∙◌}
use Rattle.std.proofs.lemmas.Result.{err_from_is_err_and}
use Rattle.adding.specs.Grow.{free_fits, grown_added, grown_full, grown_refused}
use Rattle.adding.proofs.add_region.Goals as goal

pub returns-in_default : goal.returns-in_default
returns-in_default c = grown_full _ _ _ _ _ c.in_default.ensures

pub put_row-requires : goal.put_row-requires
put_row-requires c = free_fits _ _ c.in-Some.ensures

pub returns-in_err-try_region : goal.returns-in_err-try_region
returns-in_err-try_region c =
    let p = err_from_is_err_and c.from_residual.result c.from_residual.ensures.1 in
    rw (p.1, p.2)
    (grown_refused _ _ _ _ _ _ c.in-Some.ensures _ c.in_err-try_region.ensures)

pub returns : goal.returns
returns c =
    let w = grown_added _ _ _ _ _ _ c.in-Some.ensures c.in_ok-try_region.ensures in
    record { answer = w.answer; table = c.put_row.ensures ∙ w.table }
