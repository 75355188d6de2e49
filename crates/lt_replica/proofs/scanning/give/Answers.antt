use Rattle.std.proofs.Common.{ap, map, subst, sym, take, ◌∙◌}
use Rattle.std.specs.Prelude.{Err}
use Rattle.std.proofs.lemmas.List.{take-map}
use Rattle.lt_core.specs.View.{view_row}
use Rattle.lt_world.specs.RowSink.{Given}
use Rattle.lt_replica.proofs.GivenLaws.{one_more, row_refused}
use Rattle.lt_replica.proofs.Results.{err_is}
use Rattle.lt_replica.proofs.scanning.give.Goals as goal

pub returns-in_err-row-clause-some : goal.returns-in_err-row-clause-some
returns-in_err-row-clause-some g c =
    let before = g.R.RowSink.state c.args.rows.now in
    let mid = g.R.RowSink.state c.loop-row.rows in
    let now = g.R.RowSink.state c.row.new.self in
    let items = c.as_slice-row-items.result.now in
    let n = c.loop-row.row-index in
    let h = c.in_err-row.ensures in
    err_is c.from_residual.result c.in_err-row.field-0.0 _ c.from_residual.ensures.1 (row_refused before mid now (map view_row c.args.found.now) n (view_row c.row-item.result) c.in_err-row.field-0.0
    (one_more view_row items c.args.found.now n c.row-item.result (sym c.as_slice-row-items.ensures) c.loop-row-test.true c.row-item.is)
    (subst (Given before mid) (sym (take-map view_row n items) ∙ ap (λ xs. take n (map view_row xs)) c.as_slice-row-items.ensures) c.loop-row.invariant.given)
    c.loop-row.invariant.goes.spell (λ d. h.fault (ap Err d)) (λ d. h.memory (ap Err d)) h.err)
