use Rattle.std.proofs.Common.{ap, map, ◌∙◌}
use Rattle.lt_schema.specs.View.{view_version}
use Rattle.lt_rows.specs.Present.{full_row}
use Rattle.lt_rows.specs.View.{view_changes}
use Rattle.lt_rows.proofs.MapViews.{if_ok}
use Rattle.lt_rows.proofs.WholeAnswers.{scan_is}
use Rattle.lt_rows.proofs.rows.rows_at.Goals as goal

pub returns : goal.returns
returns c =
    let cat = c.args.catalogue.now in
    let version = view_version c.args.version.now in
    let changes = view_changes c.args.changes.now in
    if_ok c.read_rows.result (λ rows h t shaped rise e. h ∙ ap (map (full_row cat version.number version.columns)) c.in_ok-rows.ensures
    ∙ scan_is cat changes version.number t version c.args.at c.get-lawful.ensures.lawful shaped rise e) c.read_rows.ensures
