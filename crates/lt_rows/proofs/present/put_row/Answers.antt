use Rattle.std.proofs.Common.{ap, ◌∙◌}
use Rattle.std.specs.BTreeMap.{insert_entry}
use Rattle.lt_core.specs.View.{view_parts, view_settings}
use Rattle.lt_terms.specs.Key.{bytes_cmp}
use Rattle.lt_rows.specs.declared.present.Present.{Present as CodePresent}
use Rattle.lt_rows.specs.Present.{Set, laid_over}
use Rattle.lt_rows.specs.View.{view_rows, view_set}
use Rattle.lt_rows.proofs.MapViews.{put_view}
use Rattle.lt_rows.proofs.present.put_row.Goals as goal

pub returns : goal.returns
returns c =
    let rows = c.args.rows.now.entries in
    let settings = view_settings c.args.settings.now in
    let row : CodePresent = record { parts = c.args.parts; set = c.lay_over.new.was } in
    ap view_rows c.in_ok-insert.ensures.entries
    ∙ put_view c.args.key row rows
    ∙ ap (λ (s : Set). insert_entry bytes_cmp (view_rows rows) c.args.key (view_parts c.args.parts.now, s)) (c.in_ok-lay_over.ensures ∙ ap (λ es. laid_over settings (view_set es)) c.new-set.ensures.empty)
