use Rattle.std.proofs.Common.{List, ap, sym, ℕ, ◌∙◌}
use Rattle.std.specs.BTreeMap.{is_at}
use Rattle.std.specs.Map.{remove_entry}
use Rattle.lt_terms.specs.declared.Op.{Op}
use Rattle.lt_terms.specs.Key.{bytes_cmp}
use Rattle.lt_terms.specs.Log.{change_key}
use Rattle.lt_records.specs.View.{view_change}
use Rattle.lt_rows.specs.Present.{rows_by}
use Rattle.lt_rows.specs.View.{view_rows}
use Rattle.lt_rows.proofs.MapViews.{removed_view}
use Rattle.lt_rows.proofs.present.take_change.Goals as goal

pub returns-in-Delete : goal.returns-in-Delete
returns-in-Delete c =
    let rows = c.args.rows.now.entries in
    let change = view_change c.args.change.now in
    ap view_rows c.remove.ensures.entries
    ∙ removed_view c.in_ok-key.key rows
    ∙ ap (λ (k : List ℕ). remove_entry (is_at (bytes_cmp k)) (view_rows rows)) c.in_ok-key.ensures
    ∙ ap (λ (op : Op). rows_by op (change_key change) change.key change.set (view_rows rows)) (sym c.in-Delete.is)
