use Rattle.std.proofs.Common.{ap, sym, ◌∙◌}
use Rattle.lt_core.specs.View.{view_parts, view_settings}
use Rattle.lt_rows.specs.declared.present.Present.{Present as CodePresent}
use Rattle.lt_rows.specs.Present.{Present, Set}
use Rattle.lt_rows.specs.View.{view_rows}
use Rattle.lt_rows.proofs.MapViews.{on_ok, updated_none, updated_some}
use Rattle.lt_rows.proofs.present.update_row.Goals as goal

pub returns-in-None : goal.returns-in-None
returns-in-None c =
    ap (λ m. view_rows m.entries) c.get_mut.follows.holds-at-none
    ∙ updated_none c.args.key.now (view_settings c.args.settings.now) c.args.rows.now.entries (sym c.in-None.ensures.value)

pub returns-in-Some : goal.returns-in-Some
returns-in-Some c =
    let was = c.in-Some.row.now in
    let now : CodePresent = record { parts = was.parts; set = c.lay_over.new.was } in
    on_ok c.lay_over.result (λ e. ap view_rows (c.get_mut.follows.holds now).0
    ∙ updated_some c.args.key.now (view_settings c.args.settings.now) c.args.rows.now.entries was now (sym c.in-Some.ensures.value)
    (ap (λ (s : Set). let p : Present = (view_parts was.parts.now, s) in p) e)) c.lay_over.ensures
