use Rattle.std.proofs.Common.{ap, set, sym, ◌∙◌}
use Rattle.std.proofs.lemmas.List.Edits.{map_over_more}
use Rattle.lt_lemmas.proofs.CatalogueLaws.{retired_where}
use Rattle.lt_schema.proofs.tables.retire_version.Goals as goal

pub loop-table-preserved : goal.loop-table-preserved
loop-table-preserved c =
    let each = retired_where c.args.number c.args.version in
    let i = c.loop-table.table-index in
    let t = c.table-item.result in
    ap (set c.loop-table.table-items i) (c.retire_of.ensures ∙ ap each (sym c.table-item.is))
    ∙ map_over_more each c.deref_mut-table-items.result.now c.loop-table.table-items i t c.loop-table-test.true c.loop-table.invariant c.table-item.is
