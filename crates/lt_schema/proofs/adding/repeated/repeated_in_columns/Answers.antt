use Rattle.std.proofs.Common.{map, rules, sym, take, ◌++◌, ◌∙◌, ◌≡◌, None}
use Rattle.lt_tables.specs.Schema.{repeated_in}
use Rattle.lt_core.specs.View.{view_kind}
use Rattle.lt_schema.specs.declared.version.Column.{Column}
use Rattle.lt_schema.specs.declared.version.KeyColumn.{KeyColumn}
use Rattle.lt_schema.proofs.SeenLaws.{columns_more}
use Rattle.lt_schema.proofs.adding.repeated.repeated_in_columns.Goals as goal

pub loop-column-preserved : goal.loop-column-preserved
loop-column-preserved c =
    let key = map (λ (k : KeyColumn). k.name) c.args.version.now.key in
    let items = c.as_slice-column-items.result.now in
    let before = key ++ map (λ (k : Column). k.name) (take c.loop-column.column-index items) in
    let inner : repeated_in (view_kind c.column-item.result.kind) ≡ None = search rules in
    columns_more key c.loop-column.seen c.see.new.seen c.loop-column.column-index items c.column-item.result c.loop-column.invariant c.loop-column-test.true c.column-item.is
    (sym (c.in_ok-see.ensures.fresh before c.loop-column.invariant.holds) ∙ c.if-not-branch.false) inner (c.in_ok-see.ensures.added before c.loop-column.invariant.holds)
