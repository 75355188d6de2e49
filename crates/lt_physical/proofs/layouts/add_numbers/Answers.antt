use Rattle.std.proofs.Common.{ap, drop, ◌+◌, ◌∙◌}
use Rattle.lt_schema.specs.Limits.{with_numbers}
use Rattle.lt_schema.specs.View.{view_columns}
use Rattle.lt_schema.proofs.Counts.{numbers_on, put_key}
use Rattle.lt_physical.proofs.layouts.add_numbers.Goals as goal

pub loop-column-preserved : goal.loop-column-preserved
loop-column-preserved c =
    let columns = c.args.columns.now in
    let at = c.loop-column.column-index in
    let n = c.column-item.result.number in
    ap (λ ns. with_numbers ns (view_columns (drop (at + 1) columns))) (c.in_ok-insert.ensures.keys ∙ put_key c.loop-column.numbers.keys n)
    ∙ numbers_on c.loop-column.numbers.keys columns at c.column-item.result c.loop-column-test.true c.column-item.is ∙ c.loop-column.invariant
