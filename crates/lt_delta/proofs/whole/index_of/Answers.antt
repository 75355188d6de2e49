use Rattle.std.proofs.Common.{arith, sym, ◌∙◌}
use Rattle.std.proofs.lemmas.Result.{err_from_is_err_and}
use Rattle.lt_delta.specs.View.{view_tables}
use Rattle.lt_delta.proofs.Indexes.{other_layouts, read_index, unread}
use Rattle.lt_delta.proofs.whole.index_of.Goals as goal

pub returns-in_err-tables-clause-stopped : goal.returns-in_err-tables-clause-stopped
returns-in_err-tables-clause-stopped c =
    let p = err_from_is_err_and c.from_residual.result c.from_residual.ensures.1 in
    let refused = unread c.args.bytes.now c.in_err-tables.field-0.0 c.in_err-tables.ensures in
    rw (p.1, p.2) refused

pub returns-then-are_layouts-clause-ok : goal.returns-then-are_layouts-clause-ok
returns-then-are_layouts-clause-ok c =
    read_index c.args.bytes.now (view_tables c.in_ok-tables.tables) (λ i. omega (arith, c.type_inv.bytes i)) c.in_ok-tables.ensures (sym c.are_layouts.ensures ∙ c.if-are_layouts.true)

pub returns-else-are_layouts-clause-stopped : goal.returns-else-are_layouts-clause-stopped
returns-else-are_layouts-clause-stopped c = other_layouts c.args.bytes.now (view_tables c.in_ok-tables.tables) c.in_ok-tables.ensures (sym c.are_layouts.ensures ∙ c.if-are_layouts.false)
