use Rattle.std.proofs.Common.{ap, ◌∙◌}
use Rattle.lt_storage.specs.Store.{is_covered}
use Rattle.lt_core.specs.View.{view_layout}
use Rattle.lt_store.proofs.Covers.{found_in, found_so, its_carriers, known_where}
use Rattle.lt_store.proofs.covering.is_known_table.Goals as goal

pub are_covered-requires-clause-table : goal.are_covered-requires-clause-table
are_covered-requires-clause-table c =
    found_so c.args.catalogue.now c.args.index.now.table c.in-Some.table.now (found_in c.args.catalogue.now c.tables.result.now _ c.in-Some.table.now c.tables.ensures.tables c.in-Some.ensures)

pub are_covered-requires-clause-carriers : goal.are_covered-requires-clause-carriers
are_covered-requires-clause-carriers c =
    ap view_layout c.as_slice.ensures
    ∙ its_carriers c.args.catalogue.now c.args.index.now.table c.in-Some.table.now _ (found_in c.args.catalogue.now c.tables.result.now _ c.in-Some.table.now c.tables.ensures.tables c.in-Some.ensures) c.in_ok-carriers.ensures

pub returns : goal.returns
returns c =
    known_where c.args.catalogue.now c.args.index.now.table c.in-Some.table.now _ c.are_covered.result (found_in c.args.catalogue.now c.tables.result.now _ c.in-Some.table.now c.tables.ensures.tables c.in-Some.ensures)
    (c.are_covered.ensures ∙ ap (λ x. is_covered c.args.catalogue.now c.in-Some.table.now.number (view_layout x)) c.as_slice-2.ensures)
