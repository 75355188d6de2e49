use Rattle.std.proofs.Common.{Some, ap, arith, sym, ◌∙◌, ◌≡◌}
use Rattle.std.specs.Prelude.{option_map}
use Rattle.lt_core.specs.View.{view_scalar, view_value}
use Rattle.lt_terms.specs.Layout.{value_from, value_of}
use Rattle.lt_physical.specs.Placed.{view_found, view_placed}
use Rattle.lt_physical.proofs.PlacedCells.{ok_to, primitive_at}
use Rattle.lt_physical.proofs.values.+value.Goals as goal

pub value_from-returns-then-not-one : goal.value_from-returns-then-not-one
value_from-returns-then-not-one t c =
    let one = c.in-Some.one in
    let cells = view_placed c.args.placed.now in
    let found : Some (view_found one) ≡ _ = ap (option_map view_found) (sym c.in-Some.is) ∙ c.at_path.ensures in
    let same = primitive_at c.args.depth c.args.column c.args.path.now cells (view_found one) (omega (arith, c.if-depth-eq0.false)) found c.if-not-one.true in
    ok_to c.value_of.result (λ v. view_value v ≡ value_of one.leaf.now.rank (view_scalar one.cell.now)) (λ v. view_value v ≡ value_from c.args.depth c.args.column c.args.path.now cells) c.value_of.ensures (λ v e. e ∙ same)
