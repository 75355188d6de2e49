use Rattle.std.proofs.Common.{ap, append-nil, arith, length, rules, sym, ◌++◌, ◌+◌, ◌∙◌, ◌≡◌, List}
use Rattle.lt_tables.specs.Version.{RowVersion}
use Rattle.lt_version.specs.View.{view_version}
use Rattle.lt_memdelta.specs.Walks.{view_item, walk_rest}
use Rattle.lt_memdelta.proofs.Splits.{copied-next}
use Rattle.lt_memdelta.proofs.rows.Rows.copied.Goals as goal

pub items-smaller : goal.items-smaller
items-smaller c =
    let left : length (walk_rest c.items.walk) ≡ length (walk_rest c.next.new.self) + 1 = ap length c.in-Some.ensures ∙ omega arith in
    omega (arith, left)

pub items-preserved : goal.items-preserved
items-preserved c =
    let next = copied-next (view_version c.in_ok-copy.field-0) (view_item c.in-Some.item) c.items.rows c.put.new.self (walk_rest c.items.walk) (walk_rest c.next.new.self) (walk_rest c.args.walk)
    c.in_ok-copy.ensures c.in-Some.ensures c.in_ok-put.ensures.ok c.requires c.items.invariant.0 in
    let one : c.in_ok-count.count ≡ c.items.count + 1 = search rules in
    (next.0, omega (arith, one, next.1, c.items.invariant.1))

pub returns-clause-rows : goal.returns-clause-rows
returns-clause-rows c =
    let rows : List RowVersion = c.items.rows in
    sym (append-nil rows) ∙ ap (λ left. rows ++ left) (sym c.in_default.ensures.0) ∙ c.items.invariant.0
