use Rattle.std.proofs.Common.{List, [], sym, subst}
use Rattle.std.specs.Prelude.{IsTrue}
use Rattle.std.specs.List.{AllByRecursion}
use Rattle.lt_core.specs.View.{view_layout}
use Rattle.lt_core.specs.declared.leaf.Leaf.{Leaf}
use Rattle.lt_tables.specs.Version.{is_version}
use Rattle.lt_memdelta.specs.Deltas.{group_rows}
use Rattle.lt_memdelta.proofs.EachRow.{each-group}
use Rattle.tests_base.proofs.deltas.walked.Goals as goal

pub iter-versions-requires : goal.iter-versions-requires
iter-versions-requires c =
    let Each : List Leaf → Type 0 = λ ls. AllByRecursion (λ v. IsTrue (is_version (view_layout ls) v)) (group_rows c.from.result c.args.group.1 c.args.delta.now) in
    subst Each (sym c.new-layout.ensures) (each-group (λ w. IsTrue (is_version [] w)) c.from.result c.args.group.1 c.args.delta.now c.requires)
