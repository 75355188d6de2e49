use Rattle.std.proofs.Common.{subst, sym, ◌∙◌}
use Rattle.lt_delta.specs.View.{view_index}
use Rattle.lt_manifest.specs.View.{view_manifest}
use Rattle.lt_store.specs.Opening.{HurtsIndex, RefusesStep}
use Rattle.lt_store.proofs.Indexing.{unknown}
use Rattle.lt_store.proofs.indexes.read_known.Goals as goal

pub returns-else-branch-clause-refused : goal.returns-else-branch-clause-refused
returns-else-branch-clause-refused g c =
    let told = (g.D.Disk.state c.args.disk.now).told in
    let m = view_manifest c.args.manifest.now in
    subst (RefusesStep (HurtsIndex told m c.args.at)) (sym c.damaged-else-branch.ensures) (unknown told m c.args.at (view_index c.in_ok-index.index) c.in_ok-index.ensures.ok (sym c.in_ok-is_known.ensures ∙ c.if-branch.false))
