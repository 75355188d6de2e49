use Rattle.std.proofs.Common.{ap, sym, subst, List, ◌∙◌}
use Rattle.std.specs.Prelude.{IsTrue}
use Rattle.std.specs.List.{AllByRecursion}
use Rattle.lt_core.specs.View.{view_layout, view_range}
use Rattle.lt_tables.specs.Version.{RowVersion, is_version}
use Rattle.lt_memdelta.specs.Deltas.{group_rows}
use Rattle.lt_memdelta.specs.Walks.{walk_rest}
use Rattle.lt_memdelta.specs.declared.group.Group.{Group}
use Rattle.lt_memdelta.proofs.Steps.{lawful_clip}
use Rattle.lt_memdelta.proofs.mem_delta.MemDelta.iter.Goals as goal

pub over-requires : goal.over-requires
over-requires c =
    let rows : List Group → List RowVersion = λ gs. group_rows c.args.table c.args.version gs in
    let Each : List RowVersion → Type 0 = λ vs. AllByRecursion (λ v. IsTrue (is_version (view_layout c.args.layout.now) v)) vs in
    let same = ap rows (c.deref.ensures.value ∙ c.self.view_is) in
    lawful_clip (view_layout c.args.layout.now) (view_range c.args.range.now) (rows c.deref.result.now) (walk_rest c.walk_in-walk.result) c.walk_in-walk.ensures.rest c.walk_in-walk.ensures.ordered (subst Each (sym same) c.requires)
