use Rattle.std.proofs.Common.{[], add-one, ap, sym, take, take-suc, ◌+◌, ◌++◌, ◌∙◌, ◌∷◌, ◌≡◌}
use Rattle.lt_terms.specs.Layout.{leaves}
use Rattle.lt_tables.specs.Schema.{version_layout}
use Rattle.lt_core.specs.View.{view_kind}
use Rattle.lt_schema.specs.View.{view_columns}
use Rattle.lt_physical.proofs.LeafLists.{column_more}
use Rattle.lt_physical.proofs.layouts.version_layout.Goals as goal

pub loop-column-preserved : goal.loop-column-preserved
loop-column-preserved c =
    let k = c.column-item.result in
    let i = c.loop-column.column-index in
    let ks = c.as_slice-column-items.result.now in
    let next : take (i + 1) ks ≡ take i ks ++ k ∷ [] = ap (λ n. take n ks) (add-one i) ∙ take-suc ks i k c.loop-column-test.true ∙ ap (λ x. take i ks ++ x ∷ []) (sym c.column-item.is) in
    c.in_ok-add_leaves.ensures
    ∙ ap (λ ls. ls ++ leaves k.number c.new-path.result (view_kind k.kind)) c.loop-column.invariant
    ∙ ap (λ p. version_layout (view_columns (take i ks)) ++ leaves k.number p (view_kind k.kind)) c.new-path.ensures
    ∙ sym (column_more (take i ks) k) ∙ ap (λ x. version_layout (view_columns x)) (sym next)
