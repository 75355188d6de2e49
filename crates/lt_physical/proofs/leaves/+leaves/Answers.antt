use Rattle.std.proofs.Common.{[], add-one, ap, append_assoc, sym, take, take-suc, ◌+◌, ◌++◌, ◌∙◌, ◌∷◌, ◌≡◌}
use Rattle.lt_terms.specs.Layout.{field_leaves, leaves}
use Rattle.lt_core.specs.View.{view_kind, view_layout}
use Rattle.lt_schema.specs.View.{view_fields}
use Rattle.lt_physical.proofs.LeafLists.{one_more}
use Rattle.lt_physical.proofs.leaves.+leaves.Goals as goal

pub add_field_leaves-loop-number-preserved : goal.add_field_leaves-loop-number-preserved
add_field_leaves-loop-number-preserved t c =
    let k = c.loop-number-item.result in
    let i = c.loop-number.number-index in
    let ks = c.as_slice-number-items.result.now in
    let column = c.args.column in
    let path = c.args.path.now in
    let next : take (i + 1) ks ≡ take i ks ++ k ∷ [] = ap (λ n. take n ks) (add-one i) ∙ take-suc ks i k c.loop-number-test.true ∙ ap (λ x. take i ks ++ x ∷ []) (sym c.loop-number-item.is) in
    c.in_ok-add_leaves.ensures
    ∙ ap (λ ls. ls ++ leaves column c.in_ok-longer.longer (view_kind k.2)) c.loop-number.invariant
    ∙ append_assoc (view_layout c.args.layout.now) (field_leaves column path (view_fields (take i ks))) (leaves column c.in_ok-longer.longer (view_kind k.2))
    ∙ ap (λ ls. view_layout c.args.layout.now ++ ls) (ap (λ p. field_leaves column path (view_fields (take i ks)) ++ leaves column p (view_kind k.2)) c.in_ok-longer.ensures
    ∙ sym (one_more column path (take i ks) k) ∙ ap (λ x. field_leaves column path (view_fields x)) (sym next))
