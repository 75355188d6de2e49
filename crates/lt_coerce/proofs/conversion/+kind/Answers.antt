use Rattle.std.proofs.Common.{[], add-one, ap, sym, take, take-suc, ◌+◌, ◌++◌, ◌∙◌, ◌∷◌, ◌≡◌}
use Rattle.lt_terms.specs.Value.{value_at}
use Rattle.lt_terms.specs.Conversion.{conv, conv_fields}
use Rattle.lt_lemmas.proofs.WidenLaws.{conv_null}
use Rattle.lt_core.specs.View.{view_kind, view_value}
use Rattle.lt_core.proofs.ViewLaws.{view_null}
use Rattle.lt_coerce.specs.Fields.{value_found, view_field_kinds, view_fields}
use Rattle.lt_coerce.proofs.FieldLaws.{one_more}
use Rattle.lt_coerce.proofs.conversion.+kind.Goals as goal
use Rattle.lt_coerce.proofs.conversion.+kind.Goals.{at_kinds-in-Some+in_ok-value-in-Some, at_kinds-in-None}

pub at_kinds-loop-number-preserved : goal.at_kinds-loop-number-preserved
at_kinds-loop-number-preserved t c =
    let k = c.loop-number-item.result in
    let i = c.loop-number.number-index in
    let ks = c.as_slice-number-items.result.now in
    let fs = view_fields c.args.fields.now in
    let next : take (i + 1) ks ≡ take i ks ++ k ∷ [] = ap (λ n. take n ks) (add-one i) ∙ take-suc ks i k c.loop-number-test.true ∙ ap (λ x. take i ks ++ x ∷ []) (sym c.loop-number-item.is) in
    let value : view_value c.match-field.value ≡ conv (value_at k.0 fs) (view_kind k.2) = elim c.match-field.branch [
      | at_kinds-in-Some+in_ok-value-in-Some w ↦ (ap view_value w.value-is ∙ w.in_ok-value-in-Some.ensures ∙ ap (λ v. conv v (view_kind k.2)) w.in-Some.ensures)
      | at_kinds-in-None w ↦ (ap view_value w.value-is ∙ view_null ∙ sym (conv_null (view_kind k.2)) ∙ ap (λ v. conv v (view_kind k.2)) (sym (ap value_found w.in-None.is) ∙ c.field.ensures))
    ] in
    ap view_fields c.in_ok-push.ensures.ok ∙ one_more fs (take i ks) k c.loop-number.converted c.match-field.value c.loop-number.invariant value ∙ ap (λ x. conv_fields fs (view_field_kinds x)) (sym next)
