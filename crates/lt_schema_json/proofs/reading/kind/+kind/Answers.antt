use Rattle.std.proofs.Common.{◌≡◌, ◌∙◌, Some, None, ap, sym, arith, option_map}
use Rattle.std.proofs.lemmas.Grind.{common_steps}
use Rattle.serde_json.specs.View.{view}
use Rattle.lt_words.specs.SchemaText.{as_list, triples_in}
use Rattle.lt_terms.specs.Kind.{field_kinds_of}
use Rattle.lt_schema.specs.View.{view_field}
use Rattle.lt_schema_json.specs.Reading.{one_field, values_view}
use Rattle.lt_schema_json.proofs.Fronts.{goes_on, is_done, stops_at}
use Rattle.lt_schema_json.proofs.KindForms.{array_list, triples_of}
use Rattle.lt_schema_json.proofs.reading.kind.+kind.Goals as goal

pub field_in-returns-in_err-small_in : goal.field_in-returns-in_err-small_in
field_in-returns-in_err-small_in t c =
    let e : as_list (view c.args.value.now) ≡ Some (values_view c.in-Array.items.items) = ap (λ v. as_list (view v)) c.in-Array.is ∙ array_list c.in-Array.items in
    grind (arith, common_steps)

pub field_in-returns-in_default-as_slice : goal.field_in-returns-in_default-as_slice
field_in-returns-in_default-as_slice t c =
    let e : as_list (view c.args.value.now) ≡ Some (values_view c.in-Array.items.items) = ap (λ v. as_list (view v)) c.in-Array.is ∙ array_list c.in-Array.items in
    grind (arith, common_steps)

pub fields_in-returns : goal.fields_in-returns
fields_in-returns t c =
    triples_of c.args.value.now c.in-Array.items c.deref-item-items.result.now c.in-Array.is c.deref-item-items.ensures.value
    ∙ ap (option_map field_kinds_of) (sym c.loop-item.invariant ∙ is_done view one_field view_field c.deref-item-items.result.now c.loop-item.item-index c.loop-item.fields c.loop-item-test.false)

pub fields_in-loop-item-preserved : goal.fields_in-loop-item-preserved
fields_in-loop-item-preserved t c =
    let step = goes_on view one_field view_field c.deref-item-items.result.now c.loop-item.item-index c.item-item.result c.loop-item.fields c.in_ok-field.field c.loop-item-test.true c.item-item.is c.in_ok-field.ensures in
    rw c.in_ok-push.ensures.ok (sym step ∙ c.loop-item.invariant)

pub fields_in-returns-in_err-field : goal.fields_in-returns-in_err-field
fields_in-returns-in_err-field t c =
    let items = c.deref-item-items.result.now in
    let read = triples_of c.args.value.now c.in-Array.items items c.in-Array.is c.deref-item-items.ensures.value ∙ ap (option_map field_kinds_of) (sym c.loop-item.invariant) in
    let none : one_field (view c.item-item.result) ≡ None → triples_in (view c.args.value.now) ≡ None =
    λ h. read ∙ ap (option_map field_kinds_of) (stops_at view one_field view_field items c.loop-item.item-index c.item-item.result c.loop-item.fields c.loop-item-test.true c.item-item.is h) in
    grind (arith, common_steps)
