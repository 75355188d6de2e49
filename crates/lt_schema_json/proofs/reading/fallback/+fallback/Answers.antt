use Rattle.std.proofs.Common.{◌≡◌, ◌∙◌, None, ap, arith, option_map}
use Rattle.std.proofs.lemmas.Grind.{common_steps}
use Rattle.std.specs.Slice.Iter.{iter_rest}
use Rattle.serde_json.specs.View.{view}
use Rattle.lt_core.specs.View.{view_kind}
use Rattle.lt_words.specs.SchemaText.{default_in}
use Rattle.lt_terms.specs.Value.{fields_of}
use Rattle.lt_schema_json.specs.Reading.{struct_in}
use Rattle.lt_schema_json.proofs.Defaults.{all_values, lacks_item, next_value, spare_item, struct_list, wrong_item}
use Rattle.lt_schema_json.proofs.reading.fallback.+fallback.Goals as goal

pub values_in-loop-number-init : goal.values_in-loop-number-init
values_in-loop-number-init t c = rw c.new-values.ensures (struct_list (view c.args.value.now) c.args.fields.now c.as_slice-number-items.result.now c.in_ok-array_in.field-0.now (iter_rest c.iter-items.result) c.in_ok-array_in.ensures c.iter-items.ensures.rest c.as_slice-number-items.ensures)

pub values_in-returns-in_default : goal.values_in-returns-in_default
values_in-returns-in_default t c =
    let l = c.loop-number in
    l.invariant ∙ ap (option_map fields_of) (lacks_item c.as_slice-number-items.result.now (iter_rest l.items) l.number-index c.loop-number-item.result l.values c.loop-number-test.true c.loop-number-item.is c.in_default.ensures.steps.0)

pub values_in-returns-in_err-value : goal.values_in-returns-in_err-value
values_in-returns-in_err-value t c =
    let l = c.loop-number in
    let none : default_in (view c.in-Some.item.now) (view_kind c.loop-number-item.result.2) ≡ None → struct_in (view c.args.value.now) c.args.fields.now ≡ None =
    λ h. l.invariant ∙ ap (option_map fields_of) (wrong_item c.as_slice-number-items.result.now (iter_rest l.items) (iter_rest c.next.new.self) c.in-Some.item.now l.number-index c.loop-number-item.result l.values c.loop-number-test.true c.loop-number-item.is c.in-Some.ensures.steps h) in
    grind (arith, common_steps)

pub values_in-loop-number-preserved : goal.values_in-loop-number-preserved
values_in-loop-number-preserved t c =
    let l = c.loop-number in
    rw c.in_ok-push.ensures.ok (l.invariant ∙ ap (option_map fields_of) (next_value c.as_slice-number-items.result.now (iter_rest l.items) (iter_rest c.next.new.self) c.in-Some.item.now l.number-index c.loop-number-item.result l.values c.in_ok-value.value c.loop-number-test.true c.loop-number-item.is c.in-Some.ensures.steps c.in_ok-value.ensures))

pub values_in-returns-in-None : goal.values_in-returns-in-None
values_in-returns-in-None t c =
    let l = c.loop-number in
    l.invariant ∙ ap (option_map fields_of) (all_values c.as_slice-number-items.result.now (iter_rest l.items) l.number-index l.values c.loop-number-test.false c.in-None.ensures.steps.0)

pub values_in-returns-in-Some-next : goal.values_in-returns-in-Some-next
values_in-returns-in-Some-next t c =
    let l = c.loop-number in
    l.invariant ∙ ap (option_map fields_of) (spare_item c.as_slice-number-items.result.now (iter_rest l.items) (iter_rest c.next-2.new.self) c.in-Some-next.field-0.now l.number-index l.values c.loop-number-test.false c.in-Some-next.ensures.steps)
