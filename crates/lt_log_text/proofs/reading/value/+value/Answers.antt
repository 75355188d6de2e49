use Rattle.std.proofs.Common.{◌≡◌, ◌∙◌, Some, None, ap, sym, arith, option_map}
use Rattle.std.proofs.lemmas.Grind.{common_steps}
use Rattle.serde_json.specs.View.{view}
use Rattle.lt_terms.specs.Value.{struct_value}
use Rattle.lt_words.specs.SchemaText.{as_list}
use Rattle.lt_core.specs.View.{view_setting}
use Rattle.lt_core.proofs.ViewLaws.{view_struct}
use Rattle.lt_schema_json.specs.Reading.{values_view}
use Rattle.lt_schema_json.proofs.Fronts.{goes_on, is_done, stops_at}
use Rattle.lt_schema_json.proofs.KindForms.{array_list}
use Rattle.lt_log_text.specs.Lines.{set_in, setting_in, struct_in, value_in}
use Rattle.lt_log_text.proofs.Forms.{set_of, value_of_array}
use Rattle.lt_log_text.proofs.reading.value.+value.Goals as goal

pub setting_in-returns-in_err-small_in : goal.setting_in-returns-in_err-small_in
setting_in-returns-in_err-small_in t c =
    let e : as_list (view c.args.value.now) ≡ Some (values_view c.in-Array.items.items) = ap (λ v. as_list (view v)) c.in-Array.is ∙ array_list c.in-Array.items in
    grind (arith, common_steps)

pub setting_in-returns-in_default-as_slice : goal.setting_in-returns-in_default-as_slice
setting_in-returns-in_default-as_slice t c =
    let e : as_list (view c.args.value.now) ≡ Some (values_view c.in-Array.items.items) = ap (λ v. as_list (view v)) c.in-Array.is ∙ array_list c.in-Array.items in
    grind (arith, common_steps)

pub settings_in-returns : goal.settings_in-returns
settings_in-returns t c =
    set_of c.args.value.now c.in-Array.items c.deref-item-items.result.now c.in-Array.is c.deref-item-items.ensures.value
    ∙ (sym c.loop-item.invariant ∙ is_done view setting_in view_setting c.deref-item-items.result.now c.loop-item.item-index c.loop-item.settings c.loop-item-test.false)

pub settings_in-loop-item-preserved : goal.settings_in-loop-item-preserved
settings_in-loop-item-preserved t c =
    let step = goes_on view setting_in view_setting c.deref-item-items.result.now c.loop-item.item-index c.item-item.result c.loop-item.settings c.in_ok-setting.setting c.loop-item-test.true c.item-item.is c.in_ok-setting.ensures in
    rw c.in_ok-push.ensures.ok (sym step ∙ c.loop-item.invariant)

pub settings_in-returns-in_err-setting : goal.settings_in-returns-in_err-setting
settings_in-returns-in_err-setting t c =
    let items = c.deref-item-items.result.now in
    let read = set_of c.args.value.now c.in-Array.items items c.in-Array.is c.deref-item-items.ensures.value ∙ sym c.loop-item.invariant in
    let none : setting_in (view c.item-item.result) ≡ None → set_in (view c.args.value.now) ≡ None =
    λ h. read ∙ stops_at view setting_in view_setting items c.loop-item.item-index c.item-item.result c.loop-item.settings c.loop-item-test.true c.item-item.is h in
    grind (arith, common_steps)

pub value_in-returns-in_ok-struct_in-in-Array : goal.value_in-returns-in_ok-struct_in-in-Array
value_in-returns-in_ok-struct_in-in-Array t c = value_of_array c.args.value.now c.in-Array.field-0 c.in-Array.is ∙ ap (option_map struct_value) c.in_ok-struct_in-in-Array.ensures ∙ ap Some (sym (view_struct c.in_ok-struct_in-in-Array.field-0))

pub value_in-returns-in_err-struct_in-in-Array : goal.value_in-returns-in_err-struct_in-in-Array
value_in-returns-in_err-struct_in-in-Array t c =
    let none : struct_in (view c.args.value.now) ≡ None → value_in (view c.args.value.now) ≡ None = λ h. value_of_array c.args.value.now c.in-Array.field-0 c.in-Array.is ∙ ap (option_map struct_value) h in
    grind (arith, common_steps)
