use Rattle.std.proofs.Common.{ap, rules, of_z, sym, to_z, w64, ◌∙◌, ◌≡◌}
use Rattle.lt_terms.specs.Conversion.{at_rank, number_of_text, number_or_null}
use Rattle.lt_terms.specs.Value.{fields_of, int_value}
use Rattle.lt_terms.specs.declared.Rank.TheVariants as ranks
use Rattle.lt_core.specs.View.{view_settings, view_value}
use Rattle.lt_core.proofs.ViewLaws.{view_bool, view_bytes, view_int, view_null, view_struct, view_text}
use Rattle.lt_coerce.proofs.RankLaws.{bool_number, bytes_number, gives, int_number, null_number, struct_null, text_number}
use Rattle.lt_coerce.proofs.number.long.Goals as goal

pub returns-in-Null : goal.returns-in-Null
returns-in-Null c = view_null ∙ sym null_number ∙ ap (at_rank ranks.Int64) (sym (ap view_value c.in-Null.is ∙ view_null))

pub returns-in-Bool : goal.returns-in-Bool
returns-in-Bool c =
    let same : to_z w64 (of_z w64 c.bit.result) ≡ c.bit.result = search rules in
    view_int _ ∙ ap int_value (same ∙ c.bit.ensures) ∙ sym (bool_number c.in-Bool.truth) ∙ ap (at_rank ranks.Int64) (sym (ap view_value c.in-Bool.is ∙ view_bool c.in-Bool.truth))

pub returns-in-Int : goal.returns-in-Int
returns-in-Int c =
    let same : to_z w64 (of_z w64 c.in-Int.number) ≡ c.in-Int.number = search rules in
    view_int _ ∙ ap int_value same ∙ sym (int_number c.in-Int.number) ∙ ap (at_rank ranks.Int64) (sym (ap view_value c.in-Int.is ∙ view_int c.in-Int.number))

pub returns-in-Text : goal.returns-in-Text
returns-in-Text c = gives c.spelled.result (number_or_null (number_of_text c.as_slice.result.now)) (at_rank ranks.Int64 (view_value c.args.value.now)) c.spelled.ensures
    (ap (λ t. number_or_null (number_of_text t)) c.as_slice.ensures.bytes ∙ sym (text_number c.in-Text.text) ∙ ap (at_rank ranks.Int64) (sym (ap view_value c.in-Text.is ∙ view_text c.in-Text.text)))

pub returns-in-Bytes : goal.returns-in-Bytes
returns-in-Bytes c = gives c.spelled-in-Bytes.result (number_or_null (number_of_text c.as_slice-in-Bytes.result.now)) (at_rank ranks.Int64 (view_value c.args.value.now)) c.spelled-in-Bytes.ensures
    (ap (λ t. number_or_null (number_of_text t)) c.as_slice-in-Bytes.ensures ∙ sym (bytes_number c.in-Bytes.bytes) ∙ ap (at_rank ranks.Int64) (sym (ap view_value c.in-Bytes.is ∙ view_bytes c.in-Bytes.bytes)))

pub returns-in-Struct : goal.returns-in-Struct
returns-in-Struct c = view_null ∙ sym (struct_null ranks.Int64 (fields_of (view_settings c.in-Struct.field-0))) ∙ ap (at_rank ranks.Int64) (sym (ap view_value c.in-Struct.is ∙ view_struct c.in-Struct.field-0))
