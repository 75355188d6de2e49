use Rattle.std.proofs.Common.{ap, of_z, rules, sym, to_z, w64, ◌∙◌, ◌≡◌}
use Rattle.std.specs.Fmt.{signed_decimal}
use Rattle.lt_terms.specs.Conversion.{at_rank}
use Rattle.lt_terms.specs.Value.{bytes_value, fields_of}
use Rattle.lt_terms.specs.declared.Rank.TheVariants as ranks
use Rattle.lt_core.specs.View.{view_settings, view_value}
use Rattle.lt_core.proofs.ViewLaws.{view_bool, view_bytes, view_int, view_null, view_struct, view_text}
use Rattle.lt_lemmas.proofs.ConversionLemmas.{at_rank-null}
use Rattle.lt_coerce.proofs.RankLaws.{bool_bytes, bytes_bytes, gives, int_bytes, struct_null, text_bytes}
use Rattle.lt_coerce.proofs.primitive.bytes.Goals as goal

pub returns-in-Null : goal.returns-in-Null
returns-in-Null c = view_null ∙ sym (at_rank-null ranks.Bytes) ∙ ap (at_rank ranks.Bytes) (sym (ap view_value c.in-Null.is ∙ view_null))

pub returns-in_ok-decimal-in-Bool : goal.returns-in_ok-decimal-in-Bool
returns-in_ok-decimal-in-Bool c =
    let same : to_z w64 (of_z w64 c.bit.result) ≡ c.bit.result = search rules in
    let bytes = c.as_bytes.ensures.value ∙ c.in_ok-decimal-in-Bool.ensures ∙ ap signed_decimal (same ∙ c.bit.ensures) in
    gives c.bytes_of.result (bytes_value c.as_bytes.result.now) (at_rank ranks.Bytes (view_value c.args.value.now)) c.bytes_of.ensures
    (ap bytes_value bytes ∙ bool_bytes c.in-Bool.truth ∙ ap (at_rank ranks.Bytes) (sym (ap view_value c.in-Bool.is ∙ view_bool c.in-Bool.truth)))

pub returns-in_ok-decimal-in-Int : goal.returns-in_ok-decimal-in-Int
returns-in_ok-decimal-in-Int c =
    let z = c.in-Int.number in
    let same : to_z w64 (of_z w64 z) ≡ z = search rules in
    let bytes = c.as_bytes-in-Int.ensures.value ∙ c.in_ok-decimal-in-Int.ensures ∙ ap signed_decimal same in
    gives c.bytes_of-in-Int.result (bytes_value c.as_bytes-in-Int.result.now) (at_rank ranks.Bytes (view_value c.args.value.now)) c.bytes_of-in-Int.ensures
    (ap bytes_value bytes ∙ int_bytes z ∙ ap (at_rank ranks.Bytes) (sym (ap view_value c.in-Int.is ∙ view_int z)))

pub returns-in-Text : goal.returns-in-Text
returns-in-Text c = gives c.bytes_of-in-Text.result (bytes_value c.as_slice.result.now) (at_rank ranks.Bytes (view_value c.args.value.now)) c.bytes_of-in-Text.ensures
    (ap bytes_value c.as_slice.ensures.bytes ∙ text_bytes c.in-Text.text ∙ ap (at_rank ranks.Bytes) (sym (ap view_value c.in-Text.is ∙ view_text c.in-Text.text)))

pub returns-in-Bytes : goal.returns-in-Bytes
returns-in-Bytes c = gives c.bytes_of-in-Bytes.result (bytes_value c.as_slice-in-Bytes.result.now) (at_rank ranks.Bytes (view_value c.args.value.now)) c.bytes_of-in-Bytes.ensures
    (ap bytes_value c.as_slice-in-Bytes.ensures ∙ bytes_bytes c.in-Bytes.bytes ∙ ap (at_rank ranks.Bytes) (sym (ap view_value c.in-Bytes.is ∙ view_bytes c.in-Bytes.bytes)))

pub returns-in-Struct : goal.returns-in-Struct
returns-in-Struct c = view_null ∙ sym (struct_null ranks.Bytes (fields_of (view_settings c.in-Struct.field-0))) ∙ ap (at_rank ranks.Bytes) (sym (ap view_value c.in-Struct.is ∙ view_struct c.in-Struct.field-0))
