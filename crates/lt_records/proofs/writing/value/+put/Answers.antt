use Rattle.std.proofs.Common.{rules, ◌++◌, ap, sym, ◌∙◌}
use Rattle.lt_codecs.specs.Codec.{bytes32, i64, u8}
use Rattle.lt_codecs.specs.LogCodec.{settings}
use Rattle.lt_core.specs.View.{view_settings, view_value}
use Rattle.lt_core.specs.declared.value.Value.{the_lemmas}
use Rattle.lt_core.proofs.ViewLaws.{view_bool, view_bytes, view_int, view_null, view_struct, view_text}
use Rattle.lt_records.specs.Writing.{HasSpelling}
use Rattle.lt_records.proofs.Spellings.{at_place, struct_settings, bool_spells, bytes_spells, int_spells, null_spells, put_one, put_two, struct_spells, text_spells}
use Rattle.lt_records.proofs.writing.value.+put.Goals as goal

pub put_value-put_settings-requires : goal.put_value-put_settings-requires
put_value-put_settings-requires t c = (search (rules, the_lemmas), struct_settings c.args.value.now c.in-Struct.fields c.in-Struct.is c.requires)

pub put_settings-put_value-requires : goal.put_settings-put_value-requires
put_settings-put_value-requires t c = (search (rules, the_lemmas), at_place (λ s. HasSpelling s.1) c.args.settings.now c.as_slice-number-items.result.now c.loop-number.number-index c.loop-number-item.result c.requires.spelled c.as_slice-number-items.ensures c.loop-number-test.true c.loop-number-item.is)

pub put_value-returns-in_ok-u8-in-Null : goal.put_value-returns-in_ok-u8-in-Null
put_value-returns-in_ok-u8-in-Null t c = put_one c.args.to.now c.u8.new.self _ c.args.value.now _ c.in_ok-u8-in-Null.ensures.ok (ap view_value c.in-Null.is ∙ view_null) null_spells

pub put_value-returns-in_ok-u8-in-Bool-2 : goal.put_value-returns-in_ok-u8-in-Bool-2
put_value-returns-in_ok-u8-in-Bool-2 t c =
    let b = c.in-Bool.truth in
    put_two c.args.to.now c.u8-in-Bool.new.self c.u8-in-Bool-2.new.self (u8.spell 1) (u8.spell c.bit.result) c.args.value.now _ c.in_ok-u8-in-Bool.ensures.ok c.in_ok-u8-in-Bool-2.ensures.ok (ap view_value c.in-Bool.is ∙ view_bool b)
    (bool_spells b ∙ ap (λ n. u8.spell 1 ++ u8.spell n) (sym c.bit.ensures))

pub put_value-returns-in_ok-put_i64-in-Int : goal.put_value-returns-in_ok-put_i64-in-Int
put_value-returns-in_ok-put_i64-in-Int t c =
    let z = c.in-Int.number in
    put_two c.args.to.now c.u8-in-Int.new.self c.put_i64.new.to (u8.spell 2) (i64.spell z) c.args.value.now _ c.in_ok-u8-in-Int.ensures.ok (search rules) (ap view_value c.in-Int.is ∙ view_int z) (int_spells z)

pub put_value-returns-in_ok-put_bytes32-in-Text : goal.put_value-returns-in_ok-put_bytes32-in-Text
put_value-returns-in_ok-put_bytes32-in-Text t c =
    let text = c.in-Text.text in
    let behind = c.in_ok-put_bytes32-in-Text.ensures ∙ ap (λ b. c.u8-in-Text.new.self ++ bytes32.spell b) c.as_slice.ensures.bytes in
    put_two c.args.to.now c.u8-in-Text.new.self c.put_bytes32.new.to (u8.spell 3) (bytes32.spell text) c.args.value.now _ c.in_ok-u8-in-Text.ensures.ok behind (ap view_value c.in-Text.is ∙ view_text text) (text_spells text)

pub put_value-returns-in_ok-put_bytes32-in-Bytes : goal.put_value-returns-in_ok-put_bytes32-in-Bytes
put_value-returns-in_ok-put_bytes32-in-Bytes t c =
    let bytes = c.in-Bytes.bytes in
    let behind = c.in_ok-put_bytes32-in-Bytes.ensures ∙ ap (λ b. c.u8-in-Bytes.new.self ++ bytes32.spell b) c.as_slice-in-Bytes.ensures in
    put_two c.args.to.now c.u8-in-Bytes.new.self c.put_bytes32-in-Bytes.new.to (u8.spell 4) (bytes32.spell bytes) c.args.value.now _ c.in_ok-u8-in-Bytes.ensures.ok behind (ap view_value c.in-Bytes.is ∙ view_bytes bytes) (bytes_spells bytes)

pub put_value-returns-in_ok-put_settings-in-Struct : goal.put_value-returns-in_ok-put_settings-in-Struct
put_value-returns-in_ok-put_settings-in-Struct t c =
    let fields = c.in-Struct.fields in
    put_two c.args.to.now c.u8-in-Struct.new.self c.put_settings.new.to (u8.spell 5) (settings.spell (view_settings fields)) c.args.value.now _ c.in_ok-u8-in-Struct.ensures.ok c.in_ok-put_settings-in-Struct.ensures (ap view_value c.in-Struct.is ∙ view_struct fields) (struct_spells (view_settings fields))
