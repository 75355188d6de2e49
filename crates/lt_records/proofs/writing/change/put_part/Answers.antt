use Rattle.std.proofs.Common.{rules, ◌++◌, ap, ◌∙◌}
use Rattle.lt_core.specs.View.{view_part}
use Rattle.lt_codecs.specs.Codec.{bytes32, i64, u8}
use Rattle.lt_codecs.specs.LogCodec.{part}
use Rattle.lt_records.proofs.Spellings.{int_part_spells, put_both, text_part_spells}
use Rattle.lt_records.proofs.writing.change.put_part.Goals as goal

pub returns-in_ok-put_i64-in-Int : goal.returns-in_ok-put_i64-in-Int
returns-in_ok-put_i64-in-Int c =
    let z = c.in-Int.number in
    put_both c.args.to.now c.u8.new.self c.put_i64.new.to (u8.spell 1) (i64.spell z) (part.spell (view_part c.args.part.now)) c.in_ok-u8-in-Int.ensures.ok (search rules) (ap (λ p. part.spell (view_part p)) c.in-Int.is ∙ int_part_spells z)

pub returns-in_ok-put_bytes32-in-Text : goal.returns-in_ok-put_bytes32-in-Text
returns-in_ok-put_bytes32-in-Text c =
    let text = c.in-Text.text in
    let behind = c.in_ok-put_bytes32-in-Text.ensures ∙ ap (λ b. c.u8-in-Text.new.self ++ bytes32.spell b) c.as_slice.ensures.bytes in
    put_both c.args.to.now c.u8-in-Text.new.self c.put_bytes32.new.to (u8.spell 2) (bytes32.spell text) (part.spell (view_part c.args.part.now)) c.in_ok-u8-in-Text.ensures.ok behind (ap (λ p. part.spell (view_part p)) c.in-Text.is ∙ text_part_spells text)
