use Rattle.std.proofs.Common.{◌++◌, ◌≡◌, ap, flat_map, length, map, sym, ◌∙◌}
use Rattle.std.proofs.lemmas.List.{length-map}
use Rattle.std.specs.Prelude.{codes}
use Rattle.lt_codecs.specs.Codec.{u32}
use Rattle.lt_store_codecs.specs.StoreCodec.{table_index}
use Rattle.lt_delta.specs.View.{view_index, view_table}
use Rattle.lt_delta.proofs.Items.{behind}
use Rattle.lt_delta.proofs.Spellings.{index_spells}
use Rattle.lt_delta.proofs.whole.put_index.Goals as goal

pub returns : goal.returns
returns c =
    let ts = view_index c.args.index.now in
    let end = c.put_all.new.to in
    let tables = flat_map table_index.spell ts in
    let count : c.u32.new.self ≡ c.bytes.new.self ++ u32.spell (length ts) = c.in_ok-u32.ensures.ok ∙ ap (λ n. c.bytes.new.self ++ u32.spell n) (c.len.ensures ∙ sym (length-map c.args.index.now.tables view_table)) in
    let each : end ≡ c.u32.new.self ++ tables = c.in_ok-put_all.ensures ∙ ap (λ ts. c.u32.new.self ++ flat_map table_index.spell (map view_table ts)) c.as_slice.ensures in
    behind c.args.to.now c.bytes.new.self end (codes "LTI1") (u32.spell (length ts) ++ tables) c.in_ok-bytes.ensures.ok (behind c.bytes.new.self c.u32.new.self end (u32.spell (length ts)) tables count each)
    ∙ ap (λ s. c.args.to.now ++ s) (index_spells ts)
