use Rattle.std.proofs.Common.{ap, flat_map, length, map, ◌++◌, ◌∙◌}
use Rattle.lt_codecs.specs.Codec.{byte, bytes16}
use Rattle.lt_store_codecs.specs.StoreCodec.{point}
use Rattle.lt_manifest.specs.View.{view_stored, view_stream}
use Rattle.lt_manifest.proofs.Spellings.{chain, put_whole, stream_spells}
use Rattle.lt_manifest.proofs.writing.entries.StreamEntryWrites.put.Goals as goal

pub returns : goal.returns
returns c =
    let low = c.in_ok-put_bytes16.ensures ∙ ap (λ b. c.args.to.now ++ bytes16.spell b) c.as_slice.ensures in
    let points = c.in_ok-put_list8.ensures ∙ ap (λ xs. c.put_bytes16.new.to ++ (byte.spell (length (map view_stored xs)) ++ flat_map point.spell (map view_stored xs))) c.as_slice-2.ensures in
    put_whole c.args.to.now _ _ _ (chain c.args.to.now c.put_bytes16.new.to _ _ _ low points) (stream_spells (view_stream c.args.self.now))
