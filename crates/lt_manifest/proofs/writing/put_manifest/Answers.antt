use Rattle.std.proofs.Common.{ap, flat_map, length, map, ◌++◌, ◌∙◌}
use Rattle.lt_codecs.specs.Codec.{u32}
use Rattle.lt_store_codecs.specs.StoreCodec.{catalogue, delta, partition, stream}
use Rattle.lt_manifest.specs.View.{view_delta, view_manifest, view_part, view_stream}
use Rattle.lt_manifest.proofs.Spellings.{chain, manifest_spells, put_whole}
use Rattle.lt_manifest.proofs.writing.put_manifest.Goals as goal

pub returns : goal.returns
returns c =
    let tables = c.in_ok-put_tables.ensures ∙ ap (λ ts. c.u64-3.new.self ++ catalogue.spell ts) c.tables.ensures.tables in
    let streams = c.in_ok-put_list.ensures ∙ ap (λ xs. c.put_tables.new.to ++ (u32.spell (length (map view_stream xs)) ++ flat_map stream.spell (map view_stream xs))) c.as_slice.ensures in
    let parts = c.in_ok-put_list-2.ensures ∙ ap (λ xs. c.put_list.new.to ++ (u32.spell (length (map view_part xs)) ++ flat_map partition.spell (map view_part xs))) c.as_slice-2.ensures in
    let deltas = c.in_ok-put_list-3.ensures ∙ ap (λ xs. c.put_list-2.new.to ++ (u32.spell (length (map view_delta xs)) ++ flat_map delta.spell (map view_delta xs))) c.as_slice-3.ensures in
    let to = c.args.to.now in
    put_whole to _ _ _
    (chain to c.put_magic.new.to _ _ _ c.in_ok-put_magic.ensures (chain c.put_magic.new.to c.u64.new.self _ _ _ c.in_ok-u64.ensures.ok (chain c.u64.new.self c.u64-2.new.self _ _ _ c.in_ok-u64-2.ensures.ok
    (chain c.u64-2.new.self c.u64-3.new.self _ _ _ c.in_ok-u64-3.ensures.ok (chain c.u64-3.new.self c.put_tables.new.to _ _ _ tables (chain c.put_tables.new.to c.put_list.new.to _ _ _ streams (chain c.put_list.new.to c.put_list-2.new.to _ _ _ parts deltas)))))))
    (manifest_spells (view_manifest c.args.manifest.now))
