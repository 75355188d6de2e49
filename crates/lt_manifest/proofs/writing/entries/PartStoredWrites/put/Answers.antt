use Rattle.std.proofs.Common.{ap, flat_map, length, ◌++◌, ◌∙◌}
use Rattle.lt_codecs.specs.Codec.{bytes16, u32, u64}
use Rattle.lt_manifest.specs.View.{view_part}
use Rattle.lt_manifest.proofs.Lists.{map_same}
use Rattle.lt_manifest.proofs.Spellings.{chain, partition_spells, put_whole}
use Rattle.lt_manifest.proofs.writing.entries.PartStoredWrites.put.Goals as goal

pub returns : goal.returns
returns c =
    let low = c.in_ok-put_bytes16.ensures ∙ ap (λ b. c.args.to.now ++ bytes16.spell b) c.as_slice.ensures in
    let ids = c.in_ok-put_list.ensures ∙ ap (λ xs. c.u64.new.self ++ (u32.spell (length xs) ++ flat_map u64.spell xs)) (map_same c.as_slice-2.result.now ∙ c.as_slice-2.ensures) in
    put_whole c.args.to.now _ _ _ (chain c.args.to.now c.put_bytes16.new.to _ _ _ low (chain c.put_bytes16.new.to c.u64.new.self _ _ _ c.in_ok-u64.ensures.ok ids)) (partition_spells (view_part c.args.self.now))
