use Rattle.std.proofs.Common.{ap, flat_map, length, ◌++◌, ◌∙◌}
use Rattle.lt_codecs.specs.Codec.{bytes16, u32, u64, ◌then◌}
use Rattle.lt_manifest.specs.View.{view_stored}
use Rattle.lt_manifest.proofs.Lists.{map_same}
use Rattle.lt_manifest.proofs.Spellings.{chain, point_spells, put_whole}
use Rattle.lt_manifest.proofs.writing.entries.StoredWrites.put.Goals as goal

pub returns : goal.returns
returns c =
    let keys = c.in_ok-put_list.ensures ∙ ap (λ xs. c.u64-3.new.self ++ (u32.spell (length xs) ++ flat_map (bytes16 then u64).spell xs)) (map_same c.as_slice.result.now ∙ c.as_slice.ensures) in
    put_whole c.args.to.now _ _ _
    (chain c.args.to.now c.u64.new.self _ _ _ c.in_ok-u64.ensures.ok (chain c.u64.new.self c.u64-2.new.self _ _ _ c.in_ok-u64-2.ensures.ok (chain c.u64-2.new.self c.u64-3.new.self _ _ _ c.in_ok-u64-3.ensures.ok keys)))
    (point_spells (view_stored c.args.self.now))
