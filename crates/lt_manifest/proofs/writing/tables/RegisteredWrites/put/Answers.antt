use Rattle.std.proofs.Common.{ap, flat_map, length, map, ◌++◌, ◌∙◌}
use Rattle.lt_codecs.specs.Codec.{u16}
use Rattle.lt_store_codecs.specs.StoreCodec.{column}
use Rattle.lt_schema.specs.Tables.{view_registered}
use Rattle.lt_schema.specs.View.{view_column}
use Rattle.lt_manifest.proofs.Spellings.{chain, put_whole, version_spells}
use Rattle.lt_manifest.proofs.writing.tables.RegisteredWrites.put.Goals as goal

pub returns : goal.returns
returns c =
    let columns = c.in_ok-put_list16.ensures ∙ ap (λ xs. c.put_flag.new.to ++ (u16.spell (length (map view_column xs)) ++ flat_map column.spell (map view_column xs))) c.as_slice.ensures in
    put_whole c.args.to.now _ _ _ (chain c.args.to.now c.put_flag.new.to _ _ _ c.in_ok-put_flag.ensures columns) (version_spells (view_registered c.args.self.now))
