use Rattle.std.proofs.Common.{ap, flat_map, length, ◌++◌, ◌∙◌}
use Rattle.lt_codecs.specs.Codec.{byte, bytes16, u16, u32}
use Rattle.lt_store_codecs.specs.StoreCodec.{key_column, version}
use Rattle.lt_manifest.proofs.Spellings.{chain, put_whole, table_spells}
use Rattle.lt_manifest.proofs.writing.tables.TableWrites.put.Goals as goal

pub returns : goal.returns
returns c =
    let number = c.in_ok-u32.ensures.ok ∙ ap (λ n. c.args.to.now ++ u32.spell n) c.number.ensures in
    let name = c.in_ok-put_bytes16.ensures ∙ ap (λ b. c.u32.new.self ++ bytes16.spell b) c.name.ensures in
    let key = c.in_ok-put_list8.ensures ∙ ap (λ xs. c.put_bytes16.new.to ++ (byte.spell (length xs) ++ flat_map key_column.spell xs)) c.key.ensures in
    let versions = c.in_ok-put_list16.ensures ∙ ap (λ xs. c.put_list8.new.to ++ (u16.spell (length xs) ++ flat_map version.spell xs)) c.versions.ensures in
    put_whole c.args.to.now _ _ _ (chain c.args.to.now c.u32.new.self _ _ _ number (chain c.u32.new.self c.put_bytes16.new.to _ _ _ name (chain c.put_bytes16.new.to c.put_list8.new.to _ _ _ key versions))) (table_spells c.args.self.now)
