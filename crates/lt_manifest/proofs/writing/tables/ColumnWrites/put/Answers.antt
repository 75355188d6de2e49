use Rattle.std.proofs.Common.{ap, ◌++◌, ◌∙◌}
use Rattle.lt_codecs.specs.Codec.{bytes16}
use Rattle.lt_schema.specs.View.{view_column}
use Rattle.lt_manifest.proofs.Spellings.{chain, column_spells, kind_held, put_whole}
use Rattle.lt_manifest.proofs.writing.tables.ColumnWrites.put.Goals as goal

pub put_kind-requires : goal.put_kind-requires
put_kind-requires c = kind_held c.args.self.now c.requires

pub returns : goal.returns
returns c =
    let name = c.in_ok-put_bytes16.ensures ∙ ap (λ b. c.u16.new.self ++ bytes16.spell b) c.as_slice.ensures.bytes in
    put_whole c.args.to.now _ _ _
    (chain c.args.to.now c.u16.new.self _ _ _ c.in_ok-u16.ensures.ok (chain c.u16.new.self c.put_bytes16.new.to _ _ _ name (chain c.put_bytes16.new.to c.put_kind.new.to _ _ _ c.in_ok-put_kind.ensures c.in_ok-put_fallback.ensures)))
    (column_spells (view_column c.args.self.now))
