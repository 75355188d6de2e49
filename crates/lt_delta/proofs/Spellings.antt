-- How the parts of an index are spelled, one after another.
use Rattle.std.proofs.Common.{List, ap, append_assoc, flat_map, length, refl, sym, ◌++◌, ◌≡◌}
use Rattle.std.specs.Prelude.{codes}
use Rattle.lt_storage.specs.Store.{BundleEntry, TableIndex, index_bytes}
use Rattle.lt_codecs.specs.Codec.{bytes16, u16, u32, u64}
use Rattle.lt_store_codecs.specs.StoreCodec.{entry, leaf, table_index}

pub entry_spells : (e : BundleEntry) → u64.spell e.place ++ (u64.spell e.length ++ (u64.spell e.versions ++ (bytes16.spell e.first ++ (bytes16.spell e.last ++ (u64.spell e.least ++ u64.spell e.greatest))))) ≡ entry.spell e
unfolding entry u64 bytes16 u16
entry_spells e = refl

pub table_spells : (t : TableIndex) → u32.spell t.table ++ (u32.spell (length t.layout) ++ (flat_map leaf.spell t.layout ++ (u64.spell (length t.entries) ++ flat_map entry.spell t.entries))) ≡ table_index.spell t
unfolding table_index u32 u64 leaf entry
table_spells t = ap (λ s. u32.spell t.table ++ s) (sym (append_assoc (u32.spell (length t.layout)) (flat_map leaf.spell t.layout) (u64.spell (length t.entries) ++ flat_map entry.spell t.entries)))

pub index_spells : (ts : List TableIndex) → codes "LTI1" ++ (u32.spell (length ts) ++ flat_map table_index.spell ts) ≡ index_bytes ts
unfolding index_bytes u32 table_index
index_spells ts = refl
