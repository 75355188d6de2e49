-- What indexes stand for in the definitions.
use Rattle.std.specs.Prelude.{List, map, ℕ}
use Rattle.lt_storage.specs.Store as store
use Rattle.lt_core.specs.View.{view_layout}
use Rattle.lt_delta.specs.declared.index.BundleEntry.{BundleEntry}
use Rattle.lt_delta.specs.declared.index.TableIndex.{TableIndex}
use Rattle.lt_delta.specs.declared.index.DeltaIndex.{DeltaIndex}

abbrev pub view_entry : BundleEntry → store.BundleEntry
view_entry e = record { place = e.place; length = e.length; versions = e.versions; first = e.first; last = e.last; least = e.least; greatest = e.greatest }

abbrev pub view_entries : List BundleEntry → List store.BundleEntry
view_entries es = map view_entry es

abbrev pub view_table : TableIndex → store.TableIndex
view_table t = record { table = t.table; layout = view_layout t.layout; entries = view_entries t.entries }

abbrev pub view_tables : List TableIndex → List store.TableIndex
view_tables ts = map view_table ts

abbrev pub view_index : DeltaIndex → List store.TableIndex
view_index i = view_tables i.tables

-- the bytes that spell an index
abbrev pub spelled : DeltaIndex → List ℕ
spelled i = store.index_bytes (view_index i)
