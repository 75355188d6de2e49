-- What a manifest and its parts stand for in the definitions.
use Rattle.std.specs.Prelude.{map, ℕ}
use Rattle.lt_terms.specs.declared.Extent.{Extent}
use Rattle.lt_tables.specs.Fair as fair
use Rattle.lt_tables.specs.Schema as schema
use Rattle.lt_storage.specs.Store as store
use Rattle.lt_tables.specs.Pump as store_tables
use Rattle.lt_fair.specs.View.{view_point}
use Rattle.lt_schema.specs.View.{view_columns, view_key}
use Rattle.lt_manifest.specs.declared.reading.Unbuilt.{Unbuilt}
use Rattle.lt_manifest.specs.declared.reading.tables.TableRead.{TableRead}
use Rattle.lt_manifest.specs.declared.reading.tables.VersionRead.{VersionRead}
use Rattle.lt_manifest.specs.declared.stored.DeltaStored.{DeltaStored}
use Rattle.lt_manifest.specs.declared.stored.Manifest.{Manifest}
use Rattle.lt_manifest.specs.declared.stored.PartStored.{PartStored}
use Rattle.lt_manifest.specs.declared.stored.Stored.{Stored}
use Rattle.lt_manifest.specs.declared.stored.StreamEntry.{StreamEntry}

abbrev pub view_stored : Stored → ℕ × fair.Point
view_stored s = (s.offset, view_point s.point)

abbrev pub view_stream : StreamEntry → store.Stream
view_stream s = record { low = s.low; points = map view_stored s.points }

abbrev pub view_part : PartStored → store_tables.Part
view_part p = record { low = p.low; resume = p.resume; ids = p.deltas }

abbrev pub view_delta : DeltaStored → ℕ × Extent
view_delta d = (d.id, d.index)

abbrev pub view_manifest : Manifest → store.Manifest
view_manifest m = record {
  limit = m.limit;
  minimum = m.minimum;
  next_id = m.next_id;
  catalogue = m.catalogue;
  streams = map view_stream m.streams;
  parts = map view_part m.parts;
  deltas = map view_delta m.deltas;
}

-- ---- before the catalogue is made

abbrev pub view_read : VersionRead → schema.Registered
view_read v = record { live = v.live; columns = view_columns v.columns }

abbrev pub view_table : TableRead → schema.Table
view_table t = record { number = t.number; name = t.name; key = view_key t.key; versions = map view_read t.versions }

abbrev pub view_unbuilt : Unbuilt → store.Manifest
view_unbuilt m = record {
  limit = m.limit;
  minimum = m.minimum;
  next_id = m.next_id;
  catalogue = map view_table m.tables;
  streams = map view_stream m.streams;
  parts = map view_part m.parts;
  deltas = map view_delta m.deltas;
}
