use Rattle.std.proofs.Common.{drop, map, ◌≡◌}
use Rattle.lt_manifest.specs.Reading.{have_versions}
use Rattle.lt_manifest.specs.View.{view_table}
use Rattle.lt_manifest.proofs.reading.catalogue.have_versions.Given as goal

abbrev pub invariant-loop-table : goal.invariant-loop-table
invariant-loop-table l = have_versions (map view_table (drop l.table-index l.tables)) ≡ have_versions (map view_table l.tables)
