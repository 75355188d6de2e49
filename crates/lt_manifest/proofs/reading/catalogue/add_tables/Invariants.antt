use Rattle.std.proofs.Common.{drop, map, ◌≡◌}
use Rattle.lt_image_laws.specs.Rebuild.{rebuilds}
use Rattle.lt_manifest.specs.View.{view_table}
use Rattle.lt_manifest.proofs.reading.catalogue.add_tables.Given as goal

abbrev pub invariant-loop-table : goal.invariant-loop-table
invariant-loop-table l = rebuilds (map view_table (drop l.table-index l.tables)) l.catalogue ≡ rebuilds (map view_table l.tables) l.initial.catalogue
