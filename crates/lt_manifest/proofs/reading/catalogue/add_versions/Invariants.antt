use Rattle.std.proofs.Common.{drop, ◌+◌, ◌≡◌}
use Rattle.std.specs.Prelude.{map}
use Rattle.lt_image_laws.specs.Rebuild.{adds}
use Rattle.lt_manifest.specs.Reading.{table_read}
use Rattle.lt_manifest.specs.View.{view_read}
use Rattle.lt_manifest.proofs.reading.catalogue.add_versions.Given as goal

abbrev pub invariant-loop-read : goal.invariant-loop-read
invariant-loop-read l = (l.version ≡ l.read-index + 1)
    × (adds (table_read l.number l.name l.key l.versions) l.version (drop l.read-index (map view_read l.versions)) l.catalogue ≡ adds (table_read l.number l.name l.key l.versions) 1 (map view_read l.versions) l.initial.catalogue)
