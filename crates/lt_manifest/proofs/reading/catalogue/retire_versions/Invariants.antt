use Rattle.std.proofs.Common.{drop, ◌+◌, ◌≡◌}
use Rattle.std.specs.Prelude.{map}
use Rattle.lt_image_laws.specs.Rebuild.{retires}
use Rattle.lt_manifest.specs.View.{view_read}
use Rattle.lt_manifest.proofs.reading.catalogue.retire_versions.Given as goal

abbrev pub invariant-loop-read : goal.invariant-loop-read
invariant-loop-read l = (l.version ≡ l.read-index + 1)
    × (retires l.number l.version (drop l.read-index (map view_read l.versions)) l.catalogue ≡ retires l.number 1 (map view_read l.versions) l.initial.catalogue)
