use Rattle.std.proofs.Common.{drop, map, ◌≡◌}
use Rattle.std.specs.List.{list_all}
use Rattle.lt_manifest.specs.Rules.{is_delta}
use Rattle.lt_manifest.specs.View.{view_delta}
use Rattle.lt_manifest.proofs.reading.rules.are_deltas.Given as goal

abbrev pub invariant-loop-delta : goal.invariant-loop-delta
invariant-loop-delta l = list_all (is_delta l.listed) (map view_delta (drop l.delta-index l.deltas)) ≡ list_all (is_delta l.listed) (map view_delta l.deltas)
