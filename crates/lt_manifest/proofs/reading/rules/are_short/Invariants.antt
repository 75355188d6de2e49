use Rattle.std.proofs.Common.{drop, ◌≡◌}
use Rattle.std.specs.List.{list_all}
use Rattle.lt_manifest.specs.Rules.{is_window}
use Rattle.lt_manifest.proofs.reading.rules.are_short.Given as goal

abbrev pub invariant-loop-key : goal.invariant-loop-key
invariant-loop-key l = list_all is_window (drop l.key-index l.window) ≡ list_all is_window l.window
