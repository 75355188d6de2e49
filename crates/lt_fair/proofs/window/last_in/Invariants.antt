use Rattle.std.specs.Prelude.{drop, ◌≡◌}
use Rattle.lt_tables.specs.Fair.{window_ts}
use Rattle.lt_fair.proofs.window.last_in.Given as goal

abbrev pub invariant-loop-other : goal.invariant-loop-other
invariant-loop-other l = window_ts l.key (drop l.other-index l.list) ≡ window_ts l.key l.list
