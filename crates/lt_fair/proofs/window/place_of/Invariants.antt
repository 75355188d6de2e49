use Rattle.std.specs.Prelude.{take, ◌≡◌}
use Rattle.lt_fair.specs.Windows.{AllBelow}
use Rattle.lt_fair.proofs.window.place_of.Given as goal

abbrev pub invariant-loop-other : goal.invariant-loop-other
invariant-loop-other l = record {
  in_step : l.at ≡ l.other-index;
  before : AllBelow l.key (take l.other-index l.list);
}
