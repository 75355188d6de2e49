use Rattle.std.specs.Prelude.{map, ◌≡◌}
use Rattle.std.specs.Map.Iter.{deref_pair}
use Rattle.lt_fair.specs.Windows.{keys_above}
use Rattle.lt_fair.proofs.above.listed.Given as goal

abbrev pub invariant-loop-key : goal.invariant-loop-key
invariant-loop-key l = l.window ≡ keys_above l.bound (map deref_pair l.yielded)
