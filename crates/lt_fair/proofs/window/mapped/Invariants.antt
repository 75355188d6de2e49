use Rattle.std.specs.Prelude.{take, ◌≡◌}
use Rattle.lt_fair.proofs.window.mapped.Given as goal

abbrev pub invariant-loop-key : goal.invariant-loop-key
invariant-loop-key l = l.map.entries ≡ take l.key-index l.key-items
