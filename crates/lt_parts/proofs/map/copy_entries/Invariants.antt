use Rattle.std.specs.Prelude.{take, ◌≡◌}
use Rattle.lt_parts.proofs.map.copy_entries.Given as goal

abbrev pub invariant-loop-entry : goal.invariant-loop-entry
invariant-loop-entry l = l.copies.items ≡ take l.entry-index l.entries.items
