use Rattle.std.proofs.Common.{◌≡◌, ◌++◌, map, reverse}
use Rattle.lt_records.specs.View.{view_change}
use Rattle.lt_pending.specs.Stamps.{changes_at}
use Rattle.lt_pending.proofs.stamps.list_stamps.Given as goal

abbrev pub invariant-loop-change : goal.invariant-loop-change
invariant-loop-change l = map (λ c. view_change c.now) l.list.items ++ reverse (changes_at l.change-iterator.iter) ≡ map (λ c. view_change c.now) l.fn.list.items ++ reverse (changes_at l.stamps.entries)
