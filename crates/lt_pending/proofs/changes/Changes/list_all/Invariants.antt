use Rattle.std.proofs.Common.{◌≡◌, ◌++◌, map, reverse}
use Rattle.lt_records.specs.View.{view_change}
use Rattle.lt_pending.specs.Stamps.{changes_in}
use Rattle.lt_pending.proofs.changes.Changes.list_all.Given as goal

abbrev pub invariant-loop-stamps : goal.invariant-loop-stamps
invariant-loop-stamps l = map (λ c. view_change c.now) l.list.items ++ reverse (changes_in l.stamps-iterator.iter) ≡ map (λ c. view_change c.now) l.fn.list.items ++ reverse (changes_in l.self.keys.entries)
