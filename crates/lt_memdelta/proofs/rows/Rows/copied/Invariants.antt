use Rattle.std.proofs.Common.{length, ◌++◌, ◌≡◌}
use Rattle.lt_memdelta.specs.Walks.{walk_rest}
use Rattle.lt_memdelta.proofs.rows.Rows.copied.Given as goal

abbrev pub invariant-items : goal.invariant-items
invariant-items l = (l.rows ++ walk_rest l.walk ≡ walk_rest l.fn.walk) × (l.count ≡ length l.rows)

abbrev pub decreases-items : goal.decreases-items
decreases-items l = length (walk_rest l.walk)
