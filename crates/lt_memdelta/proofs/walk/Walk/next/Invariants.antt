use Rattle.std.proofs.Common.{◌≡◌}
use Rattle.lt_memdelta.specs.Walks.{keys_left, walk_rest}
use Rattle.lt_memdelta.proofs.walk.Walk.next.Given as goal

abbrev pub invariant-keys : goal.invariant-keys
invariant-keys l = walk_rest l.self ≡ walk_rest l.initial.self

abbrev pub decreases-keys : goal.decreases-keys
decreases-keys l = keys_left l.self.keys
