use Rattle.std.proofs.Common.{List, map, take, ℕ}
use Rattle.std.specs.List.{All}
use Rattle.lt_pump.specs.Given.{IsOutOfAll}
use Rattle.lt_pump.specs.Order.{IsOutside, IsOwner}
use Rattle.lt_pump.specs.View.{view_subscription}
use Rattle.lt_pump.proofs.owners.with_keys.Given as goal

abbrev pub invariant-loop-place : goal.invariant-loop-place
invariant-loop-place l = record {
  known : All (IsOwner l.subs) l.owners.items;
  whole : (key : List ℕ) → All (IsOutside key) l.owners.items → IsOutOfAll key (map view_subscription (take l.place l.subs));
}
