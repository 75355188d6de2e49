-- Subscriptions in the order of their low bounds.
use Rattle.std.specs.Prelude.{List, IsTrue, Some, false, length, map, slice_get, slice_index_or, ℕ, ◌<◌, ◌≡◌, ◌≤◌}
use Rattle.std.specs.List.{All}
use Rattle.lt_terms.specs.Key.{below, in_range}
use Rattle.lt_core.specs.View.{view_range}
use Rattle.lt_pump.specs.Given.{IsOutOfAll}
use Rattle.lt_pump.specs.View.{view_subscription}
use Rattle.lt_pump.specs.declared.owners.Owner.{Owner}
use Rattle.lt_pump.specs.declared.subscription.Subscription.{Subscription}

-- a subscription at its place, whose range has its low bound
pub record IsOwner (subs : List Subscription) (o : Owner) : Type 0 where
  pub here : slice_get subs o.place ≡ Some o.sub.now
  pub keys : IsTrue (in_range o.sub.now.range.low (view_range o.sub.now.range))

-- a key lies outside of the range
abbrev pub IsOutside : List ℕ → Owner → Type 0
IsOutside key o = in_range key (view_range o.sub.now.range) ≡ false

-- those of the subscriptions that have keys
pub record AreOwners (subs : List Subscription) (owners : List Owner) : Type 0 where
  pub known : All (IsOwner subs) owners
  pub whole : (key : List ℕ) → All (IsOutside key) owners → IsOutOfAll key (map view_subscription subs)

-- no low bound is below an earlier one
abbrev pub AreByLow : List Owner → Type 0
AreByLow owners = (i j : ℕ) (d : Owner) → i ≤ j → j < length owners → below (slice_index_or owners j d).sub.now.range.low (slice_index_or owners i d).sub.now.range.low ≡ false

pub record AreOrdered (subs : List Subscription) (owners : List Owner) : Type 0 where
  pub all : AreOwners subs owners
  pub by_low : AreByLow owners
