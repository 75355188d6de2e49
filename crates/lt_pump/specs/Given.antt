-- Which changes a subscription is given.
use Rattle.std.specs.Prelude.{List, IsTrue, [], false, fold, if◌then◌else◌, length, nat_lt, slice_get, Some, ℕ, ⊤, ◌&&◌, ◌∷◌, ◌≡◌, ◌≤◌, ◌⊎◌}
use Rattle.std.specs.List.{AllByRecursion}
use Rattle.lt_terms.specs.Key.{Range, in_range}
use Rattle.lt_tables.specs.Fair.{window_ts}
use Rattle.lt_terms.specs.Log.{Change, change_key}
use Rattle.lt_tables.specs.Pump.{StreamAt}
use Rattle.lt_tables.specs.Pump.{put_change}

-- a change is given to the subscription whose range has its key, where its timestamp is above where that begins
abbrev pub given : List Change → Range → ℕ → List Change → List Change
given cs r from held = fold (λ ds c. if in_range (change_key c) r && nat_lt from c.ts then put_change c ds else ds) held cs

abbrev pub all_given : List Change → List (Range × ℕ) → List (List Change) → List (List Change)
all_given cs (s ∷ ss) (held ∷ rest) = given cs s.0 s.1 held ∷ all_given cs ss rest
all_given cs ss rest = rest

-- no key lies in two of the ranges
abbrev pub AreApart : Range → Range → Type 0
AreApart r s = (key : List ℕ) → IsTrue (in_range key r) → IsTrue (in_range key s) → ⊥

abbrev pub AreDisjoint : List (Range × ℕ) → Type 0
AreDisjoint [] = ⊤
AreDisjoint (s ∷ ss) = AllByRecursion (λ t. AreApart s.0 t.0) ss × AreDisjoint ss

-- subscriptions and the lists of what each holds
pub record AreSubscriptions (subs : List (Range × ℕ)) (held : List (List Change)) : Type 0 where
  pub disjoint : AreDisjoint subs
  pub as_many : length subs ≡ length held

-- a key lies in the range at a place
pub record HasKey (key : List ℕ) (i : ℕ) (subs : List (Range × ℕ)) : Type 0 where
  pub sub : Range × ℕ
  pub here : slice_get subs i ≡ Some sub
  pub within : IsTrue (in_range key sub.0)

-- and in none of the ranges
abbrev pub IsOutOfAll : List ℕ → List (Range × ℕ) → Type 0
IsOutOfAll key subs = AllByRecursion (λ s. in_range key s.0 ≡ false) subs

-- A change of the stream's range is not above the stream's checkpoint, or not above what its check keeps of the key.
abbrev pub IsBehind : StreamAt → Change → Type 0
IsBehind a c = IsTrue (in_range (change_key c) a.header.range) → (c.ts ≤ a.point.checkpoint) ⊎ (c.ts ≤ window_ts (change_key c) a.point.window)

abbrev pub AreBehind : StreamAt → List (List Change) → Type 0
AreBehind a held = AllByRecursion (λ cs. AllByRecursion (IsBehind a) cs) held

-- the same for each stream
abbrev pub AreAllBehind : List StreamAt → List (List Change) → Type 0
AreAllBehind ss held = AllByRecursion (λ a. AreBehind a held) ss
