-- Places in a list of keys with timestamps.
use Rattle.std.specs.Prelude.{Bool, List, None, Option, Some, false, filter, length, nat_lt, slice_get, take, true, ℕ, ◌≡◌, ◌≤◌}
use Rattle.std.specs.List.{AllByRecursion}
use Rattle.std.specs.Option.{option_map_or}
use Rattle.lt_terms.specs.Key.{below, same_key}

-- the keys are below the key
abbrev pub AllBelow : List ℕ → List (List ℕ × ℕ) → Type 0
AllBelow key ws = AllByRecursion (λ w. below w.0 key ≡ true) ws

-- the keys before the place are below the key, and the one there is not
pub record IsPutPlace (key : List ℕ) (ws : List (List ℕ × ℕ)) (at : ℕ) : Type 0 where
  pub within : at ≤ length ws
  pub before : AllBelow key (take at ws)
  pub stops : (w : List ℕ × ℕ) → slice_get ws at ≡ Some w → below w.0 key ≡ false

-- the key stands at the place
abbrev pub stands_at : List ℕ → List (List ℕ × ℕ) → ℕ → Bool
stands_at key ws at = option_map_or (λ w. same_key w.0 key) (slice_get ws at) false

-- whether a timestamp is above the bound, if there is one
abbrev pub is_above : Option ℕ → ℕ → Bool
is_above None ts = true
is_above (Some bound) ts = nat_lt bound ts

-- the keys whose timestamp is above the bound
abbrev pub keys_above : Option ℕ → List (List ℕ × ℕ) → List (List ℕ × ℕ)
keys_above bound ws = filter (λ w. is_above bound w.1) ws
