-- The taken extents, as they are kept.
use Rattle.std.specs.Prelude.{List, ℕ, ◌++◌, ◌∷◌, ◌≡◌}
use Rattle.lt_terms.specs.declared.Extent.{Extent}

-- the extent at a spot, which is its place, its length and a number
abbrev pub extent_at : ℕ × ℕ × ℕ → Extent
extent_at spot = record { place = spot.0; length = spot.1 }

-- one more stands in the new list
pub record Adds (e : Extent) (old new : List Extent) : Type 0 where
  pub before : List Extent
  pub after : List Extent
  pub were : old ≡ before ++ after
  pub are : new ≡ before ++ e ∷ after
