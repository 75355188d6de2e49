-- Who takes rows: what was given to it, and how its text grows.
use Rattle.std.specs.Prelude.{IfSome, List, Option, Some, flat_map, ℕ, ◌++◌, ◌≡◌, ◌≤◌}
use Rattle.std.specs.Io.KnownBytes.{Appends}
use Rattle.lt_terms.specs.Value.{Value}
use Rattle.lt_world.specs.Object.{StaysTold}

-- ---- a row sink

-- the texts of some rows, in order
abbrev pub texts_of : (List Value → List ℕ) → List (List Value) → List ℕ
texts_of spell rows = flat_map spell rows

-- A row sink as its callers know it: how it spells a row, what it tells of its bytes and of its rows, and how often it failed.
pub record RowSinkState : Type 0 where
  pub spell : List Value → List ℕ
  pub told : Option (List ℕ)
  pub rows : Option (List (List Value))
  pub faults : ℕ

-- What calls leave of it.
pub record RowSinkGoes (old new : RowSinkState) : Type 0 where
  -- it spells rows as before
  pub spell : new.spell ≡ old.spell
  -- it exposes its bytes as before
  pub told : StaysTold old.told new.told
  -- and its rows
  pub rows : StaysTold old.rows new.rows
  -- the count of faults did not fall
  pub faults : old.faults ≤ new.faults

-- rows that were given to a row sink: their texts were appended, and they themselves to its list, where it tells these
pub record Given (old new : RowSinkState) (given : List (List Value)) : Type 0 where
  pub text : Appends old.told new.told (texts_of old.spell given)
  pub list : IfSome old.rows (λ a. new.rows ≡ Some (a ++ given))
