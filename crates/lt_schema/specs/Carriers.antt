-- Carriers, kind by kind and field by field.
use Rattle.std.specs.Prelude.{List, None, Option, Some, drop, length, reverse, slice_get, ℕ, ◌+◌, ◌<◌, ◌≡◌, ◌≤◌}
use Rattle.std.specs.List.{AllByRecursion}
use Rattle.lt_terms.specs.Kind as kinds
use Rattle.lt_terms.specs.Kind.{kind_at}
use Rattle.lt_tables.specs.Schema.{bare, joined}
use Rattle.lt_core.specs.declared.kind.Kind.{Kind}
use Rattle.lt_schema.specs.View.{view_fields}

-- a carrier, where there is one, joined with one kind more
abbrev pub joined_more : Option kinds.Kind → kinds.Kind → kinds.Kind
joined_more None k = bare k
joined_more (Some c) k = joined c k

-- the fields of a list that stands in falling order
abbrev pub falling_fields : List (ℕ × List ℕ × Kind) → kinds.FieldKinds
falling_fields fs = view_fields (reverse fs)

-- from that place on all numbers are lower, and the one before it is not
pub record EndsBelow (falling : List (ℕ × List ℕ × Kind)) (number at : ℕ) : Type 0 where
  pub within : at ≤ length falling
  pub lower : AllByRecursion (λ f. f.0 < number) (drop at falling)
  pub stops : (before : ℕ) (f : ℕ × List ℕ × Kind) → at ≡ before + 1 → slice_get falling before ≡ Some f → number ≤ f.0
