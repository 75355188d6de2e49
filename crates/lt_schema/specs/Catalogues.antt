-- A catalogue, and how the code goes over its tables.
use Rattle.std.specs.Prelude.{Bool, IsTrue, None, Some, false, if◌then◌else◌, is_some, length, map, slice_get, suc, take, ℕ, ◌+◌, ◌<◌, ◌==◌, ◌≡◌, ◌≤◌}
use Rattle.std.specs.List.{AllByRecursion}
use Rattle.std.specs.Option.{option_map_or}
use Rattle.lt_terms.specs.Value.{rises_strictly}
use Rattle.lt_tables.specs.Schema.{Catalogue, IsCatalogue, SchemaVersion, Table, live_version, table_numbered, whole_version}
use Rattle.lt_core.specs.declared.value.Value.TheVariants as values
use Rattle.lt_schema.specs.declared.catalogue.Catalogue.TheInside.{Inside}

-- what the fields of a catalogue always are
pub record IsKept (c : Inside) : Type 0 where
  pub lawful : IsCatalogue c.tables.items
  pub null : c.null ≡ values.Null

-- the tables before that place have lower numbers, and the one there has not
pub record IsPlace (cat : Catalogue) (number at : ℕ) : Type 0 where
  pub within : at ≤ length cat
  pub lower : AllByRecursion (λ t. t.number < number) (take at cat)
  pub stops : (t : Table) → slice_get cat at ≡ Some t → number ≤ t.number

-- the table at that place has the number
abbrev pub is_at : Catalogue → ℕ → ℕ → Bool
is_at cat at number = option_map_or (λ t. t.number == number) (slice_get cat at) false

-- the version is the next of its table, or the first of a fresh one
pub record IsNext (cat : Catalogue) (v : SchemaVersion) : Type 0 where
  pub rise : IsTrue (rises_strictly (map (λ t. t.number) cat))
  pub of_table : (t : Table) → table_numbered cat v.number ≡ Some t → v ≡ whole_version t (suc (length t.versions)) (live_version v.columns)
  pub fresh : table_numbered cat v.number ≡ None → v.version ≡ 1

-- how many tables there are once a version of that table stands
abbrev pub tables_with : Catalogue → ℕ → ℕ
tables_with cat number = if is_some (table_numbered cat number) then length cat else length cat + 1
