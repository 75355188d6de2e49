-- The names of a version, by parts.
use Rattle.std.specs.Prelude.{List, Option, [], map, ℕ, ◌∷◌}
use Rattle.std.specs.Option.{option_or}
use Rattle.lt_tables.specs.Schema.{Column, KeyColumn, bad_name_in, bad_name_of, first_of}

-- the first name of a key column that is none
abbrev pub bad_key_name : List KeyColumn → Option (List ℕ)
bad_key_name key = bad_name_of (map (λ k. k.name) key)

-- the first name of a column, or within its kind, that is none
abbrev pub bad_column_name : List Column → Option (List ℕ)
bad_column_name columns = first_of (map (λ c. option_or (bad_name_of (c.name ∷ [])) (bad_name_in c.kind)) columns)

abbrev pub key_names : List KeyColumn → List (List ℕ)
key_names key = map (λ k. k.name) key
