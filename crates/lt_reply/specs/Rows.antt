-- The kinds of a row, and what is shown of its values.
use Rattle.std.specs.Prelude.{List, [], map, ℕ, ℤ, ◌∷◌}
use Rattle.std.specs.Option.{option_map_or}
use Rattle.serde_json.specs.Data.{Data}
use Rattle.serde_json.specs.Data as json
use Rattle.lt_terms.specs.Kind.{Kind}
use Rattle.lt_tables.specs.Query.{full_columns}
use Rattle.lt_words.specs.Reply.{name_of_number, shown}
use Rattle.lt_tables.specs.Schema.{Column, SchemaVersion}
use Rattle.lt_words.specs.SchemaText.{number_data}
use Rattle.lt_terms.specs.Value.{Value}

abbrev pub column_kinds : List Column → List Kind
column_kinds cs = map (λ c. c.kind) cs

-- those of the key's parts, and then those of the columns
abbrev pub row_kinds : SchemaVersion → List Kind
row_kinds v = map (λ c. c.1) (full_columns v.key v.columns)

-- what is shown of each value at its kind
abbrev pub shown_each : List Kind → List Value → List Data
shown_each [] vs = []
shown_each (k ∷ ks) [] = []
shown_each (k ∷ ks) (v ∷ vs) = shown v k ∷ shown_each ks vs

-- an enum's number by its name, where it has one
abbrev pub number_shown : List (ℤ × List ℕ) → ℤ → Data
number_shown names z = option_map_or json.string (name_of_number names z) (number_data z)
