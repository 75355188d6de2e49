-- Objects and arrays of JSON, as `serde_json` holds them and as the definitions see them.
use Rattle.std.proofs.Common.{◌≡◌, ℕ, List, [], ◌∷◌, Option, option_map, string_bytes, map, find, not, refl, ap}
use Rattle.std.specs.Map.{keys_of}
use Rattle.serde_json.specs.Data.{Data}
use Rattle.serde_json.specs.Data as json
use Rattle.serde_json.specs.Find.{as_array}
use Rattle.serde_json.specs.View.{items_view, members_view, view}
use Rattle.serde_json.specs.declared.value.Value.{Value}
use Rattle.serde_json.proofs.Views.{Entry}
use Rattle.lt_tables.specs.Schema.{is_among}
use Rattle.lt_words.specs.SchemaText.{as_list, item_list, member_names}
use Rattle.lt_schema_json.specs.Reading.{values_view}

-- the first name that is none of the known ones
abbrev pub other_name : List (List ℕ) → List (List ℕ) → Option (List ℕ)
other_name known names = find (λ k. not (is_among known k)) names

pub names_of : (es : List Entry) → member_names (members_view es) ≡ map string_bytes (keys_of es)
names_of [] = refl
names_of (e ∷ es) = ap (λ (ks : List (List ℕ)). string_bytes e.0 ∷ ks) (names_of es)

pub list_of_items : (vs : List Value) → item_list (items_view vs) ≡ values_view vs
list_of_items [] = refl
list_of_items (v ∷ vs) = ap (λ (ds : List Data). view v ∷ ds) (list_of_items vs)

pub list_of_array : (d : Data) → as_list d ≡ option_map item_list (as_array d)
list_of_array json.null = refl
list_of_array (json.boolean b) = refl
list_of_array (json.number n) = refl
list_of_array (json.string s) = refl
list_of_array (json.array ds) = refl
list_of_array (json.object ms) = refl
