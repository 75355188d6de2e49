-- The items of a JSON array, as `serde_json` holds them and as the definitions see them.
use Rattle.std.proofs.Common.{◌≡◌, List, [], ◌∷◌, ◌++◌, Option, option_map, map, refl, ap}
use Rattle.serde_json.specs.Data.{Data}
use Rattle.serde_json.specs.Data as json
use Rattle.serde_json.specs.Find.{as_array}
use Rattle.serde_json.specs.View.{items_view, view}
use Rattle.serde_json.specs.declared.value.Value.{Value}
use Rattle.lt_words.specs.SchemaText.{as_list, item_list}

pub list_of_items : (vs : List Value) → item_list (items_view vs) ≡ map view vs
list_of_items [] = refl
list_of_items (v ∷ vs) = ap (λ (ds : List Data). view v ∷ ds) (list_of_items vs)

pub list_of_array : (d : Data) → as_list d ≡ option_map item_list (as_array d)
list_of_array json.null = refl
list_of_array (json.boolean b) = refl
list_of_array (json.number n) = refl
list_of_array (json.string s) = refl
list_of_array (json.array ds) = refl
list_of_array (json.object ms) = refl

-- what was read before, and what is still read
abbrev pub with_front : {A : Type 0} → List A → Option (List A) → Option (List A)
with_front front o = option_map (λ xs. front ++ xs) o
