-- Pairs of a number and a value, read one by one.
use Rattle.std.proofs.Common.{◌≡◌, ℕ, List, ◌∷◌, Option, Some, None, option_map, Vec, Global, refl, sym, ap, ◌∙◌}
use Rattle.std.specs.Prelude.{option_and_then}
use Rattle.serde_json.specs.Data.{Data, Items}
use Rattle.serde_json.specs.Data as json
use Rattle.serde_json.specs.View.{view}
use Rattle.serde_json.specs.declared.value.Value.{Array, Value as Json}
use Rattle.serde_json.proofs.Views.{view-Array}
use Rattle.lt_schema_json.specs.Reading.{values_view}
use Rattle.lt_schema_json.proofs.KindForms.{array_list}
use Rattle.lt_terms.specs.Value.{Value, fields_of, struct_value}
use Rattle.lt_words.specs.SchemaText.{all_of, as_number_up_to, item_list}
use Rattle.lt_log_text.specs.Lines.{pairs_in, set_in, setting_in, struct_in, value_in, with_pair}

-- one pair more, as the definition adds it and as a list gets it
one_more : (n : Option ℕ) (v : Option Value) (rest : Option (List (ℕ × Value)))
    → with_pair n v (option_map fields_of rest)
    ≡ option_map fields_of (option_and_then (λ s. option_map (λ ss. s ∷ ss) rest) (option_and_then (λ n. option_map (λ v. (n, v)) v) n))
one_more None v rest = refl
one_more (Some n) None rest = refl
one_more (Some n) (Some v) None = refl
one_more (Some n) (Some v) (Some ss) = refl

pub pairs_list : (ds : Items) → pairs_in ds ≡ option_map fields_of (all_of setting_in (item_list ds))
pairs_list json.no_items = refl
pairs_list (json.item json.null ds) = refl
pairs_list (json.item (json.boolean b) ds) = refl
pairs_list (json.item (json.number n) ds) = refl
pairs_list (json.item (json.string s) ds) = refl
pairs_list (json.item (json.object ms) ds) = refl
pairs_list (json.item (json.array json.no_items) ds) = refl
pairs_list (json.item (json.array (json.item n json.no_items)) ds) = refl
pairs_list (json.item (json.array (json.item n (json.item v json.no_items))) ds) =
    ap (with_pair (as_number_up_to 65535 n) (value_in v)) (pairs_list ds)
    ∙ one_more (as_number_up_to 65535 n) (value_in v) (all_of setting_in (item_list ds))
pairs_list (json.item (json.array (json.item n (json.item v (json.item d ds)))) more) = refl

pub struct_all : (d : Data) → struct_in d ≡ option_map fields_of (set_in d)
struct_all json.null = refl
struct_all (json.boolean b) = refl
struct_all (json.number n) = refl
struct_all (json.string s) = refl
struct_all (json.array ds) = pairs_list ds
struct_all (json.object ms) = refl

-- an array is a struct
pub value_of_array : (v : Json) (a : Vec Json Global) → v ≡ Array a → value_in (view v) ≡ option_map struct_value (struct_in (view v))
value_of_array v a is = ap (λ w. value_in (view w)) is ∙ ap value_in (view-Array a) ∙ sym (ap (λ d. option_map struct_value (struct_in d)) (view-Array a)) ∙ ap (λ w. option_map struct_value (struct_in (view w))) (sym is)

pub set_of : (v : Json) (a : Vec Json Global) (items : List Json) → v ≡ Array a → items ≡ a.items → set_in (view v) ≡ all_of setting_in (values_view items)
set_of v a items is same = ap (λ w. set_in (view w)) is ∙ ap (option_and_then (all_of setting_in)) (array_list a) ∙ ap (λ (vs : List Json). all_of setting_in (values_view vs)) (sym same)
