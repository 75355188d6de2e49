-- The fields of a struct's kind, read one by one.
use Rattle.std.proofs.Common.{◌≡◌, ℕ, List, ◌∷◌, Option, Some, None, option_map, Vec, Global, refl, sym, ap, ◌∙◌}
use Rattle.std.specs.Prelude.{option_and_then}
use Rattle.serde_json.specs.Data.{Data, Items}
use Rattle.serde_json.specs.Data as json
use Rattle.serde_json.specs.View.{view}
use Rattle.serde_json.specs.declared.value.Value.{Value, Array}
use Rattle.serde_json.proofs.Views.{view-Array}
use Rattle.lt_terms.specs.Kind.{Kind, field_kinds_of}
use Rattle.lt_words.specs.SchemaText.{all_of, as_list, as_number_up_to, as_text, item_list, kind_in, triples, triples_in, with_field}
use Rattle.lt_schema_json.specs.Reading.{one_field, values_view}
use Rattle.lt_schema_json.proofs.Members.{list_of_items}

pub array_list : (v : Vec Value Global) → as_list (view (Array v)) ≡ Some (values_view v.items)
array_list v = ap as_list (view-Array v) ∙ ap Some (list_of_items v.items)

abbrev Field : Type 0
Field = ℕ × List ℕ × Kind

-- one field more, as the definition adds it and as a list gets it
one_more : (n : Option ℕ) (name : Option (List ℕ)) (k : Option Kind) (rest : Option (List Field))
    → with_field n name k (option_map field_kinds_of rest)
    ≡ option_map field_kinds_of (option_and_then (λ f. option_map (λ fs. f ∷ fs) rest) (option_and_then (λ n. option_and_then (λ name. option_map (λ k. (n, name, k)) k) name) n))
one_more None name k rest = refl
one_more (Some n) None k rest = refl
one_more (Some n) (Some name) None rest = refl
one_more (Some n) (Some name) (Some k) None = refl
one_more (Some n) (Some name) (Some k) (Some fs) = refl

triples_list : (ds : Items) → triples ds ≡ option_map field_kinds_of (all_of one_field (item_list ds))
triples_list json.no_items = refl
triples_list (json.item json.null ds) = refl
triples_list (json.item (json.boolean b) ds) = refl
triples_list (json.item (json.number n) ds) = refl
triples_list (json.item (json.string s) ds) = refl
triples_list (json.item (json.object ms) ds) = refl
triples_list (json.item (json.array json.no_items) ds) = refl
triples_list (json.item (json.array (json.item n json.no_items)) ds) = refl
triples_list (json.item (json.array (json.item n (json.item name json.no_items))) ds) = refl
triples_list (json.item (json.array (json.item n (json.item name (json.item k json.no_items)))) ds) =
    ap (with_field (as_number_up_to 65535 n) (as_text name) (kind_in k)) (triples_list ds)
    ∙ one_more (as_number_up_to 65535 n) (as_text name) (kind_in k) (all_of one_field (item_list ds))
triples_list (json.item (json.array (json.item n (json.item name (json.item k (json.item d ds))))) more) = refl

pub triples_all : (d : Data) → triples_in d ≡ option_map field_kinds_of (option_and_then (all_of one_field) (as_list d))
triples_all json.null = refl
triples_all (json.boolean b) = refl
triples_all (json.number n) = refl
triples_all (json.string s) = refl
triples_all (json.array ds) = triples_list ds
triples_all (json.object ms) = refl

pub triples_of : (v : Value) (a : Vec Value Global) (items : List Value) → v ≡ Array a → items ≡ a.items → triples_in (view v) ≡ option_map field_kinds_of (all_of one_field (values_view items))
triples_of v a items is same = ap (λ w. triples_in (view w)) is ∙ triples_all (view (Array a))
    ∙ ap (λ o. option_map field_kinds_of (option_and_then (all_of one_field) o)) (array_list a)
    ∙ ap (λ (vs : List Value). option_map field_kinds_of (all_of one_field (values_view vs))) (sym same)
