-- The fields of a struct's default, read one by one.
use Rattle.std.proofs.Common.{◌≡◌, ℕ, ◌+◌, ◌*◌, ◌-◌, ◌<◌, ◌≤◌, List, [], ◌∷◌, ◌++◌, Option, Some, None, option_map, length, drop, take, get_or, map, arith, refl, sym, ap, ap₂, ◌∙◌}
use Rattle.std.specs.Prelude.{option_and_then}
use Rattle.std.proofs.lemmas.List.{append-nil, drop_all, drop_more, map_push, take_rest}
use Rattle.serde_json.specs.Data.{Data}
use Rattle.serde_json.specs.View.{view}
use Rattle.serde_json.specs.declared.value.Value.{Value as Json}
use Rattle.lt_terms.specs.Kind.{Kind, field_kinds_of}
use Rattle.lt_tables.specs.Query.{hex_digit, hex_pairs}
use Rattle.lt_terms.specs.Value as model
use Rattle.lt_words.specs.SchemaText.{as_list, default_in, defaults_in}
use Rattle.lt_core.specs.View.{view_kind, view_setting, view_settings, view_value}
use Rattle.lt_core.specs.declared.kind.Kind as code
use Rattle.lt_core.specs.declared.value.Value.{Value}
use Rattle.lt_schema.specs.View.{view_field, view_fields}
use Rattle.lt_schema_json.specs.Reading.{hex_byte, struct_in, values_view}
use Rattle.lt_schema_json.proofs.Fronts.{no_front, regroup, with_front}

abbrev pub Field : Type 0
Field = ℕ × List ℕ × Kind

abbrev pub Typed : Type 0
Typed = ℕ × List ℕ × code.Kind

abbrev pub default_list : List Data → List Field → Option (List (ℕ × model.Value))
default_list [] [] = Some []
default_list (d ∷ ds) [] = None
default_list [] (f ∷ fs) = None
default_list (d ∷ ds) (f ∷ fs) = option_and_then (λ v. option_map (λ vs. (f.0, v) ∷ vs) (default_list ds fs)) (default_in d f.2)

-- the definition's fields, as a list
fields_more : (n : ℕ) (v : Option model.Value) (rest : Option (List (ℕ × model.Value)))
    → option_and_then (λ v. option_map (model.field_value n v) (option_map model.fields_of rest)) v ≡ option_map model.fields_of (option_and_then (λ v. option_map (λ vs. (n, v) ∷ vs) rest) v)
fields_more n None rest = refl
fields_more n (Some v) None = refl
fields_more n (Some v) (Some vs) = refl

pub defaults_list : (ds : List Data) (fs : List Field) → defaults_in ds (field_kinds_of fs) ≡ option_map model.fields_of (default_list ds fs)
defaults_list [] [] = refl
defaults_list (d ∷ ds) [] = refl
defaults_list [] (f ∷ fs) = refl
defaults_list (d ∷ ds) (f ∷ fs) = ap (λ o. option_and_then (λ v. option_map (model.field_value f.0 v) o) (default_in d f.2)) (defaults_list ds fs) ∙ fields_more f.0 (default_in d f.2) (default_list ds fs)

-- two digits more
pub pair_read : (digits bytes : List ℕ) (byte : ℕ) → 2 ≤ length digits → hex_byte (get_or digits 0 0) (get_or digits 1 0) ≡ Some byte
    → with_front bytes (hex_pairs digits) ≡ with_front (bytes ++ byte ∷ []) (hex_pairs (take (length digits - 2) (drop 2 digits)))
pair_read [] bytes byte le read = absurd (omega arith)
pair_read (a ∷ []) bytes byte le read = absurd (omega arith)
pair_read (a ∷ b ∷ rest) bytes byte le read =
    by (hex_digit a) (hex_digit b) read
    ∙ regroup bytes byte (hex_pairs rest)
    ∙ ap (λ (ds : List ℕ). with_front (bytes ++ byte ∷ []) (hex_pairs ds)) (sym (take_rest (a ∷ b ∷ rest) 2))
  where
    by : (high low : Option ℕ) → option_and_then (λ h. option_map (λ l. 16 * h + l) low) high ≡ Some byte
        → with_front bytes (option_and_then (λ h. option_and_then (λ l. option_map (λ bs. (16 * h + l) ∷ bs) (hex_pairs rest)) low) high) ≡ with_front bytes (option_map (λ bs. byte ∷ bs) (hex_pairs rest))
    by None low e = absurd (cc)
    by (Some h) None e = absurd (cc)
    by (Some h) (Some l) e = let same : 16 * h + l ≡ byte = cc in ap (λ n. with_front bytes (option_map (λ (bs : List ℕ). n ∷ bs) (hex_pairs rest))) same

-- ---- the loop over a struct's fields

pub struct_list : (d : Data) (fields ks : List Typed) (items ws : List Json) → as_list d ≡ Some (values_view items) → ws ≡ items → ks ≡ fields
    → struct_in d fields ≡ option_map model.fields_of (with_front [] (default_list (values_view ws) (map view_field ks)))
struct_list d fields ks items ws listed same typed =
    ap (option_and_then (λ ds. defaults_in ds (view_fields fields))) listed
    ∙ defaults_list (values_view items) (map view_field fields)
    ∙ ap₂ (λ (vs : List Json) (ts : List Typed). option_map model.fields_of (default_list (values_view vs) (map view_field ts))) (sym same) (sym typed)
    ∙ ap (option_map model.fields_of) (sym (no_front (default_list (values_view ws) (map view_field ks))))

nothing : (ws : List Json) → length ws ≡ 0 → ws ≡ []
nothing [] none = refl
nothing (w ∷ ws) none = absurd (omega (arith, none))

module _ (ks : List Typed) where
  -- what the items give for the fields from the i-th on, behind the values before
  abbrev pub values_left : List Json → ℕ → List (ℕ × Value) → Option (List (ℕ × model.Value))
  values_left ws i done = with_front (view_settings done) (default_list (values_view ws) (map view_field (drop i ks)))

  at_field : (ws : List Json) (i : ℕ) (f : Typed) (done : List (ℕ × Value)) → i < length ks → f ≡ get_or ks i f
      → values_left ws i done ≡ with_front (view_settings done) (default_list (values_view ws) (view_field f ∷ map view_field (drop (i + 1) ks)))
  at_field ws i f done lt is =
      ap (λ (ts : List Typed). with_front (view_settings done) (default_list (values_view ws) (map view_field ts))) (drop_more ks i f lt)
      ∙ ap (λ g. with_front (view_settings done) (default_list (values_view ws) (view_field g ∷ map view_field (drop (i + 1) ks)))) (sym is)

  pub lacks_item : (ws : List Json) (i : ℕ) (f : Typed) (done : List (ℕ × Value)) → i < length ks → f ≡ get_or ks i f → length ws ≡ 0 → values_left ws i done ≡ None
  lacks_item ws i f done lt is none = at_field ws i f done lt is ∙ ap (λ (vs : List Json). with_front (view_settings done) (default_list (values_view vs) (view_field f ∷ map view_field (drop (i + 1) ks)))) (nothing ws none)

  one_read : (ws more : List Json) (w : Json) (i : ℕ) (f : Typed) (done : List (ℕ × Value)) → i < length ks → f ≡ get_or ks i f → ws ≡ w ∷ more
      → values_left ws i done ≡ with_front (view_settings done) (option_and_then (λ v. option_map (λ vs. (f.0, v) ∷ vs) (default_list (values_view more) (map view_field (drop (i + 1) ks)))) (default_in (view w) (view_kind f.2)))
  one_read ws more w i f done lt is next = at_field ws i f done lt is ∙ ap (λ (vs : List Json). with_front (view_settings done) (default_list (values_view vs) (view_field f ∷ map view_field (drop (i + 1) ks)))) next

  pub wrong_item : (ws more : List Json) (w : Json) (i : ℕ) (f : Typed) (done : List (ℕ × Value)) → i < length ks → f ≡ get_or ks i f → ws ≡ w ∷ more
      → default_in (view w) (view_kind f.2) ≡ None → values_left ws i done ≡ None
  wrong_item ws more w i f done lt is next read = one_read ws more w i f done lt is next
      ∙ ap (λ o. with_front (view_settings done) (option_and_then (λ v. option_map (λ vs. (f.0, v) ∷ vs) (default_list (values_view more) (map view_field (drop (i + 1) ks)))) o)) read

  pub next_value : (ws more : List Json) (w : Json) (i : ℕ) (f : Typed) (done : List (ℕ × Value)) (v : Value) → i < length ks → f ≡ get_or ks i f → ws ≡ w ∷ more
      → default_in (view w) (view_kind f.2) ≡ Some (view_value v) → values_left ws i done ≡ values_left more (i + 1) (done ++ (f.0, v) ∷ [])
  next_value ws more w i f done v lt is next read =
      let rest = default_list (values_view more) (map view_field (drop (i + 1) ks)) in
      one_read ws more w i f done lt is next
      ∙ ap (λ o. with_front (view_settings done) (option_and_then (λ v. option_map (λ vs. (f.0, v) ∷ vs) rest) o)) read
      ∙ regroup (view_settings done) (f.0, view_value v) rest
      ∙ ap (λ (vs : List (ℕ × model.Value)). with_front vs rest) (sym (map_push view_setting done (f.0, v)))

  at_end : (ws : List Json) (i : ℕ) (done : List (ℕ × Value)) → length ks ≤ i → values_left ws i done ≡ with_front (view_settings done) (default_list (values_view ws) [])
  at_end ws i done le = ap (λ (ts : List Typed). with_front (view_settings done) (default_list (values_view ws) (map view_field ts))) (drop_all i ks le)

  pub spare_item : (ws more : List Json) (w : Json) (i : ℕ) (done : List (ℕ × Value)) → length ks ≤ i → ws ≡ w ∷ more → values_left ws i done ≡ None
  spare_item ws more w i done le next = at_end ws i done le ∙ ap (λ (vs : List Json). with_front (view_settings done) (default_list (values_view vs) [])) next

  pub all_values : (ws : List Json) (i : ℕ) (done : List (ℕ × Value)) → length ks ≤ i → length ws ≡ 0 → values_left ws i done ≡ Some (view_settings done)
  all_values ws i done le none = at_end ws i done le ∙ ap (λ (vs : List Json). with_front (view_settings done) (default_list (values_view vs) [])) (nothing ws none) ∙ ap Some (append-nil (view_settings done))
