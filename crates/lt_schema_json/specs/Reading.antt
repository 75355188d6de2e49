-- What the readers answer.
use Rattle.std.specs.Prelude.{Err, List, [], ◌∷◌, None, Ok, Option, Result, Some, if◌then◌else◌, map, option_and_then, option_map, ℕ, ◌*◌, ◌+◌, ◌≡◌, IfSome}
use Rattle.std.specs.Option.{option_map_or}
use Rattle.std.specs.Str.{is_utf8}
use Rattle.serde_json.specs.Data.{Data}
use Rattle.serde_json.specs.Read.{read}
use Rattle.serde_json.specs.View.{view}
use Rattle.serde_json.specs.declared.value.Value.{Value}
use Rattle.lt_terms.specs.Kind.{FieldKinds}
use Rattle.lt_terms.specs.Kind as kinds
use Rattle.lt_tables.specs.Query.{hex_digit}
use Rattle.lt_terms.specs.Value as model
use Rattle.lt_words.specs.SchemaText.{JsonFault, as_list, as_number_up_to, as_text, defaults_in, kind_in, missing, not_json, unknown_member, wrong}
use Rattle.lt_terms.specs.declared.Field.{Field}
use Rattle.lt_core.specs.View.{view_settings}
use Rattle.lt_core.specs.declared.kind.Kind.{Kind}
use Rattle.lt_core.specs.declared.value.Value as code
use Rattle.lt_schema.specs.View.{view_fields}
use Rattle.lt_schema_json.specs.declared.refusal.JsonRefusal.{JsonRefusal}
use Rattle.lt_schema_json.specs.declared.refusal.JsonRefusal.TheVariants as refusals
use Rattle.lt_schema_json.specs.declared.reading.stop.Stop.{Stop}
use Rattle.lt_schema_json.specs.declared.reading.stop.Stop.TheVariants as stops

-- the fault that a refusal stands for; out of memory is none
abbrev pub view_fault : JsonRefusal → Option JsonFault
view_fault refusals.NotJson = Some not_json
view_fault (refusals.Unknown name) = Some (unknown_member name)
view_fault (refusals.Missing f) = Some (missing f)
view_fault (refusals.Wrong f) = Some (wrong f)
view_fault refusals.Memory = None

-- a reader answered what the definition says, as its callers see it, or memory ran out
abbrev pub Gives : {X A : Type 0} → (X → A) → Result A JsonFault → Result X JsonRefusal → Type 0
Gives view said (Ok x) = said ≡ Ok (view x)
Gives view said (Err e) = IfSome (view_fault e) (λ f. said ≡ Err f)

-- ---- parts, which have a form or have it not

-- where reading stopped, the part has not the form, unless memory ran out
abbrev pub Stops : {A : Type 0} → Option A → Stop → Type 0
Stops form stops.Memory = Unit {0}
Stops form stops.Unlike = form ≡ None

-- a reader answered what the form says
abbrev pub Reads : {X A : Type 0} → (X → A) → Option A → Result X Stop → Type 0
Reads view form (Ok x) = form ≡ Some (view x)
Reads view form (Err e) = Stops form e

-- what a caller is told of a part at a field
abbrev pub refusal_at : Field → Stop → JsonRefusal
refusal_at f stops.Unlike = refusals.Wrong f
refusal_at f stops.Memory = refusals.Memory

-- the value of a form, or a fault
abbrev pub or_wrong : {A : Type 0} → Field → Option A → Result A JsonFault
or_wrong f form = option_map_or Ok form (Err (wrong f))

abbrev pub found : {A : Type 0} → Field → Option A → Result A JsonFault
found f member = option_map_or Ok member (Err (missing f))

abbrev pub or_not_json : {A : Type 0} → Option A → Result A JsonFault
or_not_json o = option_map_or Ok o (Err not_json)

-- ---- parts of the definitions

-- what `serde_json` reads of bytes
abbrev pub json_of : List ℕ → Option Data
json_of bytes = if is_utf8 bytes then read bytes else None

abbrev pub values_view : List Value → List Data
values_view vs = map view vs

-- a triple of number, name and kind
abbrev pub triple : List Data → Option (ℕ × List ℕ × kinds.Kind)
triple [] = None
triple (n ∷ []) = None
triple (n ∷ name ∷ []) = None
triple (n ∷ name ∷ k ∷ []) = option_and_then (λ n. option_and_then (λ name. option_map (λ k. (n, name, k)) (kind_in k)) (as_text name)) (as_number_up_to 65535 n)
triple (n ∷ name ∷ k ∷ d ∷ ds) = None

-- one field of a struct's kind
abbrev pub one_field : Data → Option (ℕ × List ℕ × kinds.Kind)
one_field d = option_and_then triple (as_list d)

-- a struct's fields
abbrev pub view_struct : List (ℕ × code.Value) → model.Fields
view_struct fs = model.fields_of (view_settings fs)

-- a struct's default
abbrev pub struct_in : Data → List (ℕ × List ℕ × Kind) → Option model.Fields
struct_in d fields = option_and_then (λ ds. defaults_in ds (view_fields fields)) (as_list d)

-- the byte of two hexadecimal digits
abbrev pub hex_byte : ℕ → ℕ → Option ℕ
hex_byte a b = option_and_then (λ high. option_map (λ low. 16 * high + low) (hex_digit b)) (hex_digit a)
