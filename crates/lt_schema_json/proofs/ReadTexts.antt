-- A text as JSON, and its columns one after another.
use Rattle.std.proofs.Common.{◌≡◌, ℕ, List, ◌++◌, Option, Some, None, Bool, true, false, IsUtf8, refl}
use Rattle.std.specs.Prelude.{Err, Ok, Result, cond}
use Rattle.std.specs.Option.{option_map_or}
use Rattle.std.specs.Str.{is_utf8}
use Rattle.std.proofs.lemmas.Str.{IsUtf8-from_is_utf8, is_utf8-from_IsUtf8}
use Rattle.serde_json.specs.Data.{Data}
use Rattle.serde_json.specs.Read.{read}
use Rattle.lt_tables.specs.Schema.{Column}
use Rattle.lt_words.specs.SchemaText.{◌>>=◌, JsonFault, not_json, version_in, version_of_text}
use Rattle.lt_schema_json.specs.Reading.{json_of, or_not_json}

pub is_read : (t : List ℕ) (d : Data) → IsUtf8 t × (read t ≡ Some d) → json_of t ≡ Some d
is_read t d h = rw (is_utf8-from_IsUtf8 t h.0) h.1

pub is_not_read : (t : List ℕ) → (IsUtf8 t → read t ≡ None) → json_of t ≡ None
is_not_read t h = by (is_utf8 t) refl
  where
    by : (b : Bool) → is_utf8 t ≡ b → cond b (read t) None ≡ None
    by true e = h (IsUtf8-from_is_utf8 t e)
    by false e = refl

-- the text is read as JSON, and the JSON as a version
pub read_in_steps : (t : List ℕ) → version_of_text t ≡ (or_not_json (json_of t) >>= version_in)
unfolding version_of_text
read_in_steps t = by (is_utf8 t) (read t)
  where
    by : (b : Bool) (o : Option Data) → cond b (option_map_or version_in o (Err not_json)) (Err not_json) ≡ (or_not_json (cond b o None) >>= version_in)
    by true None = refl
    by true (Some d) = refl
    by false o = refl

-- ---- columns one after another

-- what was read before, and what is still read
abbrev pub with_columns : List Column → Result (List Column) JsonFault → Result (List Column) JsonFault
with_columns front r = r >>= λ cs. Ok (front ++ cs)
