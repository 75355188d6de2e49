-- What the writers need and answer.
use Rattle.std.specs.Prelude.{List, ℕ, IsTrue, length, ◌<◌, ◌≡◌, ◌^◌}
use Rattle.std.specs.List.{All}
use Rattle.lt_terms.specs.declared.Format.TheVariants as format
use Rattle.lt_terms.specs.Value as model
use Rattle.lt_terms.specs.Log.{Item, body, is_log_part, max_body}
use Rattle.lt_core.specs.View.{view_part, view_value}
use Rattle.lt_core.specs.declared.key.KeyPart.{KeyPart}
use Rattle.lt_core.specs.declared.value.Value.{Value}
use Rattle.lt_records.specs.View.{view_item}
use Rattle.lt_records.specs.declared.record.LogRecord.{LogRecord}
use Rattle.lt_records.specs.declared.refusal.WriteRefusal.{WriteRefusal}
use Rattle.lt_records.specs.declared.refusal.WriteRefusal.TheVariants as refusals

-- a value of some depth has a spelling
abbrev pub HasSpelling : Value → Type 0
HasSpelling v = (depth : ℕ) × IsTrue (model.is_value depth (view_value v))

-- so few settings, each with a spelling
pub record AreSettings (settings : List (ℕ × Value)) : Type 0 where
  pub few : length settings < 2 ^ 16
  pub spelled : All (λ s. HasSpelling s.1) settings

-- so few parts, each with a spelling
pub record AreParts (parts : List KeyPart) : Type 0 where
  pub few : length parts < 2 ^ 8
  pub spelled : All (λ p. IsTrue (is_log_part (view_part p))) parts

-- the body is too long, and its length is kept; out of memory is always allowed
abbrev pub WriteRefused : Item → WriteRefusal → Type 0
WriteRefused i (refusals.TooLong len) = (max_body format.One < length (body i)) × (len ≡ length (body i))
WriteRefused i refusals.Memory = Unit {0}

-- the bytes of a record's body
unfoldable pub body_of : LogRecord → List ℕ
body_of r = body (view_item r)
