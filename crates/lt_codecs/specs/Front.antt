-- What is known of the front of bytes.
use Rattle.std.specs.Prelude.{List, None, Some, drop, length, ℕ, ◌++◌, ◌-◌, ◌≡◌, ◌⊎◌}
use Rattle.lt_terms.specs.declared.Format.{Format}
use Rattle.lt_terms.specs.Log.{Found, HasNoValue, IsFound, IsValueFront, Item, body, change_body, header_body, log_part, partial, spelled, u64, value_bytes, whole}
use Rattle.lt_terms.specs.Value.{Value}
use Rattle.lt_codecs.specs.Codec.{IsBytes, ReadsBack}
use Rattle.lt_codecs.specs.LogCodec.{change, found, header, item, item_body, log_value, part, value}

-- each codec of the log reads what the log's grammar spells
pub record LogCodecs : Type 0 where
  pub values : (depth : ℕ) → ReadsBack (value depth) value_bytes
  pub key_parts : ReadsBack part log_part
  pub changes : ReadsBack change (λ c. u64 c.ts ++ change_body c)
  pub headers : (f : Format) → ReadsBack (header f) header_body
  pub bodies : (f : Format) (kind : ℕ) → ReadsBack (item_body f kind) body
  pub frames : (f : Format) → ReadsBack (item f) spelled

-- exactly one thing is found at the front of bytes, and it can be computed
abbrev pub FindsOne : Type 0
FindsOne = (f : Format) (bytes : List ℕ) → IsBytes bytes → IsFound f bytes (found f bytes) × ((x : Found) → IsFound f bytes x → x ≡ found f bytes)

-- reading gives an item, and what is behind it, exactly where the item stands whole at the front
abbrev pub ReadsWhole : Type 0
ReadsWhole = (f : Format) (bytes : List ℕ) → IsBytes bytes
    → ((i : Item) (rest : List ℕ) → (item f).read bytes ≡ Some (i, rest) → IsFound f bytes (whole i (length bytes - length rest)))
    × ((i : Item) (n : ℕ) → IsFound f bytes (whole i n) → (item f).read bytes ≡ Some (i, drop n bytes))

-- either an item stands whole at the front, or none does
abbrev pub DecidesWhole : Type 0
DecidesWhole = (f : Format) (bytes : List ℕ) → IsBytes bytes → ((i : Item) × (n : ℕ) × IsFound f bytes (whole i n)) ⊎ ((i : Item) (n : ℕ) → IsFound f bytes (whole i n) → ⊥)

-- what is found whole or malformed stays so when bytes are appended
abbrev pub StaysFound : Type 0
StaysFound = (f : Format) (bytes more : List ℕ) (x : Found) → (x ≡ partial → ⊥) → IsFound f bytes x → IsFound f (bytes ++ more) x

-- reading gives a value exactly where one stands at the front
abbrev pub ReadsValue : Type 0
ReadsValue = (bytes : List ℕ) → IsBytes bytes
    → ((v : Value) (rest : List ℕ) → log_value.read bytes ≡ Some (v, rest) → IsValueFront bytes v (length bytes - length rest) × (rest ≡ drop (length bytes - length rest) bytes))
    × (log_value.read bytes ≡ None → HasNoValue bytes)
