-- The bytes of the code's keys, and why a key has none.
use Rattle.std.specs.Prelude.{IsTrue, List, [], if◌then◌else◌, length, ℕ, ◌<◌, ◌==◌, ◌∷◌, ◌≡◌}
use Rattle.lt_terms.specs.declared.KeyKind.{KeyKind}
use Rattle.lt_terms.specs.Key.{KeyPart, bytes_cmp, is_key_of, key_bytes, key_cmp, max_key}
use Rattle.lt_core.specs.View.{view_parts}
use Rattle.lt_core.specs.declared.key.Key.{Key}
use Rattle.lt_core.specs.declared.key.encode.KeyRefusal.{KeyRefusal}
use Rattle.lt_core.specs.declared.key.encode.KeyRefusal.TheVariants as refusals

-- the bytes of a key
abbrev pub encoded : Key → List ℕ
encoded k = key_bytes k.table (view_parts k.parts)

-- the order of these bytes and another key's, of the same table and kinds, is the order of the parts
abbrev pub KeepsOrder : Key → List ℕ → Type 0
KeepsOrder k bytes = (kinds : List KeyKind) (parts : List KeyPart) → IsTrue (is_key_of kinds (view_parts k.parts)) → IsTrue (is_key_of kinds parts)
    → bytes_cmp bytes (key_bytes k.table parts) ≡ key_cmp (view_parts k.parts) parts

-- what a byte of a text is written as
abbrev pub escaped_byte : ℕ → List ℕ
escaped_byte b = if b == 0 then 0 ∷ 255 ∷ [] else b ∷ []

-- a key is too long where its bytes are more than the limit; out of memory is always allowed
abbrev pub KeyRefused : List ℕ → KeyRefusal → Type 0
KeyRefused bytes (refusals.TooLong len) = (max_key < length bytes) × (len ≡ length bytes)
KeyRefused bytes refusals.Memory = Unit {0}
