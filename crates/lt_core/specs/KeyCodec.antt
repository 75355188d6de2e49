-- The bytes of keys as a format: what reading the front of some bytes gives.
use Rattle.std.specs.Prelude.{IsTrue, List, None, Option, Some, [], flat_map, if◌then◌else◌, length, nat_lt, negsuc, pos, ℕ, ℤ, ◌++◌, ◌-◌, ◌<◌, ◌==◌, ◌^◌, ◌∷◌, ◌≡◌}
use Rattle.std.specs.Str.{is_utf8}
use Rattle.std.specs.declared.result.Result.{Result}
use Rattle.std.specs.declared.result.Result.TheVariants.{Err, Ok}
use Rattle.lt_terms.specs.declared.KeyKind.{KeyKind}
use Rattle.lt_terms.specs.declared.KeyKind.TheVariants as key_kind
use Rattle.lt_terms.specs.Value.{fits_64}
use Rattle.lt_terms.specs.Key.{KeyPart, escaped, int_part, is_key_of, is_part_of, key_bytes, number_key, part_bytes, text_part}
use Rattle.lt_codecs.specs.Codec.{Codec, u32, u64, where_true, ◌>>=◌, ◌then◌}
use Rattle.lt_core.specs.declared.key.decode.DecodeRefusal.{DecodeRefusal}
use Rattle.lt_core.specs.declared.key.decode.DecodeRefusal.TheVariants as refusals

-- ---- the parts

-- the number whose key this is: n - 2^63
abbrev pub number_of : ℕ → ℤ
number_of n = if nat_lt n (2 ^ 63) then negsuc (2 ^ 63 - 1 - n) else pos (n - 2 ^ 63)

unfoldable pub key_number : Codec ℤ
key_number = record {
  spell = λ z. u64.spell (number_key z);
  read = λ bytes. u64.read bytes >>= λ n. Some (number_of n.0, n.1);
  Lawful = λ z. IsTrue (fits_64 z);
}

-- some first items, and then those that reading on gives
abbrev pub with_front : {A R : Type 0} → List A → Option (List A × R) → Option (List A × R)
with_front front None = None
with_front front (Some t) = Some (front ++ t.0, t.1)

-- a text up to its end: 00 FF is a byte 00, 00 01 is the end, and no other byte follows 00
abbrev mutual
  pub unescaped : List ℕ → Option (List ℕ × List ℕ)
  unescaped [] = None
  unescaped (b ∷ bs) = if b == 0 then after_zero bs else with_front (b ∷ []) (unescaped bs)

  pub after_zero : List ℕ → Option (List ℕ × List ℕ)
  after_zero [] = None
  after_zero (b ∷ bs) = if b == 255 then with_front (0 ∷ []) (unescaped bs) else if b == 1 then Some ([], bs) else None

-- bytes as a part of a key, of which a text is the case that is UTF-8
abbrev pub key_bytestring : Codec (List ℕ)
key_bytestring = record { spell = λ text. escaped text ++ 0 ∷ 1 ∷ []; read = unescaped; Lawful = λ text. Unit {0} }

unfoldable pub key_text : Codec (List ℕ)
key_text = where_true is_utf8 key_bytestring

abbrev pub read_part : KeyKind → List ℕ → Option (KeyPart × List ℕ)
read_part key_kind.Int64 bytes = key_number.read bytes >>= λ n. Some (int_part n.0, n.1)
read_part key_kind.Text bytes = key_text.read bytes >>= λ t. Some (text_part t.0, t.1)

unfoldable pub key_part : KeyKind → Codec KeyPart
key_part kind = record { spell = part_bytes; read = read_part kind; Lawful = λ part. IsTrue (is_part_of kind part) }

-- one step of reading gives a byte of a text, or its end; out of memory is always allowed
abbrev pub Steps : (List ℕ → Option (List ℕ × List ℕ)) → List ℕ → Result (Option ℕ) DecodeRefusal → List ℕ → Type 0
Steps read old (Ok (Some b)) new = (read old ≡ with_front (b ∷ []) (unescaped new)) × (length new < length old)
Steps read old (Ok None) new = read old ≡ Some ([], new)
Steps read old (Err refusals.NotAKey) new = read old ≡ None
Steps read old (Err refusals.Memory) new = Unit {0}

-- ---- whole keys

abbrev pub read_parts : List KeyKind → List ℕ → Option (List KeyPart × List ℕ)
read_parts [] bytes = Some ([], bytes)
read_parts (kind ∷ kinds) bytes = (key_part kind).read bytes >>= λ part. read_parts kinds part.1 >>= λ parts. Some (part.0 ∷ parts.0, parts.1)

unfoldable pub key_parts : List KeyKind → Codec (List KeyPart)
key_parts kinds = record { spell = flat_map part_bytes; read = read_parts kinds; Lawful = λ parts. IsTrue (is_key_of kinds parts) }

-- a table's number, and parts of these kinds
unfoldable pub key_of : List KeyKind → Codec (ℕ × List KeyPart)
key_of kinds = u32 then key_parts kinds

-- ---- what decoding says

-- the bytes are those of this key, which is of these kinds
pub record IsKey (kinds : List KeyKind) (bytes : List ℕ) (key : ℕ × List KeyPart) : Type 0 where
  pub small : key.0 < 2 ^ 32
  pub of_kinds : IsTrue (is_key_of kinds key.1)
  pub spelled : key_bytes key.0 key.1 ≡ bytes

-- they are those of no other key of these kinds
abbrev pub NoOtherKey : List KeyKind → List ℕ → ℕ × List KeyPart → Type 0
NoOtherKey kinds bytes key = (other : ℕ × List KeyPart) → IsKey kinds bytes other → other ≡ key

-- they are those of no key of these kinds
abbrev pub NoKey : List KeyKind → List ℕ → Type 0
NoKey kinds bytes = (key : ℕ × List KeyPart) → IsKey kinds bytes key → ⊥

-- a part of decoding answers what reading gives; out of memory is always allowed
abbrev pub Decodes : {X A : Type 0} → (X → A) → Option A → Result X DecodeRefusal → Type 0
Decodes view read (Ok x) = read ≡ Some (view x)
Decodes view read (Err refusals.NotAKey) = read ≡ None
Decodes view read (Err refusals.Memory) = Unit {0}
