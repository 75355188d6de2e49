-- What a value is at another kind.
use Rattle.std.specs.Prelude.{Bool, List, None, Option, Some, [], false, fold, if◌then◌else◌, nat_eq, neg_ℤ, negsuc, pos, suc, true, zero, ℕ, ℤ, ◌*◌, ◌+◌, ◌-◌, ◌==◌, ◌∷◌}
use Rattle.std.specs.Cmp.Lexicographic.{pointwise}
use Rattle.std.specs.Fmt.{signed_decimal}
use Rattle.std.specs.Str.{is_utf8}
use Rattle.lt_terms.specs.Value.{Fields, Value, bool_value, bytes_value, field_value, fits_32, fits_64, int_value, no_fields, null_value, struct_value, text_value, value_at}
use Rattle.lt_terms.specs.declared.Rank.{Rank}
use Rattle.lt_terms.specs.Kind.{FieldKinds, Kind, enumeration, field_kind, no_kinds, plain, structured}
use Rattle.lt_terms.specs.declared.Rank.TheVariants as rank

abbrev pub same_bytes : List ℕ → List ℕ → Bool
same_bytes a b = pointwise nat_eq a b

-- ---- whole numbers and their texts

-- what digits are worth
abbrev pub digits_worth : List ℕ → ℕ
digits_worth ds = fold (λ n d. 10 * n + (d - 48)) 0 ds

-- the one number whose decimal text it could be
abbrev pub number_spelled : List ℕ → ℤ
number_spelled [] = pos 0
number_spelled (c ∷ ds) = if c == 45 then neg_ℤ (pos (digits_worth ds)) else pos (digits_worth (c ∷ ds))

-- the number whose decimal text it is
unfoldable pub number_of_text : List ℕ → Option ℤ
number_of_text t = if same_bytes (signed_decimal (number_spelled t)) t then Some (number_spelled t) else None

-- ---- one step up the chain; other values stay

-- false and true become 0 and 1
abbrev pub raised_to_number : Value → Value
raised_to_number null_value = null_value
raised_to_number (bool_value b) = int_value (if b then pos 1 else pos 0)
raised_to_number (int_value z) = int_value z
raised_to_number (text_value t) = text_value t
raised_to_number (bytes_value b) = bytes_value b
raised_to_number (struct_value fs) = struct_value fs

-- a number becomes its decimal text
abbrev pub raised_to_text : Value → Value
raised_to_text null_value = null_value
raised_to_text (bool_value b) = bool_value b
raised_to_text (int_value z) = text_value (signed_decimal z)
raised_to_text (text_value t) = text_value t
raised_to_text (bytes_value b) = bytes_value b
raised_to_text (struct_value fs) = struct_value fs

-- a text becomes its bytes
abbrev pub raised_to_bytes : Value → Value
raised_to_bytes null_value = null_value
raised_to_bytes (bool_value b) = bool_value b
raised_to_bytes (int_value z) = int_value z
raised_to_bytes (text_value t) = bytes_value t
raised_to_bytes (bytes_value b) = bytes_value b
raised_to_bytes (struct_value fs) = struct_value fs

-- ---- one step down: the value whose step up this is, or null where there is none; other values stay

abbrev pub lowered_to_text : Value → Value
lowered_to_text null_value = null_value
lowered_to_text (bool_value b) = bool_value b
lowered_to_text (int_value z) = int_value z
lowered_to_text (text_value t) = text_value t
lowered_to_text (bytes_value b) = if is_utf8 b then text_value b else null_value
lowered_to_text (struct_value fs) = struct_value fs

abbrev pub number_or_null : Option ℤ → Value
number_or_null None = null_value
number_or_null (Some z) = if fits_64 z then int_value z else null_value

abbrev pub lowered_to_int64 : Value → Value
lowered_to_int64 null_value = null_value
lowered_to_int64 (bool_value b) = bool_value b
lowered_to_int64 (int_value z) = int_value z
lowered_to_int64 (text_value t) = number_or_null (number_of_text t)
lowered_to_int64 (bytes_value b) = bytes_value b
lowered_to_int64 (struct_value fs) = struct_value fs

abbrev pub lowered_to_int32 : Value → Value
lowered_to_int32 null_value = null_value
lowered_to_int32 (bool_value b) = bool_value b
lowered_to_int32 (int_value z) = if fits_32 z then int_value z else null_value
lowered_to_int32 (text_value t) = text_value t
lowered_to_int32 (bytes_value b) = bytes_value b
lowered_to_int32 (struct_value fs) = struct_value fs

abbrev pub bit_or_null : ℤ → Value
bit_or_null (pos zero) = bool_value false
bit_or_null (pos (suc zero)) = bool_value true
bit_or_null (pos (suc (suc n))) = null_value
bit_or_null (negsuc n) = null_value

abbrev pub lowered_to_bool : Value → Value
lowered_to_bool null_value = null_value
lowered_to_bool (bool_value b) = bool_value b
lowered_to_bool (int_value z) = bit_or_null z
lowered_to_bool (text_value t) = text_value t
lowered_to_bool (bytes_value b) = bytes_value b
lowered_to_bool (struct_value fs) = struct_value fs

-- ---- conversion

-- A value at a rank. Up the chain it goes step by step; down the chain it is the value of the lower rank whose
-- upward conversion it is, or null. A struct read as a primitive is null.
unfoldable pub at_rank : Rank → Value → Value
at_rank r (struct_value fs) = null_value
at_rank rank.Bool v = lowered_to_bool (lowered_to_int32 (lowered_to_int64 (lowered_to_text v)))
at_rank rank.Int32 v = lowered_to_int32 (lowered_to_int64 (lowered_to_text (raised_to_number v)))
at_rank rank.Int64 v = lowered_to_int64 (lowered_to_text (raised_to_number v))
at_rank rank.Text v = lowered_to_text (raised_to_text (raised_to_number v))
at_rank rank.Bytes v = raised_to_bytes (raised_to_text (raised_to_number v))

-- A value at a kind. A struct goes field by field, by number: a field absent from the value is null, and one absent
-- from the kind is dropped. A primitive read as a struct is null. An enum is its number.
abbrev mutual
  pub conv : Value → Kind → Value
  conv v (plain r) = at_rank r v
  conv v (enumeration names) = at_rank rank.Int32 v
  conv null_value (structured ks) = null_value
  conv (bool_value b) (structured ks) = null_value
  conv (int_value z) (structured ks) = null_value
  conv (text_value t) (structured ks) = null_value
  conv (bytes_value b) (structured ks) = null_value
  conv (struct_value fs) (structured ks) = struct_value (conv_fields fs ks)

  pub conv_fields : Fields → FieldKinds → Fields
  conv_fields fs no_kinds = no_fields
  conv_fields fs (field_kind n name k ks) = field_value n (conv (value_at n fs) k) (conv_fields fs ks)
