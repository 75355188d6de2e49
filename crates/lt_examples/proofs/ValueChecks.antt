-- Worked values, computed.
use Rattle.std.specs.Fmt.{digits}
use Rattle.std.specs.Str.{chars, is_utf8}
use lib.Utf8.{encode}
use Rattle.std.proofs.Common.{[], negsuc, pos, refl, true, ◌^◌, ◌∷◌, ◌≡◌}
use Rattle.std.specs.Prelude.{codes}
use Rattle.lt_terms.specs.Conversion.{at_rank, conv, number_of_text}
use Rattle.lt_terms.specs.Value.{bool_value, bytes_value, field_value, int_value, no_fields, null_value, struct_value, text_value}
use Rattle.lt_terms.specs.Kind.{field_kind, no_kinds, plain, structured}
use Rattle.lt_terms.specs.Key.{int_part, key_bytes, text_part}
use Rattle.lt_terms.specs.declared.Rank.TheVariants as rank

-- what the checks below compute with
computes : Unit {0}
unfolding is_utf8 chars encode at_rank number_of_text digits
computes = tt

conv_leading_zeros : conv (text_value (codes "007")) (plain rank.Int64) ≡ null_value
unfolding computes
conv_leading_zeros = refl

conv_minus_zero : conv (text_value (codes "-0")) (plain rank.Int64) ≡ null_value
unfolding computes
conv_minus_zero = refl

conv_empty : conv (text_value []) (plain rank.Int64) ≡ null_value
unfolding computes
conv_empty = refl

conv_seven : conv (text_value (codes "-7")) (plain rank.Int64) ≡ int_value (negsuc 6)
unfolding computes
conv_seven = refl

conv_number_text : conv (int_value (negsuc 4)) (plain rank.Text) ≡ text_value (codes "-5")
unfolding computes
conv_number_text = refl

conv_true_text : conv (bool_value true) (plain rank.Text) ≡ text_value (codes "1")
unfolding computes
conv_true_text = refl

conv_one_bool : conv (text_value (codes "1")) (plain rank.Bool) ≡ bool_value true
unfolding computes
conv_one_bool = refl

conv_two_bool : conv (int_value (pos 2)) (plain rank.Bool) ≡ null_value
unfolding computes
conv_two_bool = refl

conv_large : conv (int_value (pos (2 ^ 40))) (plain rank.Int32) ≡ null_value
unfolding computes
conv_large = refl

key_number : key_bytes 1 (int_part (pos 1) ∷ []) ≡ 0 ∷ 0 ∷ 0 ∷ 1 ∷ 128 ∷ 0 ∷ 0 ∷ 0 ∷ 0 ∷ 0 ∷ 0 ∷ 1 ∷ []
key_number = refl

key_text : key_bytes 1 (text_part (97 ∷ 0 ∷ []) ∷ []) ≡ 0 ∷ 0 ∷ 0 ∷ 1 ∷ 97 ∷ 0 ∷ 255 ∷ 0 ∷ 1 ∷ []
key_text = refl

conv_no_text : conv (bytes_value (255 ∷ [])) (plain rank.Text) ≡ null_value
unfolding computes
conv_no_text = refl

conv_bytes_number : conv (bytes_value (codes "12")) (plain rank.Int64) ≡ int_value (pos 12)
unfolding computes
conv_bytes_number = refl

-- a struct goes field by field: 2 is absent from the kind, 3 from the value
conv_struct : conv (struct_value (field_value 1 (int_value (pos 5)) (field_value 2 null_value no_fields))) (structured (field_kind 1 (codes "x") (plain rank.Text) (field_kind 3 (codes "y") (plain rank.Bool) no_kinds)))
    ≡ struct_value (field_value 1 (text_value (codes "5")) (field_value 3 null_value no_fields))
unfolding computes
conv_struct = refl
