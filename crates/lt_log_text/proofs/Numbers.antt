-- Numbers and bytes in lines: their texts are plain and read back.
use Rattle.std.proofs.Common.{IsUtf8, List, [], ap, arith, inl, inr, le-leb, lt-ltb, ltb-true, negsuc, pos, refl, true, ℕ, ℤ, ◌%◌, ◌+◌, ◌/◌, ◌<◌, ◌^◌, ◌∙◌, ◌∷◌, ◌≡◌, ◌≤◌}
use Rattle.std.specs.Prelude.{IsTrue, Some, nat_lt, option_and_then}
use Rattle.std.proofs.lemmas.Bool.{and_from, and_parts, cases_lt, le-ltb, lt-leb}
use Rattle.std.proofs.lemmas.Fmt.{IsAscii-decimal}
use Rattle.std.proofs.lemmas.Str.{IsUtf8-from_ascii}
use Rattle.json.proofs.Printed.Decimals.{IsNumber-decimal}
use Rattle.json.proofs.Printed.Utf8.{IsUtf8-are_ascii, are_ascii}
use Rattle.serde_json.proofs.Numbers.{number_of-decimal}
use Rattle.serde_json.specs.Find.{of_integer}
use Rattle.lt_terms.specs.Value.{fits_64}
use Rattle.lt_tables.specs.Query.{hex_bytes, hex_digit, hex_pairs}
use Rattle.lt_tables.specs.Schema.{when}
use Rattle.lt_words.specs.SchemaText.{as_number_up_to, as_whole, hex_glyph, hex_string, hex_text, number_data, up_to}
use Rattle.lt_lemmas.proofs.JsonLaws.{IsWhole}
use Rattle.lt_log_text.specs.Lines.{are_bytes, count_data}

pub whole_read : (z : ℤ) → IsTrue (fits_64 z) → as_whole (number_data z) ≡ Some z
whole_read (pos n) h = rw h refl
whole_read (negsuc n) h = refl

pub count_read : (most n : ℕ) → n ≤ most → most < 2 ^ 63 → as_number_up_to most (count_data n) ≡ Some n
count_read most n h small =
    let fits : n < 2 ^ 63 = omega (arith, h, small) in
    ap (option_and_then (up_to most)) (whole_read (pos n) (lt-ltb n (2 ^ 63) fits)) ∙ ap (λ b. when b n) (le-leb n most h)

pub count_whole : (n : ℕ) → n < 2 ^ 64 → IsWhole (of_integer (pos n))
count_whole n small = record { reads = number_of-decimal n small; numeral = IsNumber-decimal n small; utf8 = IsUtf8-from_ascii _ (IsAscii-decimal n small) }

-- a hexadecimal digit is ASCII and reads back
hex_read : (d : ℕ) → d < 16 → (hex_digit (hex_glyph d) ≡ Some d) × (hex_glyph d < 128)
hex_read d h = elim (cases_lt d 10) [
  | inl low ↦
      let one : 48 ≤ 48 + d = omega arith in
      let two : 48 + d ≤ 57 = omega (arith, low) in
      (rw (lt-ltb d 10 low, le-leb 48 (48 + d) one, le-leb (48 + d) 57 two) (ap Some (omega arith)), rw (lt-ltb d 10 low) (omega (arith, low)))
  | inr high ↦
      let one : 48 ≤ 87 + d = omega arith in
      let above : 57 < 87 + d = omega (arith, high) in
      let two : 97 ≤ 87 + d = omega (arith, high) in
      let three : 87 + d ≤ 102 = omega (arith, h) in
      (rw (le-ltb d 10 high, le-leb 48 (87 + d) one, lt-leb (87 + d) 57 above, le-leb 97 (87 + d) two, le-leb (87 + d) 102 three) (ap Some (omega arith)), rw (le-ltb d 10 high) (omega (arith, h)))
]

pairs_read : (bs : List ℕ) → IsTrue (are_bytes bs) → hex_pairs (hex_text bs) ≡ Some bs
pairs_read [] h = refl
pairs_read (b ∷ bs) h =
    let p = and_parts (nat_lt b 256) (are_bytes bs) h in
    let small : b < 256 = ltb-true b 256 p.0 in
    rw ((hex_read (b / 16) (omega (arith, small))).0, (hex_read (b % 16) (omega arith)).0, pairs_read bs p.1) (ap (λ n. Some (n ∷ bs)) (omega arith))

pairs_ascii : (bs : List ℕ) → IsTrue (are_bytes bs) → are_ascii (hex_text bs) ≡ true
pairs_ascii [] h = refl
pairs_ascii (b ∷ bs) h =
    let p = and_parts (nat_lt b 256) (are_bytes bs) h in
    let small : b < 256 = ltb-true b 256 p.0 in
    and_from _ _ (lt-ltb _ 128 (hex_read (b / 16) (omega (arith, small))).1) (and_from _ _ (lt-ltb _ 128 (hex_read (b % 16) (omega arith)).1) (pairs_ascii bs p.1))

pub bytes_read : (bs : List ℕ) → IsTrue (are_bytes bs) → hex_bytes (hex_string bs) ≡ Some bs
bytes_read bs h = pairs_read bs h

pub bytes_plain : (bs : List ℕ) → IsTrue (are_bytes bs) → IsUtf8 (hex_string bs)
bytes_plain bs h = IsUtf8-are_ascii (hex_string bs) (pairs_ascii bs h)
