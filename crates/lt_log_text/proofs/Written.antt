-- What the loops write, as the definitions say it.
use Rattle.std.proofs.Common.{Bool, List, None, Option, Some, [], ap, ap₂, false, map, negsuc, pos, refl, ℕ, ℤ, ◌∙◌, ◌≡◌, ◌∷◌}
use Rattle.std.specs.Prelude.{codes, ◌||◌}
use Rattle.std.specs.Option.{option_map_or}
use Rattle.serde_json.specs.Data as json
use Rattle.serde_json.specs.Written.{compact_text, has_float, items_have_float, members_have_float}
use Rattle.lt_terms.specs.Key.{KeyPart, int_part, text_part}
use Rattle.lt_terms.specs.Log.{Item, batch_item, change_item, checkpoint_item, close_item, header_item}
use Rattle.lt_terms.specs.Value.{Fields, Value, bool_value, bytes_value, field_value, fields_of, int_value, no_fields, null_value, struct_value, text_value}
use Rattle.lt_words.specs.SchemaText.{items_from, number_data}
use Rattle.lt_log_text.specs.Lines.{hex_data, item_data, line_of, low_members, pair_items, part_data, setting_data, value_data}

pub pairs_written : (ss : List (ℕ × Value)) → items_from (map setting_data ss) ≡ pair_items (fields_of ss)
pairs_written [] = refl
pairs_written (s ∷ ss) = ap (json.item (setting_data s)) (pairs_written ss)

-- ---- what is written has no float

no_float_number : (z : ℤ) → has_float (number_data z) ≡ false
no_float_number (pos n) = refl
no_float_number (negsuc n) = refl

abbrev neither : {a b : Bool} → a ≡ false → b ≡ false → (a || b) ≡ false
neither {a} {b} p q = ap₂ ◌||◌ p q

mutual
  value_plain : (v : Value) → has_float (value_data v) ≡ false
  value_plain null_value = refl
  value_plain (bool_value b) = refl
  value_plain (int_value z) = no_float_number z
  value_plain (text_value t) = refl
  value_plain (bytes_value b) = refl
  value_plain (struct_value fs) = fields_plain fs

  fields_plain : (fs : Fields) → items_have_float (pair_items fs) ≡ false
  fields_plain no_fields = refl
  fields_plain (field_value n v fs) = neither (neither (value_plain v) refl) (fields_plain fs)

settings_plain : (ss : List (ℕ × Value)) → items_have_float (items_from (map setting_data ss)) ≡ false
settings_plain ss = ap items_have_float (pairs_written ss) ∙ fields_plain (fields_of ss)

part_plain : (p : KeyPart) → has_float (part_data p) ≡ false
part_plain (int_part z) = no_float_number z
part_plain (text_part t) = refl

key_plain : (ps : List KeyPart) → items_have_float (items_from (map part_data ps)) ≡ false
key_plain [] = refl
key_plain (p ∷ ps) = neither (part_plain p) (key_plain ps)

header_plain : (offset stream : ℕ) (low : List ℕ) (high : Option (List ℕ)) → members_have_float (option_map_or (λ high. json.member (codes "high") (hex_data high) (low_members offset low)) high (low_members offset low)) ≡ false
header_plain offset stream low None = refl
header_plain offset stream low (Some high) = refl

pub item_plain : (offset : ℕ) (i : Item) → has_float (item_data offset i) ≡ false
item_plain offset (header_item h) = header_plain offset h.stream h.range.low h.range.high
item_plain offset (change_item c) = neither (key_plain c.key) (neither (settings_plain c.set) refl)
item_plain offset (checkpoint_item t) = refl
item_plain offset (batch_item t cs) = refl
item_plain offset (close_item first count) = refl

pub line_is : (offset : ℕ) (i : Item) → compact_text (item_data offset i) ≡ line_of offset i
unfolding line_of
line_is offset i = refl
