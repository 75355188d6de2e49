-- The line of a record, and the record that a line says.
use Rattle.std.specs.Prelude.{Bool, IsTrue, List, None, Option, Some, codes, if◌then◌else◌, is_some, map, nat_lt, true, option_and_then, option_map, pos, ℕ, ◌&&◌, ◌-◌, ◌<◌, ◌^◌, ◌∷◌, ◌≡◌, []}
use Rattle.std.specs.List.{list_all}
use Rattle.std.specs.Option.{option_map_or}
use Rattle.serde_json.specs.Data.{Data, Items, Members}
use Rattle.serde_json.specs.Data as json
use Rattle.serde_json.specs.Find.{as_i64, get_member}
use Rattle.serde_json.specs.Written.{compact_text}
use Rattle.lt_terms.specs.declared.Format.TheVariants as format
use Rattle.lt_terms.specs.declared.Op.{Op}
use Rattle.lt_terms.specs.declared.Op.TheVariants as ops
use Rattle.lt_terms.specs.Conversion.{same_bytes}
use Rattle.lt_terms.specs.Key.{KeyPart, int_part, text_part}
use Rattle.lt_terms.specs.Log.{Change, Header, Item, batch_item, change_item, checkpoint_item, close_item, header_item, is_content, is_item, spelled}
use Rattle.lt_terms.specs.Value.{Fields, Value, bool_value, bytes_value, field_value, int_value, no_fields, null_value, struct_value, text_value}
use Rattle.lt_tables.specs.Query.{hex_bytes}
use Rattle.lt_tables.specs.Schema.{when}
use Rattle.lt_words.specs.SchemaText.{all_of, as_list, as_members, as_number_up_to, as_text, hex_string, items_from, number_data, two}
use Rattle.lt_schema_json.specs.Reading.{json_of}

-- ---- writing

abbrev pub hex_data : List ℕ → Data
hex_data bs = json.string (hex_string bs)

abbrev pub count_data : ℕ → Data
count_data n = number_data (pos n)

-- bytes are an object of one member, and a struct is an array of pairs of a field's number and its value
abbrev mutual
  pub value_data : Value → Data
  value_data null_value = json.null
  value_data (bool_value b) = json.boolean b
  value_data (int_value z) = number_data z
  value_data (text_value t) = json.string t
  value_data (bytes_value b) = json.object (json.member (codes "bytes") (hex_data b) json.no_members)
  value_data (struct_value fs) = json.array (pair_items fs)

  pub pair_items : Fields → Items
  pair_items no_fields = json.no_items
  pair_items (field_value n v fs) = json.item (two (count_data n) (value_data v)) (pair_items fs)

abbrev pub setting_data : ℕ × Value → Data
setting_data s = two (count_data s.0) (value_data s.1)

abbrev pub part_data : KeyPart → Data
part_data (int_part z) = number_data z
part_data (text_part t) = json.string t

abbrev pub list_data : List Data → Data
list_data ds = json.array (items_from ds)

abbrev pub op_name : Op → List ℕ
op_name ops.Insert = codes "insert"
op_name ops.Update = codes "update"
op_name ops.Delete = codes "delete"

-- the members stand in byte order of their names
abbrev pub low_members : ℕ → List ℕ → Members
low_members offset low = json.member (codes "low") (hex_data low) (json.member (codes "offset") (count_data offset) json.no_members)

abbrev pub header_members : ℕ → Header → Members
header_members offset h = json.member (codes "header") (count_data h.stream)
    (option_map_or (λ high. json.member (codes "high") (hex_data high) (low_members offset h.range.low)) h.range.high (low_members offset h.range.low))

abbrev pub change_members : ℕ → Change → Members
change_members offset c = json.member (codes "at") (count_data c.ts)
    (json.member (codes "change") (json.string (op_name c.op))
    (json.member (codes "key") (list_data (map part_data c.key))
    (json.member (codes "offset") (count_data offset)
    (json.member (codes "set") (list_data (map setting_data c.set))
    (json.member (codes "table") (count_data c.table)
    (json.member (codes "version") (count_data c.version) json.no_members))))))

abbrev pub checkpoint_members : ℕ → ℕ → Members
checkpoint_members offset t = json.member (codes "checkpoint") (count_data t) (json.member (codes "offset") (count_data offset) json.no_members)

-- items of format 2 have no line
abbrev pub item_data : ℕ → Item → Data
item_data offset (header_item h) = json.object (header_members offset h)
item_data offset (change_item c) = json.object (change_members offset c)
item_data offset (checkpoint_item t) = json.object (checkpoint_members offset t)
item_data offset (batch_item t cs) = json.null
item_data offset (close_item first count) = json.null

-- the line of an item that stands at an offset, without its end
unfoldable pub line_of : ℕ → Item → List ℕ
line_of offset i = compact_text (item_data offset i)

-- ---- reading

-- the bytes of an object whose one member is `bytes`
abbrev pub hex_in : Data → Option (List ℕ)
hex_in d = option_and_then hex_bytes (as_text d)

abbrev pub bytes_in : Members → Option (List ℕ)
bytes_in json.no_members = None
bytes_in (json.member k d json.no_members) = if same_bytes k (codes "bytes") then hex_in d else None
bytes_in (json.member k d (json.member l e ms)) = None

abbrev pub with_pair : Option ℕ → Option Value → Option Fields → Option Fields
with_pair n v fs = option_and_then (λ n. option_and_then (λ v. option_map (field_value n v) fs) v) n

abbrev mutual
  pub value_in : Data → Option Value
  value_in json.null = Some null_value
  value_in (json.boolean b) = Some (bool_value b)
  value_in (json.number n) = option_map int_value (as_i64 n)
  value_in (json.string s) = Some (text_value s)
  value_in (json.array ds) = option_map struct_value (pairs_in ds)
  value_in (json.object ms) = option_map bytes_value (bytes_in ms)

  pub pairs_in : Items → Option Fields
  pairs_in json.no_items = Some no_fields
  pairs_in (json.item (json.array (json.item n (json.item v json.no_items))) ds) = with_pair (as_number_up_to 65535 n) (value_in v) (pairs_in ds)
  pairs_in (json.item d ds) = None

abbrev pub struct_in : Data → Option Fields
struct_in json.null = None
struct_in (json.boolean b) = None
struct_in (json.number n) = None
struct_in (json.string s) = None
struct_in (json.array ds) = pairs_in ds
struct_in (json.object ms) = None

abbrev pub pair_of : List Data → Option (ℕ × Value)
pair_of [] = None
pair_of (n ∷ []) = None
pair_of (n ∷ v ∷ []) = option_and_then (λ n. option_map (λ v. (n, v)) (value_in v)) (as_number_up_to 65535 n)
pair_of (n ∷ v ∷ d ∷ ds) = None

abbrev pub setting_in : Data → Option (ℕ × Value)
setting_in d = option_and_then pair_of (as_list d)

abbrev pub set_in : Data → Option (List (ℕ × Value))
set_in d = option_and_then (all_of setting_in) (as_list d)

abbrev pub part_in : Data → Option KeyPart
part_in json.null = None
part_in (json.boolean b) = None
part_in (json.number n) = option_map int_part (as_i64 n)
part_in (json.string s) = Some (text_part s)
part_in (json.array ds) = None
part_in (json.object ms) = None

abbrev pub key_in : Data → Option (List KeyPart)
key_in d = option_and_then (all_of part_in) (as_list d)

abbrev pub op_named : List ℕ → Option Op
op_named s = if same_bytes s (codes "insert") then Some ops.Insert else (if same_bytes s (codes "update") then Some ops.Update
    else (if same_bytes s (codes "delete") then Some ops.Delete else None))

abbrev pub op_in : Data → Option Op
op_in d = option_and_then op_named (as_text d)

abbrev pub time_in : Data → Option ℕ
time_in d = as_number_up_to (2 ^ 63 - 1) d

abbrev pub large_in : Data → Option ℕ
large_in d = as_number_up_to (2 ^ 32 - 1) d

-- a member that has to be there, and its form
abbrev pub wanted : {A : Type 0} → (Data → Option A) → Option Data → Option A
wanted form d = option_and_then form d

abbrev pub high_in : Option Data → Option (Option (List ℕ))
high_in None = Some None
high_in (Some d) = option_map Some (hex_in d)

abbrev pub header_of : ℕ → List ℕ → Option (List ℕ) → Header
header_of stream low high = record { format = format.One; stream = stream; range = record { low = low; high = high }; predecessor = None; from = 0 }

abbrev pub header_in : Members → Option Header
header_in ms = option_and_then (λ stream. option_and_then (λ low. option_map (header_of stream low) (high_in (get_member (codes "high") ms)))
    (wanted hex_in (get_member (codes "low") ms))) (wanted large_in (get_member (codes "header") ms))

abbrev pub change_of : ℕ → ℕ → ℕ → Op → List KeyPart → List (ℕ × Value) → Change
change_of ts table version op key set = record { ts = ts; table = table; version = version; op = op; key = key; set = set }

abbrev pub change_in : Members → Option Change
change_in ms = option_and_then (λ op. option_and_then (λ ts. option_and_then (λ table. option_and_then (λ version. option_and_then (λ key.
    option_map (change_of ts table version op key) (wanted set_in (get_member (codes "set") ms)))
    (wanted key_in (get_member (codes "key") ms))) (wanted large_in (get_member (codes "version") ms)))
    (wanted large_in (get_member (codes "table") ms))) (wanted time_in (get_member (codes "at") ms))) (wanted op_in (get_member (codes "change") ms))

-- a change where there is `change`, a checkpoint where there is `checkpoint`, and else a header
abbrev pub record_in : Members → Option Item
record_in ms = if is_some (get_member (codes "change") ms) then option_map change_item (change_in ms)
    else (if is_some (get_member (codes "checkpoint") ms) then option_map checkpoint_item (wanted time_in (get_member (codes "checkpoint") ms))
    else option_map header_item (header_in ms))

abbrev pub lawful : Item → Option Item
lawful i = when (is_content format.One i) i

abbrev pub item_in : Data → Option Item
item_in d = option_and_then lawful (option_and_then record_in (as_members d))

-- the item that a line says, where it says one that has a frame's content
unfoldable pub item_of_line : List ℕ → Option Item
item_of_line t = option_and_then item_in (json_of t)

-- the frame of the item that a line says, where it says one that has a frame
abbrev pub frame_of_item : Item → Option (List ℕ)
frame_of_item i = when (is_item format.One i) (spelled i)

abbrev pub frame_of_line : List ℕ → Option (List ℕ)
frame_of_line t = option_and_then frame_of_item (item_of_line t)

-- ---- the law

-- each byte is below 256, as every `u8` is
abbrev pub are_bytes : List ℕ → Bool
are_bytes bs = list_all (λ b. nat_lt b 256) bs

abbrev mutual
  pub has_bytes : Value → Bool
  has_bytes null_value = true
  has_bytes (bool_value b) = true
  has_bytes (int_value z) = true
  has_bytes (text_value t) = true
  has_bytes (bytes_value b) = are_bytes b
  has_bytes (struct_value fs) = fields_have_bytes fs

  pub fields_have_bytes : Fields → Bool
  fields_have_bytes no_fields = true
  fields_have_bytes (field_value n v fs) = has_bytes v && fields_have_bytes fs

abbrev pub item_has_bytes : Item → Bool
item_has_bytes (header_item h) = are_bytes h.range.low && option_map_or are_bytes h.range.high true
item_has_bytes (change_item c) = list_all (λ s. has_bytes s.1) c.set
item_has_bytes (checkpoint_item t) = true
item_has_bytes (batch_item t cs) = true
item_has_bytes (close_item first count) = true

-- the line of an item reads back to it
abbrev pub LineReadsBack : Type 0
LineReadsBack = (offset : ℕ) (i : Item) → IsTrue (item_has_bytes i) → offset < 2 ^ 64 → IsTrue (is_content format.One i) → item_of_line (line_of offset i) ≡ Some i
