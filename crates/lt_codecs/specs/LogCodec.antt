-- The log's formats as codecs. Their spellings and lawful values are those of the log's grammar.
use Rattle.std.specs.Prelude.{Bool, IsTrue, List, None, Option, Some, [], if◌then◌else◌, length, map, nat_le, nat_lt, not, suc, take, zero, ℕ, ◌&&◌, ◌++◌, ◌+◌, ◌==◌, ◌||◌, ◌∷◌, ◌≡◌}
use Rattle.std.specs.Option.{option_map, option_map_or}
use Rattle.lt_terms.specs.Log.{Change, Found, Header, Item, batch_item, bit, body, change_body, change_item, checkpoint_item, close_item, header_body, header_item, is_change, is_content, is_header, is_item, is_kind, is_log_part, is_two, kind_byte, log_part, magic, malformed, max_body, op_byte, partial, spelled, value_bytes, whole}
use Rattle.lt_terms.specs.Value.{Value, bool_value, bytes_value, fields_of, int_value, is_number, is_timestamp, is_value, null_value, rises_above, struct_value, text_value}
use Rattle.lt_terms.specs.Key.{KeyPart, int_part, key_bytes, max_key, text_part}
use Rattle.lt_terms.specs.declared.Op.{Op}
use Rattle.lt_terms.specs.declared.Format.{Format}
use Rattle.lt_codecs.specs.Codec.{Codec, bytes16, bytes32, counted, empty, i64, literal, nothing, on_tag, optional, sized, stated, tagged, text32, then_by, u16, u32, u64, u8, where_true, ◌then◌}
use Rattle.lt_terms.specs.declared.Op.TheVariants as ops
use Rattle.lt_terms.specs.declared.Format.TheVariants as format
use Rattle.lt_terms.specs.declared.BadFrame.TheVariants as bad
use Rattle.lt_codecs.specs.Codec as codec

-- ---- values

-- a byte 0 or 1
unfoldable pub flag : Codec Bool
flag = stated (λ n. n == 1) (λ b. bit b ∷ []) (λ _. Unit {0}) (where_true (λ n. nat_lt n 2) u8)

-- numbers and values, of which the numbers rise strictly
abbrev pub settings_of : Codec Value → Codec (List (ℕ × Value))
settings_of value = where_true (λ ss. rises_above 0 (map (λ s. s.0) ss)) (counted u16 (where_true is_number u16 then value))

-- what stands behind a value's tag, given what a struct holds
abbrev pub value_behind : Codec (List (ℕ × Value)) → ℕ → List ℕ → Option (Value × List ℕ)
value_behind fields tag bytes =
    on_tag 0 tag empty (λ _. null_value) bytes
    (on_tag 1 tag flag bool_value bytes
    (on_tag 2 tag i64 int_value bytes
    (on_tag 3 tag text32 text_value bytes
    (on_tag 4 tag bytes32 bytes_value bytes
    (on_tag 5 tag fields (λ fs. struct_value (fields_of fs)) bytes None)))))

-- the values that nest at most so deep, given what a struct holds
abbrev pub value_holding : ℕ → Codec (List (ℕ × Value)) → Codec Value
value_holding depth fields = tagged value_bytes (λ v. IsTrue (is_value depth v)) (value_behind fields)

-- what a struct holds that nests at most so deep
unfoldable pub fields : ℕ → Codec (List (ℕ × Value))
fields zero = nothing
fields (suc depth) = settings_of (value_holding depth (fields depth))

-- a value that nests at most so deep
unfoldable pub value : ℕ → Codec Value
value depth = value_holding depth (fields depth)

-- a value of a log
unfoldable pub log_value : Codec Value
log_value = value 4

-- ---- changes

abbrev pub part_behind : ℕ → List ℕ → Option (KeyPart × List ℕ)
part_behind tag bytes = on_tag 1 tag i64 int_part bytes (on_tag 2 tag text32 text_part bytes None)

unfoldable pub part : Codec KeyPart
part = tagged log_part (λ p. IsTrue (is_log_part p)) part_behind

abbrev pub op_behind : ℕ → List ℕ → Option (Op × List ℕ)
op_behind tag bytes = on_tag 1 tag empty (λ _. ops.Insert) bytes (on_tag 2 tag empty (λ _. ops.Update) bytes (on_tag 3 tag empty (λ _. ops.Delete) bytes None))

unfoldable pub op : Codec Op
op = tagged (λ o. op_byte o ∷ []) (λ _. Unit {0}) op_behind

unfoldable pub part_count : Codec ℕ
part_count = where_true (λ n. nat_lt 0 n && nat_le n 8) u8

unfoldable pub parts : Codec (List KeyPart)
parts = counted part_count part

-- numbers of columns, and their values
unfoldable pub settings : Codec (List (ℕ × Value))
settings = settings_of log_value

unfoldable pub table_number : Codec ℕ
table_number = where_true is_number u32

unfoldable pub version_number : Codec ℕ
version_number = where_true (λ n. nat_lt 0 n && nat_le n 256) u32

unfoldable pub timestamp : Codec ℕ
timestamp = where_true is_timestamp u64

-- table, version, operation, key and columns
abbrev pub ChangeParts : Type 0
ChangeParts = ℕ × (ℕ × (Op × (List KeyPart × List (ℕ × Value))))

abbrev pub change_of : ℕ → ChangeParts → Change
change_of ts p = record { ts = ts; table = p.0; version = p.1.0; op = p.1.1.0; key = p.1.1.1.0; set = p.1.1.1.1 }

-- the encoded key is short enough, and a delete has no columns
abbrev pub fit_together : ChangeParts → Bool
fit_together p = nat_le (length (key_bytes p.0 p.1.1.1.0)) max_key && (not (op_byte p.1.1.0 == 3) || length p.1.1.1.1 == 0)

unfoldable pub change_parts : Codec ChangeParts
change_parts = where_true fit_together (table_number then (version_number then (op then (parts then settings))))

-- a change at a timestamp that is known
abbrev pub change_at : ℕ → Codec Change
change_at ts = stated (change_of ts) change_body (λ c. IsTrue (is_change c && c.ts == ts)) change_parts

unfoldable pub change : Codec Change
change = stated (λ p. p.1) (λ c. u64.spell c.ts ++ change_body c) (λ c. IsTrue (is_change c)) (then_by timestamp change_at)

-- ---- headers

-- Where a successor comes from: the stream before it, and the first timestamp. Only format 2 says it.
abbrev pub origin : Format → Codec (Option (ℕ × ℕ))
origin format.One = stated (λ _. None) (λ _. []) (λ o. o ≡ None) empty
origin format.Two = optional (u32 then u64)

-- magic, stream, low bound, high bound, origin
abbrev pub HeaderParts : Type 0
HeaderParts = Unit {0} × (ℕ × (List ℕ × (Option (List ℕ) × Option (ℕ × ℕ))))

abbrev pub header_of : Format → HeaderParts → Header
header_of f p = record {
  format = f;
  stream = p.1.0;
  range = record { low = p.1.1.0; high = p.1.1.1.0 };
  predecessor = option_map (λ o. o.0) p.1.1.1.1;
  from = option_map_or (λ o. o.1) p.1.1.1.1 0;
}

unfoldable pub header_parts : Format → Codec HeaderParts
header_parts f = where_true (λ p. is_header f (header_of f p)) (literal (magic f) then (u32 then (bytes16 then (optional bytes16 then origin f))))

unfoldable pub header : Format → Codec Header
header f = stated (header_of f) header_body (λ h. IsTrue (is_header f h)) (header_parts f)

-- ---- frames

-- the changes of a batch, at its timestamp
unfoldable pub batch : Codec (ℕ × List Change)
batch = then_by timestamp (λ ts. where_true (λ cs. nat_lt 0 (length cs)) (counted u32 (change_at ts)))

-- the first successor of a closed stream, and how many they are
unfoldable pub close : Codec (ℕ × ℕ)
close = where_true (λ p. nat_lt 0 p.1 && nat_lt p.1 256 && nat_le (p.0 + p.1) 256) (u32 then u8)

abbrev pub only_two : {A : Type 0} → Format → Codec A → Codec A
only_two f a = where_true (λ _. is_two f) a

abbrev pub body_behind : Format → ℕ → List ℕ → Option (Item × List ℕ)
body_behind f kind bytes =
    on_tag 1 kind (header f) header_item bytes
    (on_tag 2 kind change change_item bytes
    (on_tag 3 kind timestamp checkpoint_item bytes
    (on_tag 4 kind (only_two f batch) (λ b. batch_item b.0 b.1) bytes
    (on_tag 5 kind (only_two f close) (λ c. close_item c.0 c.1) bytes None))))

-- the bodies of frames of a kind
unfoldable pub item_body : Format → ℕ → Codec Item
item_body f kind = record { spell = body; read = body_behind f kind; Lawful = λ i. (kind_byte i ≡ kind) × IsTrue (is_content f i) }

unfoldable pub item : Format → Codec Item
item f = tagged spelled (λ i. IsTrue (is_item f i)) (λ kind. (sized (max_body f) (item_body f kind)).read)

-- ---- what stands at the front

-- what a body says that stands whole
abbrev pub found_whole : ℕ → Option Item → Found
found_whole length None = malformed bad.Body
found_whole length (Some i) = whole i length

-- what the length and what is behind it say
abbrev pub found_sized : Format → ℕ → Option (ℕ × List ℕ) → Found
found_sized f kind None = partial
found_sized f kind (Some l) =
    if nat_le l.0 (max_body f)
    then (if nat_le l.0 (length l.1) then found_whole (5 + l.0) (codec.whole (item_body f kind) (take l.0 l.1)) else partial)
    else malformed (bad.Length l.0)

-- reading the front of some bytes
unfoldable pub found : Format → List ℕ → Found
found f [] = partial
found f (kind ∷ bytes) = if is_kind f kind then found_sized f kind (u32.read bytes) else malformed (bad.Kind kind)
