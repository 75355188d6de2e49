-- The grammar of logs: items, and the one frame that spells each.
use Rattle.std.specs.Prelude.{Bool, IsTrue, List, None, Option, Some, [], codes, false, flat_map, if◌then◌else◌, is_some, length, map, nat_le, nat_lt, not, take, true, ℕ, ℤ, ◌&&◌, ◌++◌, ◌+◌, ◌<◌, ◌==◌, ◌^◌, ◌||◌, ◌∷◌, ◌≡◌, ◌≤◌, ◌⊎◌}
use Rattle.std.specs.Int.{cast_unsigned, to_be_bytes, w16, w32, w64}
use Rattle.std.specs.Option.{option_map_or}
use Rattle.std.specs.Str.{is_utf8}
use Rattle.std.specs.List.{AllByRecursion, list_all}
use Rattle.lt_terms.specs.declared.Format.{Format}
use Rattle.lt_terms.specs.Key.{KeyPart, Range, below, int_part, key_bytes, max_key, text_part}
use Rattle.lt_terms.specs.declared.Op.{Op}
use Rattle.lt_terms.specs.Value.{Fields, Value, bool_value, bytes_value, field_list, field_value, fits_64, int_value, is_number, is_timestamp, is_value, no_fields, null_value, rises_above, struct_value, text_value}
use Rattle.lt_terms.specs.declared.BadFrame.{BadFrame}
use Rattle.lt_terms.specs.declared.Op.TheVariants as ops
use Rattle.lt_terms.specs.declared.Format.TheVariants as format
use Rattle.lt_terms.specs.declared.BadFrame.TheVariants as bad

-- ---- items

-- A stream's number and range. A successor of a closed stream names it, and begins at a timestamp.
pub record Header : Type 0 where
  pub format : Format
  pub stream : ℕ
  pub range : Range
  pub predecessor : Option ℕ
  pub from : ℕ

pub record Change : Type 0 where
  pub ts : ℕ
  pub table : ℕ
  pub version : ℕ
  pub op : Op
  pub key : List KeyPart
  pub set : List (ℕ × Value)

-- A checkpoint says that every change up to it was logged. A batch is one transaction.
-- A close says that the streams from a number on, so many, go on in this one's place.
pub data Item : Type 0 where
  header_item : Header → Item
  change_item : Change → Item
  checkpoint_item : ℕ → Item
  batch_item : ℕ → List Change → Item
  close_item : ℕ → ℕ → Item

abbrev pub change_key : Change → List ℕ
change_key c = key_bytes c.table c.key

-- the changes of an item, in order
abbrev pub changes_in : Item → List Change
changes_in (header_item h) = []
changes_in (change_item c) = c ∷ []
changes_in (checkpoint_item t) = []
changes_in (batch_item t cs) = cs
changes_in (close_item first count) = []

abbrev pub changes_of : List Item → List Change
changes_of items = flat_map changes_in items

-- ---- values as bytes; numbers stand with their highest byte first

abbrev pub u16 : ℕ → List ℕ
u16 n = to_be_bytes w16 n

abbrev pub u32 : ℕ → List ℕ
u32 n = to_be_bytes w32 n

abbrev pub u64 : ℕ → List ℕ
u64 n = to_be_bytes w64 n

abbrev pub i64 : ℤ → List ℕ
i64 z = to_be_bytes w64 (cast_unsigned w64 z)

-- a length, and that many bytes
abbrev pub bytes16 : List ℕ → List ℕ
bytes16 bs = u16 (length bs) ++ bs

abbrev pub bytes32 : List ℕ → List ℕ
bytes32 bs = u32 (length bs) ++ bs

abbrev pub bit : Bool → ℕ
bit b = if b then 1 else 0

abbrev mutual
  pub value_bytes : Value → List ℕ
  value_bytes null_value = 0 ∷ []
  value_bytes (bool_value b) = 1 ∷ bit b ∷ []
  value_bytes (int_value z) = 2 ∷ i64 z
  value_bytes (text_value t) = 3 ∷ bytes32 t
  value_bytes (bytes_value b) = 4 ∷ bytes32 b
  value_bytes (struct_value fs) = 5 ∷ (u16 (length (field_list fs)) ++ field_bytes fs)

  pub field_bytes : Fields → List ℕ
  field_bytes no_fields = []
  field_bytes (field_value n v fs) = u16 n ++ (value_bytes v ++ field_bytes fs)

-- the values that logs can spell nest at most 4 deep
abbrev pub is_log_value : Value → Bool
is_log_value v = is_value 4 v

-- ---- bodies

abbrev pub log_part : KeyPart → List ℕ
log_part (int_part z) = 1 ∷ i64 z
log_part (text_part t) = 2 ∷ bytes32 t

abbrev pub op_byte : Op → ℕ
op_byte ops.Insert = 1
op_byte ops.Update = 2
op_byte ops.Delete = 3

abbrev pub setting_bytes : ℕ × Value → List ℕ
setting_bytes s = u16 s.0 ++ value_bytes s.1

-- a change without its timestamp
abbrev pub change_body : Change → List ℕ
change_body c = u32 c.table ++ (u32 c.version ++ (op_byte c.op ∷ length c.key ∷ (flat_map log_part c.key ++ (u16 (length c.set) ++ flat_map setting_bytes c.set))))

abbrev pub optional : {A : Type 0} → (A → List ℕ) → Option A → List ℕ
optional spell None = 0 ∷ []
optional spell (Some a) = 1 ∷ spell a

abbrev pub magic : Format → List ℕ
magic format.One = codes "LTLOG1"
magic format.Two = codes "LTLOG2"

-- where a successor comes from; only format 2 says it
abbrev pub origin_bytes : Header → List ℕ
origin_bytes h = optional (λ p. u32 p ++ u64 h.from) h.predecessor

abbrev pub origin_at : Format → Header → List ℕ
origin_at format.One h = []
origin_at format.Two h = origin_bytes h

abbrev pub header_body : Header → List ℕ
header_body h = magic h.format ++ (u32 h.stream ++ (bytes16 h.range.low ++ (optional bytes16 h.range.high ++ origin_at h.format h)))

abbrev pub body : Item → List ℕ
body (header_item h) = header_body h
body (change_item c) = u64 c.ts ++ change_body c
body (checkpoint_item t) = u64 t
body (batch_item t cs) = u64 t ++ (u32 (length cs) ++ flat_map change_body cs)
body (close_item first count) = u32 first ++ count ∷ []

-- ---- which items have a frame

abbrev pub same_format : Format → Format → Bool
same_format format.One format.One = true
same_format format.Two format.Two = true
same_format format.One format.Two = false
same_format format.Two format.One = false

abbrev pub is_two : Format → Bool
is_two f = same_format f format.Two

-- the formats that are read: format 2 is so once closed streams are built
abbrev pub is_read : Format → Bool
is_read format.One = true
is_read format.Two = false

abbrev pub fits_high : List ℕ → Option (List ℕ) → Bool
fits_high low None = true
fits_high low (Some high) = below low high && nat_le (length high) max_key

abbrev pub is_header : Format → Header → Bool
is_header f h = same_format f h.format && nat_lt h.stream (2 ^ 32) && nat_le (length h.range.low) max_key && fits_high h.range.low h.range.high
    && option_map_or (λ p. is_two f && nat_lt p h.stream) h.predecessor true
    && (if is_some h.predecessor then nat_lt h.from (2 ^ 63) else h.from == 0)

abbrev pub is_log_part : KeyPart → Bool
is_log_part (int_part z) = fits_64 z
is_log_part (text_part t) = is_utf8 t && nat_lt (length t) (2 ^ 32)

-- column numbers rise strictly, and a delete has none; the encoded key has at most 4,096 bytes
abbrev pub is_change : Change → Bool
is_change c = is_timestamp c.ts && is_number c.table && nat_lt 0 c.version && nat_le c.version 256
    && nat_lt 0 (length c.key) && nat_le (length c.key) 8 && list_all is_log_part c.key && nat_le (length (change_key c)) max_key
    && rises_above 0 (map (λ s. s.0) c.set) && list_all (λ s. is_number s.0 && is_log_value s.1) c.set
    && (not (op_byte c.op == 3) || length c.set == 0)

abbrev pub is_content : Format → Item → Bool
is_content f (header_item h) = is_header f h
is_content f (change_item c) = is_change c
is_content f (checkpoint_item t) = is_timestamp t
is_content f (batch_item t cs) = is_two f && is_timestamp t && nat_lt 0 (length cs) && nat_lt (length cs) (2 ^ 32) && list_all (λ c. is_change c && c.ts == t) cs
is_content f (close_item first count) = is_two f && nat_lt 0 count && nat_lt count 256 && nat_le (first + count) 256

abbrev pub max_body : Format → ℕ
max_body format.One = 1048576
max_body format.Two = 16777216

abbrev pub is_item : Format → Item → Bool
is_item f i = is_content f i && nat_le (length (body i)) (max_body f)

-- ---- frames

abbrev pub kind_byte : Item → ℕ
kind_byte (header_item h) = 1
kind_byte (change_item c) = 2
kind_byte (checkpoint_item t) = 3
kind_byte (batch_item t cs) = 4
kind_byte (close_item first count) = 5

abbrev pub is_kind : Format → ℕ → Bool
is_kind format.One k = nat_lt 0 k && nat_le k 3
is_kind format.Two k = nat_lt 0 k && nat_le k 5

-- a kind, a length, and a body of that length
unfoldable pub spelled : Item → List ℕ
spelled i = kind_byte i ∷ (bytes32 (body i))

-- the bytes are the frame of the item
pub record IsFrame (f : Format) (i : Item) (bytes : List ℕ) : Type 0 where
  pub lawful : IsTrue (is_item f i)
  pub spells : bytes ≡ spelled i

-- the bytes are the items' frames, one after another
pub record IsLog (f : Format) (items : List Item) (bytes : List ℕ) : Type 0 where
  pub lawful : AllByRecursion (λ i. IsTrue (is_item f i)) items
  pub spells : bytes ≡ flat_map spelled items

-- ---- what stands at the front of bytes

pub data Found : Type 0 where
  whole : Item → ℕ → Found
  partial : Found
  malformed : BadFrame → Found

-- a frame whose first byte is a kind and whose length is within the limit
pub record Opens (f : Format) (bytes : List ℕ) (k l : ℕ) (rest : List ℕ) : Type 0 where
  pub kind : IsTrue (is_kind f k)
  pub small : l ≤ max_body f
  pub spells : bytes ≡ k ∷ (u32 l ++ rest)

-- A frame is a front of the bytes; or the first byte is no kind, or the length is above the limit, or the whole frame
-- stands and its body spells no item; or the bytes are too few.
abbrev pub IsFound : Format → List ℕ → Found → Type 0
IsFound f bytes (whole i n) = (n ≤ length bytes) × IsFrame f i (take n bytes)
IsFound f bytes partial = (bytes ≡ []) ⊎ ((k : ℕ) × (rest : List ℕ) × IsTrue (is_kind f k) × (bytes ≡ k ∷ rest) × (length rest < 4))
    ⊎ ((k : ℕ) × (l : ℕ) × (rest : List ℕ) × Opens f bytes k l rest × (length rest < l))
IsFound f bytes (malformed (bad.Kind k)) = (rest : List ℕ) × (bytes ≡ k ∷ rest) × (is_kind f k ≡ false)
IsFound f bytes (malformed (bad.Length l)) = (k : ℕ) × (rest : List ℕ) × IsTrue (is_kind f k) × (max_body f < l) × (l < 2 ^ 32) × (bytes ≡ k ∷ (u32 l ++ rest))
IsFound f bytes (malformed bad.Body) = (k : ℕ) × (l : ℕ) × (rest : List ℕ) × Opens f bytes k l rest × (l ≤ length rest) × ((i : Item) → IsFrame f i (k ∷ (u32 l ++ take l rest)) → ⊥)

-- ---- values at the front of bytes

abbrev pub IsValueFront : List ℕ → Value → ℕ → Type 0
IsValueFront bytes v n = IsTrue (is_log_value v) × (n ≤ length bytes) × (take n bytes ≡ value_bytes v)

abbrev pub HasNoValue : List ℕ → Type 0
HasNoValue bytes = (v : Value) (n : ℕ) → IsValueFront bytes v n → ⊥

-- no value begins another
abbrev pub AreValuesPrefixFree : Type 0
AreValuesPrefixFree = (v w : Value) (x y : List ℕ) → IsTrue (is_log_value v) → IsTrue (is_log_value w) → value_bytes v ++ x ≡ value_bytes w ++ y → (v ≡ w) × (x ≡ y)

-- ---- frames do not begin one another

-- no frame begins another
abbrev pub IsPrefixFree : Type 0
IsPrefixFree = (f : Format) (i j : Item) (x y : List ℕ) → IsTrue (is_item f i) → IsTrue (is_item f j) → spelled i ++ x ≡ spelled j ++ y → (i ≡ j) × (x ≡ y)
