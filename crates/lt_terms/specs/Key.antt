-- Keys, their order, their bytes, and ranges of keys.
use Rattle.std.specs.Prelude.{Bool, IsTrue, List, None, Option, Some, [], false, flat_map, if◌then◌else◌, length, negsuc, not, pos, suc, true, zero, ℕ, ℤ, ◌&&◌, ◌++◌, ◌+◌, ◌-◌, ◌==◌, ◌^◌, ◌∷◌, ◌≡◌}
use Rattle.std.specs.Cmp.Lexicographic.{slice_cmp}
use Rattle.std.specs.Ordering.{int_cmp, is_eq, is_lt, nat_cmp}
use Rattle.std.specs.declared.cmp.Ordering.{Ordering}
use Rattle.std.specs.declared.cmp.Ordering.TheVariants.{Greater, Less}
use Rattle.std.specs.Int.{to_be_bytes, w32, w64}
use Rattle.std.specs.Str.{is_utf8}
use Rattle.lt_terms.specs.Value.{Value, fits_64, int_value, text_value}
use Rattle.lt_terms.specs.declared.KeyKind.{KeyKind}
use Rattle.lt_terms.specs.declared.KeyKind.TheVariants as key_kind

pub data KeyPart : Type 0 where
  int_part : ℤ → KeyPart
  text_part : List ℕ → KeyPart

-- the value that a key part shows as
abbrev pub part_value : KeyPart → Value
part_value (int_part z) = int_value z
part_value (text_part t) = text_value t

-- ---- order

-- numbers as numbers, texts by their bytes
abbrev pub part_cmp : KeyPart → KeyPart → Ordering
part_cmp (int_part a) (int_part b) = int_cmp a b
part_cmp (text_part a) (text_part b) = slice_cmp nat_cmp a b
part_cmp (int_part a) (text_part b) = Less
part_cmp (text_part a) (int_part b) = Greater

-- keys of one table are in the order of their parts, the first first
abbrev pub key_cmp : List KeyPart → List KeyPart → Ordering
key_cmp = slice_cmp part_cmp

abbrev pub bytes_cmp : List ℕ → List ℕ → Ordering
bytes_cmp = slice_cmp nat_cmp

abbrev pub below : List ℕ → List ℕ → Bool
below a b = is_lt (bytes_cmp a b)

abbrev pub same_key : List ℕ → List ℕ → Bool
same_key a b = is_eq (bytes_cmp a b)

-- ---- bytes

-- 8 bytes, with the top bit flipped: z + 2^63
abbrev pub number_key : ℤ → ℕ
number_key (pos n) = 2 ^ 63 + n
number_key (negsuc n) = 2 ^ 63 - 1 - n

-- a byte 00 is written 00 FF
abbrev pub escaped : List ℕ → List ℕ
escaped [] = []
escaped (zero ∷ bs) = 0 ∷ 255 ∷ escaped bs
escaped (suc b ∷ bs) = suc b ∷ escaped bs

-- a text ends with 00 01
abbrev pub part_bytes : KeyPart → List ℕ
part_bytes (int_part z) = to_be_bytes w64 (number_key z)
part_bytes (text_part t) = escaped t ++ 0 ∷ 1 ∷ []

-- the table's number in 4 bytes, and then the parts; of some first parts the same
abbrev pub key_bytes : ℕ → List KeyPart → List ℕ
key_bytes table parts = to_be_bytes w32 table ++ flat_map part_bytes parts

abbrev pub max_key : ℕ
max_key = 4096

-- ---- keys of a table

abbrev pub is_part_of : KeyKind → KeyPart → Bool
is_part_of key_kind.Int64 (int_part z) = fits_64 z
is_part_of key_kind.Text (text_part t) = is_utf8 t
is_part_of key_kind.Int64 (text_part t) = false
is_part_of key_kind.Text (int_part z) = false

-- the parts are of the key columns' kinds, in number and order
abbrev pub is_key_of : List KeyKind → List KeyPart → Bool
is_key_of [] [] = true
is_key_of (k ∷ ks) (p ∷ ps) = is_part_of k p && is_key_of ks ps
is_key_of [] (p ∷ ps) = false
is_key_of (k ∷ ks) [] = false

-- for keys of one table the order of the bytes is the order of the parts
abbrev pub KeepsOrder : Type 0
KeepsOrder = (table : ℕ) (ks : List KeyKind) (ps qs : List KeyPart) → IsTrue (is_key_of ks ps) → IsTrue (is_key_of ks qs)
    → bytes_cmp (key_bytes table ps) (key_bytes table qs) ≡ key_cmp ps qs

-- Whatever follows two keys of one table, equal bytes are equal keys and equal rests.
-- So no key's bytes are a proper prefix of another's.
abbrev pub AreKeysPrefixFree : Type 0
AreKeysPrefixFree = (table : ℕ) (ks : List KeyKind) (ps qs : List KeyPart) (x y : List ℕ) → IsTrue (is_key_of ks ps) → IsTrue (is_key_of ks qs)
    → key_bytes table ps ++ x ≡ key_bytes table qs ++ y → (ps ≡ qs) × (x ≡ y)

-- ---- ranges

-- keys from the low bound on, and below the high bound where there is one
pub record Range : Type 0 where
  pub low : List ℕ
  pub high : Option (List ℕ)

abbrev pub is_below_high : List ℕ → Option (List ℕ) → Bool
is_below_high key None = true
is_below_high key (Some high) = below key high

abbrev pub in_range : List ℕ → Range → Bool
in_range key r = not (below key r.low) && is_below_high key r.high

abbrev pub greater_low : List ℕ → List ℕ → List ℕ
greater_low a b = if below a b then b else a

abbrev pub lesser_high : Option (List ℕ) → Option (List ℕ) → Option (List ℕ)
lesser_high None b = b
lesser_high (Some a) None = Some a
lesser_high (Some a) (Some b) = Some (if below a b then a else b)

-- what two ranges have in common
abbrev pub common : Range → Range → Range
common r s = record { low = greater_low r.low s.low; high = lesser_high r.high s.high }

abbrev pub is_empty_range : Range → Bool
is_empty_range r = not (is_below_high r.low r.high)

-- two ranges meet where the greater low bound is below the lesser high bound
abbrev pub meets : Range → Range → Bool
meets r s = not (is_empty_range (common r s))

abbrev pub is_high_within : Option (List ℕ) → Option (List ℕ) → Bool
is_high_within a None = true
is_high_within None (Some b) = false
is_high_within (Some a) (Some b) = not (below b a)

-- the first range lies in the second
abbrev pub lies_in : Range → Range → Bool
lies_in r s = not (below r.low s.low) && is_high_within r.high s.high

abbrev pub all_keys : Range
all_keys = record { low = []; high = None }

-- ---- tilings

abbrev pub first_bound : List (List ℕ) → Option (List ℕ)
first_bound [] = None
first_bound (low ∷ lows) = Some low

-- the ranges that begin at these bounds, each up to the next
abbrev pub ranges_from : List (List ℕ) → List Range
ranges_from [] = []
ranges_from (low ∷ lows) = record { low = low; high = first_bound lows } ∷ ranges_from lows

abbrev pub rise : List (List ℕ) → Bool
rise [] = true
rise (a ∷ []) = true
rise (a ∷ b ∷ rest) = below a b && rise (b ∷ rest)

-- the bounds rise strictly from the empty one, so their ranges tile the keys
abbrev pub tile : List (List ℕ) → Bool
tile [] = false
tile (low ∷ lows) = length low == 0 && rise (low ∷ lows)
