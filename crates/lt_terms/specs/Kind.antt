-- Kinds of columns, and which values are of a kind.
use Rattle.std.specs.Prelude.{Bool, List, None, Option, Some, [], false, if◌then◌else◌, max, nat_lt, true, ℕ, ℤ, ◌&&◌, ◌+◌, ◌==◌, ◌∷◌}
use Rattle.std.specs.Str.{is_utf8}
use Rattle.lt_terms.specs.declared.Rank.{Rank}
use Rattle.lt_terms.specs.Value.{Fields, Value, bool_value, bytes_value, field_value, fits_32, fits_64, int_value, no_fields, null_value, struct_value, text_value}
use Rattle.lt_terms.specs.declared.Rank.TheVariants as rank

mutual
  pub data Kind : Type 0 where
    plain : Rank → Kind
    -- numbers with printed names; a number without a name is lawful
    enumeration : List (ℤ × List ℕ) → Kind
    structured : FieldKinds → Kind

  -- number, name and kind of each field
  pub data FieldKinds : Type 0 where
    no_kinds : FieldKinds
    field_kind : ℕ → List ℕ → Kind → FieldKinds → FieldKinds

abbrev pub field_kinds_of : List (ℕ × List ℕ × Kind) → FieldKinds
field_kinds_of [] = no_kinds
field_kinds_of (f ∷ fs) = field_kind f.0 f.1 f.2 (field_kinds_of fs)

-- ---- ranks

-- the place of a rank in the chain
abbrev pub rank_number : Rank → ℕ
rank_number rank.Bool = 1
rank_number rank.Int32 = 2
rank_number rank.Int64 = 3
rank_number rank.Text = 4
rank_number rank.Bytes = 5

abbrev pub same_rank : Rank → Rank → Bool
same_rank a b = rank_number a == rank_number b

abbrev pub greater_rank : Rank → Rank → Rank
greater_rank a b = if nat_lt (rank_number a) (rank_number b) then b else a

abbrev pub is_struct : Kind → Bool
is_struct (plain r) = false
is_struct (enumeration names) = false
is_struct (structured ks) = true

-- an enum counts as Int32; of a struct no one asks
abbrev pub rank_of : Kind → Rank
rank_of (plain r) = r
rank_of (enumeration names) = rank.Int32
rank_of (structured ks) = rank.Bool

abbrev pub kinds_of : Kind → FieldKinds
kinds_of (plain r) = no_kinds
kinds_of (enumeration names) = no_kinds
kinds_of (structured ks) = ks

abbrev pub kind_at : ℕ → FieldKinds → Option Kind
kind_at n no_kinds = None
kind_at n (field_kind m name k ks) = if n == m then Some k else kind_at n ks

-- how deep structs nest
abbrev mutual
  pub nesting : Kind → ℕ
  nesting (plain r) = 0
  nesting (enumeration names) = 0
  nesting (structured ks) = 1 + nestings ks

  pub nestings : FieldKinds → ℕ
  nestings no_kinds = 0
  nestings (field_kind n name k ks) = max (nesting k) (nestings ks)

-- ---- values of a kind

abbrev pub has_rank : Rank → Value → Bool
has_rank r null_value = false
has_rank rank.Bool (bool_value b) = true
has_rank rank.Int32 (int_value z) = fits_32 z
has_rank rank.Int64 (int_value z) = fits_64 z
has_rank rank.Text (text_value t) = is_utf8 t
has_rank rank.Bytes (bytes_value b) = true
has_rank r v = false

-- A value has a kind's shape where it is null or of the kind: of its rank, a 32-bit number for an enum,
-- and for a struct exactly its fields, each null or of its kind.
abbrev mutual
  pub has_shape : Value → Kind → Bool
  has_shape null_value k = true
  has_shape (bool_value b) (plain r) = has_rank r (bool_value b)
  has_shape (int_value z) (plain r) = has_rank r (int_value z)
  has_shape (text_value t) (plain r) = has_rank r (text_value t)
  has_shape (bytes_value b) (plain r) = has_rank r (bytes_value b)
  has_shape (int_value z) (enumeration names) = fits_32 z
  has_shape (struct_value fs) (structured ks) = have_shapes fs ks
  has_shape v k = false

  pub have_shapes : Fields → FieldKinds → Bool
  have_shapes no_fields no_kinds = true
  have_shapes (field_value n v fs) (field_kind m name k ks) = n == m && has_shape v k && have_shapes fs ks
  have_shapes fs ks = false
