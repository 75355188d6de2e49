-- Bundles as codecs: lists of so many items, one beside the other.
use Rattle.std.specs.Prelude.{Bool, IsTrue, List, None, Option, Some, [], codes, drop, false, get_or, if◌then◌else◌, length, map, nat_le, nat_lt, pos, replicate, suc, take, true, zero, ℕ, ℤ, ⊤, ◌&&◌, ◌++◌, ◌-◌, ◌==◌, ◌∷◌, ◌≡◌}
use Rattle.std.specs.List.{AllByRecursion, concat}
use Rattle.lt_terms.specs.declared.Rank.{Rank}
use Rattle.lt_terms.specs.Layout.{Cell, Leaf, bool_cell, bytes_cell, int_cell, null_cell, unset}
use Rattle.lt_terms.specs.Value.{fits_32, fits_64}
use Rattle.lt_terms.specs.declared.Op.{Op}
use Rattle.lt_tables.specs.Version.{RowVersion}
use Rattle.lt_storage.specs.Bundle.{cell_bit, cell_bytes, cell_number, first_cell, offsets_from, state_byte}
use Rattle.lt_codecs.specs.Codec.{Codec, byte, i32, i64, literal, mapped, stated, then_by, times, u64, where_true, ◌>>=◌, ◌then◌}
use Rattle.lt_codecs.specs.LogCodec.{op}
use Rattle.lt_terms.specs.declared.Rank.TheVariants as rank

-- ---- two lists beside each other

abbrev pub zip_by : {A B C : Type 0} → (B → C → A) → List B → List C → List A
zip_by make [] cs = []
zip_by make (b ∷ bs) [] = []
zip_by make (b ∷ bs) (c ∷ cs) = make b c ∷ zip_by make bs cs

abbrev pub all_beside : {B C : Type 0} → (B → C → Bool) → List B → List C → Bool
all_beside test [] cs = true
all_beside test (b ∷ bs) [] = true
all_beside test (b ∷ bs) (c ∷ cs) = test b c && all_beside test bs cs

-- a part of each item, and then another part of each, where the two parts of an item make it
abbrev pub beside : {A B C : Type 0} → (A → B) → (A → C) → (B → C → A) → (B → C → Bool) → (A → Type 0) → Codec (List B) → Codec (List C) → Codec (List A)
beside left right make test Made b c =
    stated (λ y. zip_by make y.0 y.1) (λ xs. b.spell (map left xs) ++ c.spell (map right xs)) (λ xs. AllByRecursion Made xs × (b.Lawful (map left xs) × c.Lawful (map right xs)))
    (where_true (λ y. all_beside test y.0 y.1) (b then c))

-- ---- byte strings behind their offsets

abbrev pub read_strings : List ℕ → List ℕ → Option (List (List ℕ) × List ℕ)
read_strings [] bytes = None
read_strings (n ∷ []) bytes = Some ([], bytes)
read_strings (n ∷ m ∷ os) bytes = if nat_le n m && nat_le (m - n) (length bytes) then (read_strings (m ∷ os) (drop (m - n) bytes) >>= λ r. Some (take (m - n) bytes ∷ r.0, r.1)) else None

-- the byte strings that have these offsets
abbrev pub strings_at : List ℕ → Codec (List (List ℕ))
strings_at os = record {
  spell = concat;
  read = λ bytes. if get_or os 0 1 == 0 then read_strings os bytes else None;
  Lawful = λ bs. offsets_from 0 bs ≡ os;
}

abbrev pub strings : ℕ → Codec (List (List ℕ))
strings n = mapped (λ p. p.1) (λ bs. (offsets_from 0 bs, bs)) (then_by (times (suc n) u64) strings_at)

-- ---- the cells of a leaf

-- what a rank's cells have besides their state
abbrev pub Told : Rank → Type 0
Told rank.Bool = ℕ
Told rank.Int32 = ℤ
Told rank.Int64 = ℤ
Told rank.Text = List ℕ
Told rank.Bytes = List ℕ

abbrev pub told : (r : Rank) → Cell → Told r
told rank.Bool c = cell_bit c
told rank.Int32 c = cell_number c
told rank.Int64 c = cell_number c
told rank.Text c = cell_bytes c
told rank.Bytes c = cell_bytes c

-- a byte 0 or 1
abbrev pub bit_byte : Codec ℕ
bit_byte = where_true (λ b. nat_lt b 2) byte

abbrev pub told_values : (r : Rank) → ℕ → Codec (List (Told r))
told_values rank.Bool n = times n bit_byte
told_values rank.Int32 n = times n i32
told_values rank.Int64 n = times n i64
told_values rank.Text n = strings n
told_values rank.Bytes n = strings n

-- a cell of a leaf with this rank
abbrev pub OfRank : Rank → Cell → Type 0
OfRank r unset = ⊤
OfRank r null_cell = ⊤
OfRank rank.Bool (bool_cell b) = ⊤
OfRank rank.Int32 (int_cell z) = IsTrue (fits_32 z)
OfRank rank.Int64 (int_cell z) = IsTrue (fits_64 z)
OfRank rank.Text (bytes_cell b) = ⊤
OfRank rank.Bytes (bytes_cell b) = ⊤
OfRank r cell = ⊥

abbrev pub valued : (r : Rank) → Told r → Cell
valued rank.Bool b = bool_cell (b == 1)
valued rank.Int32 z = int_cell z
valued rank.Int64 z = int_cell z
valued rank.Text b = bytes_cell b
valued rank.Bytes b = bytes_cell b

-- the cell of a state and a value
abbrev pub cell_from : (r : Rank) → ℕ → Told r → Cell
cell_from r zero v = unset
cell_from r (suc zero) v = null_cell
cell_from r (suc (suc n)) v = valued r v

abbrev pub is_zero : ℤ → Bool
is_zero (pos zero) = true
is_zero z = false

-- the value that stands where the state is not 2
abbrev pub is_blank : (r : Rank) → Told r → Bool
is_blank rank.Bool b = b == 0
is_blank rank.Int32 z = is_zero z
is_blank rank.Int64 z = is_zero z
is_blank rank.Text b = length b == 0
is_blank rank.Bytes b = length b == 0

abbrev pub is_told : (r : Rank) → Told r → Bool
is_told rank.Bool b = nat_lt b 2
is_told rank.Int32 z = fits_32 z
is_told rank.Int64 z = fits_64 z
is_told rank.Text b = true
is_told rank.Bytes b = true

abbrev pub is_cell : (r : Rank) → ℕ → Told r → Bool
is_cell r zero v = is_blank r v
is_cell r (suc zero) v = is_blank r v
is_cell r (suc (suc zero)) v = is_told r v
is_cell r n v = false

abbrev pub cells_of_leaf : Rank → ℕ → Codec (List Cell)
cells_of_leaf r n = beside state_byte (told r) (cell_from r) (is_cell r) (OfRank r) (times n byte) (told_values r n)

-- ---- the cells of each version, leaf by leaf

abbrev pub HasCell : List Cell → Type 0
HasCell [] = ⊥
HasCell (c ∷ cs) = ⊤

abbrev pub no_leaves : ℕ → Codec (List (List Cell))
no_leaves n = record { spell = λ rows. []; read = λ bytes. Some (replicate n [], bytes); Lawful = λ rows. rows ≡ replicate n [] }

abbrev pub bundled_rows : List Leaf → ℕ → Codec (List (List Cell))
bundled_rows [] n = no_leaves n
bundled_rows (l ∷ layout) n = beside first_cell (drop 1) (λ c cs. c ∷ cs) (λ c cs. true) HasCell (cells_of_leaf l.rank n) (bundled_rows layout n)

-- ---- versions

abbrev pub pairs_of : {A B : Type 0} → Codec (List A) → Codec (List B) → Codec (List (A × B))
pairs_of a b = beside (λ p. p.0) (λ p. p.1) (λ x y. (x, y)) (λ x y. true) (λ p. ⊤) a b

abbrev pub after_key : RowVersion → ℕ × (Op × List Cell)
after_key v = (v.ts, (v.op, v.cells))

abbrev pub version_from : List ℕ → ℕ × (Op × List Cell) → RowVersion
version_from key p = record { key = key; ts = p.0; op = p.1.0; cells = p.1.1 }

abbrev pub bundled_versions : List Leaf → ℕ → Codec (List RowVersion)
bundled_versions layout n = beside (λ v. v.key) after_key version_from (λ k p. true) (λ v. ⊤) (strings n) (pairs_of (times n u64) (pairs_of (times n op) (bundled_rows layout n)))

unfoldable pub bundle : List Leaf → Codec (List RowVersion)
bundle layout = mapped (λ p. p.1.1) (λ vs. (tt, (length vs, vs))) (literal (codes "LTB1") then then_by u64 (bundled_versions layout))
