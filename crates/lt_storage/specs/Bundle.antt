-- Bundles: row versions of one table as bytes, column by column.
use Rattle.std.specs.Prelude.{Bool, IsTrue, List, [], codes, drop, flat_map, if◌then◌else◌, length, map, nat_le, pos, take, take_while, ℕ, ℤ, ◌++◌, ◌+◌, ◌<◌, ◌==◌, ◌∷◌, ◌≡◌}
use Rattle.std.specs.List.{AllByRecursion, concat}
use Rattle.std.specs.Int.{cast_unsigned, to_be_bytes, w32}
use Rattle.lt_terms.specs.Conversion.{same_bytes}
use Rattle.lt_terms.specs.Log.{bit, i64, op_byte, u32, u64}
use Rattle.lt_terms.specs.Layout.{Cell, Leaf, bool_cell, bytes_cell, int_cell, null_cell, unset}
use Rattle.lt_terms.specs.declared.Rank.{Rank}
use Rattle.lt_terms.specs.Key.{same_key}
use Rattle.lt_tables.specs.Version.{AreVersions, RowVersion}
use Rattle.lt_terms.specs.declared.Rank.TheVariants as rank

-- ---- which lists a bundle holds

abbrev pub has_table : ℕ → List ℕ → Bool
has_table table key = same_bytes (take 4 key) (u32 table)

-- at least one version, in order, lawful under the layout, and each key has the table's number
pub record AreOfBundle (table : ℕ) (layout : List Leaf) (vs : List RowVersion) : Type 0 where
  pub some : 0 < length vs
  pub lawful : AreVersions layout vs
  pub tables : AllByRecursion (λ v. IsTrue (has_table table v.key)) vs

-- ---- leaves as bytes

-- 0 unset, 1 null, 2 a value
abbrev pub state_byte : Cell → ℕ
state_byte unset = 0
state_byte null_cell = 1
state_byte (bool_cell b) = 2
state_byte (int_cell z) = 2
state_byte (bytes_cell b) = 2

-- where the state is not 2, the value is false, 0 or empty
abbrev pub cell_bit : Cell → ℕ
cell_bit (bool_cell b) = bit b
cell_bit cell = 0

abbrev pub cell_number : Cell → ℤ
cell_number (int_cell z) = z
cell_number cell = pos 0

abbrev pub cell_bytes : Cell → List ℕ
cell_bytes (bytes_cell b) = b
cell_bytes cell = []

-- where each begins, and where the last ends
abbrev pub offsets_from : ℕ → List (List ℕ) → List ℕ
offsets_from n [] = n ∷ []
offsets_from n (b ∷ bs) = n ∷ offsets_from (n + length b) bs

abbrev pub with_offsets : List (List ℕ) → List ℕ
with_offsets bs = flat_map u64 (offsets_from 0 bs) ++ concat bs

abbrev pub i32 : ℤ → List ℕ
i32 z = to_be_bytes w32 (cast_unsigned w32 z)

abbrev pub leaf_values : Rank → List Cell → List ℕ
leaf_values rank.Bool cells = map cell_bit cells
leaf_values rank.Int32 cells = flat_map (λ c. i32 (cell_number c)) cells
leaf_values rank.Int64 cells = flat_map (λ c. i64 (cell_number c)) cells
leaf_values rank.Text cells = with_offsets (map cell_bytes cells)
leaf_values rank.Bytes cells = with_offsets (map cell_bytes cells)

-- the states of a leaf, and then its values
abbrev pub leaf_bytes : Rank → List Cell → List ℕ
leaf_bytes r cells = map state_byte cells ++ leaf_values r cells

abbrev pub first_cell : List Cell → Cell
first_cell [] = unset
first_cell (c ∷ cs) = c

-- leaf by leaf, of the cells of each version
abbrev pub leaves_bytes : List Leaf → List (List Cell) → List ℕ
leaves_bytes [] rows = []
leaves_bytes (leaf ∷ layout) rows = leaf_bytes leaf.rank (map first_cell rows) ++ leaves_bytes layout (map (drop 1) rows)

-- ---- bundles

unfoldable pub bundle_bytes : List Leaf → List RowVersion → List ℕ
bundle_bytes layout vs = codes "LTB1" ++ (u64 (length vs) ++ (with_offsets (map (λ v. v.key) vs)
    ++ (flat_map (λ v. u64 v.ts) vs ++ (map (λ v. op_byte v.op) vs ++ leaves_bytes layout (map (λ v. v.cells) vs)))))

pub record IsBundle (table : ℕ) (layout : List Leaf) (vs : List RowVersion) (bytes : List ℕ) : Type 0 where
  pub lawful : AreOfBundle table layout vs
  pub spells : bytes ≡ bundle_bytes layout vs

-- ---- how a list is parted into bundles

-- the versions of each key together
abbrev pub with_group : RowVersion → List (List RowVersion) → List (List RowVersion)
with_group v [] = (v ∷ []) ∷ []
with_group v ([] ∷ gs) = (v ∷ []) ∷ gs
with_group v ((w ∷ ws) ∷ gs) = if same_key v.key w.key then (v ∷ w ∷ ws) ∷ gs else (v ∷ []) ∷ ((w ∷ ws) ∷ gs)

abbrev pub grouped : List RowVersion → List (List RowVersion)
grouped [] = []
grouped (v ∷ vs) = with_group v (grouped vs)

abbrev pub full_size : ℕ
full_size = 65536

-- the leading versions that are of the first one's table
abbrev pub same_table : RowVersion → RowVersion → Bool
same_table a b = same_bytes (take 4 a.key) (take 4 b.key)

abbrev pub of_first_table : List RowVersion → List RowVersion
of_first_table [] = []
of_first_table (v ∷ vs) = v ∷ take_while (same_table v) vs

-- a bundle is closed after the first key at whose end it has the full size, or at the table's end
abbrev pub cut_groups : List Leaf → List RowVersion → List (List RowVersion) → List (List RowVersion)
cut_groups layout open_one [] = if length open_one == 0 then [] else open_one ∷ []
cut_groups layout open_one (g ∷ gs) = if nat_le full_size (length (bundle_bytes layout (open_one ++ g))) then (open_one ++ g) ∷ cut_groups layout [] gs else cut_groups layout (open_one ++ g) gs

unfoldable pub cut : List Leaf → List RowVersion → List (List RowVersion)
cut layout vs = cut_groups layout [] (grouped vs)
