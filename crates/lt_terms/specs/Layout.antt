-- Values as leaves: the columns of a store hold primitive cells.
use Rattle.std.specs.Prelude.{Bool, List, None, Option, Some, [], false, filter_map, find, flat_map, if◌then◌else◌, length, map, nat_eq, nat_lt, not, suc, true, zero, ℕ, ℤ, ◌&&◌, ◌++◌, ◌==◌, ◌||◌, ◌∷◌}
use Rattle.std.specs.Option.{option_map_or}
use Rattle.std.specs.Cmp.Lexicographic.{pointwise}
use Rattle.std.specs.List.{list_all, list_any, starts_with}
use Rattle.std.specs.Str.{is_utf8}
use Rattle.lt_terms.specs.declared.Rank.{Rank}
use Rattle.lt_terms.specs.Kind.{FieldKinds, Kind, enumeration, field_kind, no_kinds, plain, same_rank, structured}
use Rattle.lt_terms.specs.Value.{Value, bool_value, bytes_value, fields_of, fits_32, fits_64, int_value, null_value, struct_value, text_value, value_at}
use Rattle.lt_terms.specs.Conversion.{at_rank}
use Rattle.lt_terms.specs.declared.Rank.TheVariants as rank

-- ---- leaves

-- a primitive part of a column, by the field numbers that lead to it; a presence leaf says whether a struct is there
pub record Leaf : Type 0 where
  pub column : ℕ
  pub path : List ℕ
  pub rank : Rank
  pub presence : Bool

-- A struct gives its presence leaf, and then its fields by rising number. An enum is an Int32.
abbrev mutual
  pub leaves : ℕ → List ℕ → Kind → List Leaf
  leaves column path (plain r) = record { column = column; path = path; rank = r; presence = false } ∷ []
  leaves column path (enumeration names) = record { column = column; path = path; rank = rank.Int32; presence = false } ∷ []
  leaves column path (structured ks) = record { column = column; path = path; rank = rank.Bool; presence = true } ∷ field_leaves column path ks

  pub field_leaves : ℕ → List ℕ → FieldKinds → List Leaf
  field_leaves column path no_kinds = []
  field_leaves column path (field_kind n name k ks) = leaves column (path ++ n ∷ []) k ++ field_leaves column path ks

-- the leaves of columns, by number and kind
abbrev pub layout_of : List (ℕ × Kind) → List Leaf
layout_of columns = flat_map (λ c. leaves c.0 [] c.1) columns

-- ---- cells

pub data Cell : Type 0 where
  unset : Cell
  null_cell : Cell
  bool_cell : Bool → Cell
  int_cell : ℤ → Cell
  bytes_cell : List ℕ → Cell

abbrev pub is_unset : Cell → Bool
is_unset unset = true
is_unset null_cell = false
is_unset (bool_cell b) = false
is_unset (int_cell z) = false
is_unset (bytes_cell b) = false

-- a text stands in a cell as its bytes
abbrev pub cell_of : Value → Cell
cell_of null_value = null_cell
cell_of (bool_value b) = bool_cell b
cell_of (int_value z) = int_cell z
cell_of (text_value t) = bytes_cell t
cell_of (bytes_value b) = bytes_cell b
cell_of (struct_value fs) = null_cell

-- the value of a cell at a leaf of this rank
abbrev pub value_of : Rank → Cell → Value
value_of r unset = null_value
value_of r null_cell = null_value
value_of r (bool_cell b) = bool_value b
value_of r (int_cell z) = int_value z
value_of rank.Text (bytes_cell b) = text_value b
value_of r (bytes_cell b) = bytes_value b

-- ---- from values to cells

abbrev pub field_of : ℕ → Value → Value
field_of n null_value = null_value
field_of n (bool_value b) = null_value
field_of n (int_value z) = null_value
field_of n (text_value t) = null_value
field_of n (bytes_value b) = null_value
field_of n (struct_value fs) = value_at n fs

-- the value at the end of a path; null where something on the way is absent
abbrev pub value_along : List ℕ → Value → Value
value_along [] v = v
value_along (n ∷ path) v = value_along path (field_of n v)

abbrev pub is_structure : Value → Bool
is_structure null_value = false
is_structure (bool_value b) = false
is_structure (int_value z) = false
is_structure (text_value t) = false
is_structure (bytes_value b) = false
is_structure (struct_value fs) = true

-- the cell of a leaf in a column that has this value
abbrev pub leaf_cell : Leaf → Value → Cell
leaf_cell leaf v = if leaf.presence then bool_cell (is_structure (value_along leaf.path v)) else cell_of (value_along leaf.path v)

-- the value that a list of settings gives a column
abbrev pub setting : ℕ → List (ℕ × Value) → Option Value
setting n [] = None
setting n (s ∷ ss) = if n == s.0 then Some s.1 else setting n ss

-- The cells of what is set. A column that is not set has unset cells.
abbrev pub flatten : List Leaf → List (ℕ × Value) → List Cell
flatten layout set = map (λ leaf. option_map_or (leaf_cell leaf) (setting leaf.column set) unset) layout

-- ---- from cells to values

-- each leaf with its cell
abbrev pub with_cells : List Leaf → List Cell → List (Leaf × Cell)
with_cells [] cells = []
with_cells (leaf ∷ leaves) [] = []
with_cells (leaf ∷ leaves) (cell ∷ cells) = (leaf, cell) ∷ with_cells leaves cells

abbrev pub same_path : List ℕ → List ℕ → Bool
same_path a b = pointwise nat_eq a b

-- the next number of a path that goes on from the first one by one field
abbrev pub next_field : List ℕ → List ℕ → Option ℕ
next_field [] [] = None
next_field [] (n ∷ []) = Some n
next_field [] (n ∷ m ∷ path) = None
next_field (a ∷ path) [] = None
next_field (a ∷ path) (b ∷ longer) = if a == b then next_field path longer else None

abbrev pub at_path : ℕ → List ℕ → List (Leaf × Cell) → Option (Leaf × Cell)
at_path column path cells = find (λ c. (c.0.column == column) && same_path c.0.path path) cells

abbrev pub is_present : Cell → Bool
is_present unset = false
is_present null_cell = false
is_present (bool_cell b) = b
is_present (int_cell z) = false
is_present (bytes_cell b) = false

-- the value that the cells at and below a path give, for structs nested at most that deep
abbrev pub value_from : ℕ → ℕ → List ℕ → List (Leaf × Cell) → Value
value_from zero column path cells = null_value
value_from (suc depth) column path cells = option_map_or
    (λ c. if c.0.presence
    then (if is_present c.1
    then struct_value (fields_of (map (λ n. (n, value_from depth column (path ++ n ∷ []) cells)) (filter_map (λ d. if d.0.column == column then next_field path d.0.path else None) cells)))
    else null_value)
    else value_of c.0.rank c.1)
    (at_path column path cells) null_value

-- whether the cells set a column
abbrev pub sets : ℕ → List (Leaf × Cell) → Bool
sets column cells = list_any (λ c. c.0.column == column && not (is_unset c.1)) cells

-- the value that cells give a column; none where it is unset or absent
unfoldable pub unflatten : List Leaf → List Cell → ℕ → Option Value
unflatten layout cells column = if sets column (with_cells layout cells) then Some (value_from 5 column [] (with_cells layout cells)) else None

-- ---- lawful cells

-- a cell of a leaf is unset, null, or of the leaf's rank; a presence leaf is never null
abbrev pub suits : Leaf → Cell → Bool
suits leaf unset = true
suits leaf null_cell = not leaf.presence
suits leaf (bool_cell b) = same_rank leaf.rank rank.Bool
suits leaf (int_cell z) = (same_rank leaf.rank rank.Int32 && fits_32 z) || (same_rank leaf.rank rank.Int64 && fits_64 z)
suits leaf (bytes_cell b) = (same_rank leaf.rank rank.Text && is_utf8 b) || same_rank leaf.rank rank.Bytes

-- null, and false at a presence leaf
abbrev pub is_void : Leaf → Cell → Bool
is_void leaf unset = false
is_void leaf null_cell = not leaf.presence
is_void leaf (bool_cell b) = leaf.presence && not b
is_void leaf (int_cell z) = false
is_void leaf (bytes_cell b) = false

abbrev pub says_absent : Leaf → Cell → Bool
says_absent leaf cell = leaf.presence && is_void leaf cell

-- the second leaf is below the first
abbrev pub is_below : Leaf → Leaf → Bool
is_below a b = (a.column == b.column) && nat_lt (length a.path) (length b.path) && starts_with nat_eq b.path a.path

abbrev pub same_truth : Bool → Bool → Bool
same_truth true b = b
same_truth false b = not b

-- the leaves of one column are all unset or all set, and below an absent struct all is void
abbrev pub agree : Leaf × Cell → Leaf × Cell → Bool
agree a b = (not (a.0.column == b.0.column) || same_truth (is_unset a.1) (is_unset b.1)) && (not (is_below a.0 b.0 && says_absent a.0 a.1) || is_void b.0 b.1)

abbrev pub are_lawful : List Leaf → List Cell → Bool
are_lawful layout cells = let both = with_cells layout cells in
    (length layout == length cells) && list_all (λ c. suits c.0 c.1) both && list_all (λ a. list_all (agree a) both) both

-- ---- from one layout to another

-- the same leaf: of the same column, at the same path
abbrev pub same_leaf : Leaf → Leaf → Bool
same_leaf a b = (a.column == b.column) && same_path a.path b.path

-- a cell of one rank at another
unfoldable pub cell_to : Rank → Rank → Cell → Cell
cell_to from to unset = unset
cell_to from to null_cell = null_cell
cell_to from to (bool_cell b) = cell_of (at_rank to (bool_value b))
cell_to from to (int_cell z) = cell_of (at_rank to (int_value z))
cell_to from to (bytes_cell b) = cell_of (at_rank to (value_of from (bytes_cell b)))

-- what stands at a leaf that the cells lack: unset where its column is unset or absent, else null, or false for a presence leaf
abbrev pub lacking : Leaf → List (Leaf × Cell) → Cell
lacking leaf cells = if sets leaf.column cells then (if leaf.presence then bool_cell false else null_cell) else unset

-- cells under one layout as cells under another, each leaf by its rank
unfoldable pub coerce : List Leaf → List Leaf → List Cell → List Cell
coerce from to cells = map (λ leaf. option_map_or (λ c. cell_to c.0.rank leaf.rank c.1) (find (λ c. same_leaf c.0 leaf) (with_cells from cells)) (lacking leaf (with_cells from cells))) to

-- both layouts say of each leaf that both have whether it is a presence leaf
abbrev pub compatible : List Leaf → List Leaf → Bool
compatible from to = list_all (λ a. list_all (λ b. not (same_leaf a b) || (not a.presence && not b.presence) || (a.presence && b.presence)) to) from
