-- Whether leaves are those of columns, as one pass over them tells.
use Rattle.std.specs.Prelude.{Bool, List, [], false, if◌then◌else◌, length, nat_le, nat_lt, true, ℕ, ◌&&◌, ◌++◌, ◌==◌, ◌∷◌}
use Rattle.std.specs.List.{list_all}
use Rattle.lt_terms.specs.declared.Rank.TheVariants as rank
use Rattle.lt_terms.specs.Kind.{same_rank}
use Rattle.lt_terms.specs.Layout.{Leaf}
use Rattle.lt_storage.specs.Store.{TableIndex}

-- where the next leaf of a column may stand: behind the path of this one, or below it where it is a presence leaf
abbrev pub cursor : List ℕ → Bool → List ℕ
cursor path presence = path ++ (if presence then 0 ∷ [] else [])

-- the path goes along the cursor, and its last number is greater
abbrev pub passes : List ℕ → List ℕ → Bool
passes at [] = false
passes [] (n ∷ path) = false
passes (m ∷ at) (n ∷ []) = nat_lt m n
passes (m ∷ at) (n ∷ k ∷ path) = m == n && passes at (k ∷ path)

abbrev pub is_column_path : List ℕ → Bool
is_column_path [] = true
is_column_path (n ∷ path) = false

-- a leaf of a greater column, or a leaf of the same one behind the cursor
abbrev pub stands_behind : ℕ → List ℕ → Leaf → Bool
stands_behind column at l = if column == l.column then passes at l.path else (nat_lt column l.column && is_column_path l.path)

-- structs nest at most 4 deep, and a presence leaf has rank 1
abbrev pub is_leaf : Leaf → Bool
is_leaf l = if l.presence then (same_rank l.rank rank.Bool && nat_le (length l.path) 3) else nat_le (length l.path) 4

-- each leaf stands behind the one before
abbrev pub are_in_order : ℕ → List ℕ → List Leaf → Bool
are_in_order column at [] = true
are_in_order column at (l ∷ ls) = is_leaf l && stands_behind column at l && are_in_order l.column (cursor l.path l.presence) ls

-- the layout of each table is one of columns
abbrev pub have_order : List TableIndex → Bool
have_order ts = list_all (λ t. are_in_order 0 [] t.layout) ts
