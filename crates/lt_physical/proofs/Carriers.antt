-- The leaves of a table's live columns, one column after another.
use Rattle.std.proofs.Common.{Bool, List, None, Option, Some, [], ap, append-nil, cond, false, refl, sym, true, ℕ, ◌++◌, ◌∙◌, ◌∷◌, ◌≡◌}
use Rattle.std.specs.Prelude.{filter, flat_map, option_and_then, option_map}
use Rattle.std.specs.List.{cons_option}
use Rattle.std.specs.Option.{option_map_or}
use Rattle.lt_terms.specs.Kind.{Kind}
use Rattle.lt_terms.specs.Layout.{Leaf, layout_of, leaves}
use Rattle.lt_tables.specs.Schema.{Catalogue, Table, carrier, carrier_layout, carriers, carriers_of, column_live, column_numbers, table_numbered}
use Rattle.lt_physical.specs.Leaves.{carrier_leaves, live_leaves}

abbrev of_live : Table → List ℕ → List Leaf
of_live t ns = layout_of (carriers_of t (filter (column_live t) ns))

-- a column's leaves stand before those of the others
one_column : (t : Table) (n : ℕ) (ns : List ℕ) → of_live t (n ∷ ns) ≡ live_leaves t n ++ of_live t ns
one_column t n ns = by (column_live t n) (carrier t n) refl
  where
    with_kind : (k : Option Kind) → carrier t n ≡ k → layout_of (carriers_of t (n ∷ filter (column_live t) ns)) ≡ layout_of (carriers_of t (n ∷ [])) ++ of_live t ns
    with_kind None e = rw e refl
    with_kind (Some k) e = rw e (ap (λ ls. ls ++ of_live t ns) (sym (append-nil (leaves n [] k))))

    by : (b : Bool) (k : Option Kind) → carrier t n ≡ k → layout_of (carriers_of t (cond b (n ∷ filter (column_live t) ns) (filter (column_live t) ns))) ≡ layout_of (carriers_of t (cond b (n ∷ []) [])) ++ of_live t ns
    by true k e = with_kind k e
    by false k e = refl

all_columns : (t : Table) (ns : List ℕ) → of_live t ns ≡ flat_map (live_leaves t) ns
all_columns t [] = refl
all_columns t (n ∷ ns) = one_column t n ns ∙ ap (λ ls. live_leaves t n ++ ls) (all_columns t ns)

none_of : (ns : List ℕ) → flat_map (λ (n : ℕ). let none : List Leaf = [] in none) ns ≡ []
none_of [] = refl
none_of (n ∷ ns) = none_of ns

-- the layout of a catalogue's table, by its columns' numbers
pub carriers_are : (cat : Catalogue) (number : ℕ) (ns : List ℕ) → ns ≡ option_map_or column_numbers (table_numbered cat number) [] → carriers cat number ≡ flat_map (carrier_leaves cat number) ns
unfolding carrier_layout
carriers_are cat number ns e = by (table_numbered cat number) e
  where
    by : (o : Option Table) → ns ≡ option_map_or column_numbers o [] → option_map_or carrier_layout o [] ≡ flat_map (λ n. option_map_or (λ t. live_leaves t n) o []) ns
    by None e = sym (none_of ns)
    by (Some t) e = ap (of_live t) (sym e) ∙ all_columns t ns

-- ---- one column

pub not_live : (cat : Catalogue) (number n : ℕ) → option_map_or (λ t. column_live t n) (table_numbered cat number) false ≡ false → carrier_leaves cat number n ≡ []
not_live cat number n e = by (table_numbered cat number) e
  where
    by : (o : Option Table) → option_map_or (λ t. column_live t n) o false ≡ false → option_map_or (λ t. live_leaves t n) o [] ≡ []
    by None e = refl
    by (Some t) e = rw e refl

pub is_live_at : (cat : Catalogue) (number n : ℕ) (k : Option Kind) → option_map_or (λ t. column_live t n) (table_numbered cat number) false ≡ true → k ≡ option_and_then (λ t. carrier t n) (table_numbered cat number)
    → carrier_leaves cat number n ≡ option_map_or (λ k. leaves n [] k) k []
is_live_at cat number n k e f = by (table_numbered cat number) e f
  where
    of_kind : (k : Option Kind) → layout_of (cons_option (option_map (λ k. (n, k)) k) []) ≡ option_map_or (λ k. leaves n [] k) k []
    of_kind None = refl
    of_kind (Some k) = append-nil (leaves n [] k)

    by : (o : Option Table) → option_map_or (λ t. column_live t n) o false ≡ true → k ≡ option_and_then (λ t. carrier t n) o → option_map_or (λ t. live_leaves t n) o [] ≡ option_map_or (λ k. leaves n [] k) k []
    by None e f = absurd cc
    by (Some t) e f = rw e (rw (sym f) (of_kind k))
