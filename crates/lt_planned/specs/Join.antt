-- Joins of two snapshots at one timestamp.
use Rattle.std.specs.Prelude.{Bool, List, Option, [], false, filter, flat_map, is_none, length, map, not, option_map, replicate, ℕ, ◌&&◌, ◌++◌, ◌||◌, ◌∷◌}
use Rattle.std.specs.Option.{option_map_or, option_or}
use Rattle.std.specs.Ordering.{is_eq}
use Rattle.std.specs.List.{list_all}
use Rattle.lt_terms.specs.Value.{Value, null_value}
use Rattle.lt_terms.specs.Kind.{Kind, is_struct, rank_of, same_rank}
use Rattle.lt_terms.specs.declared.JoinKind.{JoinKind}
use Rattle.lt_terms.specs.declared.Rank.{Rank}
use Rattle.lt_tables.specs.Query.{PredFault, kind_named, pick, unknown_column, value_cmp, value_named, wrong_type}
use Rattle.lt_tables.specs.Schema.{first_of, when}
use Rattle.lt_terms.specs.declared.JoinKind.TheVariants as kind_of_join
use Rattle.lt_terms.specs.declared.Rank.TheVariants as rank

-- pairs of names, left and right
abbrev pub NamePairs : Type 0
NamePairs = List (List ℕ × List ℕ)

-- two values match where both are not null and equal
abbrev pub same_value : Value → Value → Bool
same_value v w = option_map_or is_eq (value_cmp v w) false

-- two full rows match where each pair's values do
abbrev pub rows_match : List (List ℕ × Kind) → List (List ℕ × Kind) → NamePairs → List Value → List Value → Bool
rows_match left right on a b = list_all (λ p. same_value (value_named p.0 left a) (value_named p.1 right b)) on

-- the left picked columns followed by the right ones, of each right row that matches, in order
abbrev pub joined_with : List (List ℕ × Kind) → List (List ℕ × Kind) → NamePairs → List ℕ → List ℕ → List (List Value) → List Value → List (List Value)
joined_with left right on left_places right_places rows a = map (λ b. pick left_places a ++ pick right_places b) (filter (rows_match left right on a) rows)

-- of a left join, a left row without a match stands once, followed by nulls
abbrev pub or_nulls : JoinKind → List Value → ℕ → List (List Value) → List (List Value)
or_nulls kind_of_join.Inner a n rows = rows
or_nulls kind_of_join.Left a n [] = (a ++ replicate n null_value) ∷ []
or_nulls kind_of_join.Left a n (r ∷ rows) = r ∷ rows

-- for each left row that its query keeps, in key order, each right row that its own keeps and that matches, in key order
unfoldable pub join_rows : JoinKind → List (List ℕ × Kind) → List (List ℕ × Kind) → NamePairs → List ℕ → List ℕ → List (List Value) → List (List Value) → List (List Value)
join_rows k left right on left_places right_places left_rows right_rows =
    flat_map (λ a. or_nulls k (pick left_places a) (length right_places) (joined_with left right on left_places right_places right_rows a)) left_rows

-- ---- what is wrong with a plan

-- the two columns of a pair are both whole numbers, or of one other primitive rank
abbrev pub is_whole_rank : Rank → Bool
is_whole_rank r = same_rank r rank.Int32 || same_rank r rank.Int64

abbrev pub may_pair : Kind → Kind → Bool
may_pair a b = not (is_struct a) && not (is_struct b) && ((is_whole_rank (rank_of a) && is_whole_rank (rank_of b)) || same_rank (rank_of a) (rank_of b))

abbrev pub pair_unknown : List (List ℕ × Kind) → List (List ℕ × Kind) → List ℕ × List ℕ → Option (List ℕ)
pair_unknown left right p = option_or (when (is_none (kind_named left p.0)) p.0) (when (is_none (kind_named right p.1)) p.1)

abbrev pub pair_misfit : List (List ℕ × Kind) → List (List ℕ × Kind) → List ℕ × List ℕ → Option (List ℕ)
pair_misfit left right p = when (not (option_map_or (λ a. option_map_or (may_pair a) (kind_named right p.1) false) (kind_named left p.0) false)) p.0

-- the first unknown name, in each pair left before right; else the left column of the first pair that does not fit
abbrev pub join_fault : List (List ℕ × Kind) → List (List ℕ × Kind) → NamePairs → Option PredFault
join_fault left right on = option_or (option_map unknown_column (first_of (map (pair_unknown left right) on))) (option_map wrong_type (first_of (map (pair_misfit left right) on)))
