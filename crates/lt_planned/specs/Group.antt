-- Grouping and aggregates over the rows of a snapshot.
use Rattle.std.specs.Prelude.{Bool, List, None, Option, Some, [], false, filter, filter_map, find, fold, if◌then◌else◌, length, map, not, option_map, pos, true, unwrap_or, ℕ, ℤ, ◌&&◌, ◌++◌, ◌+ℤ◌, ◌||◌, ◌∷◌}
use Rattle.std.specs.declared.cmp.Ordering.{Ordering}
use Rattle.std.specs.declared.cmp.Ordering.TheVariants.{Equal, Greater, Less}
use Rattle.std.specs.Cmp.Lexicographic.{slice_cmp}
use Rattle.std.specs.Ordering.{is_eq, is_lt}
use Rattle.std.specs.Fmt.{signed_decimal}
use Rattle.std.specs.Option.{option_map_or, option_or}
use Rattle.lt_terms.specs.Value.{Value, int_value, null_value, text_value}
use Rattle.lt_terms.specs.Key.{in_range}
use Rattle.lt_terms.specs.Kind.{Kind, enumeration, is_struct, plain, same_rank, structured}
use Rattle.lt_tables.specs.Query.{PredFault, Query, full_columns, holds, interval, is_null_value, is_true, kind_named, unknown_column, unknown_name, value_cmp, value_named, wrong_type}
use Rattle.lt_tables.specs.Schema.{Column, Table, first_of, key_kinds, when}
use Rattle.lt_tables.specs.Row.{Entry}
use Rattle.lt_terms.specs.declared.Rank.TheVariants as rank

pub data Aggregate : Type 0 where
  count_rows : Aggregate
  sum_of : List ℕ → Aggregate
  min_of : List ℕ → Aggregate
  max_of : List ℕ → Aggregate

pub record GroupQuery : Type 0 where
  pub query : Query
  pub by : List (List ℕ)
  pub aggregates : List Aggregate

-- the full rows that a query keeps, unpicked
abbrev pub kept_rows : Table → List Column → Query → List Entry → List (List Value)
kept_rows t columns q entries = map (λ e. e.row) (filter (λ e. in_range e.key (interval t.number (key_kinds t.key) q) && is_true (holds q.filter (full_columns t.key columns) e.row)) entries)

-- ---- order of groups: null first, then false before true, whole numbers, texts and bytes by bytes

abbrev pub group_value_cmp : Value → Value → Ordering
group_value_cmp null_value null_value = Equal
group_value_cmp null_value w = Less
group_value_cmp v null_value = Greater
group_value_cmp v w = unwrap_or (value_cmp v w) Equal

abbrev pub group_cmp : List Value → List Value → Ordering
group_cmp = slice_cmp group_value_cmp

abbrev pub values_named : List (List ℕ × Kind) → List (List ℕ) → List Value → List Value
values_named full names row = map (λ n. value_named n full row) names

-- the distinct lists of by-values, rising
abbrev pub put_group : List Value → List (List Value) → List (List Value)
put_group g [] = g ∷ []
put_group g (h ∷ hs) = if is_lt (group_cmp g h) then g ∷ h ∷ hs else (if is_eq (group_cmp g h) then h ∷ hs else h ∷ put_group g hs)

-- with no by-values there is exactly one group, also without rows
abbrev pub groups_of : List (List ℕ × Kind) → List (List ℕ) → List (List Value) → List (List Value)
groups_of full [] rows = [] ∷ []
groups_of full (n ∷ ns) rows = fold (λ gs row. put_group (values_named full (n ∷ ns) row) gs) [] rows

-- ---- aggregates

-- the values of a column that are not null
abbrev pub values_in : List (List ℕ × Kind) → List ℕ → List (List Value) → List Value
values_in full name rows = filter (λ v. not (is_null_value v)) (map (λ row. value_named name full row) rows)

abbrev pub number_in : Value → ℤ
number_in (int_value z) = z
number_in v = pos 0

abbrev pub total : List Value → ℤ
total vs = fold (λ s v. s +ℤ number_in v) (pos 0) vs

abbrev pub least_value : Value → List Value → Value
least_value v [] = v
least_value v (w ∷ ws) = least_value (if is_lt (group_value_cmp w v) then w else v) ws

abbrev pub greatest_value : Value → List Value → Value
greatest_value v [] = v
greatest_value v (w ∷ ws) = greatest_value (if is_lt (group_value_cmp v w) then w else v) ws

-- null where there is no value
abbrev pub of_values : (Value → List Value → Value) → List Value → Value
of_values f [] = null_value
of_values f (v ∷ vs) = f v vs

-- a sum is given as its decimal text
abbrev pub aggregate : List (List ℕ × Kind) → List (List Value) → Aggregate → Value
aggregate full rows count_rows = int_value (pos (length rows))
aggregate full rows (sum_of n) = of_values (λ v vs. text_value (signed_decimal (total (v ∷ vs)))) (values_in full n rows)
aggregate full rows (min_of n) = of_values least_value (values_in full n rows)
aggregate full rows (max_of n) = of_values greatest_value (values_in full n rows)

-- a row for each group: the by-values, and then each aggregate of the group's rows
abbrev pub group_row : List (List ℕ × Kind) → List (List ℕ) → List Aggregate → List (List Value) → List Value → List Value
group_row full by aggs rows g = g ++ map (aggregate full (filter (λ row. is_eq (group_cmp (values_named full by row) g)) rows)) aggs

unfoldable pub grouped_rows : List (List ℕ × Kind) → List (List ℕ) → List Aggregate → List (List Value) → List (List Value)
grouped_rows full by aggs rows = map (group_row full by aggs rows) (groups_of full by rows)

unfoldable pub group_answer : Table → List Column → GroupQuery → List Entry → List (List Value)
group_answer t columns g entries = grouped_rows (full_columns t.key columns) g.by g.aggregates (kept_rows t columns g.query entries)

-- ---- what is wrong with a plan: an unknown name; else a struct column, or a sum of what is no Int32 or Int64

abbrev pub aggregate_name : Aggregate → Option (List ℕ)
aggregate_name count_rows = None
aggregate_name (sum_of n) = Some n
aggregate_name (min_of n) = Some n
aggregate_name (max_of n) = Some n

abbrev pub is_struct_named : List (List ℕ × Kind) → List ℕ → Bool
is_struct_named full n = option_map_or is_struct (kind_named full n) false

abbrev pub may_sum : Kind → Bool
may_sum (plain r) = same_rank r rank.Int32 || same_rank r rank.Int64
may_sum (enumeration names) = false
may_sum (structured ks) = false

abbrev pub aggregate_misfit : List (List ℕ × Kind) → Aggregate → Option (List ℕ)
aggregate_misfit full count_rows = None
aggregate_misfit full (sum_of n) = when (not (option_map_or may_sum (kind_named full n) true)) n
aggregate_misfit full (min_of n) = when (is_struct_named full n) n
aggregate_misfit full (max_of n) = when (is_struct_named full n) n

abbrev pub plan_fault : List (List ℕ × Kind) → List (List ℕ) → List Aggregate → Option PredFault
plan_fault full by aggs = option_or (option_map unknown_column (unknown_name full (by ++ filter_map aggregate_name aggs)))
    (option_map wrong_type (option_or (find (is_struct_named full) by) (first_of (map (aggregate_misfit full) aggs))))
