-- Queries: their interval of keys, their predicate and what they pick.
use Rattle.std.specs.Prelude.{Bool, List, None, Option, Some, [], false, filter, find, if◌then◌else◌, is_none, length, map, nat_le, not, option_and_then, option_map, slice_get, take, take_while, true, unwrap_or, ℕ, ℤ, ◌&&◌, ◌*◌, ◌++◌, ◌+◌, ◌-◌, ◌==◌, ◌∷◌}
use Rattle.std.specs.Ordering.{bool_cmp, int_cmp, is_eq, is_ge, is_gt, is_le, is_lt, is_ne}
use Rattle.std.specs.declared.cmp.Ordering.{Ordering}
use Rattle.std.specs.Option.{option_map_or, option_or}
use Rattle.lt_terms.specs.declared.CmpOp.{CmpOp}
use Rattle.lt_terms.specs.declared.KeyKind.{KeyKind}
use Rattle.lt_terms.specs.Kind.{Kind, has_shape, is_struct, plain, rank_of}
use Rattle.lt_terms.specs.Conversion.{same_bytes}
use Rattle.lt_terms.specs.Value.{Value, bool_value, bytes_value, int_value, null_value, text_value}
use Rattle.lt_terms.specs.declared.Rank.{Rank}
use Rattle.lt_terms.specs.Key.{KeyPart, Range, bytes_cmp, greater_low, in_range, int_part, key_bytes, lesser_high, text_part}
use Rattle.lt_terms.specs.declared.Truth.{Truth}
use Rattle.lt_tables.specs.Schema.{Column, KeyColumn, Table, key_kinds, when}
use Rattle.lt_tables.specs.Row.{Entry}
use Rattle.lt_terms.specs.declared.KeyKind.TheVariants as key_kind
use Rattle.lt_terms.specs.declared.Rank.TheVariants as rank
use Rattle.lt_terms.specs.declared.Truth.TheVariants as truth
use Rattle.lt_terms.specs.declared.CmpOp.TheVariants as cmp

pub data Literal : Type 0 where
  null_literal : Literal
  bool_literal : Bool → Literal
  int_literal : ℤ → Literal
  text_literal : List ℕ → Literal

-- columns are named
pub data Pred : Type 0 where
  all_rows : Pred
  both : Pred → Pred → Pred
  either : Pred → Pred → Pred
  negated : Pred → Pred
  is_null : List ℕ → Pred
  compares : CmpOp → List ℕ → Literal → Pred

-- ---- full rows: a table's key parts, and then a version's columns

abbrev pub key_part_kind : KeyKind → Kind
key_part_kind key_kind.Int64 = plain rank.Int64
key_part_kind key_kind.Text = plain rank.Text

-- the name and the kind at each place
abbrev pub full_columns : List KeyColumn → List Column → List (List ℕ × Kind)
full_columns key columns = map (λ k. (k.name, key_part_kind k.kind)) key ++ map (λ c. (c.name, c.kind)) columns

abbrev pub kind_named : List (List ℕ × Kind) → List ℕ → Option Kind
kind_named full name = option_map (λ c. c.1) (find (λ c. same_bytes c.0 name) full)

-- each value of a full row is null or of its column's kind
abbrev pub is_full_row : List (List ℕ × Kind) → List Value → Bool
is_full_row [] [] = true
is_full_row (c ∷ cs) (v ∷ vs) = has_shape v c.1 && is_full_row cs vs
is_full_row [] (v ∷ vs) = false
is_full_row (c ∷ cs) [] = false

-- the value of the column with a name
abbrev pub value_named : List ℕ → List (List ℕ × Kind) → List Value → Value
value_named name [] row = null_value
value_named name (c ∷ cs) [] = null_value
value_named name (c ∷ cs) (v ∷ vs) = if same_bytes name c.0 then v else value_named name cs vs

-- ---- literals

abbrev pub hex_digit : ℕ → Option ℕ
hex_digit b = if nat_le 48 b && nat_le b 57 then Some (b - 48) else (if nat_le 97 b && nat_le b 102 then Some (b - 87) else None)

abbrev pub hex_pairs : List ℕ → Option (List ℕ)
hex_pairs [] = Some []
hex_pairs (a ∷ []) = None
hex_pairs (a ∷ b ∷ rest) = option_and_then (λ high. option_and_then (λ low. option_map (λ bs. (16 * high + low) ∷ bs) (hex_pairs rest)) (hex_digit b)) (hex_digit a)

-- `0x`, and lower-case pairs of hexadecimal digits
abbrev pub hex_bytes : List ℕ → Option (List ℕ)
hex_bytes [] = None
hex_bytes (z ∷ []) = None
hex_bytes (z ∷ x ∷ pairs) = if z == 48 && x == 120 then hex_pairs pairs else None

-- the value that a literal is in a column of this rank, if it fits one; null fits every primitive column
abbrev pub literal_at : Rank → Literal → Option Value
literal_at r null_literal = Some null_value
literal_at rank.Bool (bool_literal b) = Some (bool_value b)
literal_at rank.Int32 (int_literal z) = Some (int_value z)
literal_at rank.Int64 (int_literal z) = Some (int_value z)
literal_at rank.Text (text_literal t) = Some (text_value t)
literal_at rank.Bytes (text_literal t) = option_map bytes_value (hex_bytes t)
literal_at r l = None

-- a struct column takes no literal
abbrev pub literal_value : Kind → Literal → Option Value
literal_value k l = if is_struct k then None else literal_at (rank_of k) l

-- in a key null fits nothing
abbrev pub literal_part : KeyKind → Literal → Option KeyPart
literal_part key_kind.Int64 (int_literal z) = Some (int_part z)
literal_part key_kind.Text (text_literal t) = Some (text_part t)
literal_part k l = None

-- ---- predicates: a logic with an unknown

abbrev pub truth_of : Bool → Truth
truth_of b = if b then truth.True else truth.False

abbrev pub truth_not : Truth → Truth
truth_not truth.False = truth.True
truth_not truth.Unknown = truth.Unknown
truth_not truth.True = truth.False

abbrev pub truth_and : Truth → Truth → Truth
truth_and truth.False q = truth.False
truth_and truth.True q = q
truth_and truth.Unknown truth.False = truth.False
truth_and truth.Unknown truth.Unknown = truth.Unknown
truth_and truth.Unknown truth.True = truth.Unknown

abbrev pub truth_or : Truth → Truth → Truth
truth_or p q = truth_not (truth_and (truth_not p) (truth_not q))

-- false before true, whole numbers, texts and bytes by bytes; null compares with nothing
abbrev pub value_cmp : Value → Value → Option Ordering
value_cmp (bool_value a) (bool_value b) = Some (bool_cmp a b)
value_cmp (int_value a) (int_value b) = Some (int_cmp a b)
value_cmp (text_value a) (text_value b) = Some (bytes_cmp a b)
value_cmp (bytes_value a) (bytes_value b) = Some (bytes_cmp a b)
value_cmp v w = None

abbrev pub passes : CmpOp → Ordering → Bool
passes cmp.Eq o = is_eq o
passes cmp.Ne o = is_ne o
passes cmp.Lt o = is_lt o
passes cmp.Le o = is_le o
passes cmp.Gt o = is_gt o
passes cmp.Ge o = is_ge o

abbrev pub compared : CmpOp → Value → Value → Truth
compared op v w = option_map_or (λ o. truth_of (passes op o)) (value_cmp v w) truth.Unknown

abbrev pub is_null_value : Value → Bool
is_null_value null_value = true
is_null_value v = false

-- the value of a predicate at a full row
unfoldable pub holds : Pred → List (List ℕ × Kind) → List Value → Truth
holds all_rows full row = truth.True
holds (both p q) full row = truth_and (holds p full row) (holds q full row)
holds (either p q) full row = truth_or (holds p full row) (holds q full row)
holds (negated p) full row = truth_not (holds p full row)
holds (is_null name) full row = truth_of (is_null_value (value_named name full row))
holds (compares op name l) full row = compared op (value_named name full row) (unwrap_or (option_and_then (λ k. literal_value k l) (kind_named full name)) null_value)

abbrev pub is_true : Truth → Bool
is_true truth.False = false
is_true truth.Unknown = false
is_true truth.True = true

-- ---- what is wrong with a predicate or a list of names

pub data PredFault : Type 0 where
  unknown_column : List ℕ → PredFault
  wrong_type : List ℕ → PredFault

-- its names, in reading order
abbrev pub names_in : Pred → List (List ℕ)
names_in all_rows = []
names_in (both p q) = names_in p ++ names_in q
names_in (either p q) = names_in p ++ names_in q
names_in (negated p) = names_in p
names_in (is_null name) = name ∷ []
names_in (compares op name l) = name ∷ []

abbrev pub unknown_name : List (List ℕ × Kind) → List (List ℕ) → Option (List ℕ)
unknown_name full names = find (λ n. is_none (kind_named full n)) names

-- the column of the first literal that does not fit, in reading order
abbrev pub misfit : List (List ℕ × Kind) → Pred → Option (List ℕ)
misfit full all_rows = None
misfit full (both p q) = option_or (misfit full p) (misfit full q)
misfit full (either p q) = option_or (misfit full p) (misfit full q)
misfit full (negated p) = misfit full p
misfit full (is_null name) = None
misfit full (compares op name l) = when (option_map_or (λ k. is_none (literal_value k l)) (kind_named full name) false) name

-- an unknown name, else a literal that does not fit
abbrev pub pred_fault : List (List ℕ × Kind) → Pred → Option PredFault
pred_fault full p = option_or (option_map unknown_column (unknown_name full (names_in p))) (option_map wrong_type (misfit full p))

-- ---- projections: the picked places of a full row, in the asked order

abbrev pub place_named : List (List ℕ × Kind) → List ℕ → ℕ
place_named full name = length (take_while (λ c. not (same_bytes c.0 name)) full)

-- all places, where no names are asked
abbrev pub places_from : {A : Type 0} → ℕ → List A → List ℕ
places_from n [] = []
places_from n (x ∷ xs) = n ∷ places_from (n + 1) xs

abbrev pub places : List (List ℕ × Kind) → Option (List (List ℕ)) → List ℕ
places full None = places_from 0 full
places full (Some names) = map (place_named full) names

abbrev pub pick : List ℕ → List Value → List Value
pick ps row = map (λ p. unwrap_or (slice_get row p) null_value) ps

-- ---- queries

pub record Query : Type 0 where
  pub table : List ℕ
  pub version : ℕ
  pub at : ℕ
  pub columns : Option (List (List ℕ))
  pub from : Option (List Literal)
  pub to : Option (List Literal)
  pub after : Option (List Literal)
  pub limit : Option ℕ
  pub filter : Pred

-- the key parts that literals are; none where one does not fit
abbrev pub parts_of : List KeyKind → List Literal → List KeyPart
parts_of [] ls = []
parts_of (k ∷ ks) [] = []
parts_of (k ∷ ks) (l ∷ ls) = option_map_or (λ p. p ∷ parts_of ks ls) (literal_part k l) []

abbrev pub bound : ℕ → List KeyKind → List Literal → List ℕ
bound table ks ls = key_bytes table (parts_of ks ls)

-- The keys of the table from `from` on and behind `after`, and before `to`.
unfoldable pub interval : ℕ → List KeyKind → Query → Range
interval table ks q = record {
  low = greater_low (option_map_or (bound table ks) q.from (key_bytes table [])) (option_map_or (λ ls. bound table ks ls ++ 0 ∷ []) q.after []);
  high = lesser_high (Some (key_bytes (table + 1) [])) (option_map (bound table ks) q.to);
}

abbrev pub first_rows : {A : Type 0} → Option ℕ → List A → List A
first_rows None rows = rows
first_rows (Some n) rows = take n rows

-- The entries whose key lies in the interval and of which the predicate is true, the asked columns of each, and of a page
-- at most as many as it asks.
unfoldable pub answer : Table → List Column → Query → List Entry → List (List Value)
answer t columns q entries = let full = full_columns t.key columns in
    first_rows q.limit (map (λ e. pick (places full q.columns) e.row)
    (filter (λ e. in_range e.key (interval t.number (key_kinds t.key) q) && is_true (holds q.filter full e.row)) entries))

pub data Mode : Type 0 where
  minor : List ℕ → Mode
  major : Mode

pub data Command : Type 0 where
  do_schema : List ℕ → Command
  do_retire : List ℕ → ℕ → Command
  do_pump : ℕ → ℕ → Command
  do_flush : ℕ → Command
  do_compact : ℕ → Mode → Command
  do_job_begin : ℕ → Mode → Command
  do_job_step : ℕ → Command
  do_job_finish : Command
  do_job_drop : Command
  do_split : List ℕ → List Literal → Command
  do_retain : ℕ → Command
  do_scan : Query → Command
  do_page : Query → Command
  do_status : Command
  do_deltas : ℕ → Command
  do_reopen : Command
