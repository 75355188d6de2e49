-- Encoded leaves, and zones of their values.
use Rattle.std.specs.Prelude.{Bool, IsTrue, List, [], false, filter, find, flat_map, fold, if◌then◌else◌, int_le, int_lt, is_some, length, map, max, nat_lt, not, pos, replicate, slice_get, true, unwrap_or, ℕ, ℤ, ⊤, ◌&&◌, ◌++◌, ◌+◌, ◌-ℤ◌, ◌-◌, ◌<◌, ◌==◌, ◌^◌, ◌||◌, ◌∷◌, ◌≡◌, ◌≤◌, ◌⊎◌}
use Rattle.std.specs.Ordering.{int_cmp, is_eq}
use Rattle.std.specs.List.{AllByRecursion, list_all, list_any}
use Rattle.std.specs.Option.{option_map_or}
use Rattle.lt_terms.specs.declared.Rank.{Rank}
use Rattle.lt_terms.specs.Layout.{Cell, Leaf, bool_cell, bytes_cell, int_cell, null_cell, same_truth, setting, unset}
use Rattle.lt_terms.specs.Log.{Change, bit, change_key, i64, u16, u32, u64}
use Rattle.lt_terms.specs.Conversion.{conv, same_bytes}
use Rattle.lt_terms.specs.Codes.{nat_in}
use Rattle.lt_terms.specs.Kind.{is_struct, rank_of, same_rank}
use Rattle.lt_terms.specs.declared.CmpOp.{CmpOp}
use Rattle.lt_terms.specs.Value.{Value, int_value}
use Rattle.lt_terms.specs.Key.{Range, below}
use Rattle.lt_tables.specs.Schema.{Column, Table, column_numbered, fallback}
use Rattle.lt_tables.specs.Query.{Literal, Pred, Query, all_rows, both, compared, compares, either, int_literal, is_null, is_true, negated}
use Rattle.lt_tables.specs.Version.{RowVersion, cell_at}
use Rattle.lt_tables.specs.Pump.{numbered_from}
use Rattle.lt_storage.specs.Bundle.{i32, leaf_bytes, state_byte}
use Rattle.lt_storage.specs.Store.{Delta, TableDelta, first_key, last_key}
use Rattle.lt_machine.specs.Machine.{State, least, query_interval}
use Rattle.lt_machine.specs.Sound.{Memory}
use Rattle.lt_machine.specs.Outside.{is_met}
use Rattle.lt_terms.specs.declared.Rank.TheVariants as rank
use Rattle.lt_terms.specs.declared.CmpOp.TheVariants as cmp

-- a state byte, and where it is 2 the value
abbrev pub cell_value_bytes : Rank → Cell → List ℕ
cell_value_bytes r (bool_cell b) = bit b ∷ []
cell_value_bytes rank.Int32 (int_cell z) = i32 z
cell_value_bytes r (int_cell z) = i64 z
cell_value_bytes r (bytes_cell b) = u64 (length b) ++ b
cell_value_bytes r c = []

abbrev pub cell_spelled : Rank → Cell → List ℕ
cell_spelled r c = state_byte c ∷ cell_value_bytes r c

abbrev pub same_cell : Cell → Cell → Bool
same_cell unset unset = true
same_cell null_cell null_cell = true
same_cell (bool_cell a) (bool_cell b) = same_truth a b
same_cell (int_cell a) (int_cell b) = is_eq (int_cmp a b)
same_cell (bytes_cell a) (bytes_cell b) = same_bytes a b
same_cell a b = false

-- ---- runs: neighbours differ

abbrev pub runs_cells : List (ℕ × Cell) → List Cell
runs_cells runs = flat_map (λ r. replicate r.0 r.1) runs

abbrev pub are_runs : List (ℕ × Cell) → Bool
are_runs [] = true
are_runs (r ∷ []) = nat_lt 0 r.0
are_runs (r ∷ s ∷ rest) = nat_lt 0 r.0 && not (same_cell r.1 s.1) && are_runs (s ∷ rest)

-- ---- dictionaries: every entry is used, and first used in the entries' order

abbrev pub width_for : ℕ → ℕ
width_for n = if nat_lt n (2 ^ 8) then 1 else (if nat_lt n (2 ^ 16) then 2 else 4)

abbrev pub of_width : ℕ → ℕ → List ℕ
of_width w n = if w == 1 then n ∷ [] else (if w == 2 then u16 n else u32 n)

-- each number is one used before, or the next one
abbrev pub first_used : ℕ → List ℕ → Bool
first_used next [] = true
first_used next (n ∷ ns) = if n == next then first_used (next + 1) ns else nat_lt n next && first_used next ns

abbrev pub highest : List ℕ → ℕ
highest ns = fold max 0 ns

-- ---- packed numbers: differences to the least value

abbrev pub least_number : List ℤ → ℤ
least_number [] = pos 0
least_number (z ∷ zs) = fold (λ a b. if int_lt b a then b else a) z zs

abbrev pub greatest_number : List ℤ → ℤ
greatest_number [] = pos 0
greatest_number (z ∷ zs) = fold (λ a b. if int_lt a b then b else a) z zs

abbrev pub numbers_of : List Cell → List ℤ
numbers_of [] = []
numbers_of (int_cell z ∷ cs) = z ∷ numbers_of cs
numbers_of (unset ∷ cs) = numbers_of cs
numbers_of (null_cell ∷ cs) = numbers_of cs
numbers_of (bool_cell b ∷ cs) = numbers_of cs
numbers_of (bytes_cell b ∷ cs) = numbers_of cs

abbrev pub difference : ℤ → Cell → ℕ
difference least (int_cell z) = nat_in (z -ℤ least)
difference least c = 0

abbrev pub span : List Cell → ℕ
span cs = nat_in (greatest_number (numbers_of cs) -ℤ least_number (numbers_of cs))

abbrev pub is_number_rank : Rank → Bool
is_number_rank r = same_rank r rank.Int32 || same_rank r rank.Int64

-- ---- spellings

-- plain, runs, a dictionary with its numbers, packed
pub data Spelling : Type 0 where
  as_plain : Spelling
  as_runs : List (ℕ × Cell) → Spelling
  as_dictionary : List Cell → List ℕ → Spelling
  as_packed : Spelling

abbrev pub at_number : List Cell → ℕ → Cell
at_number entries n = unwrap_or (slice_get entries n) unset

-- the spelling is one of these cells
abbrev pub IsSpellingOf : Rank → List Cell → Spelling → Type 0
IsSpellingOf r cells as_plain = ⊤
IsSpellingOf r cells (as_runs runs) = (runs_cells runs ≡ cells) × IsTrue (are_runs runs)
IsSpellingOf r cells (as_dictionary entries ns) = (map (at_number entries) ns ≡ cells) × IsTrue (first_used 0 ns) × ((if length ns == 0 then 0 else highest ns + 1) ≡ length entries) × (length entries ≤ 2 ^ 32 - 1)
IsSpellingOf r cells as_packed = IsTrue (is_number_rank r) × (span cells < 2 ^ 32)

abbrev pub spelling_bytes : Rank → List Cell → Spelling → List ℕ
spelling_bytes r cells as_plain = 0 ∷ leaf_bytes r cells
spelling_bytes r cells (as_runs runs) = 1 ∷ (u64 (length runs) ++ flat_map (λ x. u64 x.0 ++ cell_spelled r x.1) runs)
spelling_bytes r cells (as_dictionary entries ns) = 2 ∷ (u32 (length entries) ++ (flat_map (cell_spelled r) entries ++ width_for (length entries - 1) ∷ flat_map (of_width (width_for (length entries - 1))) ns))
spelling_bytes r cells as_packed = 3 ∷ (i64 (least_number (numbers_of cells)) ++ width_for (span cells) ∷ (map state_byte cells ++ flat_map (λ c. of_width (width_for (span cells)) (difference (least_number (numbers_of cells)) c)) cells))

-- the bytes are a spelling of the cells; a reader takes each of them
abbrev pub SpellsLeaf : Rank → List Cell → List ℕ → Type 0
SpellsLeaf r cells bs = (s : Spelling) × IsSpellingOf r cells s × (bs ≡ spelling_bytes r cells s)

-- the one that is written: the fewest bytes, and of equal ones the lesser encoding; a dictionary has distinct entries
abbrev pub encoding_number : Spelling → ℕ
encoding_number as_plain = 0
encoding_number (as_runs runs) = 1
encoding_number (as_dictionary entries ns) = 2
encoding_number as_packed = 3

abbrev pub AreDistinct : List Cell → Type 0
AreDistinct [] = ⊤
AreDistinct (c ∷ cs) = AllByRecursion (λ d. same_cell c d ≡ false) cs × AreDistinct cs

abbrev pub MayBeWritten : Rank → List Cell → Spelling → Type 0
MayBeWritten r cells (as_dictionary entries ns) = IsSpellingOf r cells (as_dictionary entries ns) × AreDistinct entries
MayBeWritten r cells as_plain = ⊤
MayBeWritten r cells (as_runs runs) = IsSpellingOf r cells (as_runs runs)
MayBeWritten r cells as_packed = IsSpellingOf r cells as_packed

pub record IsWritten (r : Rank) (cells : List Cell) (bs : List ℕ) : Type 0 where
  pub spelling : Spelling
  pub may : MayBeWritten r cells spelling
  pub bytes : bs ≡ spelling_bytes r cells spelling
  pub shortest : (other : Spelling) → MayBeWritten r cells other → length bs < length (spelling_bytes r cells other)
      ⊎ ((length bs ≡ length (spelling_bytes r cells other)) × (encoding_number spelling ≤ encoding_number other))

-- ---- zones: none kept, no value, or the least and the greatest value

pub data Zone : Type 0 where
  no_zone : Zone
  no_value : Zone
  within : ℤ → ℤ → Zone

-- zones are kept for whole numbers that are columns of their own
abbrev pub has_zone : Leaf → Bool
has_zone l = is_number_rank l.rank && not l.presence && (length l.path == 0)

abbrev pub zone_over : List ℤ → Zone
zone_over [] = no_value
zone_over (z ∷ zs) = within (least_number (z ∷ zs)) (greatest_number (z ∷ zs))

abbrev pub zone_of : Leaf → List Cell → Zone
zone_of l cells = if has_zone l then zone_over (numbers_of cells) else no_zone

abbrev pub zone_bytes : Zone → List ℕ
zone_bytes no_zone = 0 ∷ []
zone_bytes no_value = 1 ∷ []
zone_bytes (within a b) = 2 ∷ (i64 a ++ i64 b)

-- some number of the zone passes a comparison with a number; where none is kept, some may
abbrev pub passes_between : CmpOp → ℤ → ℤ → ℤ → Bool
passes_between cmp.Eq n a b = int_le a n && int_le n b
passes_between cmp.Ne n a b = not (is_eq (int_cmp a n) && is_eq (int_cmp b n))
passes_between cmp.Lt n a b = int_lt a n
passes_between cmp.Le n a b = int_le a n
passes_between cmp.Gt n a b = int_lt n b
passes_between cmp.Ge n a b = int_le n b

abbrev pub may_pass : CmpOp → ℤ → Zone → Bool
may_pass op n no_zone = true
may_pass op n no_value = false
may_pass op n (within a b) = passes_between op n a b

-- ---- idle bundles: a scan need not read them

-- a comparison of a whole-number column, no key column, with a number, which is the filter itself or stands in its `and`s
pub record Test : Type 0 where
  pub column : ℕ
  pub op : CmpOp
  pub number : ℤ

abbrev pub tests_of_column : CmpOp → ℤ → Column → List Test
tests_of_column op z c = if not (is_struct c.kind) && is_number_rank (rank_of c.kind) then record { column = c.number; op = op; number = z } ∷ [] else []

abbrev pub test_on : List Column → CmpOp → List ℕ → Literal → List Test
test_on columns op name (int_literal z) = option_map_or (tests_of_column op z) (find (λ c. same_bytes c.name name) columns) []
test_on columns op name l = []

abbrev pub tests_in : List Column → Pred → List Test
tests_in columns all_rows = []
tests_in columns (both p q) = tests_in columns p ++ tests_in columns q
tests_in columns (either p q) = []
tests_in columns (negated p) = []
tests_in columns (is_null name) = []
tests_in columns (compares op name l) = test_on columns op name l

abbrev pub value_passes : Test → Value → Bool
value_passes t v = is_true (compared t.op v (int_value t.number))

-- the column's default at the asked version's kind
abbrev pub default_passes : Table → List Column → Test → Bool
default_passes t columns x = option_map_or (λ c. value_passes x (conv (fallback t c.number) c.kind)) (column_numbered columns x.column) false

abbrev pub leaf_cells : ℕ → List RowVersion → List Cell
leaf_cells n vs = map (λ v. cell_at v.cells n) vs

-- a bundle is a candidate where its layout has the column's leaf, and its zone is not kept or some number of it passes
abbrev pub is_candidate : Bool → Test → TableDelta → List RowVersion → Bool
is_candidate keeps x d vs = option_map_or (λ l. not keeps || may_pass x.op x.number (zone_of l.1 (leaf_cells l.0 vs)))
    (find (λ l. l.1.column == x.column && length l.1.path == 0) (numbered_from 0 d.layout)) false

abbrev pub intervals_meet : List RowVersion → List RowVersion → Bool
intervals_meet a b = not (below (last_key a) (first_key b)) && not (below (last_key b) (first_key a))

abbrev pub lies_between : List RowVersion → List ℕ → Bool
lies_between a key = not (below key (first_key a)) && not (below (last_key a) key)

-- a pending change is a candidate where it sets the column
abbrev pub sets_column : Test → Change → Bool
sets_column x c = is_some (setting x.column c.set)

-- A bundle is idle where for some test the column's default does not pass, no candidate bundle of the met partitions has keys
-- between its own, and no candidate pending change has one.
abbrev pub is_idle_for : (Delta → Bool) → State → Memory → Table → List Column → Range → List RowVersion → Test → Bool
is_idle_for keeps s mem t columns r vs x = not (default_passes t columns x)
    && list_all (λ d. list_all (λ y. not (y.table == t.number) || list_all (λ b. not (is_candidate (keeps d) x y b && intervals_meet vs b)) y.bundles) d.tables) (filter (is_met s.durable r) s.durable.shelf)
    && list_all (λ cs. list_all (λ c. not (sets_column x c && lies_between vs (change_key c))) cs) mem

abbrev pub is_idle : (Delta → Bool) → State → Memory → Table → List Column → Query → List RowVersion → Bool
is_idle keeps s mem t columns q vs = list_any (is_idle_for keeps s mem t columns (query_interval t q) vs) (tests_in columns q.filter)
