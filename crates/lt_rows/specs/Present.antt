-- The present rows of a table by rising key, each as its key's parts and what was set last of each column, and how a version reads them.
use Rattle.std.specs.Prelude.{Bool, List, [], fold, if◌then◌else◌, map, nat_le, reverse, unwrap_or, ℕ, ◌&&◌, ◌++◌, ◌==◌}
use Rattle.std.specs.BTreeMap.{insert_entry, is_at}
use Rattle.std.specs.Map.{lookup, remove_entry, set_value}
use Rattle.std.specs.Option.{option_map_or}
use Rattle.std.specs.Ordering.{nat_cmp}
use Rattle.lt_terms.specs.declared.Op.{Op}
use Rattle.lt_terms.specs.declared.Op.TheVariants as ops
use Rattle.lt_terms.specs.Value.{Value, null_value}
use Rattle.lt_terms.specs.Kind.{Kind}
use Rattle.lt_terms.specs.Conversion.{conv}
use Rattle.lt_terms.specs.Key.{KeyPart, bytes_cmp, part_value}
use Rattle.lt_terms.specs.Layout.{setting}
use Rattle.lt_terms.specs.Log.{Change, change_key}
use Rattle.lt_tables.specs.Schema.{Catalogue, Column, fallback_in}

-- ---- what was set

-- by rising number, each once
abbrev pub Set : Type 0
Set = List (ℕ × Value)

abbrev pub put_setting : Set → ℕ × Value → Set
put_setting was s = insert_entry nat_cmp was s.0 s.1

-- settings over what was set before; the first of a column counts
abbrev pub laid_over : List (ℕ × Value) → Set → Set
laid_over set was = fold put_setting was (reverse set)

-- ---- rows

abbrev pub Present : Type 0
Present = List KeyPart × Set

abbrev pub Rows : Type 0
Rows = List (List ℕ × Present)

abbrev pub updated : List ℕ → List (ℕ × Value) → Rows → Rows
updated key set rows = option_map_or (λ was. set_value (is_at (bytes_cmp key)) rows (was.0, laid_over set was.1)) (lookup (is_at (bytes_cmp key)) rows) rows

abbrev pub rows_by : Op → List ℕ → List KeyPart → List (ℕ × Value) → Rows → Rows
rows_by ops.Insert key parts set rows = insert_entry bytes_cmp rows key (parts, laid_over set [])
rows_by ops.Update key parts set rows = updated key set rows
rows_by ops.Delete key parts set rows = remove_entry (is_at (bytes_cmp key)) rows

abbrev pub with_change : Rows → Change → Rows
with_change rows c = rows_by c.op (change_key c) c.key c.set rows

-- a change of the table, up to the moment
abbrev pub counts : ℕ → ℕ → Change → Bool
counts table at c = c.table == table && nat_le c.ts at

abbrev pub with_counted : ℕ → ℕ → Rows → Change → Rows
with_counted table at rows c = if counts table at c then with_change rows c else rows

abbrev pub present_by : ℕ → ℕ → Rows → List Change → Rows
present_by table at rows cs = fold (with_counted table at) rows cs

-- ---- reading

-- how a column is read: its number and kind, and what it reads as where nothing set it
pub record Reading : Type 0 where
  pub number : ℕ
  pub kind : Kind
  pub default : Value

abbrev pub reading_of : Catalogue → ℕ → Column → Reading
reading_of cat table c = record { number = c.number; kind = c.kind; default = conv (unwrap_or (fallback_in cat table c.number) null_value) c.kind }

abbrev pub read_set : Set → Reading → Value
read_set set r = option_map_or (λ v. conv v r.kind) (setting r.number set) r.default

abbrev pub row_of : List Reading → Present → List Value
row_of readings present = map part_value present.0 ++ map (read_set present.1) readings

abbrev pub full_row : Catalogue → ℕ → List Column → List ℕ × Present → List Value
full_row cat table columns e = row_of (map (reading_of cat table) columns) e.1
