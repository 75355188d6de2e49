-- Lists of row versions, by rising key and falling timestamp.
use Rattle.std.specs.Prelude.{Bool, IsTrue, List, None, Option, Some, [], false, filter, find, fold, if◌then◌else◌, length, map, max, min, nat_le, nat_lt, not, option_and_then, option_map, slice_get, true, unwrap_or, ℕ, ◌&&◌, ◌==◌, ◌||◌, ◌∷◌, ◌≡◌}
use Rattle.std.specs.List.{AllByRecursion, list_all}
use Rattle.std.specs.Option.{option_map_or}
use Rattle.lt_terms.specs.declared.Op.{Op}
use Rattle.lt_terms.specs.Layout.{Cell, Leaf, are_lawful, coerce, flatten, is_unset, unflatten, unset}
use Rattle.lt_terms.specs.Key.{Range, below, in_range, max_key, same_key}
use Rattle.lt_terms.specs.Value.{Value, is_timestamp}
use Rattle.lt_terms.specs.Conversion.{conv}
use Rattle.lt_terms.specs.Log.{Change, change_key}
use Rattle.lt_tables.specs.Schema.{Catalogue, Column, Table, carrier, carriers, fallback, first_of, table_numbered, version_layout}
use Rattle.lt_terms.specs.declared.Op.TheVariants as ops

-- a change as a store holds it: by its key's bytes, in cells under a layout
pub record RowVersion : Type 0 where
  pub key : List ℕ
  pub ts : ℕ
  pub op : Op
  pub cells : List Cell

abbrev pub is_insert : Op → Bool
is_insert ops.Insert = true
is_insert ops.Update = false
is_insert ops.Delete = false

abbrev pub is_delete : Op → Bool
is_delete ops.Insert = false
is_delete ops.Update = false
is_delete ops.Delete = true

-- ---- order, and the law of a list

abbrev pub same_name : RowVersion → RowVersion → Bool
same_name a b = same_key a.key b.key && a.ts == b.ts

-- a lower key first, and of one key the later version first
abbrev pub stands_before : RowVersion → RowVersion → Bool
stands_before a b = below a.key b.key || (same_key a.key b.key && nat_lt b.ts a.ts)

-- the list rises by key and falls strictly by timestamp within a key
abbrev pub is_ordered : List RowVersion → Bool
is_ordered [] = true
is_ordered (v ∷ []) = true
is_ordered (v ∷ w ∷ rest) = stands_before v w && is_ordered (w ∷ rest)

-- the key has 4 to 4,096 bytes, so that it can begin with a table's number, the cells are lawful, and a delete has none set
abbrev pub is_version : List Leaf → RowVersion → Bool
is_version layout v = nat_le 4 (length v.key) && nat_le (length v.key) max_key && is_timestamp v.ts && are_lawful layout v.cells
    && (not (is_delete v.op) || list_all is_unset v.cells)

pub record AreVersions (layout : List Leaf) (vs : List RowVersion) : Type 0 where
  pub ordered : IsTrue (is_ordered vs)
  pub each : AllByRecursion (λ v. IsTrue (is_version layout v)) vs

-- ---- what a change is under a catalogue

abbrev pub carried : Catalogue → ℕ → ℕ × Value → ℕ × Value
carried cat table s = (s.0, option_map_or (conv s.1) (option_and_then (λ t. carrier t s.0) (table_numbered cat table)) s.1)

-- Under the carriers, each live column that the change sets at its carrier, and the others unset.
unfoldable pub seen : Catalogue → Change → RowVersion
seen cat c = record { key = change_key c; ts = c.ts; op = c.op; cells = flatten (carriers cat c.table) (map (carried cat c.table) c.set) }

-- the same under its own version, in source values
abbrev pub as_logged : List Column → Change → RowVersion
as_logged columns c = record { key = change_key c; ts = c.ts; op = c.op; cells = flatten (version_layout columns) c.set }

-- ---- two versions of one key as one

-- the newer cells where they are set
abbrev pub overlay : List Cell → List Cell → List Cell
overlay [] newer = newer
overlay (a ∷ olds) [] = a ∷ olds
overlay (a ∷ olds) (b ∷ news) = (if is_unset b then a else b) ∷ overlay olds news

-- An insert or a delete stands alone. An update lays its set cells over an insert or an update, and leaves a delete a delete.
abbrev pub composed_op : Op → Op → Op
composed_op older ops.Insert = ops.Insert
composed_op older ops.Update = older
composed_op older ops.Delete = ops.Delete

abbrev pub composed_cells : RowVersion → RowVersion → List Cell
composed_cells older newer = if is_insert newer.op || is_delete newer.op then newer.cells else (if is_delete older.op then older.cells else overlay older.cells newer.cells)

unfoldable pub compose : RowVersion → RowVersion → RowVersion
compose older newer = record { key = newer.key; ts = newer.ts; op = composed_op older.op newer.op; cells = composed_cells older newer }

-- what a version makes of a row in cells, and what a list makes of an absent one: the versions of one key, the oldest last
abbrev pub effect_by : Op → List Cell → Option (List Cell) → Option (List Cell)
effect_by ops.Insert cells row = Some cells
effect_by ops.Update cells row = option_map (λ older. overlay older cells) row
effect_by ops.Delete cells row = None

abbrev pub effect : Option (List Cell) → RowVersion → Option (List Cell)
effect row v = effect_by v.op v.cells row

abbrev pub effect_of : List RowVersion → Option (List Cell)
effect_of [] = None
effect_of (v ∷ vs) = effect (effect_of vs) v

pub record ComposeLaws : Type 0 where
  pub assoc : (a b c : RowVersion) → compose (compose a b) c ≡ compose a (compose b c)
  pub is_both : (row : Option (List Cell)) (a b : RowVersion) → effect row (compose a b) ≡ effect (effect row a) b

-- ---- lists made of lists

-- the list with a version in its place, instead of one of the same name
abbrev pub put_version : RowVersion → List RowVersion → List RowVersion
put_version v [] = v ∷ []
put_version v (w ∷ ws) = if stands_before v w then v ∷ w ∷ ws else (if same_name v w then v ∷ ws else w ∷ put_version v ws)

abbrev pub put_versions : List RowVersion → List RowVersion → List RowVersion
put_versions [] others = others
put_versions (v ∷ vs) others = put_version v (put_versions vs others)

-- every key and timestamp once, as the first list that has it says
unfoldable pub merge : List (List RowVersion) → List RowVersion
merge [] = []
merge (vs ∷ lists) = put_versions vs (merge lists)

-- what the merge of lists is, without a way to make it
pub record IsMerge (lists : List (List RowVersion)) (merged : List RowVersion) : Type 0 where
  pub ordered : IsTrue (is_ordered merged)
  pub first : (key : List ℕ) (t : ℕ) → find (λ v. same_key key v.key && v.ts == t) merged ≡ first_of (map (find (λ v. same_key key v.key && v.ts == t)) lists)

-- the versions whose key is in the range
abbrev pub clip : Range → List RowVersion → List RowVersion
clip r vs = filter (λ v. in_range v.key r) vs

abbrev pub coerced : List Leaf → List Leaf → RowVersion → RowVersion
coerced from to v = record v { cells = coerce from to v.cells }

abbrev pub coerce_all : List Leaf → List Leaf → List RowVersion → List RowVersion
coerce_all from to vs = map (coerced from to) vs

abbrev pub onto : RowVersion → List RowVersion → List RowVersion
onto v [] = v ∷ []
onto v (w ∷ ws) = if same_key v.key w.key then compose w v ∷ ws else v ∷ w ∷ ws

-- the versions above t as they are, and those up to t composed, key by key, from the oldest
abbrev pub rolled_up : ℕ → List RowVersion → List RowVersion
rolled_up t [] = []
rolled_up t (v ∷ vs) = if nat_lt t v.ts then v ∷ rolled_up t vs else onto v (rolled_up t vs)

-- for each key its versions up to t composed, where that is an insert
unfoldable pub asof : ℕ → List RowVersion → List RowVersion
asof t vs = filter (λ v. nat_le v.ts t && is_insert v.op) (rolled_up t vs)

-- the versions above m, then those up to it composed where that is an insert, else none
unfoldable pub collapse : ℕ → List RowVersion → List RowVersion
collapse m vs = filter (λ v. nat_lt m v.ts || is_insert v.op) (rolled_up m vs)

-- ---- reading

-- a row in cells, read by a version
abbrev pub read_cells : Table → List Column → List Leaf → List Cell → List Value
read_cells t columns layout cells = map (λ c. conv (unwrap_or (unflatten layout cells c.number) (fallback t c.number)) c.kind) columns

-- the least and greatest timestamps; 0 of an empty list
abbrev pub least_ts : List RowVersion → ℕ
least_ts [] = 0
least_ts (v ∷ vs) = fold (λ t w. min t w.ts) v.ts vs

abbrev pub greatest_ts : List RowVersion → ℕ
greatest_ts vs = fold (λ t v. max t v.ts) 0 vs

-- ---- iterators over row versions

-- what an iterator's head and cells are, and what stands behind it
abbrev pub first_version : List RowVersion → Option RowVersion
first_version [] = None
first_version (v ∷ vs) = Some v

abbrev pub cell_at : List Cell → ℕ → Cell
cell_at cells i = unwrap_or (slice_get cells i) unset
