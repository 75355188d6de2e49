-- A relay: a log from which another replica starts, with the same snapshots from one moment to another.
use Rattle.std.specs.Prelude.{List, None, Some, [], drop, filter, filter_map, fold, if◌then◌else◌, map, nat_le, nat_lt, option_map, true, unwrap_or, ℕ, ◌&&◌, ◌++◌, ◌==◌, ◌||◌, ◌∷◌, ◌≡◌, ◌≤◌}
use Rattle.lt_terms.specs.Key.{KeyPart, all_keys, below}
use Rattle.lt_terms.specs.Log.{Change, Header, Item, change_item, change_key, changes_of, checkpoint_item, header_item}
use Rattle.lt_terms.specs.Value.{Value}
use Rattle.lt_terms.specs.Conversion.{conv}
use Rattle.lt_terms.specs.Layout.{setting}
use Rattle.lt_terms.specs.declared.Op.{Op}
use Rattle.lt_world.specs.Feed.{Feed}
use Rattle.lt_tables.specs.Schema.{Catalogue, Column, IsCatalogue, Registered, Table, fallback, registered, table_numbered}
use Rattle.lt_tables.specs.Row.{keys_of, row_at, snapshot}
use Rattle.lt_tables.specs.Fair.{is_fair}
use Rattle.lt_machine.specs.Sound.{Fronts, source_of}
use Rattle.lt_terms.specs.declared.Format.TheVariants as format
use Rattle.lt_terms.specs.declared.Op.TheVariants as ops

pub record RelaySpec : Type 0 where
  pub table : ℕ
  pub version : ℕ
  pub from : ℕ
  pub to : ℕ

abbrev pub relay_header : Header
relay_header = record { format = format.Two; stream = 0; range = all_keys; predecessor = None; from = 0 }

-- all columns of a version, as it reads them
abbrev pub read_settings : Table → List Column → List (ℕ × Value) → List (ℕ × Value)
read_settings t columns set = map (λ c. (c.number, conv (unwrap_or (setting c.number set) (fallback t c.number)) c.kind)) columns

-- the set columns that the version has, at its kinds, by rising number
abbrev pub set_settings : List Column → List (ℕ × Value) → List (ℕ × Value)
set_settings columns set = filter_map (λ c. option_map (λ v. (c.number, conv v c.kind)) (setting c.number set)) columns

abbrev pub relayed_at : RelaySpec → ℕ → Op → List KeyPart → List (ℕ × Value) → Item
relayed_at r t op key set = change_item (record { ts = t; table = r.table; version = r.version; op = op; key = key; set = set })

-- an insert at the first moment for each row that is present then, in key order
abbrev pub first_items : RelaySpec → Table → List Column → List Change → List Item
first_items r t columns source = filter_map (λ key. option_map (λ set. relayed_at r r.from ops.Insert key.1 (read_settings t columns set)) (row_at source key.0 r.from)) (keys_of r.table source)

-- a change as it is relayed: a delete as it is, an update with its set columns, an insert with every column
abbrev pub relayed_set : Table → List Column → Op → List (ℕ × Value) → List (ℕ × Value)
relayed_set t columns ops.Insert set = read_settings t columns set
relayed_set t columns ops.Update set = set_settings columns set
relayed_set t columns ops.Delete set = []

abbrev pub relayed_change : RelaySpec → Table → List Column → Change → Item
relayed_change r t columns c = relayed_at r c.ts c.op c.key (relayed_set t columns c.op c.set)

-- by rising timestamp and key
abbrev pub put_in_time : Change → List Change → List Change
put_in_time c [] = c ∷ []
put_in_time c (d ∷ ds) = if nat_lt c.ts d.ts || (c.ts == d.ts && below (change_key c) (change_key d)) then c ∷ d ∷ ds else d ∷ put_in_time c ds

abbrev pub later_changes : RelaySpec → List Change → List Change
later_changes r source = fold (λ cs c. put_in_time c cs) [] (filter (λ c. c.table == r.table && nat_lt r.from c.ts && nat_le c.ts r.to) source)

-- the log: a header for all keys, the rows at the first moment, each later change, and a checkpoint
unfoldable pub relay_items : RelaySpec → Table → List Column → List Change → List Item
relay_items r t columns source = header_item relay_header ∷ (first_items r t columns source ++ (map (relayed_change r t columns) (later_changes r source) ++ checkpoint_item r.to ∷ []))

-- the log is fair under the same catalogue, and for each moment in between its snapshot is the source's
abbrev pub RelayLaw : Type 0
RelayLaw = (feed : Feed) (fs : List (Header × List Item)) (cat : Catalogue) (r : RelaySpec) (t : Table) (v : Registered) → IsCatalogue cat → Fronts feed cat fs
    → table_numbered cat r.table ≡ Some t → registered t r.version ≡ Some v → r.from ≤ r.to
    → (is_fair relay_header cat (drop 1 (relay_items r t v.columns (source_of fs))) ≡ true)
    × ((at : ℕ) → r.from ≤ at → at ≤ r.to → snapshot (changes_of (relay_items r t v.columns (source_of fs))) t v.columns at ≡ snapshot (source_of fs) t v.columns at)
