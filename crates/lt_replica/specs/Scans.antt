-- What the parts of a scan answer: whether it is safe, the rows of what is held, and how many of them a sink took.
use Rattle.std.specs.Prelude.{Err, List, None, Option, Some, [], option_map, take, ℕ, ◌+◌, ◌++◌, ◌∷◌, ◌≡◌, ◌⊎◌}
use Rattle.lt_terms.specs.Key.{Range, key_bytes}
use Rattle.lt_machine.specs.Machine.{State, first_below}
use Rattle.lt_world.specs.RowSink.{Given, RowSinkState}
use Rattle.lt_machine.specs.Outside.{GivenUpTo}
use Rattle.lt_words.specs.Reply as model
use Rattle.lt_command.specs.declared.command.Query.{Query}
use Rattle.lt_tables.specs.Query as queries
use Rattle.lt_tables.specs.Schema.{SchemaVersion, Table, table_numbered}
use Rattle.lt_words.specs.Script.{plain_query}
use Rattle.lt_terms.specs.Value.{Value}
use Rattle.lt_rows.specs.Scans.{AreShaped, RiseByKey, scan_rows}
use Rattle.lt_scan.specs.declared.row_sink.RowRefusal.{RowRefusal}
use Rattle.lt_scan.specs.declared.row_sink.RowRefusal.TheVariants as rows
use Rattle.lt_steps.specs.Memory.{gone_over}
use Rattle.lt_replica.specs.State.{memory_of}
use Rattle.lt_replica.specs.declared.replica.Replica.{Replica}

-- the rows that a query asks for by its table, version and timestamp alone
abbrev pub plain : Query → queries.Query
plain q = plain_query q.table q.version q.at None

-- all keys of the table with a number
abbrev pub table_keys : ℕ → Range
table_keys n = record { low = key_bytes n []; high = Some (key_bytes (n + 1) []) }

-- why a scan of a range is not safe at a timestamp
abbrev pub unsafe_at : State → Range → ℕ → Option model.Refusal
unsafe_at s r at = option_map (λ x. model.not_safe x.0 x.1) (first_below s r at)

-- the rows that a version reads of what is held, where that has the shapes of its versions, and the changes of each key rise
abbrev pub ReadsHeld : Replica → SchemaVersion → ℕ → List (List Value) → Type 0
ReadsHeld r version at rows = (t : Table) → AreShaped r.catalogue (gone_over (memory_of r)) → RiseByKey (gone_over (memory_of r)) → table_numbered r.catalogue version.number ≡ Some t
    → rows ≡ scan_rows t version (gone_over (memory_of r)) at

-- why a row was not taken
abbrev pub view_row_refusal : RowRefusal → model.Refusal
view_row_refusal rows.Fault = model.out_fault
view_row_refusal rows.Memory = model.out_of_memory

-- all rows were given, with no fault
pub record GivesAll (before now : RowSinkState) (all : List (List Value)) : Type 0 where
  pub appended : Given before now all
  pub kept : now.faults ≡ before.faults

-- some first rows were given, before one was refused
pub record GivesSome (before now : RowSinkState) (all : List (List Value)) (e : RowRefusal) : Type 0 where
  pub number : ℕ
  pub appended : GivenUpTo before now (take number all) (Err (view_row_refusal e))
  pub next : (appended.broken_off ≡ []) ⊎ (take number all ++ appended.next ∷ [] ≡ take (number + 1) all)
