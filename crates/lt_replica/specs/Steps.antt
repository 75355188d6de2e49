-- What a step does: what it answers, and what it leaves.
use Rattle.std.specs.Prelude.{Bool, Err, IfSome, IsTrue, List, None, Ok, Option, Result, Some, [], false, length, take, true, ℕ, ⊤, ◌+◌, ◌++◌, ◌<◌, ◌∷◌, ◌≡◌, ◌⊎◌}
use Rattle.std.specs.List.{AllByRecursion}
use Rattle.lt_terms.specs.declared.Format.TheVariants as format
use Rattle.lt_world.specs.Disk.{Rose}
use Rattle.lt_world.specs.Feed.{Feed}
use Rattle.lt_terms.specs.Log.{Change, Item, changes_of, is_item}
use Rattle.lt_tables.specs.Pump.{StreamAt, Takes}
use Rattle.lt_machine.specs.Machine.{AreFair, Answer, Does, DoesOver, Scans, cat_of, ranges_of, refused, replies, split_key, stream_at, with_items}
use Rattle.lt_world.specs.Feed.{FeedState}
use Rattle.lt_world.specs.RowSink.{Given, RowSinkState}
use Rattle.lt_machine.specs.Outside.{BelongsTo, GivenUpTo}
use Rattle.lt_machine.specs.Sound.{Memory}
use Rattle.lt_tables.specs.Query.{Literal, Query}
use Rattle.lt_words.specs.Reply as model
use Rattle.lt_tables.specs.Schema.{Table, table_named}
use Rattle.lt_tables.specs.Query.{Command, do_pump, do_scan, do_split}
use Rattle.lt_machine.specs.Sound.{source_of}
use Rattle.lt_terms.specs.Value.{Value}
use Rattle.lt_pump.specs.Given.{all_given}
use Rattle.lt_reply.specs.View.{IsSpoken, view_refusal, view_reply}
use Rattle.lt_reply.specs.declared.refusal.Refusal.{Refusal}
use Rattle.lt_reply.specs.declared.refusal.Refusal.TheVariants as refusals
use Rattle.lt_reply.specs.declared.reply.Reply.{Reply}
use Rattle.lt_steps.specs.Memory.{partitions, split_memory}
use Rattle.lt_replica.specs.State.{memory_of, state_of}
use Rattle.lt_replica.specs.declared.replica.Replica.{Replica}

-- what was answered, and with which rows before it
abbrev pub answer_of : Result Reply Refusal → Result model.Reply model.Refusal
answer_of (Ok r) = Ok (view_reply r)
answer_of (Err e) = Err (view_refusal e)

abbrev pub with_rows : List (List Value) → Result Reply Refusal → Answer
with_rows rows result = record { rows = rows; reply = answer_of result }

-- A refusal is the machine's, if memory did not run out. A fault is none.
abbrev pub Refuses : Option model.Refusal → Refusal → Type 0
Refuses o refusals.Memory = ⊤
Refuses o refusals.FeedFault = ⊥
Refuses o refusals.OutFault = ⊥
Refuses o e = IsSpoken e × (o ≡ Some (view_refusal e))

-- the replica is as it was
pub record Stays (old new : Replica) : Type 0 where
  pub state : state_of new ≡ state_of old
  pub memory : memory_of new ≡ memory_of old

-- a command that the state does not refuse is done, whatever the feed has, and this is held then
pub record Done (old new : Replica) (c : Command) (reply : Reply) (mem : Memory) : Type 0 where
  pub free : refused (state_of old) c ≡ None
  pub does : (f : Feed) (source : List Change) → Does f source (state_of old) c (replies (view_reply reply)) (state_of new)
  pub memory : memory_of new ≡ mem

-- Fair items were taken of a stream, and given to the partitions. Where the feed exposes its contents, they stand in it.
pub record Took (told : Option Feed) (old new : Replica) (n : ℕ) : Type 0 where
  pub stood : StreamAt
  pub known : stream_at (state_of old) n ≡ Some stood
  pub items : List Item
  pub fair : AreFair (cat_of (state_of old)) stood items
  pub lawful : AllByRecursion (λ i. IsTrue (is_item format.One i)) items
  pub state : state_of new ≡ with_items n items (state_of old)
  pub memory : memory_of new ≡ all_given (changes_of items) (partitions (state_of old)) (memory_of old)
  pub takes : IfSome told (λ f. (rest : List ℕ) × Takes f (cat_of (state_of old)) stood items rest)

-- fewer than were asked for
abbrev pub TookFewer : Option Feed → Replica → Replica → ℕ → ℕ → Type 0
TookFewer told old new n asked = (t : Took told old new n) × (length t.items < asked)

-- A pump that fails leaves the replica as it was, or behind the records that it took.
abbrev pub TakesLess : Option Feed → Replica → Replica → ℕ → ℕ → Type 0
TakesLess told old new n asked = Stays old new ⊎ ((refused (state_of old) (do_pump n asked) ≡ None) × TookFewer told old new n asked)

-- a pump was done: what it answers is the machine's
pub record HasTaken (told : Option Feed) (old new : Replica) (n asked : ℕ) (reply : Reply) : Type 0 where
  pub free : refused (state_of old) (do_pump n asked) ≡ None
  pub took : Took told old new n
  pub does : (source : List Change) → DoesOver told source (state_of old) (do_pump n asked) (replies (view_reply reply)) (state_of new)

-- Why a pump is refused or fails, by the feed before and now, and what it leaves.
pub data PumpFails (feed feed' : FeedState) (old new : Replica) (n asked : ℕ) (e : Refusal) : Type 0 where
  feed_fails : e ≡ refusals.FeedFault → Rose feed.faults feed'.faults → refused (state_of old) (do_pump n asked) ≡ None → TakesLess feed'.told old new n asked → PumpFails feed feed' old new n asked e
  no_memory : e ≡ refusals.Memory → feed'.faults ≡ feed.faults → TakesLess feed'.told old new n asked → PumpFails feed feed' old new n asked e
  refuses_pump : feed'.faults ≡ feed.faults → Refuses (refused (state_of old) (do_pump n asked)) e → Stays old new → PumpFails feed feed' old new n asked e

-- a split parts what the partition of the key holds
pub record Splits (old new : Replica) (name : List ℕ) (ls : List Literal) (reply : Reply) : Type 0 where
  pub table : Table
  pub named : table_named (cat_of (state_of old)) name ≡ Some table
  pub done : Done old new (do_split name ls) reply (split_memory (split_key table ls) (memory_of old) (ranges_of (state_of old).durable))

-- the rows that a query asks for, of every feed that the replica belongs to
abbrev pub AreRows : Replica → Query → List (List Value) → Type 0
AreRows r q rows = (f : Feed) → (b : BelongsTo f (state_of r) (memory_of r)) → Scans (source_of b.0) (state_of r) q rows

-- all rows were given
pub record Scanned (r : Replica) (q : Query) (before now : RowSinkState) (reply : Reply) : Type 0 where
  pub free : refused (state_of r) (do_scan q) ≡ None
  pub given : List (List Value)
  pub appended : Given before now given
  pub reply_is : view_reply reply ≡ model.scan_done (length given)
  pub are_rows : AreRows r q given
  pub kept : now.faults ≡ before.faults

-- some first rows were given, before the sink failed or memory ran out
pub record BreaksOff (r : Replica) (q : Query) (before now : RowSinkState) (e : Refusal) : Type 0 where
  pub free : refused (state_of r) (do_scan q) ≡ None
  pub all : List (List Value)
  pub number : ℕ
  pub appended : GivenUpTo before now (take number all) (Err (view_refusal e))
  pub next : (appended.broken_off ≡ []) ⊎ (take number all ++ appended.next ∷ [] ≡ take (number + 1) all)
  pub are_rows : AreRows r q all

-- Why a scan is refused or breaks off.
pub data ScanFails (r : Replica) (q : Query) (before now : RowSinkState) (e : Refusal) : Type 0 where
  sink_fails : e ≡ refusals.OutFault → Rose before.faults now.faults → BreaksOff r q before now refusals.OutFault → ScanFails r q before now e
  breaks_off : e ≡ refusals.Memory → now.faults ≡ before.faults → BreaksOff r q before now refusals.Memory → ScanFails r q before now e
  refuses_scan : now ≡ before → Refuses (refused (state_of r) (do_scan q)) e → ScanFails r q before now e

-- whether a fault of the row sink is answered
abbrev pub falls : Refusal → Bool
falls refusals.OutFault = true
falls e = false

abbrev pub fell : {T : Type 0} → Result T Refusal → Bool
fell (Ok x) = false
fell (Err e) = falls e
