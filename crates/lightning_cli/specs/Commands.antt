-- What a command leads to, and the version that its rows are read by.
use Rattle.std.specs.Prelude.{List, OnOk, Option, Result, Some, option_and_then, option_map, ℕ, ◌++◌, ◌≡◌}
use Rattle.std.specs.Io.KnownBytes.{Appends}
use Rattle.lt_world.specs.Disk.{DiskState}
use Rattle.lt_world.specs.Feed.{Grows}
use Rattle.lt_machine.specs.InMemory.{in_memory, on_memory}
use Rattle.lt_machine.specs.Machine.{query_of}
use Rattle.lt_world.specs.Feed.{FeedState}
use Rattle.lt_machine.specs.Outside.{counts_in}
use Rattle.lt_machine.specs.Program.{rules_of}
use Rattle.lt_machine.specs.Run.{CommandRuns, Moment, Rules}
use Rattle.lt_tables.specs.Schema.{Catalogue, SchemaVersion, registered, table_named, whole_version}
use Rattle.lt_tables.specs.Query.{Command}
use Rattle.lt_machine.specs.Step.{Serves}
use Rattle.lt_engine.specs.State.{StandsFor}
use Rattle.lt_engine.specs.declared.replica.Replica.{Replica}

-- the version of the table with a name
abbrev pub version_named : Catalogue → List ℕ → ℕ → Option SchemaVersion
version_named cat name v = option_and_then (λ t. option_map (whole_version t v) (registered t v)) (table_named cat name)

-- the version that a command's rows are read by, where the catalogue has it
abbrev pub version_read : Catalogue → Command → Option SchemaVersion
version_read cat c = option_and_then (λ q. version_named cat q.table q.version) (query_of c)

-- what a run goes by
abbrev pub run_rules : Rules
run_rules = rules_of in_memory

-- A moment is now: it has the feed and the counts of the objects. While a run goes on its script and its output have not failed.
pub record IsNow (d : DiskState) (f : FeedState) (start m : Moment) : Type 0 where
  pub feed : f.told ≡ Some m.feed
  pub counts : m.counts ≡ counts_in d f start.counts.script start.counts.out

-- The replica stands in a moment: for its session, which serves its feed.
pub record StandsIn (d : DiskState) (m : Moment) (replica : Replica) : Type 0 where
  pub stands : StandsFor replica m.session
  pub serves : Serves on_memory d m.feed m.session

-- A command led from a moment to one that is now, in which the replica stands.
pub record Leads (start m : Moment) (c : Command) (d : DiskState) (f : FeedState) (replica : Replica) : Type 0 where
  pub next : Moment
  pub grows : Grows m.feed next.feed
  pub runs : CommandRuns on_memory.cause m c next
  pub now : IsNow d f start next
  pub stands : StandsIn d next replica

-- It was answered behind a text that was collected: some of all this text was written, and the rest is kept. Where the run ends here a rest
-- may be lost.
pub record HasAnswered {T E : Type 0} (start m : Moment) (c : Command) (d : DiskState) (f : FeedState) (replica : Replica) (held held' : Option (List ℕ)) (before kept : List ℕ) (result : Result T E) : Type 0 where
  pub leads : Leads start m c d f replica
  pub more : List ℕ
  pub rest : List ℕ
  pub appends : Appends held held' more
  pub text : before ++ leads.next.text ≡ more ++ rest
  pub left : OnOk result (kept ≡ rest)
