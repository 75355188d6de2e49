-- What a replica stands for: a session, whose state is the machine's, with what it holds in memory.
use Rattle.std.specs.Prelude.{List, None, Option, Some, [], length, map, ℕ, ◌^◌, ◌≡◌, ◌≤◌}
use Rattle.lt_tables.specs.Pump.{StreamAt}
use Rattle.lt_machine.specs.Machine.{State}
use Rattle.lt_world.specs.Feed.{FeedState}
use Rattle.lt_tables.specs.Pump.{name_of}
use Rattle.lt_machine.specs.Sound.{Memory}
use Rattle.lt_machine.specs.Run.{StartFault, no_store, start_damaged, start_disk, start_feed, start_mismatch, store_there}
use Rattle.lt_tables.specs.Schema.{Catalogue}
use Rattle.lt_machine.specs.Sound.{Session}
use Rattle.lt_storage.specs.Store.{Durable}
use Rattle.lt_parts.specs.declared.entry.PartEntry.{PartEntry}
use Rattle.lt_pending.specs.Held.{held_in}
use Rattle.lt_pump.specs.Pumps.{streams_of}
use Rattle.lt_pump.specs.declared.refusal.AttachRefusal.{AttachRefusal}
use Rattle.lt_pump.specs.declared.refusal.AttachRefusal.TheVariants as attach
pub use Rattle.lt_engine.specs.Settling.{AreSettled, part_of_entry}
use Rattle.lt_engine.specs.declared.refusal.StartRefusal.{StartRefusal}
use Rattle.lt_engine.specs.declared.refusal.StartRefusal.TheVariants as start
use Rattle.lt_engine.specs.declared.replica.Replica.{Replica}

-- there is no store yet: the limit serves for nothing, and nothing is on the shelf
abbrev pub durable_with : Catalogue → ℕ → List PartEntry → List StreamAt → Durable
durable_with cat n es ss = record {
  limit = 2 ^ 20;
  generation = n;
  catalogue = cat;
  minimum = 0;
  next_id = 0;
  parts = map part_of_entry es;
  streams = map (λ a. record { low = a.header.range.low; points = [] }) ss;
  shelf = [];
}

-- what is held is what is pending
abbrev pub state_with : Catalogue → ℕ → List PartEntry → List StreamAt → Memory → State
state_with cat n es ss mem = record { durable = durable_with cat n es ss; streams = ss; pending = map (map name_of) mem; job = None; broken = None }

-- the changes that each partition holds
abbrev pub memory_of : Replica → Memory
memory_of r = map held_in r.parts.items

abbrev pub state_of : Replica → State
state_of r = state_with r.catalogue r.generation r.map (streams_of r.pump) (memory_of r)

-- A replica stands for a session. While there is no store, where the session's parts stand on a disk is free.
pub record StandsFor (r : Replica) (x : Session) : Type 0 where
  -- the changes that its partitions hold
  pub memory : x.memory ≡ memory_of r
  -- the machine's state
  pub state : x.state ≡ state_of r

-- the feed has each stream that the replica reads
abbrev pub IsFed : Replica → FeedState → Type 0
IsFed r feed = length (streams_of r.pump) ≤ feed.known

-- why no replica begins; out of memory is no cause
abbrev pub view_start : StartRefusal → Option StartFault
view_start start.NoStore = Some no_store
view_start start.StoreThere = Some store_there
view_start start.Disk = Some start_disk
view_start start.Feed = Some start_feed
view_start (start.Mismatch stream) = Some (start_mismatch stream)
view_start (start.Damaged place length) = Some (start_damaged place length)
view_start start.Memory = None

-- why no replica begins, where no pump is made
abbrev pub start_refusal : AttachRefusal → StartRefusal
start_refusal (attach.Mismatch stream) = start.Mismatch stream
start_refusal attach.Feed = start.Feed
start_refusal attach.Memory = start.Memory
