-- What a replica stands for: a session, whose state is the machine's, with what it holds in memory, and where its parts stand on the disk.
use Rattle.std.specs.Prelude.{IfSome, List, None, Option, Some, [], false, is_some, length, map, ◌≡◌, ◌≤◌}
use Rattle.lt_terms.specs.declared.Extent.{Extent}
use Rattle.lt_machine.specs.Machine.{State}
use Rattle.lt_world.specs.Feed.{FeedState}
use Rattle.lt_machine.specs.Sound.{Memory}
use Rattle.lt_machine.specs.Run.{StartFault, no_store, start_damaged, start_disk, start_feed, start_mismatch, store_there}
use Rattle.lt_machine.specs.Sound.{Session}
use Rattle.lt_storage.specs.Store.{Durable, bare_manifest}
use Rattle.lt_image_laws.specs.Shelf.{placing_for}
use Rattle.lt_pending.specs.Held.{held_in}
use Rattle.lt_pump.specs.Pumps.{streams_of}
use Rattle.lt_pump.specs.declared.refusal.AttachRefusal.{AttachRefusal}
use Rattle.lt_pump.specs.declared.refusal.AttachRefusal.TheVariants as attach
use Rattle.lt_store.specs.Standing.{StandsAt}
use Rattle.lt_replica.specs.BareStore.{IsBare}
pub use Rattle.lt_replica.specs.Numbers.{Numbers, durable_with, numbers_of, state_with}
pub use Rattle.lt_replica.specs.Settling.{AreSettled, part_of_entry}
use Rattle.lt_replica.specs.declared.refusal.StartRefusal.{StartRefusal}
use Rattle.lt_replica.specs.declared.refusal.StartRefusal.TheVariants as start
use Rattle.lt_replica.specs.declared.replica.Replica.{Replica}

-- the changes that each partition holds
abbrev pub memory_of : Replica → Memory
memory_of r = map held_in r.parts.items

-- the state of a replica whose store is whole
abbrev pub state_of : Replica → State
state_of r = state_with r.catalogue (numbers_of r.store r.next_id) r.map (streams_of r.pump) (memory_of r)

-- the same with what a failed command would have left, if one has failed
abbrev pub state_in : Replica → Option Durable → State
state_in r broken = record (state_of r) { broken = broken }

-- what a replica whose store is whole, or broken, may be in
abbrev pub IsIn : Replica → Option Durable → Type 0
IsIn r broken = is_some broken ≡ r.store.broken

-- A replica stands for a session.
pub record StandsFor (r : Replica) (x : Session) : Type 0 where
  -- the changes that its partitions hold
  pub memory : x.memory ≡ memory_of r
  -- what a failed command would have left, where the store is broken; it is bare
  pub broken : Option Durable
  pub is_in : IsIn r broken
  pub bare : IfSome broken (λ d. IsBare (bare_manifest d))
  -- the machine's state
  pub state : x.state ≡ state_in r broken
  -- where its durable part stands
  pub placing : x.placing ≡ placing_for x.placing.root (state_of r).durable []
  -- what is taken of the file is what that names, and while the store is whole nothing else
  pub besides : List Extent
  pub at : StandsAt r.store x.placing besides
  pub whole : r.store.broken ≡ false → (besides ≡ []) × (x.failed ≡ None)
  -- no job is open, and no bundle is kept in memory
  pub made : x.made ≡ []
  pub cached : x.cached ≡ []

-- the feed has each stream that the replica reads
abbrev pub IsFed : Replica → FeedState → Type 0
IsFed r feed = length (streams_of r.pump) ≤ feed.known

-- why no replica begins; out of memory is no cause
abbrev pub view_start : StartRefusal → Option StartFault
view_start start.NoStore = Some no_store
view_start start.StoreThere = Some store_there
view_start start.Disk = Some start_disk
view_start start.Feed = Some start_feed
view_start (start.Mismatch stream) = Some (start_mismatch stream)
view_start (start.Damaged place length) = Some (start_damaged place length)
view_start start.Memory = None

-- why no replica begins, where no pump is made
abbrev pub start_refusal : AttachRefusal → StartRefusal
start_refusal (attach.Mismatch stream) = start.Mismatch stream
start_refusal attach.Feed = start.Feed
start_refusal attach.Memory = start.Memory
