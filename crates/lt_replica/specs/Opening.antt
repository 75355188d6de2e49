-- What an opening finds: a session on the store that the disk has, or why none begins.
use Rattle.std.specs.Prelude.{Bool, IfSome, List, Some, [], false, length, map, true, ⊤, ℕ, ◌-◌, ◌<◌, ◌≡◌, ◌⊎◌}
use Rattle.lt_terms.specs.Log.{Header}
use Rattle.lt_world.specs.Disk.{DiskState, Rose}
use Rattle.lt_world.specs.Feed.{Feed, FeedState}
use Rattle.lt_disk.specs.Within.{IsStable}
use Rattle.lt_words.specs.Reply as model
use Rattle.lt_tables.specs.Pump.{Attaches, Part, behind_header}
use Rattle.lt_storage.specs.Store.{Placing}
use Rattle.lt_image_laws.specs.Shelf.{placing_for}
use Rattle.lt_machine.specs.Outside.{counts_in}
use Rattle.lt_machine.specs.Program.{IsOpened, OpensIn}
use Rattle.lt_machine.specs.Sound.{IsSound}
use Rattle.lt_parts.specs.declared.entry.PartEntry.{PartEntry}
use Rattle.lt_pending.specs.Held.{held_in}
use Rattle.lt_pending.specs.declared.changes.Changes.{Changes}
use Rattle.lt_pump.specs.Pumps.{streams_of}
use Rattle.lt_pump.specs.declared.refusal.AttachRefusal.TheVariants as attach
use Rattle.lt_store.specs.Standing.{StandsAt}
use Rattle.lt_store.specs.declared.refusal.OpenRefusal.TheVariants as store
use Rattle.lt_replica.specs.BareStore.{IsLadenAt, on_bare_store}
use Rattle.lt_replica.specs.State.{IsFed, memory_of, state_of, view_start}
use Rattle.lt_replica.specs.declared.refusal.OpeningRefusal.{OpeningRefusal}
use Rattle.lt_replica.specs.declared.refusal.OpeningRefusal.TheVariants as opening
use Rattle.lt_replica.specs.declared.refusal.StartRefusal.{StartRefusal}
use Rattle.lt_replica.specs.declared.refusal.StartRefusal.TheVariants as start
use Rattle.lt_replica.specs.declared.replica.Replica.{Replica}

-- a partition as an opening finds it: safe up to where it is durable
abbrev pub begun_entry : Part → PartEntry
begun_entry p = record { low = p.low; resume = p.resume; checkpoint = p.resume }

-- so many partitions, which hold nothing
pub record HoldsNothing (count : ℕ) (parts : List Changes) : Type 0 where
  pub many : length parts ≡ count
  pub nothing : map held_in parts ≡ map (λ c. []) parts

-- The replica stands on the store that the disk has, whatever the disk and the feed expose. Each stream stands behind its header, and memory is empty.
pub record Opens (disk disk' : DiskState) (feed feed' : FeedState) (r : Replica) : Type 0 where
  pub placing : Placing
  pub at : StandsAt r.store placing []
  pub placed : placing ≡ placing_for placing.root (state_of r).durable []
  pub read : IfSome disk.told (λ image. IsOpened image placing)
  pub whole : r.store.broken ≡ false
  pub headers : List Header
  pub streams : streams_of r.pump ≡ map behind_header headers
  pub attaches : IfSome feed'.told (λ f. Attaches f (Some (map (λ s. s.low) (state_of r).durable.streams)) headers)
  pub empty : memory_of r ≡ map (λ p. []) (state_of r).durable.parts
  pub fed : IsFed r feed'
  -- after its sync a crash leaves what reads
  pub stable : IsStable disk'
  pub unfailed : (feed'.faults ≡ feed.faults) × (disk'.faults ≡ disk.faults) × (disk'.write_faults ≡ disk.write_faults)
  pub called : Rose feed.calls feed'.calls
  -- three reads, and one for each delta
  pub reads : IfSome disk.told (λ image. OpensIn image (disk'.reads - disk.reads))

-- as a start answers it
abbrev pub at_start : OpeningRefusal → StartRefusal
at_start (opening.Store store.NoStore) = start.NoStore
at_start (opening.Store (store.Damaged place len)) = start.Damaged place len
at_start (opening.Store store.Unsynced) = start.Disk
at_start (opening.Store store.Unread) = start.Disk
at_start (opening.Store store.Memory) = start.Memory
at_start (opening.Laden place len) = start.Damaged place len
at_start (opening.Attach (attach.Mismatch stream)) = start.Mismatch stream
at_start (opening.Attach attach.Feed) = start.Feed
at_start (opening.Attach attach.Memory) = start.Memory
at_start opening.Memory = start.Memory

-- whether it is the opening's own sync that failed
abbrev pub is_unsynced : OpeningRefusal → Bool
is_unsynced (opening.Store store.Unsynced) = true
is_unsynced e = false

-- as a reopening answers it: where there is no store, both slots are damaged
abbrev pub again_refusal : OpeningRefusal → model.Refusal
again_refusal (opening.Store store.NoStore) = model.damaged 0 1024
again_refusal (opening.Store (store.Damaged place len)) = model.damaged place len
again_refusal (opening.Store store.Unsynced) = model.disk_fault
again_refusal (opening.Store store.Unread) = model.disk_fault
again_refusal (opening.Store store.Memory) = model.out_of_memory
again_refusal (opening.Laden place len) = model.damaged place len
again_refusal (opening.Attach (attach.Mismatch stream)) = model.feed_mismatch stream
again_refusal (opening.Attach attach.Feed) = model.feed_fault
again_refusal (opening.Attach attach.Memory) = model.out_of_memory
again_refusal opening.Memory = model.out_of_memory

-- no store, or one that is damaged
abbrev pub IsHurt : OpeningRefusal → Type 0
IsHurt (opening.Store store.NoStore) = ⊤
IsHurt (opening.Store (store.Damaged place len)) = ⊤
IsHurt e = ⊥

-- a store that is not bare
abbrev pub NamesLaden : List ℕ → OpeningRefusal → Type 0
NamesLaden image (opening.Laden place len) = IsLadenAt image (record { place = place; length = len })
NamesLaden image e = ⊤

-- Why none begins.
pub record RefusesOpening (disk disk' : DiskState) (feed feed' : FeedState) (e : OpeningRefusal) : Type 0 where
  -- the cause that a start names is one
  pub cause : IfSome (view_start (at_start e)) (on_bare_store.stops disk.told feed'.told (counts_in disk feed 0 0) (counts_in disk' feed' 0 0))
  -- a store that is sound for some feed is there and not damaged
  pub sound : IfSome disk.told (λ image. (f : Feed) → IsSound image f → IsHurt e → ⊥)
  pub laden : IfSome disk.told (λ image. NamesLaden image e)
  -- a device that failed is named, and of the disk its sync
  pub feed_failed : feed.faults < feed'.faults → e ≡ opening.Attach attach.Feed
  pub disk_failed : disk.faults < disk'.faults → (e ≡ opening.Store store.Unsynced) ⊎ (e ≡ opening.Store store.Unread)
  pub write_failed : disk.write_faults < disk'.write_faults → e ≡ opening.Store store.Unsynced
  pub unsynced : e ≡ opening.Store store.Unsynced → Rose disk.write_faults disk'.write_faults
