-- What a commit of another catalogue, or of other partitions, did.
use Rattle.std.specs.Prelude.{Err, List, OnErr, OnOk, Result, ℕ, ◌≡◌}
use Rattle.lt_tables.specs.Schema.{Catalogue}
use Rattle.lt_parts.specs.declared.entry.PartEntry.{PartEntry}
use Rattle.lt_world.specs.Disk.{DiskGoes, DiskState}
use Rattle.lt_pump.specs.Pumps.{streams_of}
use Rattle.lt_reply.specs.declared.refusal.Refusal.{Refusal}
use Rattle.lt_reply.specs.declared.refusal.Refusal.TheVariants as refusals
use Rattle.lt_storage.specs.Store.{bare_manifest}
use Rattle.lt_replica.specs.Committing.{HasRun, IsQuiet}
use Rattle.lt_replica.specs.Splitting.{parted_at}
use Rattle.lt_replica.specs.State.{durable_with, memory_of, numbers_of}
use Rattle.lt_replica.specs.declared.replica.Replica.{Replica}

-- all but the store and the catalogue is as it was
pub record KeepsRest (old new : Replica) : Type 0 where
  pub next_id : new.next_id ≡ old.next_id
  pub map : new.map ≡ old.map
  pub streams : streams_of new.pump ≡ streams_of old.pump
  pub memory : memory_of new ≡ memory_of old

-- Memory ran out before anything was written, or the commit was called. The replica has the catalogue after Ok alone.
pub data CommitsCatalogue (disk disk' : DiskState) (old new : Replica) (cat : Catalogue) (r : Result (Unit {0}) Refusal) : Type 0 where
  lacks : r ≡ Err refusals.Memory → new.catalogue ≡ old.catalogue → new.store ≡ old.store → IsQuiet disk disk' → DiskGoes disk disk' → CommitsCatalogue disk disk' old new cat r
  calls : HasRun disk disk' old.store new.store (bare_manifest (durable_with cat (numbers_of old.store old.next_id) old.map (streams_of old.pump))) r → OnOk r (new.catalogue ≡ cat) → OnErr r (new.catalogue ≡ old.catalogue)
      → CommitsCatalogue disk disk' old new cat r

-- all but the store, the partitions and what they hold is as it was
pub record KeepsOthers (old new : Replica) : Type 0 where
  pub next_id : new.next_id ≡ old.next_id
  pub catalogue : new.catalogue ≡ old.catalogue
  pub streams : streams_of new.pump ≡ streams_of old.pump

-- the partitions are these, and what the one at a place held is parted at a key
pub record HasParted (old new : Replica) (map_now : List PartEntry) (part : ℕ) (key : List ℕ) : Type 0 where
  pub map : new.map ≡ map_now
  pub memory : memory_of new ≡ parted_at part key (memory_of old)

-- the partitions and what they hold are as before
pub record HasNotParted (old new : Replica) : Type 0 where
  pub map : new.map ≡ old.map
  pub memory : memory_of new ≡ memory_of old

-- Memory ran out before anything was written, or the commit was called. The partitions are parted after Ok alone.
pub data CommitsSplit (disk disk' : DiskState) (old new : Replica) (map_now : List PartEntry) (part : ℕ) (key : List ℕ) (r : Result (Unit {0}) Refusal) : Type 0 where
  lacks_split : r ≡ Err refusals.Memory → HasNotParted old new → new.store ≡ old.store → IsQuiet disk disk' → DiskGoes disk disk' → CommitsSplit disk disk' old new map_now part key r
  calls_split : HasRun disk disk' old.store new.store (bare_manifest (durable_with old.catalogue (numbers_of old.store old.next_id) map_now (streams_of old.pump))) r → OnOk r (HasParted old new map_now part key) → OnErr r (HasNotParted old new)
      → CommitsSplit disk disk' old new map_now part key r
