-- What a pump leaves of a replica, apart from where its streams stand and what is held.
use Rattle.std.specs.Prelude.{map, ◌≡◌}
use Rattle.lt_replica.specs.Settling.{part_of_entry}
use Rattle.lt_replica.specs.State.{state_of}
use Rattle.lt_replica.specs.declared.replica.Replica.{Replica}

-- the partitions may have other checkpoints
pub record KeepsParts (old new : Replica) : Type 0 where
  pub catalogue : new.catalogue ≡ old.catalogue
  pub store : new.store ≡ old.store
  pub next_id : new.next_id ≡ old.next_id
  pub parts : map part_of_entry new.map ≡ map part_of_entry old.map

-- What a command that does not use the disk keeps of a replica: its store and its durable part.
pub record KeepsStore (old new : Replica) : Type 0 where
  pub store : new.store ≡ old.store
  pub durable : (state_of new).durable ≡ (state_of old).durable
