-- What a pump leaves of a replica, apart from where its streams stand and what is held.
use Rattle.std.specs.Prelude.{map, ◌≡◌}
use Rattle.lt_engine.specs.Settling.{part_of_entry}
use Rattle.lt_engine.specs.declared.replica.Replica.{Replica}

-- the partitions may have other checkpoints
pub record KeepsParts (old new : Replica) : Type 0 where
  pub catalogue : new.catalogue ≡ old.catalogue
  pub generation : new.generation ≡ old.generation
  pub parts : map part_of_entry new.map ≡ map part_of_entry old.map
