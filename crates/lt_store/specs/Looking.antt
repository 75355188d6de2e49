-- What reads leave of a disk.
use Rattle.std.specs.Prelude.{ℕ, ◌+◌, ◌≡◌, ◌≤◌}
use Rattle.lt_world.specs.Disk.{DiskGoes, DiskState, LeftOnly}

-- at most so many reads were made, and nothing was written
pub record LooksOnly (n : ℕ) (old new : DiskState) : Type 0 where
  -- it reads as before
  pub told : new.told ≡ old.told
  -- a crash leaves what it might have left before, at each moment
  pub images : LeftOnly old new old.leaves
  pub reads : new.reads ≤ old.reads + n
  pub write_faults : new.write_faults ≡ old.write_faults
  pub goes : DiskGoes old new
