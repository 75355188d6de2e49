-- A commit on a disk, between two sessions.
use Rattle.std.specs.Prelude.{IsTrue, List, ℕ, ◌≡◌}
use Rattle.lt_terms.specs.declared.Extent.{Extent}
use Rattle.lt_terms.specs.declared.Root.{Root}
use Rattle.lt_world.specs.Disk.{DiskState}
use Rattle.lt_world.specs.Feed.{Feed}
use Rattle.lt_machine.specs.Machine.{State}
use Rattle.lt_world.specs.Disk.{LeavesNow}
use Rattle.lt_world.specs.Extents.{are_apart}
use Rattle.lt_storage.specs.Store.{Placing}
use Rattle.lt_root.specs.Roots.{next_root}
use Rattle.lt_image_laws.specs.Commit.{IsPrepared}
use Rattle.lt_image_laws.specs.Standing.{IsRooted}

-- A root is committed over what was prepared in what reads; as that begins a session stands on every image.
pub record IsCommit (old : DiskState) (root : Root) (place len : ℕ) (seen : List ℕ) (f : Feed) (s s' : State) (l l' : Placing) (made made' : List Extent) : Type 0 where
  pub from : l.root ≡ root
  pub to : l'.root ≡ next_root root place len
  pub stands : LeavesNow old (IsRooted f s l made)
  pub apart : IsTrue (are_apart s.durable.limit made)
  pub prepared : IsPrepared f s' l' made' seen
