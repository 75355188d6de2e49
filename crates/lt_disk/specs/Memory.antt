-- What a disk in memory tells.
use Rattle.std.specs.Prelude.{IsTrue, List, MatchResult, Result, Some, false, length, true, ℕ, ◌∷◌, ◌≡◌, ◌⊎◌}
use Rattle.lt_world.specs.Disk.{DiskState, Only}
use Rattle.lt_disk.specs.Plan.{Plan, counted, fails_next, no_plan}
use Rattle.lt_disk.specs.History.{LeftSince, MayLeave}
use Rattle.lt_disk.specs.declared.history.Event.{Event}
use Rattle.lt_disk.specs.declared.history.Event.TheVariants.{Sync, Write}
use Rattle.lt_disk.specs.declared.mem_disk.MemDisk.{MemDisk}

-- the bytes as they read
abbrev pub disk_held : MemDisk → List ℕ
disk_held d = d.content.now

-- what it held first, and what happened to it since, the newest first
abbrev pub disk_first : MemDisk → List ℕ
disk_first d = d.content.first

abbrev pub disk_history : MemDisk → List Event
disk_history d = d.history

abbrev pub disk_moment : MemDisk → ℕ
disk_moment d = length d.history

abbrev pub disk_may_leave : MemDisk → List ℕ → Type 0
disk_may_leave d = MayLeave d.content.first d.history

abbrev pub disk_left_since : MemDisk → ℕ → List ℕ → Type 0
disk_left_since d = LeftSince d.content.first d.history

abbrev pub disk_plan : MemDisk → Plan
disk_plan d = d.calls

abbrev pub disk_faults : MemDisk → ℕ
disk_faults d = d.calls.faults

abbrev pub disk_write_faults : MemDisk → ℕ
disk_write_faults d = d.write_faults

abbrev pub disk_reads : MemDisk → ℕ
disk_reads d = d.reads

-- how many writes and syncs found no memory
abbrev pub disk_lacks : MemDisk → ℕ
disk_lacks d = d.lacks

abbrev pub disk_state : MemDisk → DiskState
disk_state d = record { told = Some (disk_held d); faults = disk_faults d; write_faults = disk_write_faults d; reads = disk_reads d; clock = disk_moment d; leaves = disk_may_leave d; left_since = disk_left_since d }

-- a disk that was just made: a crash leaves what it holds, nothing was called, and nothing fails
pub record IsFresh (d : MemDisk) : Type 0 where
  pub images : Only (disk_held d) (disk_may_leave d)
  pub moment : disk_moment d ≡ 0
  pub plan : disk_plan d ≡ no_plan
  pub write_faults : disk_write_faults d ≡ 0
  pub reads : disk_reads d ≡ 0
  pub lacks : disk_lacks d ≡ 0

-- nothing but the plan of its failing calls changed
pub record OnlyPlans (old new : MemDisk) : Type 0 where
  pub held : disk_held new ≡ disk_held old
  pub first : disk_first new ≡ disk_first old
  pub history : disk_history new ≡ disk_history old
  pub write_faults : disk_write_faults new ≡ disk_write_faults old
  pub reads : disk_reads new ≡ disk_reads old
  pub lacks : disk_lacks new ≡ disk_lacks old

-- A write is noted as taken, or as refused where it was to fail. One that found no memory goes unnoted, and counts as a lack.
abbrev pub NotesWrite : {T E : Type 0} → MemDisk → MemDisk → ℕ → List ℕ → Result T E → Type 0
NotesWrite old new place bs result = MatchResult result (λ _. disk_history new ≡ Write place bs true ∷ disk_history old)
    (λ _. ((disk_history new ≡ Write place bs false ∷ disk_history old) × IsTrue (fails_next (disk_plan old)) × (disk_lacks new ≡ disk_lacks old)) ⊎ ((disk_history new ≡ disk_history old) × (disk_lacks new ≡ counted (disk_lacks old))))

-- A sync is noted where it succeeds. One that was to fail lacks nothing.
abbrev pub NotesSync : {T E : Type 0} → MemDisk → MemDisk → Result T E → Type 0
NotesSync old new result = MatchResult result (λ _. disk_history new ≡ Sync ∷ disk_history old)
    (λ _. (disk_history new ≡ disk_history old) × (IsTrue (fails_next (disk_plan old)) → disk_lacks new ≡ disk_lacks old))
