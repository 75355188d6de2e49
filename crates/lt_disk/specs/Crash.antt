-- What picks leave of the writes since the last sync.
use Rattle.std.specs.Prelude.{Bool, List, None, Option, Some, [], false, length, min, replicate, slice_get, take, true, ℕ, ◌∷◌}
use Rattle.lt_world.specs.Disk.{with_bytes}
use Rattle.lt_disk.specs.History.{replay}
use Rattle.lt_disk.specs.declared.crash.Pick.{Pick}
use Rattle.lt_disk.specs.declared.crash.Pick.TheVariants as picks
use Rattle.lt_disk.specs.declared.history.Event.{Event}
use Rattle.lt_disk.specs.declared.history.Event.TheVariants.{Sync, Write}

abbrev pub is_write : Event → Bool
is_write (Write place bytes taken) = true
is_write Sync = false

-- the writes since the last sync, and the bytes as they read then
abbrev pub since_sync : List Event → List Event
since_sync [] = []
since_sync (Write place bytes taken ∷ earlier) = Write place bytes taken ∷ since_sync earlier
since_sync (Sync ∷ earlier) = []

abbrev pub synced_bytes : List ℕ → List Event → List ℕ
synced_bytes first [] = first
synced_bytes first (Write place bytes taken ∷ earlier) = synced_bytes first earlier
synced_bytes first (Sync ∷ earlier) = replay first earlier

-- what a pick leaves of a write of these bytes, taken or refused; no pick leaves the old bytes, and a byte is at most 255
abbrev pub left_of_write : Option Pick → ℕ → List ℕ → List ℕ → List ℕ
left_of_write None place bytes image = image
left_of_write (Some picks.Old) place bytes image = image
left_of_write (Some picks.New) place bytes image = with_bytes image place bytes
left_of_write (Some (picks.Prefix n)) place bytes image = with_bytes image place (take n bytes)
left_of_write (Some (picks.Fill byte)) place bytes image = with_bytes image place (replicate (length bytes) (min byte 255))

abbrev pub left_of : Option Pick → Event → List ℕ → List ℕ
left_of pick (Write place bytes taken) image = left_of_write pick place bytes image
left_of pick Sync image = image

-- the k-th pick is that of the k-th write, and the newest write stands first
abbrev pub torn_by : List Pick → List Event → List ℕ → List ℕ
torn_by ps [] image = image
torn_by ps (e ∷ earlier) image = left_of (slice_get ps (length earlier)) e (torn_by ps earlier image)

abbrev pub left_by : List Pick → List ℕ → List Event → List ℕ
left_by ps first events = torn_by ps (since_sync events) (synced_bytes first events)
