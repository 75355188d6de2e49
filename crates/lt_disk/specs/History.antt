-- What a disk in memory reads, and what a crash may leave of it, after the events of its history, the newest first.
use Rattle.std.specs.Prelude.{List, [], length, suc, ℕ, ◌∷◌, ◌≡◌, ◌≤◌, ◌⊎◌, true, false}
use Rattle.std.specs.List.{AllByRecursion}
use Rattle.lt_world.specs.Disk.{AreBytes, Torn, with_bytes}
use Rattle.lt_disk.specs.declared.history.Event.{Event}
use Rattle.lt_disk.specs.declared.history.Event.TheVariants.{Sync, Write}

-- the bytes after an event, as they read
abbrev pub after_event : Event → List ℕ → List ℕ
after_event (Write place bytes true) image = with_bytes image place bytes
after_event (Write place bytes false) image = image
after_event Sync image = image

-- the bytes as they read
abbrev pub replay : List ℕ → List Event → List ℕ
replay first [] = first
replay first (e ∷ earlier) = after_event e (replay first earlier)

-- what a crash may leave: after a write, taken or refused, any bytes in its range and past the old end; after a sync what reads
abbrev pub MayLeave : List ℕ → List Event → List ℕ → Type 0
MayLeave first [] c = c ≡ first
MayLeave first (Write place bytes taken ∷ earlier) c = (d : List ℕ) × MayLeave first earlier d × Torn place (length bytes) d c
MayLeave first (Sync ∷ earlier) c = c ≡ replay first earlier

-- The moments are counted by the events. What a crash at some moment from that one on may have left.
abbrev pub LeftSince : List ℕ → List Event → ℕ → List ℕ → Type 0
LeftSince first [] t c = (t ≤ 0) × MayLeave first [] c
LeftSince first (e ∷ earlier) t c = ((t ≤ suc (length earlier)) × MayLeave first (e ∷ earlier) c) ⊎ LeftSince first earlier t c

-- what was written
abbrev pub bytes_of : Event → List ℕ
bytes_of (Write place bytes taken) = bytes
bytes_of Sync = []

-- what was held and written are bytes
abbrev pub HoldBytes : List ℕ → List Event → Type 0
HoldBytes first events = AreBytes first × AllByRecursion (λ e. AreBytes (bytes_of e)) events
