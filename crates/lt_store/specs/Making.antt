-- What a making leaves, and why no store is made.
use Rattle.std.specs.Prelude.{IfSome, List, Option, [], length, map, ⊤, ℕ, ◌+◌, ◌∷◌, ◌≡◌, ◌≤◌}
use Rattle.std.specs.declared.result.Result.{Result}
use Rattle.std.specs.declared.result.Result.TheVariants.{Err, Ok}
use Rattle.lt_terms.specs.Log.{Header}
use Rattle.lt_world.specs.Slots.{HasNoStore, HasRoot}
use Rattle.lt_world.specs.Disk.{bytes_at}
use Rattle.lt_storage.specs.Store.{Manifest, Stream}
use Rattle.lt_root.specs.Roots.{first_root}
use Rattle.lt_image_laws.specs.Fresh.{HasFresh, fresh_length}
use Rattle.lt_store.specs.declared.making.MakeRefusal.{MakeRefusal}
use Rattle.lt_store.specs.declared.making.MakeRefusal.TheVariants as refusals

-- a stream of a low bound, without restart points
abbrev pub bare_stream : List ℕ → Stream
bare_stream low = record { low = low; points = [] }

-- a fresh store's manifest: one partition, no tables and no deltas
abbrev pub fresh_manifest : ℕ → List (List ℕ) → Manifest
fresh_manifest limit lows = record {
  limit = limit;
  minimum = 0;
  next_id = 0;
  catalogue = [];
  streams = map bare_stream lows;
  parts = record { low = []; resume = 0; ids = [] } ∷ [];
  deltas = [];
}

-- an image with bytes behind the slots, and a root that names them
pub record IsFirst (bytes image : List ℕ) : Type 0 where
  pub root : HasRoot (first_root 1024 (length bytes)) image
  pub bytes_are : bytes_at image 1024 (length bytes) ≡ bytes
  pub within : 1024 + length bytes ≤ length image

-- an image that has a fresh store: its manifest, and the root that names it
pub record HasMade (limit : ℕ) (hs : List Header) (image : List ℕ) : Type 0 where
  pub fresh : HasFresh limit hs image
  pub root : HasRoot (first_root 1024 (fresh_length limit hs)) image

-- Why a disk is not vacant. A fault of the disk has its cause in the disk's count.
abbrev pub RefusesMaking : Option (List ℕ) → MakeRefusal → Type 0
RefusesMaking told refusals.StoreThere = IfSome told (λ image. HasNoStore image → ⊥)
RefusesMaking told refusals.Disk = ⊤
RefusesMaking told refusals.Memory = ⊥

-- an answer as that of a call of the disk: only a fault of the disk is an error there
abbrev pub of_disk : {A : Type 0} → Result A MakeRefusal → Result (Unit {0}) (Unit {0})
of_disk (Ok x) = Ok tt
of_disk (Err refusals.StoreThere) = Ok tt
of_disk (Err refusals.Disk) = Err tt
of_disk (Err refusals.Memory) = Ok tt
