-- What a commit needs, and what it leaves: of the images, of the store, and of the session that stood on them.
use Rattle.std.specs.Prelude.{Bool, IfErr, IfSome, IsSome, IsTrue, List, None, OnErr, OnOk, Option, Some, [], false, filter, length, not, true, ⊤, ℕ, ◌++◌, ◌+◌, ◌-◌, ◌∷◌, ◌≡◌, ◌⊎◌}
use Rattle.std.specs.List.Sorted.{IsPermutation}
use Rattle.std.specs.declared.result.Result.{Result}
use Rattle.std.specs.declared.result.Result.TheVariants.{Err, Ok}
use Rattle.lt_terms.specs.Log.{Header, Item}
use Rattle.lt_terms.specs.declared.Extent.{Extent}
use Rattle.lt_terms.specs.declared.Root.{Root}
use Rattle.lt_world.specs.Disk.{DiskState, LeavesNow, LeftOnly, bytes_in}
use Rattle.lt_world.specs.Extents.{IsFull, are_apart, is_gap}
use Rattle.lt_world.specs.Feed.{Feed}
use Rattle.lt_storage.specs.Store.{Delta, Manifest, Placing, are_within, bundle_extents, extents_of, index_bytes, manifest_bytes, root_extent}
use Rattle.lt_machine.specs.Machine.{State}
use Rattle.lt_machine.specs.Outside.{IsHonest, MadeStand}
use Rattle.lt_machine.specs.Sound.{IsGood}
use Rattle.lt_image_laws.specs.Commit.{IsRootedOnEither, broken_at, broken_by}
use Rattle.lt_image_laws.specs.Next.{those}
use Rattle.lt_image_laws.specs.Shelf.{FitsIndex, Shelved, TablesStand, manifest_for, placing_for, shelf_extents}
use Rattle.lt_image_laws.specs.Standing.{IsRooted, placed_at}
use Rattle.lt_root.specs.Roots.{next_root}
use Rattle.lt_root.specs.declared.refusal.CommitFault.{CommitFault}
use Rattle.lt_root.specs.declared.refusal.CommitFault.TheVariants as faults
use Rattle.lt_space.specs.Extents.{Extents}
use Rattle.lt_store.specs.Standing.{StandsAt}
use Rattle.lt_store.specs.declared.committing.CommitRefusal.{CommitRefusal}
use Rattle.lt_store.specs.declared.committing.CommitRefusal.TheVariants as refusals
use Rattle.lt_store.specs.declared.store.Store.{Store}

-- A delta that comes with a commit, and how it is kept.
pub record Added : Type 0 where
  pub kept : Shelved
  pub delta : Delta

-- The machine's state before and after a commit, where its durable part stands before, and what was written for it: the deltas that stay, by
-- their ids, the one that comes, if any, what a job has made before and after, and what else was written to free space.
pub record Going : Type 0 where
  pub feed : Feed
  pub before : State
  pub after : State
  pub placing : Placing
  pub stays : ℕ → Bool
  pub added : Option Added
  pub made : List Extent
  pub made_after : List Extent
  pub fresh : List Extent

-- the extents of the bundles and of the index of the delta that comes
abbrev pub pieces_of : Option Added → List Extent
pieces_of None = []
pieces_of (Some a) = bundle_extents (a.kept.index ∷ []) ++ a.kept.extent ∷ []

-- with the extent of a manifest behind them
abbrev pub pieces_behind : Option Added → Extent → List Extent
pieces_behind None e = e ∷ []
pieces_behind (Some a) e = bundle_extents (a.kept.index ∷ []) ++ a.kept.extent ∷ e ∷ []

abbrev pub kept_with : List Shelved → Option Added → List Shelved
kept_with ks None = ks
kept_with ks (Some a) = ks ++ a.kept ∷ []

abbrev pub shelf_with : List Delta → Option Added → List Delta
shelf_with xs None = xs
shelf_with xs (Some a) = xs ++ a.delta ∷ []

-- the deltas after a commit, as they are kept
abbrev pub kept_behind : Going → List Shelved
kept_behind g = kept_with (those g.stays g.placing) g.added

-- what the deltas that leave name
abbrev pub leaving_of : Going → List Extent
leaving_of g = shelf_extents (those (λ n. not (g.stays n)) g.placing)

-- where the part after stands behind a root
abbrev pub placing_behind : Root → Going → Placing
placing_behind r g = placing_for r g.after.durable (kept_behind g)

-- What leads from the one session to the other: the state after is good, with the same limit, the deltas that stay and the one that comes, one
-- commit more, and a job whose bundles stand.
pub record LeadsOn (g : Going) : Type 0 where
  pub fronts : List (Header × List Item)
  pub good : IsGood g.feed g.after fronts
  pub limit : g.after.durable.limit ≡ g.before.durable.limit
  pub shelf : g.after.durable.shelf ≡ shelf_with (filter (λ x. g.stays x.id) g.before.durable.shelf) g.added
  pub generation : g.after.durable.generation ≡ g.before.durable.generation + 1
  pub job : (image : List ℕ) → MadeStand g.before.job g.before g.made image → MadeStand g.after.job g.after g.made_after image

-- the image has the bundles and the index of a delta
pub record IsSealed (image : List ℕ) (a : Added) : Type 0 where
  pub id : a.delta.id ≡ a.kept.id
  pub tables : TablesStand image a.kept.index a.delta.tables
  pub fits : FitsIndex a.kept.index
  pub index : bytes_in image a.kept.extent ≡ index_bytes a.kept.index

-- it has those of the delta that comes, and all that was written lies within the file
pub record HasPieces (g : Going) (image : List ℕ) : Type 0 where
  pub sealed : IfSome g.added (IsSealed image)
  pub within : IsTrue (are_within image g.fresh)

-- What was written is what the delta that comes and the job name after the commit.
abbrev pub ArePieces : Going → Type 0
ArePieces g = IsPermutation (g.made ++ g.fresh) (pieces_of g.added ++ g.made_after)

-- What a commit of a manifest needs: the state before stands on every image, the store at its placing with all that was written, and the manifest
-- is that of the state after. What the deltas that leave name may come in any order.
pub record IsReady (disk : DiskState) (store : Store) (m : Manifest) (leaving : List Extent) (g : Going) : Type 0 where
  pub tells : IsSome disk.told
  pub stands : LeavesNow disk (IsRooted g.feed g.before g.placing g.made)
  pub at : StandsAt store g.placing (g.made ++ g.fresh)
  pub on : LeadsOn g
  pub pieces : ArePieces g
  pub written : IfSome disk.told (HasPieces g)
  pub leaves : IsPermutation (leaving_of g) leaving
  pub manifest : m ≡ manifest_for g.after.durable (kept_behind g)

-- The same where an extent was taken for the manifest: it is apart from all that is live.
pub record IsWriting (disk : DiskState) (root : Root) (extent : Extent) (bytes : List ℕ) (g : Going) : Type 0 where
  pub tells : IsSome disk.told
  pub stands : LeavesNow disk (IsRooted g.feed g.before g.placing g.made)
  pub root_is : g.placing.root ≡ root
  pub on : LeadsOn g
  pub pieces : ArePieces g
  pub written : IfSome disk.told (HasPieces g)
  pub size : extent.length ≡ length bytes
  pub apart : IsTrue (are_apart g.before.durable.limit ((extents_of g.placing ++ pieces_behind g.added extent) ++ g.made_after))
  pub made_apart : IsTrue (are_apart g.before.durable.limit g.made)
  pub gap : IsTrue (is_gap g.before.durable.limit (extents_of g.placing ++ (g.made ++ g.fresh)) extent)
  pub manifest : bytes ≡ manifest_bytes (manifest_for g.after.durable (kept_behind g))

-- the images after a write or a sync failed: nothing of the part after is placed in any, or all of it in each
abbrev pub IsBroken : DiskState → Root → Bool → Going → Type 0
IsBroken disk r false g = LeavesNow disk (IsHonest g.feed (placed_at (broken_by g.after g.before) g.placing g.made))
IsBroken disk r true g = LeavesNow disk (IsHonest g.feed (broken_at g.after g.before g.placing (placing_behind r g) g.made))

-- What a commit leaves of the images, by how it ended.
pub record Replaced (old new : DiskState) (r : Root) (placed : Bool) (g : Going) (result : Result (Unit {0}) CommitFault) : Type 0 where
  -- at each moment each image is of the state before or of the one after
  pub any_moment : LeftOnly old new (IsRootedOnEither g.feed g.before g.placing g.made g.after (placing_behind r g) g.made_after)
  -- after Ok the one after stands on every image
  pub acknowledged : OnOk result (LeavesNow new (IsRooted g.feed g.after (placing_behind r g) g.made_after))
  -- where a read failed the one before does, at each moment
  pub unwritten : IfErr result (λ e. e ≡ faults.Read → LeftOnly old new (IsRooted g.feed g.before g.placing g.made))
  -- after any fault the images are honest
  pub broken : OnErr result (IsBroken new r placed g)

-- What it leaves of them for each session that stood on them.
pub record Replaces (old new : DiskState) (root : Root) (e : Extent) (bytes : List ℕ) (result : Result (Unit {0}) CommitFault) : Type 0 where
  -- whether all of the part after is placed in each image, where a write failed
  pub placed : Bool
  pub each : (g : Going) → IsWriting old root e bytes g → Replaced old new (next_root root e.place e.length) placed g result

-- What a commit has left of the images and of the store.
pub record HasCommitted (old new : DiskState) (store : Store) (root : Root) (placed : Bool) (g : Going) (result : Result (Unit {0}) CommitRefusal) : Type 0 where
  -- at each moment each image is of the state before or of the one after
  pub any_moment : LeftOnly old new (IsRootedOnEither g.feed g.before g.placing g.made g.after (placing_behind root g) g.made_after)
  -- after Ok the one after stands on every image
  pub acknowledged : OnOk result (LeavesNow new (IsRooted g.feed g.after (placing_behind root g) g.made_after) × StandsAt store (placing_behind root g) g.made_after)
  -- where it is refused and the store is whole, the one before does, at each moment
  pub refused : OnErr result (store.broken ≡ false → LeftOnly old new (IsRooted g.feed g.before g.placing g.made) × StandsAt store g.placing (g.made ++ g.fresh))
  -- a broken store's images are honest
  pub broken : store.broken ≡ true → IsBroken new root placed g

-- What a commit leads to, for each session that stood on the images. The root and the side on which a broken store stands are known before
-- the session is.
pub record LeadsTo (disk disk' : DiskState) (old new : Store) (m : Manifest) (leaving : List Extent) (result : Result (Unit {0}) CommitRefusal) : Type 0 where
  -- the root that it makes count
  pub root : Root
  -- whether all of the part after is placed in each image of a broken store
  pub placed : Bool
  -- after Ok the root counts
  pub counts : OnOk result (new.root ≡ root)
  pub each : (g : Going) → IsReady disk old m leaving g → HasCommitted disk disk' new root placed g result

-- the root of the next commit, for a manifest of so many bytes
pub record IsNextRoot (old new : Root) (size : ℕ) : Type 0 where
  pub generation : new.generation ≡ old.generation + 1
  pub slot : new.slot ≡ 1 - old.slot
  pub length : new.length ≡ size

-- the store's manifest and all that leaves are taken
pub record HasTaken (store : Store) (leaving : List Extent) : Type 0 where
  pub rest : List Extent
  pub all : IsPermutation (root_extent store.root ∷ (leaving ++ rest)) store.space.taken

-- the new manifest is taken in place of the old one, and what leaves is free
pub record HasMoved (old new : Store) (leaving : List Extent) : Type 0 where
  pub limit : new.space.limit ≡ old.space.limit
  pub broken : new.broken ≡ false
  pub taken : (rest : List Extent) → IsPermutation (root_extent old.root ∷ (leaving ++ rest)) old.space.taken → IsPermutation (root_extent new.root ∷ rest) new.space.taken

-- the store is as it was
pub record StaysStore (old new : Store) : Type 0 where
  pub root : new.root ≡ old.root
  pub space : new.space ≡ old.space
  pub broken : new.broken ≡ old.broken

-- the store is broken: only what is taken has grown
pub record IsBrokenOff (old new : Store) : Type 0 where
  pub root : new.root ≡ old.root
  pub limit : new.space.limit ≡ old.space.limit
  pub broken : new.broken ≡ true
  pub extent : Extent
  pub taken : IsPermutation (old.space.taken ++ extent ∷ []) new.space.taken

-- what a commit leaves of the store on any disk
abbrev pub HasKept : Store → Store → List Extent → Result (Unit {0}) CommitRefusal → Type 0
HasKept old new leaving (Ok _) = HasMoved old new leaving
HasKept old new leaving (Err e) = StaysStore old new ⊎ ((e ≡ refusals.Disk) × IsBrokenOff old new)

-- why no gap of a length is taken; out of memory is always allowed
abbrev pub RefusesGap : Extents → ℕ → CommitRefusal → Type 0
RefusesGap space len refusals.Disk = ⊥
RefusesGap space len (refusals.StoreFull need room) = (need ≡ len) × IsFull space.limit space.taken need room
RefusesGap space len refusals.Memory = ⊤

-- Why nothing is committed. A fault of the disk has its cause in the disk's count, and out of memory is always allowed.
abbrev pub RefusesCommit : Store → Manifest → CommitRefusal → Type 0
RefusesCommit store m refusals.Disk = ⊤
RefusesCommit store m (refusals.StoreFull need room) = RefusesGap store.space (length (manifest_bytes m)) (refusals.StoreFull need room)
RefusesCommit store m refusals.Memory = ⊤

-- an answer as that of a call of the disk: only a fault of the disk is an error there
abbrev pub of_disk : Result (Unit {0}) CommitRefusal → Result (Unit {0}) (Unit {0})
of_disk (Ok x) = Ok tt
of_disk (Err refusals.Disk) = Err tt
of_disk (Err (refusals.StoreFull need room)) = Ok tt
of_disk (Err refusals.Memory) = Ok tt

abbrev pub fault_if : Bool → Result (Unit {0}) (Unit {0})
fault_if true = Err tt
fault_if false = Ok tt
