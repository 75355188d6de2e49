-- Room: the lengths of what a command writes, piece by piece, and when a body that takes extents for them one after another is out of room.
use Rattle.std.specs.Prelude.{Contains, List, None, Some, [], length, map, slice_get, take, true, ℕ, ⊤, ◌++◌, ◌≡◌, ◌∷◌}
use Rattle.std.specs.List.{AllByRecursion}
use Rattle.lt_terms.specs.declared.Extent.{Extent}
use Rattle.lt_world.specs.Feed.{Feed}
use Rattle.lt_terms.specs.Log.{Change, Header, Item}
use Rattle.lt_machine.specs.Machine.{Answer, Does, Job, State, cat_of, delta_of, flush_id, flushed_lists, is_write, job_output, output_id, part_job, pending_of, refused}
use Rattle.lt_machine.specs.Outside.{AreBesides, AreTaken, IsOutOfRoom, LacksRoom, commit_lengths, live_extents, piece_lengths}
use Rattle.lt_tables.specs.Query.{Literal}
use Rattle.lt_tables.specs.Schema.{Catalogue}
use Rattle.lt_tables.specs.Query.{Command, Mode, do_compact, do_flush, do_job_finish, do_retain, do_retire, do_schema, do_split}
use Rattle.lt_machine.specs.Sound.{Fronts, HasPart, IsGood, Session, source_of}
use Rattle.lt_world.specs.Extents.{IsFull, IsLowestGap}
use Rattle.lt_storage.specs.Store.{BundleEntry, Delta, Durable, HasPlaced, HasTables, Manifest, Placing, TableDelta, TableIndex, bundle_lengths, first_key, index_bytes, index_length, last_key, manifest_bytes, manifest_length}
use Rattle.lt_tables.specs.Version.{RowVersion}

-- ---- lengths do not go by places

abbrev pub SpellsEntries : List BundleEntry → List (List RowVersion) → Type 0
SpellsEntries [] [] = ⊤
SpellsEntries (e ∷ es) (b ∷ bs) = (e.first ≡ first_key b) × (e.last ≡ last_key b) × SpellsEntries es bs
SpellsEntries [] (b ∷ bs) = ⊥
SpellsEntries (e ∷ es) [] = ⊥

-- an index names a delta's tables and bundles, wherever these stand
abbrev pub SpellsTables : List TableIndex → List TableDelta → Type 0
SpellsTables [] [] = ⊤
SpellsTables (i ∷ is) (d ∷ ds) = (i.table ≡ d.table) × (i.layout ≡ d.layout) × SpellsEntries i.entries d.bundles × SpellsTables is ds
SpellsTables [] (d ∷ ds) = ⊥
SpellsTables (i ∷ is) [] = ⊥

-- a manifest names a durable part, wherever its indexes stand
pub record SpellsPart (m : Manifest) (d : Durable) : Type 0 where
  pub limit : m.limit ≡ d.limit
  pub minimum : m.minimum ≡ d.minimum
  pub next_id : m.next_id ≡ d.next_id
  pub catalogue : m.catalogue ≡ d.catalogue
  pub streams : m.streams ≡ d.streams
  pub parts : m.parts ≡ d.parts
  pub deltas : length m.deltas ≡ length d.shelf

pub record LengthsStand : Type 0 where
  pub index : (is : List TableIndex) (x : Delta) → SpellsTables is x.tables → length (index_bytes is) ≡ index_length x
  pub manifest : (m : Manifest) (d : Durable) → SpellsPart m d → length (manifest_bytes m) ≡ manifest_length d
  -- so is what an image has
  pub index_had : (image : List ℕ) (cat : Catalogue) (is : List TableIndex) (x : Delta) → HasTables image cat is x.tables → SpellsTables is x.tables
  pub manifest_had : (image : List ℕ) (d : Durable) (l : Placing) → HasPlaced d l image → SpellsPart l.manifest d

-- ---- what a command writes

abbrev pub flush_delta : List Change → State → ℕ → ℕ → Delta
flush_delta source s p id = delta_of id (cat_of s) (flushed_lists source (cat_of s) (pending_of s p))

abbrev pub job_delta : Durable → Job → ℕ → Delta
job_delta d j id = delta_of id j.catalogue (job_output d.shelf j)

pub record CommitLengths : Type 0 where
  -- a flush with nothing pending writes a manifest; else the bundles of its delta, their index and a manifest
  pub flush_none : (f : Feed) (fs : List (Header × List Item)) (s s' : State) (p : ℕ) (a : Answer) → IsGood f s fs → flush_id s p ≡ None → Does f (source_of fs) s (do_flush p) a s' → commit_lengths (do_flush p) s s' ≡ manifest_length s'.durable ∷ []
  pub flush_some : (f : Feed) (fs : List (Header × List Item)) (s s' : State) (p id : ℕ) (a : Answer) → IsGood f s fs → flush_id s p ≡ Some id → Does f (source_of fs) s (do_flush p) a s'
      → commit_lengths (do_flush p) s s' ≡ bundle_lengths (flush_delta (source_of fs) s p id) ++ index_length (flush_delta (source_of fs) s p id) ∷ manifest_length s'.durable ∷ []
  -- so does a compaction
  pub compact_none : (f : Feed) (fs : List (Header × List Item)) (s s' : State) (p : ℕ) (m : Mode) (j : Job) (a : Answer) → IsGood f s fs → part_job s.durable p m ≡ Some j → output_id s.durable j ≡ None → Does f (source_of fs) s (do_compact p m) a s'
      → commit_lengths (do_compact p m) s s' ≡ manifest_length s'.durable ∷ []
  pub compact_some : (f : Feed) (fs : List (Header × List Item)) (s s' : State) (p : ℕ) (m : Mode) (j : Job) (id : ℕ) (a : Answer) → IsGood f s fs → part_job s.durable p m ≡ Some j → output_id s.durable j ≡ Some id → Does f (source_of fs) s (do_compact p m) a s'
      → commit_lengths (do_compact p m) s s' ≡ bundle_lengths (job_delta s.durable j id) ++ index_length (job_delta s.durable j id) ∷ manifest_length s'.durable ∷ []
  -- a finish writes the index and the manifest: its bundles stand already
  pub finish_none : (f : Feed) (fs : List (Header × List Item)) (s s' : State) (j : Job) (a : Answer) → IsGood f s fs → s.job ≡ Some j → output_id s.durable j ≡ None → Does f (source_of fs) s do_job_finish a s' → commit_lengths do_job_finish s s' ≡ manifest_length s'.durable ∷ []
  pub finish_some : (f : Feed) (fs : List (Header × List Item)) (s s' : State) (j : Job) (id : ℕ) (a : Answer) → IsGood f s fs → s.job ≡ Some j → HasPart s.durable j → output_id s.durable j ≡ Some id → Does f (source_of fs) s do_job_finish a s'
      → commit_lengths do_job_finish s s' ≡ index_length (job_delta s.durable j id) ∷ manifest_length s'.durable ∷ []
  -- the others a manifest
  pub schema : (f : Feed) (fs : List (Header × List Item)) (s s' : State) (text : List ℕ) (a : Answer) → IsGood f s fs → Does f (source_of fs) s (do_schema text) a s' → commit_lengths (do_schema text) s s' ≡ manifest_length s'.durable ∷ []
  pub retire : (f : Feed) (fs : List (Header × List Item)) (s s' : State) (name : List ℕ) (v : ℕ) (a : Answer) → IsGood f s fs → Does f (source_of fs) s (do_retire name v) a s' → commit_lengths (do_retire name v) s s' ≡ manifest_length s'.durable ∷ []
  pub split : (f : Feed) (fs : List (Header × List Item)) (s s' : State) (name : List ℕ) (ls : List Literal) (a : Answer) → IsGood f s fs → Does f (source_of fs) s (do_split name ls) a s' → commit_lengths (do_split name ls) s s' ≡ manifest_length s'.durable ∷ []
  pub retain : (f : Feed) (fs : List (Header × List Item)) (s s' : State) (t : ℕ) (a : Answer) → IsGood f s fs → Does f (source_of fs) s (do_retain t) a s' → commit_lengths (do_retain t) s s' ≡ manifest_length s'.durable ∷ []

-- ---- one extent after another

-- two lists of live extents that have the same members leave the same gaps
abbrev pub HasAll : List Extent → List Extent → Type 0
HasAll xs ys = AllByRecursion (Contains xs) ys

-- extents were taken for the first of some lengths
abbrev pub AreFor : List ℕ → List Extent → Type 0
AreFor lengths taken = map (λ e. e.length) taken ≡ take (length taken) lengths

pub record RoomIsTaken : Type 0 where
  pub begins : (most : ℕ) (live : List Extent) (lengths : List ℕ) → AreTaken most live [] × AreFor lengths []
  -- one more, for the next length, where the lowest gap is
  pub goes_on : (most : ℕ) (live taken : List Extent) (lengths : List ℕ) (need : ℕ) (e : Extent) → AreTaken most live taken → AreFor lengths taken → slice_get lengths (length taken) ≡ Some need → IsLowestGap most (live ++ taken) need e
      → AreTaken most live (taken ++ e ∷ []) × AreFor lengths (taken ++ e ∷ [])
  -- refused for the next length
  pub out_of_room : (most : ℕ) (live taken : List Extent) (lengths : List ℕ) (need room : ℕ) → AreTaken most live taken → AreFor lengths taken → slice_get lengths (length taken) ≡ Some need → IsFull most (live ++ taken) need room → IsOutOfRoom most live lengths need room
  pub lacks : (f : Feed) (fs : List (Header × List Item)) (x : Session) (s' : State) (c : Command) (a : Answer) (taken : List Extent) (need room : ℕ) → Fronts f (cat_of x.state) fs → Does f (source_of fs) x.state c a s'
      → AreTaken x.state.durable.limit (live_extents x) taken → AreFor (piece_lengths c x.state s') taken → slice_get (piece_lengths c x.state s') (length taken) ≡ Some need
      → IsFull x.state.durable.limit (live_extents x ++ taken) need room → LacksRoom f x c need room
  -- where a command that writes is not refused nothing of a failed one is live
  pub none_failed : (x : Session) (c : Command) → is_write c ≡ true → refused x.state c ≡ None → AreBesides x → x.failed ≡ None
  -- whatever order the live extents are kept in, and however often one stands among them
  pub lowest : (most : ℕ) (xs ys : List Extent) (len : ℕ) (e : Extent) → HasAll xs ys → HasAll ys xs → IsLowestGap most xs len e → IsLowestGap most ys len e
  pub full : (most : ℕ) (xs ys : List Extent) (need room : ℕ) → HasAll xs ys → HasAll ys xs → IsFull most xs need room → IsFull most ys need room
