-- Soundness: how a store, a session and a feed belong together.
use Rattle.std.specs.Prelude.{Contains, IfSome, IsTrue, List, None, Option, Some, [], filter, flat_map, if◌then◌else◌, is_some, length, map, nat_le, nat_lt, option_map, take, zip, ℕ, ⊤, ◌&&◌, ◌++◌, ◌+◌, ◌<◌, ◌==◌, ◌∷◌, ◌≡◌, ◌≤◌, ◌⊎◌}
use Rattle.std.specs.List.{AllByRecursion, list_any}
use Rattle.lt_terms.specs.Log.{Change, Header, Item, change_key, changes_of, is_read, spelled}
use Rattle.lt_terms.specs.Key.{KeyPart, Range, common, in_range, is_key_of, key_bytes, lies_in, meets, part_value, ranges_from, same_key, tile}
use Rattle.lt_terms.specs.Layout.{Cell, Leaf, flatten}
use Rattle.lt_terms.specs.declared.Extent.{Extent}
use Rattle.lt_world.specs.Feed.{AreShort, Feed, Grows}
use Rattle.lt_tables.specs.Schema.{Became, Catalogue, Column, IsCatalogue, Registered, Table, carriers, key_kinds, registered, table_named, table_numbered}
use Rattle.lt_tables.specs.Fair.{HasHeader, IsPrefix, Point, checkpoint_of, header_length, is_closed, place_after, point_of}
use Rattle.lt_tables.specs.Row.{Entry, Row, row_at, snapshot}
use Rattle.lt_tables.specs.Version.{RowVersion, asof, carried, clip, effect_of, merge, put_versions, read_cells, same_name, seen}
use Rattle.lt_tables.specs.Pump.{Part, StreamAt, names_rise, numbered_from}
use Rattle.lt_tables.specs.Query.{Command, Query, answer}
use Rattle.lt_storage.specs.Bundle.{has_table}
use Rattle.lt_storage.specs.Store.{AreLawfulTables, Delta, Durable, Holds, HoldsAt, IsLawfulPart, Placing, Stream, are_within, carried_versions, delta_with, deltas_of, extents_of, merged_in, stored}
use Rattle.lt_machine.specs.Machine.{Answer, Job, State, Step, cat_of, first_below, job_keys, named, opened, pending_of, query_interval, ranges_of, seen_pending}

-- ---- fronts: each stream's header, of a format that is read, and its longest fair list of items

abbrev pub FrontsFrom : Feed → Catalogue → ℕ → List (Header × List Item) → Type 0
FrontsFrom feed cat n [] = ⊤
FrontsFrom feed cat n (f ∷ fs) = HasHeader feed n f.0 × IsTrue (is_read f.0.format) × IsPrefix feed cat f.0 f.1 × FrontsFrom feed cat (n + 1) fs

abbrev pub low_bounds : List Header → List (List ℕ)
low_bounds hs = map (λ h. h.range.low) hs

-- the streams' ranges tile the keys in order of their numbers
abbrev pub AreTiling : List Header → Type 0
AreTiling hs = IsTrue (tile (low_bounds hs)) × (map (λ h. h.range) hs ≡ ranges_from (low_bounds hs))

pub record Fronts (feed : Feed) (cat : Catalogue) (fs : List (Header × List Item)) : Type 0 where
  pub all : length fs ≡ length feed
  pub each : FrontsFrom feed cat 0 fs
  pub tiling : AreTiling (map (λ f. f.0) fs)

-- the changes of all streams; in a row they are taken in the order of their timestamps
abbrev pub source_of : List (Header × List Item) → List Change
source_of fs = flat_map (λ f. changes_of f.1) fs

-- ---- a sound durable part

-- a row's cells under the carriers
abbrev pub row_cells : Catalogue → ℕ → Row → Option (List Cell)
row_cells cat table row = option_map (λ set. flatten (carriers cat table) (map (carried cat table) set)) row

-- a key's versions up to a moment
abbrev pub up_to_ts : List ℕ → ℕ → List RowVersion → List RowVersion
up_to_ts key t vs = filter (λ v. same_key v.key key && nat_le v.ts t) vs

pub record SoundPart (d : Durable) (fs : List (Header × List Item)) (p : Part) (r : Range) : Type 0 where
  -- each stored version above the minimum is what a change of the source is seen as
  pub only_changes : (table : ℕ) (v : RowVersion) → Contains (stored d p r table) v → d.minimum < v.ts
      → (c : Change) × Contains (source_of fs) c × (c.table ≡ table) × (v ≡ seen d.catalogue c)
  -- each change of its keys above the minimum, up to where the partition is durable, is stored
  pub all_changes : (c : Change) → Contains (source_of fs) c → IsTrue (in_range (change_key c) r) → d.minimum < c.ts → c.ts ≤ p.resume
      → Contains (stored d p r c.table) (seen d.catalogue c)
  -- up to the minimum the stored versions of a key make its row
  pub rows : (t : Table) (key : List ℕ) → table_numbered d.catalogue t.number ≡ Some t → IsTrue (in_range key r) → IsTrue (has_table t.number key)
      → effect_of (up_to_ts key d.minimum (stored d p r t.number)) ≡ row_cells d.catalogue t.number (row_at (source_of fs) key d.minimum)
  -- two deltas that hold one key and timestamp hold equal versions
  pub agree : (x y : Delta) (table : ℕ) (v w : RowVersion) → Contains (deltas_of d.shelf p.ids) x → Contains (deltas_of d.shelf p.ids) y
      → Contains (clip r (carried_versions d.catalogue table x)) v → Contains (clip r (carried_versions d.catalogue table y)) w → IsTrue (same_name v w) → v ≡ w
  pub minimum : d.minimum ≤ p.resume
  -- the partition is durable at most up to the checkpoint of each stream that meets it
  pub resume : AllByRecursion (λ f. IsTrue (meets f.0.range r) → p.resume ≤ checkpoint_of f.0 f.1) fs

abbrev pub SoundParts : Durable → List (Header × List Item) → List Part → List Range → Type 0
SoundParts d fs [] rs = ⊤
SoundParts d fs (p ∷ ps) [] = ⊥
SoundParts d fs (p ∷ ps) (r ∷ rs) = SoundPart d fs p r × SoundParts d fs ps rs

-- a place of a stream: behind some first items of its front, with what its check keeps there
abbrev pub IsPlace : Header × List Item → ℕ → Point → Type 0
IsPlace f offset p = (n : ℕ) × (n ≤ length f.1) × (offset ≡ place_after f.0 (take n f.1)) × (p ≡ point_of f.0 (take n f.1))

abbrev pub SoundPoints : List (Header × List Item) → List Stream → Type 0
SoundPoints [] [] = ⊤
SoundPoints (f ∷ fs) (s ∷ ss) = (s.low ≡ f.0.range.low) × AllByRecursion (λ p. IsPlace f p.0 p.1 × (header_length f.0 < p.0)) s.points × SoundPoints fs ss
SoundPoints [] (s ∷ ss) = ⊥
SoundPoints (f ∷ fs) [] = ⊥

pub record SoundPartOf (d : Durable) (fs : List (Header × List Item)) : Type 0 where
  pub parts : SoundParts d fs d.parts (ranges_of d)
  pub points : SoundPoints fs d.streams

-- the image opens, its extents stand within the file, its streams are the feed's, and its durable part is sound
pub record IsSound (image : List ℕ) (feed : Feed) : Type 0 where
  pub durable : Durable
  pub placing : Placing
  pub holds : HoldsAt image durable placing
  pub within : IsTrue (are_within image (extents_of placing))
  pub fronts : List (Header × List Item)
  pub are_fronts : Fronts feed durable.catalogue fronts
  pub sound : SoundPartOf durable fronts

-- ---- a session

-- what is kept in memory: for each partition the changes that are pending there, by rising key and falling timestamp
abbrev pub Memory : Type 0
Memory = List (List Change)

-- What a running replica stands for.
pub record Session : Type 0 where
  -- the machine's state
  pub state : State
  -- the changes in memory
  pub memory : Memory
  -- where its durable part stands on the disk
  pub placing : Placing
  -- where that stands which a failed command would have left, where some image has it
  pub failed : Option Placing
  -- the extents of the bundles that an open job has made
  pub made : List Extent
  -- the bundles that are kept in memory: where each stands, and its bytes
  pub cached : List (Extent × List ℕ)

-- a stream stands at a place of its front
abbrev pub Stands : Header × List Item → StreamAt → Type 0
Stands f a = (n : ℕ) × (n ≤ length f.1) × (a.offset ≡ place_after f.0 (take n f.1)) × (a.point ≡ point_of f.0 (take n f.1)) × (a.closed ≡ is_closed (take n f.1))

abbrev pub AreAtPlaces : List (Header × List Item) → List StreamAt → Type 0
AreAtPlaces [] [] = ⊤
AreAtPlaces (f ∷ fs) (a ∷ others) = (a.header ≡ f.0) × Stands f a × AreAtPlaces fs others
AreAtPlaces [] (a ∷ others) = ⊥
AreAtPlaces (f ∷ fs) [] = ⊥

-- the changes that the streams have passed
abbrev pub items_before : ℕ → ℕ → List Item → List Item
items_before offset place [] = []
items_before offset place (i ∷ is) = if nat_lt place offset then i ∷ items_before offset (place + length (spelled i)) is else []

abbrev pub passed : List (Header × List Item) → List StreamAt → List Change
passed fs [] = []
passed [] (a ∷ others) = []
passed (f ∷ fs) (a ∷ others) = changes_of (items_before a.offset (header_length f.0) f.1) ++ passed fs others

-- the names that are pending in a partition: of changes that were passed, above where it is durable
pub record PendingOf (cat : Catalogue) (d : Durable) (cs : List Change) (p : Part) (r : Range) (names : List (List ℕ × ℕ)) : Type 0 where
  pub are_changes : (n : List ℕ × ℕ) → Contains names n → (c : Change) × Contains cs c × IsTrue (named n c) × IsTrue (in_range (change_key c) r) × (p.resume < c.ts)
  pub none_lost : (c : Change) → Contains cs c → IsTrue (in_range (change_key c) r) → p.resume < c.ts
      → Contains names (change_key c, c.ts) ⊎ Contains (stored d p r c.table) (seen cat c)
  -- by rising key and falling timestamp, each once
  pub ordered : IsTrue (names_rise names)

abbrev pub PendingOfAll : Catalogue → Durable → List Change → List Part → List Range → List (List (List ℕ × ℕ)) → Type 0
PendingOfAll cat d cs [] rs [] = ⊤
PendingOfAll cat d cs (p ∷ ps) (r ∷ rs) (ns ∷ rest) = PendingOf cat d cs p r ns × PendingOfAll cat d cs ps rs rest
PendingOfAll cat d cs ps rs names = ⊥

abbrev pub ListsAll : List ℕ → List ℕ → Type 0
ListsAll ids inputs = AllByRecursion (λ i. IsTrue (list_any (λ x. x == i) ids)) inputs

-- A job's inputs stand in every partition that has keys of its range, for all the keys that both have. For a major job every other delta of
-- such a partition holds, for those keys, only versions above the job's minimum.
abbrev pub JobStands : Durable → Job → Type 0
JobStands d j = AllByRecursion (λ x. IsTrue (meets x.1 j.range) → ListsAll x.0.ids j.inputs × (IsTrue j.is_major
    → AllByRecursion (λ id. IsTrue (list_any (λ i. i == id) j.inputs) ⊎ ((table : ℕ) → AllByRecursion (λ v. j.minimum < v.ts) (merged_in d.catalogue d.shelf (id ∷ []) (common x.1 j.range) table))) x.0.ids)) (zip d.parts (ranges_of d))

-- A job began under an earlier catalogue, which covers its inputs, and with an earlier minimum; the inputs stand on the shelf.
pub record JobBegan (d : Durable) (j : Job) : Type 0 where
  pub shelved : AllByRecursion (λ i. IsTrue (is_some (delta_with d.shelf i))) j.inputs
  pub catalogue : Became j.catalogue d.catalogue
  pub lawful : IsCatalogue j.catalogue
  pub inputs : AllByRecursion (AreLawfulTables j.catalogue) (deltas_of d.shelf j.inputs)
  pub minimum : j.minimum ≤ d.minimum
  pub taken : j.taken ≤ job_keys d.shelf j

-- Some partition lies in a job's range. So what a finish makes is listed. A job that begins has one, and each command keeps it.
abbrev pub HasPart : Durable → Job → Type 0
HasPart d j = IsTrue (list_any (λ r. lies_in r j.range) (ranges_of d))

-- a session that belongs to the fronts of a feed
pub record IsReady (s : State) (fs : List (Header × List Item)) : Type 0 where
  pub places : AreAtPlaces fs s.streams
  pub pending : PendingOfAll (cat_of s) s.durable (passed fs s.streams) s.durable.parts (ranges_of s.durable) s.pending
  pub job : IfSome s.job (λ j. JobStands s.durable j × JobBegan s.durable j)

-- an image that a crash may leave beside a session: it holds the session's durable part, or where broken that or the failed command's
abbrev pub LeavesPart : State → List ℕ → Type 0
LeavesPart s image = Holds image s.durable ⊎ ((d : Durable) × (s.broken ≡ Some d) × Holds image d)

-- ---- what is sound stays sound: laws over these definitions alone

pub record IsGood (feed : Feed) (s : State) (fs : List (Header × List Item)) : Type 0 where
  pub short : AreShort feed
  pub lawful : IsLawfulPart s.durable
  pub fronts : Fronts feed (cat_of s) fs
  pub sound : SoundPartOf s.durable fs
  pub ready : IsReady s fs

-- What a failed command would have left, where the session is broken, is lawful and sound too, for the feed's fronts under its own
-- catalogue. The fault that broke the session gives it (`FaultKeeps` in Laws.antt), and each step keeps it.
abbrev pub IsSoundFor : Feed → Durable → Type 0
IsSoundFor feed d = IsLawfulPart d × ((gs : List (Header × List Item)) × Fronts feed d.catalogue gs × SoundPartOf d gs)

abbrev pub FailedIsSound : Feed → State → Type 0
FailedIsSound feed s = IfSome s.broken (IsSoundFor feed)

-- what a failed command would have left has no lesser minimum
abbrev pub FailedIsLater : State → Type 0
FailedIsLater s = IfSome s.broken (λ d. s.durable.minimum ≤ d.minimum)

-- a step of the command keeps it, broken or not; a new version may lengthen the fronts
abbrev pub KeepsGood : Command → Type 0
KeepsGood c = (feed : Feed) (fs : List (Header × List Item)) (s s' : State) (a : Answer) → IsGood feed s fs → FailedIsSound feed s → Step feed (source_of fs) s c a s'
    → ((gs : List (Header × List Item)) × IsGood feed s' gs) × FailedIsSound feed s'

abbrev pub StepKeeps : Type 0
StepKeeps = (c : Command) → KeepsGood c

-- an opening finds a good session
abbrev pub OpeningIsGood : Type 0
OpeningIsGood = (feed : Feed) (fs : List (Header × List Item)) (d : Durable) → AreShort feed → IsLawfulPart d → Fronts feed d.catalogue fs → SoundPartOf d fs → IsGood feed (opened d (map (λ f. f.0) fs)) fs

-- A longer feed keeps it. Neither a longer feed nor a longer catalogue changes an answer up to a safe moment.
pub record GrowthKeeps : Type 0 where
  pub good : (feed more : Feed) (fs gs : List (Header × List Item)) (s : State) → Grows feed more → AreShort more → IsGood feed s fs → Fronts more (cat_of s) gs → IsGood more s gs
  pub failed : (feed more : Feed) (s : State) → Grows feed more → FailedIsSound feed s → FailedIsSound more s
  pub answers : (feed more : Feed) (wide : Catalogue) (fs gs : List (Header × List Item)) (s : State) → Grows feed more → Became (cat_of s) wide → IsGood feed s fs → Fronts more wide gs
      → (t : Table) (columns : List Column) (q : Query) → first_below s (query_interval t q) q.at ≡ None
      → answer t columns q (snapshot (source_of gs) t columns q.at) ≡ answer t columns q (snapshot (source_of fs) t columns q.at)

-- an image that is sound for a feed is sound for a longer one
abbrev pub SoundGrows : Type 0
SoundGrows = (image : List ℕ) (feed more : Feed) → Grows feed more → IsSound image feed → IsSound image more

-- A scan in the window: what is stored and what is pending, merged and composed up to the moment, reads as the source's snapshot.
abbrev pub held_versions : List Change → State → ℕ → List RowVersion
held_versions source s table = merge (map (λ x. put_versions (clip x.1.1 (seen_pending source (cat_of s) (pending_of s x.0) table)) (stored s.durable x.1.0 x.1.1 table))
    (numbered_from 0 (zip s.durable.parts (ranges_of s.durable))))

-- the key parts, of the table's kinds, that key bytes spell are those of the entry
abbrev pub ReadsAs : Table → List Column → List Leaf → RowVersion → Entry → Type 0
ReadsAs t columns layout v e = (e.key ≡ v.key) × ((parts : List KeyPart) × IsTrue (is_key_of (key_kinds t.key) parts) × (v.key ≡ key_bytes t.number parts) × (e.row ≡ map part_value parts ++ read_cells t columns layout v.cells))

abbrev pub ReadAll : Table → List Column → List Leaf → List RowVersion → List Entry → Type 0
ReadAll t columns layout [] [] = ⊤
ReadAll t columns layout (v ∷ vs) (e ∷ es) = ReadsAs t columns layout v e × ReadAll t columns layout vs es
ReadAll t columns layout [] (e ∷ es) = ⊥
ReadAll t columns layout (v ∷ vs) [] = ⊥

abbrev pub ScanIsSnapshot : Type 0
ScanIsSnapshot = (feed : Feed) (fs : List (Header × List Item)) (s : State) (t : Table) (v : ℕ) (r : Registered) (q : Query) (es : List Entry) → IsGood feed s fs
    → table_named (cat_of s) q.table ≡ Some t → registered t v ≡ Some r → IsTrue r.live → s.durable.minimum ≤ q.at → first_below s (query_interval t q) q.at ≡ None
    → ReadAll t r.columns (carriers (cat_of s) t.number) (asof q.at (held_versions (source_of fs) s t.number)) es
    → answer t r.columns q es ≡ answer t r.columns q (snapshot (source_of fs) t r.columns q.at)
