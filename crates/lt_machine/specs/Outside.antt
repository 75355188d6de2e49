-- The outside: sources, sinks, feeds, disks and row sinks, by what their calls say.
use Rattle.std.specs.Prelude.{Bool, Contains, Err, IfSome, IsSome, IsTrue, List, None, Option, Result, Some, [], drop, false, filter, flat_map, if◌then◌else◌, is_none, length, map, nat_le, nat_lt, not, slice_get, sum, take, true, zip, ℕ, ⊤, ◌&&◌, ◌++◌, ◌-◌, ◌<◌, ◌==◌, ◌∷◌, ◌≡◌, ◌≤◌, ◌⊎◌}
use Rattle.std.specs.Io.KnownBytes.{Appends}
use Rattle.std.specs.List.{AllByRecursion, list_all, list_any}
use Rattle.std.specs.Option.{option_map_or}
use Rattle.lt_terms.specs.Value.{Value, rises_strictly}
use Rattle.lt_terms.specs.declared.Extent.{Extent}
use Rattle.lt_terms.specs.Log.{Change, Header, Item, change_key}
use Rattle.lt_terms.specs.Layout.{Leaf}
use Rattle.lt_terms.specs.Key.{Range, in_range, meets}
use Rattle.lt_world.specs.RowSink.{RowSinkGoes, RowSinkState, texts_of}
use Rattle.lt_world.specs.Feed.{Feed, FeedGoes, FeedState}
use Rattle.lt_world.specs.Disk.{DiskGoes, DiskState, bytes_in}
use Rattle.lt_world.specs.Extents.{IsFull, IsLowestGap, apart, are_apart}
use Rattle.lt_world.specs.Slots.{HasRoot}
use Rattle.lt_tables.specs.Query.{Command, Mode, Query, answer, do_compact, do_flush, do_job_begin, do_job_finish, do_job_step, do_page, do_pump, do_retain, do_retire, do_scan, do_schema, do_split, major, minor}
use Rattle.lt_tables.specs.Pump.{Part, name_of}
use Rattle.lt_tables.specs.Version.{RowVersion, asof, clip, collapse, merge, seen}
use Rattle.lt_tables.specs.Schema.{Catalogue, Registered, Table, carriers, registered, table_named}
use Rattle.lt_tables.specs.Row.{Entry}
use Rattle.lt_words.specs.Reply.{Refusal, Reply, damaged, disk_fault, feed_fault, feed_mismatch, out_fault, out_of_memory, store_full}
use Rattle.lt_storage.specs.Bundle.{bundle_bytes, cut, full_size, grouped}
use Rattle.lt_storage.specs.Store.{Delta, Durable, HasPlaced, Holds, HoldsAt, Placing, are_within, bare_entry, bundle_lengths, entry_meets, extents_of, index_length, manifest_length, merged_in, stored}
use Rattle.lt_machine.specs.Run.{Counts, is_disk_fault, is_pump_fault, may_break}
use Rattle.lt_machine.specs.Machine.{Answer, Does, Job, Scans, State, cat_of, first_below, is_broken, job_after, job_output, query_interval, query_of, ranges_of, refused, table_numbers}
use Rattle.lt_machine.specs.Sound.{Fronts, HasPart, IsGood, IsSound, LeavesPart, ReadAll, Session, source_of}
pub use Rattle.lt_machine.specs.Sound.{Memory}

-- ---- a row sink

-- The same where the row sink may have failed within a row.
pub record GivenUpTo (old new : RowSinkState) (given : List (List Value)) (answer : Result Reply Refusal) : Type 0 where
  -- of the row that it failed in
  pub next : List Value
  -- a front of the text
  pub broken_off : List ℕ
  -- stands behind the texts of the rows given
  pub text : Appends old.told new.told (texts_of old.spell given ++ broken_off)
  -- the rows given were added to its list, where it exposes that
  pub list : IfSome old.rows (λ a. new.rows ≡ Some (a ++ given))
  -- it is empty, unless the row sink's fault is answered
  pub only_so : (broken_off ≡ []) ⊎ ((answer ≡ Err out_fault) × ((rest : List ℕ) × (old.spell next ≡ broken_off ++ rest)))

-- ---- what a step is given

-- the objects that a step is given, at a moment
pub record World : Type 1 where
  pub disk : DiskState
  pub feed : FeedState
  pub rows : RowSinkState

abbrev pub world_of : DiskState → FeedState → RowSinkState → World
world_of disk feed rows = record { disk = disk; feed = feed; rows = rows }

-- What calls leave of them: each goes on from where it stood.
pub record WorldGoes (old new : World) : Type 0 where
  -- the disk's counts and clock do not fall, and what a crash left before stays so
  pub disk : DiskGoes old.disk new.disk
  -- the feed only grows
  pub feed : FeedGoes old.feed new.feed
  -- the row sink spells as before
  pub rows : RowSinkGoes old.rows new.rows

-- what a disk and a feed count, beside a script's faults and an output's
abbrev pub counts_in : DiskState → FeedState → ℕ → ℕ → Counts
counts_in disk feed script out = record { feed = feed.faults; calls = feed.calls; script = script; disk = disk.faults; write_faults = disk.write_faults; out = out; clock = disk.clock }

-- what a step counts; it has no script
abbrev pub counts_at : World → Counts
counts_at w = counts_in w.disk w.feed 0 w.rows.faults

-- ---- iterators over row versions

abbrev pub is_pump : Command → Bool
is_pump (do_pump n k) = true
is_pump c = false

-- ---- causes of faults

-- what has to be true where a fault is answered: counts that rose, room that lacks, damage that shows, headers that do not fit
pub record Causes : Type 1 where
  pub feed : Type 0
  pub disk : Type 0
  pub out : Type 0
  pub full : ℕ → ℕ → Type 0
  pub hurt : Extent → Type 0
  pub mismatch : ℕ → Type 0

-- out of memory alone needs no cause
abbrev pub caused_by : Causes → Refusal → Type 0
caused_by c (store_full need room) = c.full need room
caused_by c feed_fault = c.feed
caused_by c disk_fault = c.disk
caused_by c (damaged place len) = c.hurt (record { place = place; length = len })
caused_by c out_fault = c.out
caused_by c (feed_mismatch n) = c.mismatch n
caused_by c out_of_memory = ⊤
caused_by c r = ⊥

-- ---- a step of a session

-- a session belongs to a feed: its fronts are those of the feed, and its memory has the source's changes of the pending names
abbrev pub BelongsTo : Feed → State → Memory → Type 0
BelongsTo f s mem = (fs : List (Header × List Item)) × IsGood f s fs × (map (λ cs. map name_of cs) mem ≡ s.pending) × AllByRecursion (λ cs. AllByRecursion (Contains (source_of fs)) cs) mem

-- the bundles of an open job's output, each with its layout, in the order in which they are made
abbrev pub bundles_under : List Leaf → List RowVersion → List (List Leaf × List RowVersion)
bundles_under layout vs = map (λ b. (layout, b)) (cut layout vs)

abbrev pub job_bundles : State → Job → List (List Leaf × List RowVersion)
job_bundles s j = flat_map (λ t. bundles_under (carriers j.catalogue t.0) t.1) (job_output s.durable.shelf j)

abbrev pub bytes_of_bundle : List Leaf × List RowVersion → List ℕ
bytes_of_bundle b = bundle_bytes b.0 b.1

-- the bundles that an open job has made stand at their extents: they are the first of its output
abbrev pub MadeStand : Option Job → State → List Extent → List ℕ → Type 0
MadeStand None s made image = made ≡ []
MadeStand (Some j) s made image = map (bytes_in image) made ≡ map bytes_of_bundle (take (length made) (job_bundles s j))

-- the keys of a job's inputs in a table, merged and clipped: of each its versions
abbrev pub input_keys : List Delta → Job → ℕ → List (List RowVersion)
input_keys shelf j n = grouped (merged_in j.catalogue shelf j.inputs j.range n)

-- what a job makes of versions: for a major one those up to its minimum collapsed
abbrev pub made_of : Job → List RowVersion → List RowVersion
made_of j vs = if j.is_major then collapse j.minimum vs else vs

-- the bundles that are closed by their size; behind them one may be open
abbrev pub full_bundles : List Leaf → List RowVersion → List (List RowVersion) → List (List RowVersion)
full_bundles layout open_one [] = []
full_bundles layout open_one (g ∷ gs) = if nat_le full_size (length (bundle_bytes layout (open_one ++ g))) then (open_one ++ g) ∷ full_bundles layout [] gs else full_bundles layout (open_one ++ g) gs

-- The bundles of a table that its first n keys complete. Where the table has no key behind these the open one is complete too.
abbrev pub bundles_after : List Leaf → Job → List (List RowVersion) → ℕ → List (List RowVersion)
bundles_after layout j keys n = if nat_le (length keys) n then cut layout (made_of j (flat_map (λ g. g) (take n keys))) else full_bundles layout [] (grouped (made_of j (flat_map (λ g. g) (take n keys))))

abbrev pub tables_after : List Delta → Job → List ℕ → ℕ → List (List Leaf × List RowVersion)
tables_after shelf j [] n = []
tables_after shelf j (t ∷ ts) n = map (λ b. (carriers j.catalogue t, b)) (bundles_after (carriers j.catalogue t) j (input_keys shelf j t) n) ++ tables_after shelf j ts (n - length (input_keys shelf j t))

-- The bundles that a job has made: those that the keys it has taken complete, table by table. A bundle is written as soon as they do.
abbrev pub bundles_made : List Delta → Job → List (List Leaf × List RowVersion)
bundles_made shelf j = tables_after shelf j (table_numbers j.catalogue) j.taken

-- What a step of k keys writes: the bundles that its keys complete, behind those that the job has made.
abbrev pub next_bundles : State → ℕ → Job → List (List Leaf × List RowVersion)
next_bundles s k j = drop (length (bundles_made s.durable.shelf j)) (bundles_made s.durable.shelf (job_after s k j))

-- The extents of the bundles that an open job has made: as many as the keys that it has taken complete, neither fewer nor more.
abbrev pub AreMade : Option Job → State → List Extent → Type 0
AreMade None s made = made ≡ []
AreMade (Some j) s made = map (λ e. e.length) made ≡ map (λ b. length (bytes_of_bundle b)) (bundles_made s.durable.shelf j)

-- what is live besides the session's own extents: those of the failed command's part where some image has it, and what an open job has made
abbrev pub extents_besides : Session → List Extent
extents_besides x = option_map_or extents_of x.failed [] ++ x.made

abbrev pub live_extents : Session → List Extent
live_extents x = extents_of x.placing ++ extents_besides x

pub record AreBesides (x : Session) : Type 0 where
  pub of_failed : IfSome x.failed (λ l. IsSome x.state.broken)
  pub of_job : AreMade x.state.job x.state x.made
  -- a failed finish of the job names the made ones too
  pub apart : IsTrue (are_apart x.state.durable.limit x.made && list_all (λ e. list_all (apart e) (extents_of x.placing)) x.made)

-- an image holds the session's part, or where it is broken and some image has that, the failed command's
abbrev pub HoldsEither : Session → List ℕ → Type 0
HoldsEither x image = Holds image x.state.durable ⊎ ((d : Durable) × (l : Placing) × (x.state.broken ≡ Some d) × (x.failed ≡ Some l) × HoldsAt image d l)

-- Every image between two commands is sound for the feed, and has the session's durable part, or where broken that or the failed command's.
-- It has all that either names, and what a job has made, and nothing of these goes on past the end of the file.
pub record IsHonest (f : Feed) (x : Session) (image : List ℕ) : Type 0 where
  pub part : HoldsEither x image
  pub sound : IsSound image f
  pub placed : HasPlaced x.state.durable x.placing image
  pub failed : IfSome x.failed (λ l. IfSome x.state.broken (λ d. HasPlaced d l image))
  pub job : MadeStand x.state.job x.state x.made image
  pub within : IsTrue (are_within image (live_extents x))

-- An image on which a session stands: it is honest, and while the session is not broken its root counts there. Honest alone does not say
-- which root counts: what the placing names might stand a second time elsewhere, with the root at the second copy.
pub record StandsOn (f : Feed) (x : Session) (image : List ℕ) : Type 0 where
  pub root : is_broken x.state ≡ false → HasRoot x.placing.root image
  pub honest : IsHonest f x image

-- the changes in memory lie in their partition, above where it is durable
abbrev pub AreAbove : Range → Part → List Change → Type 0
AreAbove r p cs = AllByRecursion (λ c. IsTrue (in_range (change_key c) r) × (p.resume < c.ts)) cs

abbrev pub MemoryAbove : State → Memory → Type 0
MemoryAbove s mem = AllByRecursion (λ x. AreAbove x.0.1 x.0.0 x.1) (zip (zip s.durable.parts (ranges_of s.durable)) mem)

-- what a crash may leave of a session: a sound store, with its durable part, or where broken that or the failed command's
abbrev pub LeavesSession : Feed → Session → List ℕ → Type 0
LeavesSession f x image = IsSound image f × LeavesPart x.state image

-- What holds of a session on any store.
pub record IsKept (x : Session) : Type 0 where
  -- the changes in memory have the pending names
  pub names : map (λ cs. map name_of cs) x.memory ≡ x.state.pending
  -- they lie in their partition, above where it is durable
  pub above : MemoryAbove x.state x.memory
  -- a partition lies in an open job's range
  pub job : IfSome x.state.job (HasPart x.state.durable)

-- ---- what a scan works from, on any store that opens: what is stored and what is in memory, and nothing else of the log

abbrev pub memory_versions : Catalogue → List Change → ℕ → List RowVersion
memory_versions cat cs table = map (seen cat) (filter (λ c. c.table == table) cs)

abbrev pub held_with : State → Memory → ℕ → List RowVersion
held_with s mem table = merge (map (λ x. merge (stored s.durable x.0.0 x.0.1 table ∷ clip x.0.1 (memory_versions (cat_of s) x.1 table) ∷ [])) (zip (zip s.durable.parts (ranges_of s.durable)) mem))

abbrev pub ScansHeld : State → Memory → Query → List (List Value) → Type 0
ScansHeld s mem q rows = (t : Table) × (r : Registered) × (es : List Entry) × (table_named (cat_of s) q.table ≡ Some t) × (registered t q.version ≡ Some r)
    × ReadAll t r.columns (carriers (cat_of s) t.number) (asof q.at (held_with s mem t.number)) es × (rows ≡ answer t r.columns q es)

-- a query asks in the window: its version is live, and its moment is not below the minimum, and safe
abbrev pub AsksInWindow : State → Query → Type 0
AsksInWindow s q = (t : Table) (r : Registered) → table_named (cat_of s) q.table ≡ Some t → registered t q.version ≡ Some r → IsTrue r.live × (s.durable.minimum ≤ q.at) × (first_below s (query_interval t q) q.at ≡ None)

-- a scan or page that the state does not refuse asks so
abbrev pub UnrefusedAsks : Type 0
UnrefusedAsks = (s : State) (c : Command) (q : Query) → query_of c ≡ Some q → refused s c ≡ None → AsksInWindow s q

-- in a session that belongs to a feed, what is answered from the store and from memory is the answer over the source's snapshot
abbrev pub HeldScans : Type 0
HeldScans = (f : Feed) (s : State) (mem : Memory) (q : Query) (rows : List (List Value)) → (b : BelongsTo f s mem) → AsksInWindow s q → ScansHeld s mem q rows → Scans (source_of b.0) s q rows

-- ---- the reads of a scan: bundles of met deltas whose keys meet the interval

-- the deltas of the partitions that the interval meets
abbrev pub is_met : Durable → Range → Delta → Bool
is_met d r x = list_any (λ p. meets p.1 r && list_any (λ id. id == x.id) p.0.ids) (zip d.parts (ranges_of d))

abbrev pub bundle_meets : Range → List RowVersion → Bool
bundle_meets r vs = entry_meets r (bare_entry vs)

abbrev pub met_bundles : Range → Delta → ℕ
met_bundles r x = sum (map (λ t. length (filter (bundle_meets r) t.bundles)) x.tables)

abbrev pub met_pairs : Durable → Range → ℕ
met_pairs d r = sum (map (met_bundles r) (filter (is_met d r) d.shelf))

abbrev pub scan_reads : State → Query → ℕ
scan_reads s q = option_map_or (λ t. met_pairs s.durable (query_interval t q)) (table_named (cat_of s) q.table) 0

-- the names of the bundles that a cache keeps, the latest used first: delta, table and number
abbrev pub same_bundle : ℕ × ℕ × ℕ → ℕ × ℕ × ℕ → Bool
same_bundle a b = a.0 == b.0 && a.1 == b.1 && a.2 == b.2

abbrev pub kept_after : ℕ × ℕ × ℕ → List (ℕ × ℕ × ℕ) → List (ℕ × ℕ × ℕ)
kept_after name kept = take 64 (name ∷ filter (λ k. not (same_bundle name k)) kept)

-- ---- room: the lengths of what a command writes, in order

-- the bundles that it adds, their index, and the manifest; the bundles of a job that is finished stand already
abbrev pub new_deltas : State → State → List Delta
new_deltas s s' = filter (λ d. nat_le s.durable.next_id d.id) s'.durable.shelf

abbrev pub writes_bundles : Command → Bool
writes_bundles (do_flush p) = true
writes_bundles (do_compact p m) = true
writes_bundles c = false

-- the commands that commit
abbrev pub is_commit : Command → Bool
is_commit (do_schema t) = true
is_commit (do_retire t v) = true
is_commit (do_flush p) = true
is_commit (do_compact p m) = true
is_commit do_job_finish = true
is_commit (do_split t k) = true
is_commit (do_retain t) = true
is_commit c = false

abbrev pub commit_lengths : Command → State → State → List ℕ
commit_lengths c s s' = flat_map (λ d. (if writes_bundles c then bundle_lengths d else []) ++ index_length d ∷ []) (new_deltas s s') ++ manifest_length s'.durable ∷ []

-- a job's step writes the bundles that its keys complete
abbrev pub step_lengths : State → ℕ → List ℕ
step_lengths s k = option_map_or (λ j. map (λ b. length (bytes_of_bundle b)) (next_bundles s k j)) s.job []

abbrev pub piece_lengths : Command → State → State → List ℕ
piece_lengths (do_job_step k) s s' = step_lengths s k
piece_lengths c s s' = if is_commit c then commit_lengths c s s' else []

-- extents taken one after another, each the lowest gap beside those that are live and those taken before it
abbrev pub AreTaken : ℕ → List Extent → List Extent → Type 0
AreTaken most live [] = ⊤
AreTaken most live (e ∷ es) = IsLowestGap most live e.length e × AreTaken most (live ++ e ∷ []) es

-- extents taken for the first pieces, and the length of the next
abbrev pub TakesPieces : List ℕ → List Extent → ℕ → Type 0
TakesPieces lengths taken need = (map (λ e. e.length) taken ≡ take (length taken) lengths) × (slice_get lengths (length taken) ≡ Some need)

-- Under the limit no gap of the next piece's length is left beside the live extents and those taken for earlier pieces.
abbrev pub IsOutOfRoom : ℕ → List Extent → List ℕ → ℕ → ℕ → Type 0
IsOutOfRoom most live lengths need room = (taken : List Extent) × AreTaken most live taken × TakesPieces lengths taken need × IsFull most (live ++ taken) need room

-- a piece of a command, as the machine would do it over the feed's fronts, finds no room beside what is live
abbrev pub LacksRoom : Feed → Session → Command → ℕ → ℕ → Type 0
LacksRoom f x c need room = (fs : List (Header × List Item)) × (a : Answer) × (s' : State) × Fronts f (cat_of x.state) fs × Does f (source_of fs) x.state c a s'
    × IsOutOfRoom x.state.durable.limit (live_extents x) (piece_lengths c x.state s') need room

-- the commands that a step takes
abbrev pub is_mode : Mode → Bool
is_mode (minor ids) = nat_le 2 (length ids) && nat_le (length ids) 64 && rises_strictly ids
is_mode major = true

abbrev pub is_command : Command → Bool
is_command (do_pump n k) = nat_lt 0 k
is_command (do_compact p m) = is_mode m
is_command (do_job_begin p m) = is_mode m
is_command (do_job_step n) = nat_lt 0 n
is_command (do_scan q) = is_none q.limit && is_none q.after
is_command (do_page q) = option_map_or (nat_lt 0) q.limit false
is_command c = true

-- ---- what every refusal keeps, on any store

-- A step's refusal leaves the state, with two exceptions: a pump that took some records moved on, and a write or a reopening that failed on the
-- disk breaks the session.
abbrev pub StaysBut : Command → Refusal → State → State → Type 0
StaysBut c r s s' = (s' ≡ s) ⊎ (IsTrue (is_pump_fault r && is_pump c) × (s' ≡ record s { streams = s'.streams; pending = s'.pending }))
    ⊎ (IsTrue (is_disk_fault r) × IsTrue (may_break c) × ((d : Durable) × (s' ≡ record s { broken = Some d })))
