-- The program's top call: how a run of a script ends, how the generated run ends, how the program ends by its words, and what a crash leaves.
use Rattle.std.specs.Prelude.{Bool, Contains, IfSome, IsTrue, List, None, Option, Some, [], codes, decimal, filter, flat_map, if◌then◌else◌, length, map, nat_eq, pos, suc, take, true, zero, ℕ, ⊤, ◌%◌, ◌*◌, ◌++◌, ◌+◌, ◌<◌, ◌==◌, ◌||◌, ◌∷◌, ◌≡◌, ◌≢◌, ◌≤◌, ◌⊎◌}
use Rattle.std.specs.Option.{option_map_or}
use Rattle.std.specs.List.{AllByRecursion, starts_with}
use Rattle.lt_terms.specs.declared.Root.{Root}
use Rattle.lt_terms.specs.declared.Extent.{Extent}
use Rattle.lt_terms.specs.Key.{KeyPart, all_keys, int_part}
use Rattle.lt_terms.specs.Value.{int_value, text_value}
use Rattle.lt_terms.specs.Log.{Change, Header, Item, change_item, checkpoint_item, header_item, spelled}
use Rattle.lt_world.specs.Disk.{DiskGoes, DiskState, LeavesNow, LeftOnly, Rose, bytes_in}
use Rattle.lt_world.specs.Object.{BytesGo, BytesState, FailsAt, IsFront}
use Rattle.lt_world.specs.Feed.{Feed, FeedGoes, FeedState, Grows}
use Rattle.lt_world.specs.Slots.{CountsAsRoot, HasNoStore}
use Rattle.lt_world.specs.Extents.{are_apart}
use Rattle.lt_tables.specs.Schema.{Catalogue}
use Rattle.lt_tables.specs.Pump.{Attaches, IsMismatch}
use Rattle.lt_words.specs.Script.{Line, line_of, pieces, script_lines}
use Rattle.lt_words.specs.Reply.{ended, out_of_memory}
use Rattle.lt_storage.specs.Store.{Holds, IsIndex, IsManifest, Manifest, Placing, TableIndex, extents_of, root_extent}
use Rattle.lt_machine.specs.Run.{CauseOf, Counts, HasBegun, IsDamaged, IsOver, Moment, Rules, Runs, StartFault, Words, init_text, is_known_index, last_moment, lines_ended, max_script, no_store, no_words_known, run_text, script_fault_text, start_damaged, start_disk, start_feed, start_mismatch, start_status, start_text, store_there, too_long_text, usage_text, word_gen, word_init, word_run}
use Rattle.lt_machine.specs.Outside.{Causes, counts_in}
use Rattle.lt_machine.specs.Machine.{fresh, opened}
use Rattle.lt_machine.specs.Sound.{IsSound}
use Rattle.lt_machine.specs.Step.{Base}
use Rattle.lt_terms.specs.declared.Op.TheVariants as ops
use Rattle.lt_terms.specs.declared.Format.TheVariants as format

-- ---- what a call sees of the outside, and what it went through

-- the objects that the program is given, at a moment
pub record Outside : Type 1 where
  pub disk : DiskState
  pub feed : FeedState
  pub script : BytesState
  pub out : BytesState

abbrev pub outside_of : DiskState → FeedState → BytesState → BytesState → Outside
outside_of disk feed script out = record { disk = disk; feed = feed; script = script; out = out }

-- What calls leave of them: each goes on from where it stood.
pub record OutsideGoes (old new : Outside) : Type 0 where
  -- the disk's counts and clock do not fall, and what a crash left before stays so
  pub disk : DiskGoes old.disk new.disk
  -- the feed only grows
  pub feed : FeedGoes old.feed new.feed
  -- the script's count of faults does not fall
  pub script : BytesGo old.script new.script
  -- nor the output's
  pub out : BytesGo old.out new.out

-- what they count
abbrev pub counts_of : Outside → Counts
counts_of w = counts_in w.disk w.feed w.script.faults w.out.faults

-- What they expose and count, where they expose their contents.
pub record Told : Type 0 where
  -- the feed's streams
  pub feed : Feed
  -- what is left of the script
  pub script : List ℕ
  -- what was written
  pub written : List ℕ
  pub counts : Counts

pub record Tells (w : Outside) (t : Told) : Type 0 where
  pub feed : w.feed.told ≡ Some t.feed
  pub script : w.script.told ≡ Some t.script
  pub written : w.out.told ≡ Some t.written
  pub counts : counts_of w ≡ t.counts

-- What a call took of the script and wrote, and what each line did.
pub record Trace : Type 0 where
  -- the bytes that it took of the script
  pub taken : List ℕ
  -- the bytes that it wrote
  pub written : List ℕ
  -- the moment that the session began in, where one did
  pub opening : Option Moment
  -- the moment behind each line
  pub moments : List Moment

-- nothing was taken, and no script ran
pub record IsIdle (t : Trace) : Type 0 where
  pub taken : t.taken ≡ []
  pub opening : t.opening ≡ None
  pub moments : t.moments ≡ []

-- the moments that a script went through, with that of its beginning
abbrev pub moments_of : Trace → List Moment
moments_of t = option_map_or (λ m. m ∷ t.moments) t.opening []

-- a failing sink, or out of memory, which writes no line
abbrev pub IsCut : ℕ → Type 0
IsCut status = (status ≡ 4) ⊎ (status ≡ 10)

-- ---- how a run of a script ends

-- A run that ends because the sink failed or memory ran out: a front of the text stands. With a failing sink it may end within the line that says
-- why the run stops.
pub data EndsEarly (rules : Rules) (m : Moment) (now : Counts) (script : List ℕ) (t : Trace) (status : ℕ) : Type 0 where
  -- of the lines that were ended in what was taken some first ones were answered
  in_replies : (part : List ℕ) → IsFront part t.taken → length part ≤ max_script → Runs rules m (lines_ended part) t.moments → IsFront t.written (run_text t.moments) → EndsEarly rules m now script t status
  -- the script was read to its end, and all lines were answered
  in_last_line : t.taken ≡ script → length script ≤ max_script → Runs rules m (script_lines script) t.moments → IsFront t.written (run_text t.moments) → EndsEarly rules m now script t status
  in_script_fault : status ≡ 4 → Rose m.counts.script now.script → length t.taken ≤ max_script → Runs rules m (lines_ended t.taken) t.moments → IsFront t.written (run_text t.moments ++ script_fault_text) → EndsEarly rules m now script t status
  in_too_long : status ≡ 4 → max_script < length script → Runs rules m (lines_ended (take max_script script)) t.moments → IsFront t.written (run_text t.moments ++ too_long_text) → EndsEarly rules m now script t status

-- A run of a script from an opened session, by its status.
pub data RunEnds (rules : Rules) (m : Moment) (now : Counts) (script : List ℕ) (t : Trace) (status : ℕ) : Type 0 where
  -- the script was read to its end, and all lines were answered
  all_answered : status ≡ 0 → t.taken ≡ script → length script ≤ max_script → Runs rules m (script_lines script) t.moments → t.written ≡ run_text t.moments → RunEnds rules m now script t status
  -- the script failed; the lines ended in what was taken were answered
  script_failed : status ≡ 3 → Rose m.counts.script now.script → length t.taken ≤ max_script → Runs rules m (lines_ended t.taken) t.moments → t.written ≡ run_text t.moments ++ script_fault_text → RunEnds rules m now script t status
  -- the script is too long; the lines ended within the longest were answered
  script_too_long : status ≡ 9 → max_script < length script → Runs rules m (lines_ended (take max_script script)) t.moments → t.written ≡ run_text t.moments ++ too_long_text → RunEnds rules m now script t status
  ended_early : IsCut status → EndsEarly rules m now script t status → RunEnds rules m now script t status

-- ---- why no session begins

-- the low bounds that an image keeps of its streams: read off the manifest that counts
abbrev pub KeepsLows : List ℕ → List (List ℕ) → Type 0
KeepsLows image lows = (r : Root) × (m : Manifest) × CountsAsRoot image r × IsManifest m (bytes_in image (root_extent r)) × (lows ≡ map (λ s. s.low) m.streams)

abbrev pub ReadsAll : List ℕ → Catalogue → List (ℕ × Extent) → List (List TableIndex) → Type 0
ReadsAll image cat [] [] = ⊤
ReadsAll image cat (d ∷ ds) (i ∷ is) = IsIndex i (bytes_in image d.1) × (is_known_index cat i ≡ true) × ReadsAll image cat ds is
ReadsAll image cat ds is = ⊥

-- what an opening reads of a store: the root, the manifest that counts and the indexes, but no bundle
pub record IsOpened (image : List ℕ) (l : Placing) : Type 0 where
  pub root : CountsAsRoot image l.root
  pub manifest : IsManifest l.manifest (bytes_in image (root_extent l.root))
  pub indexes : ReadsAll image l.manifest.catalogue l.manifest.deltas l.indexes
  pub extents : IsTrue (are_apart l.manifest.limit (extents_of l))

-- at most three reads, and one for each delta of the manifest that counts
abbrev pub OpensIn : List ℕ → ℕ → Type 0
OpensIn image reads = (reads ≤ 3) ⊎ ((r : Root) × (m : Manifest) × CountsAsRoot image r × IsManifest m (bytes_in image (root_extent r)) × (reads ≤ 3 + length m.deltas))

-- a device's count rose; nothing else is a cause
abbrev pub device_causes : Counts → Counts → Causes
device_causes n m = record { feed = Rose n.feed m.feed; disk = Rose n.disk m.disk; out = ⊥; full = λ need room. ⊥; hurt = λ e. ⊥; mismatch = λ k. ⊥ }

-- Why a making fails: by the gates, by a count, by the headers. The root is looked at before the feed.
abbrev pub MakeCaused : Causes → Option (List ℕ) → Option Feed → StartFault → Type 0
MakeCaused c image feed store_there = IfSome image (λ i. HasNoStore i → ⊥)
MakeCaused c image feed start_disk = c.disk
MakeCaused c image feed start_feed = c.feed × IfSome image HasNoStore
MakeCaused c image feed (start_mismatch n) = IfSome image HasNoStore × IfSome feed (λ f. IsMismatch f None n)
MakeCaused c image feed no_store = ⊥
MakeCaused c image feed (start_damaged place len) = ⊥

-- why an opening fails: by the gates, by a count, by the headers beside the kept low bounds, by damage that shows
abbrev pub OpenCaused : Causes → Option (List ℕ) → Option Feed → StartFault → Type 0
OpenCaused c image feed no_store = IfSome image HasNoStore
OpenCaused c image feed start_disk = c.disk
OpenCaused c image feed start_feed = c.feed × IfSome image (λ i. (lows : List (List ℕ)) × KeepsLows i lows)
OpenCaused c image feed (start_mismatch n) = IfSome image (λ i. IfSome feed (λ f. (lows : List (List ℕ)) × KeepsLows i lows × IsMismatch f (Some lows) n))
OpenCaused c image feed (start_damaged place len) = IfSome image (λ i. IsDamaged i (record { place = place; length = len }))
OpenCaused c image feed store_there = ⊥

-- ---- the generated run

abbrev pub gen_key : ℕ → List KeyPart
gen_key i = int_part (pos ((7 * i) % 101)) ∷ []

-- at each number a change of one key: every fifth a delete, else at odd numbers an insert and at even ones an update
abbrev pub gen_change : ℕ → Change
gen_change i = if i % 5 == 0 then record { ts = i; table = 1; version = 1; op = ops.Delete; key = gen_key i; set = [] }
    else (if i % 2 == 1 then record { ts = i; table = 1; version = 1; op = ops.Insert; key = gen_key i; set = (1, int_value (pos i)) ∷ (2, text_value (codes "v" ++ decimal i)) ∷ [] }
    else record { ts = i; table = 1; version = 1; op = ops.Update; key = gen_key i; set = (1, int_value (pos i)) ∷ [] })

-- a checkpoint after every tenth, and after the last
abbrev pub gen_items : ℕ → ℕ → ℕ → List Item
gen_items last zero i = []
gen_items last (suc n) i = change_item (gen_change i) ∷ (if i % 10 == 0 || i == last then checkpoint_item i ∷ gen_items last n (i + 1) else gen_items last n (i + 1))

abbrev pub gen_header : Header
gen_header = record { format = format.One; stream = 0; range = all_keys; predecessor = None; from = 0 }

unfoldable pub gen_stream : ℕ → List ℕ
gen_stream n = spelled (header_item gen_header) ++ flat_map spelled (gen_items n n 1)

abbrev pub gen_limit : ℕ
gen_limit = 1073741824

abbrev pub gen_script : ℕ → List ℕ
gen_script n = codes "schema {\"table\":\"gen\",\"number\":1,\"version\":1,\"key\":[[\"id\",\"int64\"]],\"columns\":[{\"number\":1,\"name\":\"a\",\"kind\":\"int64\"},{\"number\":2,\"name\":\"b\",\"kind\":\"text\"}]}\n"
    ++ codes "pump 0 4294967295\nflush 0\nsplit gen [50]\nretain " ++ decimal n ++ codes "\ncompact 0 major\ncompact 1 major\nscan gen 1 " ++ decimal n ++ codes "\n"

-- the lines that begin with `ok` or `refused`
abbrev pub is_last_line : List ℕ → Bool
is_last_line line = starts_with nat_eq line (codes "ok") || starts_with nat_eq line (codes "refused")

abbrev pub last_lines : List ℕ → List ℕ
last_lines text = flat_map ended (filter is_last_line (pieces 10 text))

-- over the objects that the run makes itself nothing fails but memory
abbrev pub no_cause : CauseOf
no_cause n m f x c r = r ≡ out_of_memory

abbrev pub no_counts : Counts
no_counts = record { feed = 0; calls = 0; script = 0; disk = 0; write_faults = 0; out = 0; clock = 0 }

abbrev pub gen_feed : ℕ → Feed
gen_feed n = gen_stream n ∷ []

abbrev pub gen_text : ℕ → List Moment → List ℕ
gen_text n ms = init_text 1 gen_limit ++ last_lines (run_text ms)

abbrev pub gen_rules : Rules
gen_rules = record { reads = line_of; cause = no_cause }

-- the fresh store's session; where its parts stand is not said
pub record GenBegins (n : ℕ) (m : Moment) : Type 0 where
  pub feed : m.feed ≡ gen_feed n
  pub state : m.session.state ≡ opened (fresh gen_limit (gen_header ∷ [])) (gen_header ∷ [])

-- the generated run: all of its last lines, or a front of them
pub data GenEnds (n : ℕ) (written : List ℕ) (status : ℕ) : Type 0 where
  gen_done : (m : Moment) (ms : List Moment) → GenBegins n m → Runs gen_rules m (script_lines (gen_script n)) ms → AllByRecursion (λ k. k.feed ≡ gen_feed n) ms
      → status ≡ 0 → written ≡ gen_text n ms → GenEnds n written status
  gen_cut : (m : Moment) (ms : List Moment) → GenBegins n m → Runs gen_rules m (script_lines (gen_script n)) ms → AllByRecursion (λ k. k.feed ≡ gen_feed n) ms
      → IsCut status → IsFront written (gen_text n ms) → GenEnds n written status

-- ---- how the program ends, by its words

-- Why no store is made or opened, and what was written of the line that says so: all of it, or with a failing sink a front. Where memory ran
-- out nothing is written.
pub data Stops (caused : StartFault → Type 0) (written : List ℕ) (status : ℕ) : Type 0 where
  stops : (e : StartFault) → caused e → status ≡ start_status e → written ≡ start_text e → Stops caused written status
  stops_cut : (e : StartFault) → caused e → status ≡ 4 → IsFront written (start_text e) → Stops caused written status
  lacks : status ≡ 10 → written ≡ [] → Stops caused written status

-- a device that failed before a session began is named, if the sink did not fail
pub record NamesFault (before now : Counts) (status : ℕ) : Type 0 where
  pub feed : before.feed < now.feed → (status ≡ 7) ⊎ (status ≡ 4)
  pub disk : before.disk < now.disk → (status ≡ 6) ⊎ (status ≡ 4)

-- Of the words that make a store. It is made whole, or, where no device failed, nothing is written.
pub data InitEnds (most : ℕ) (w w' : Outside) (f : Feed) (written : List ℕ) (status : ℕ) : Type 0 where
  made : (hs : List Header) → IfSome w.disk.told HasNoStore → Attaches f None hs → LeavesNow w'.disk (λ image. Holds image (fresh most hs) × IsSound image f)
      → ((status ≡ 0) × (written ≡ init_text (length hs) most)) ⊎ (IsCut status × IsFront written (init_text (length hs) most)) → InitEnds most w w' f written status
  not_made : Stops (MakeCaused (device_causes (counts_of w) (counts_of w')) w.disk.told w'.feed.told) written status → NamesFault (counts_of w) (counts_of w') status
      → Rose w.disk.write_faults w'.disk.write_faults ⊎ ((w'.disk.told ≡ w.disk.told) × LeftOnly w.disk w'.disk w.disk.leaves) → InitEnds most w w' f written status

-- how a program is set up
pub record Program : Type 1 where
  -- what its sessions stand on
  pub base : Base
  -- how it reads its words
  pub words : List (List ℕ) → Words
  -- how it reads a line
  pub reads : List ℕ → Line
  -- the statuses that it ends with
  pub ends_with : ℕ → Bool

abbrev pub rules_of : Program → Rules
rules_of p = record { reads = p.reads; cause = p.base.cause }

-- Of the word that runs a script: no session begins, and nothing is written; or one does, at the feed and the counts as they stand then. From a
-- disk that is sound for the feed the script is run.
pub data ScriptEnds (p : Program) (w w' : Outside) (old new : Told) (t : Trace) (status : ℕ) : Type 0 where
  not_opened : IsIdle t → Stops (p.base.stops w.disk.told w'.feed.told old.counts new.counts) t.written status → NamesFault old.counts new.counts status → LeftOnly w.disk w'.disk w.disk.leaves → ScriptEnds p w w' old new t status
  ran : (m : Moment) → t.opening ≡ Some m → Grows old.feed m.feed → HasBegun old.counts m.counts → p.base.opens w.disk.told (Some m.feed) m.session
      → (p.base.sound w.disk old.feed → RunEnds (rules_of p) m new.counts old.script t status × IsOver (last_moment m t.moments) status new.feed new.counts) → ScriptEnds p w w' old new t status

-- What a call of the program did, by its words.
abbrev pub Ends : Program → Outside → Outside → Told → Told → Words → Trace → ℕ → Type 0
Ends p w w' old new no_words_known t status = IsIdle t × (((status ≡ 2) × (t.written ≡ usage_text)) ⊎ ((status ≡ 4) × IsFront t.written usage_text))
Ends p w w' old new (word_init most) t status = IsIdle t × InitEnds most w w' new.feed t.written status
Ends p w w' old new word_run t status = ScriptEnds p w w' old new t status
Ends p w w' old new (word_gen k) t status = IsIdle t × GenEnds k t.written status

-- ---- what a crash leaves of a run

-- From a moment's clock on a crash leaves the part of its session, or of a later one; and some image then has all that its session names.
abbrev pub StandFrom : Base → DiskState → Feed → List Moment → Type 0
StandFrom g disk f [] = ⊤
StandFrom g disk f (m ∷ ms) = ((image : List ℕ) → disk.left_since m.counts.clock image → (k : Moment) × Contains (m ∷ ms) k × g.leaves f k.session image)
    × g.seen (disk.left_since m.counts.clock) f m.session × StandFrom g disk f ms

-- What a crash leaves of a run.
pub record Endures (g : Base) (disk disk' : DiskState) (f : Feed) (t : Trace) : Type 0 where
  -- at any moment of the call what it might have left at the start, or the part of a session that the run went through
  pub any_moment : LeftOnly disk disk' (λ image. disk.leaves image ⊎ ((m : Moment) × Contains (moments_of t) m × g.leaves f m.session image))
  -- from the moment of a line on, the part of its session or of a later one
  pub answered : StandFrom g disk' f (moments_of t)
  -- on return the part of the last session
  pub on_return : IfSome t.opening (λ m. LeavesNow disk' (g.leaves f (last_moment m t.moments).session))

-- ---- the clauses of the top call

-- What a call of the program did, over objects that expose their contents: one trace says it all.
pub record Did (p : Program) (words : List (List ℕ)) (w w' : Outside) (old new : Told) (status : ℕ) : Type 0 where
  -- what it went through
  pub trace : Trace
  -- what it took of the script
  pub took : old.script ≡ trace.taken ++ new.script
  -- what it wrote
  pub wrote : new.written ≡ old.written ++ trace.written
  -- what each line did, and why it ended with the status: by the words
  pub ends : Ends p w w' old new (p.words words) trace status
  -- what a crash leaves of it
  pub endures : p.words words ≡ word_run → p.base.sound w.disk old.feed → Endures p.base w.disk w'.disk new.feed trace

-- the statuses that say why no session began
abbrev pub is_start_status : ℕ → Bool
is_start_status n = n == 5 || n == 6 || n == 7 || n == 8 || n == 11

-- Why a call of the program ended with its status, whatever the objects expose.
pub record EndsFor (p : Program) (words : List (List ℕ)) (w w' : Outside) (status : ℕ) : Type 0 where
  -- the program has the status
  pub known : p.ends_with status ≡ true
  -- 2 says that the words are not known
  pub usage : status ≡ 2 → p.words words ≡ no_words_known
  -- words that are not known end with it, or with 4, and neither the feed nor the script is used
  pub other_words : p.words words ≡ no_words_known → ((status ≡ 2) ⊎ (status ≡ 4)) × (w'.feed ≡ w.feed) × (w'.script ≡ w.script)
  -- 3 says that the script failed
  pub script_failed : status ≡ 3 → Rose w.script.faults w'.script.faults
  -- 4 says that the output failed
  pub out_failed : status ≡ 4 → Rose w.out.faults w'.out.faults
  -- 5, 6, 7, 8 and 11 say why no session began
  pub not_started : p.words words ≡ word_run → is_start_status status ≡ true → (e : StartFault) × (start_status e ≡ status) × p.base.stops w.disk.told w'.feed.told (counts_of w) (counts_of w') e
  -- a device that failed before a session began is named
  pub named : p.words words ≡ word_run → is_start_status status ≡ true → NamesFault (counts_of w) (counts_of w') status
  -- 9 says that the script is too long
  pub too_long : status ≡ 9 → IfSome w.script.told (λ s. max_script < length s)
  -- nothing is read behind a fault of the script
  pub script_stops : ((status ≢ 3) × (w'.script.faults ≡ w.script.faults)) ⊎ FailsAt w'.script.told w.script.failed_at w'.script.failed_at
  -- the script failed only where the status is 3 or 4
  pub script_kept : status ≢ 3 → status ≢ 4 → w'.script.faults ≡ w.script.faults
  -- nothing is written behind a fault of the output
  pub out_stops : status ≡ 4 → FailsAt w'.out.told w.out.failed_at w'.out.failed_at
  -- the output failed only where the status is 4
  pub out_kept : status ≢ 4 → w'.out.faults ≡ w.out.faults
