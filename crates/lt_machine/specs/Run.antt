-- A run: the text that a script makes, and the faults that may stand in place of a reply.
use Rattle.std.specs.Prelude.{Bool, Contains, Err, IsTrue, List, None, Ok, OnOk, Result, Some, [], codes, decimal, false, flat_map, if◌then◌else◌, is_some, length, map, nat_lt, take, true, unwrap_or, ℕ, ⊤, ◌&&◌, ◌++◌, ◌+◌, ◌-◌, ◌<◌, ◌^◌, ◌||◌, ◌∷◌, ◌≡◌, ◌≢◌, ◌≤◌, ◌⊎◌}
use Rattle.std.specs.Option.{option_map_or}
use Rattle.std.specs.List.{list_all}
use Rattle.lt_terms.specs.Value.{Value}
use Rattle.lt_terms.specs.Kind.{Kind}
use Rattle.lt_terms.specs.Log.{Change, Header, Item}
use Rattle.lt_terms.specs.Conversion.{same_bytes}
use Rattle.lt_terms.specs.declared.Extent.{Extent}
use Rattle.lt_terms.specs.declared.Root.{Root}
use Rattle.lt_world.specs.Feed.{Feed, Grows}
use Rattle.lt_world.specs.Disk.{Rose, bytes_in}
use Rattle.lt_world.specs.Extents.{IsMisplaced, end_of}
use Rattle.lt_world.specs.Slots.{CountsAsRoot, HasNoStore, IsDamagedSlot}
use Rattle.lt_tables.specs.Query.{Command, Query, do_compact, do_deltas, do_flush, do_job_begin, do_job_drop, do_job_finish, do_job_step, do_page, do_pump, do_reopen, do_retain, do_retire, do_scan, do_schema, do_split, do_status}
use Rattle.lt_tables.specs.Pump.{StreamAt, Takes}
use Rattle.lt_tables.specs.Schema.{Catalogue, Table, table_numbered}
use Rattle.lt_tables.specs.Version.{RowVersion}
use Rattle.lt_words.specs.Reply.{Refusal, Reply, bad_line_text, damaged, disk_fault, ended, feed_fault, feed_mismatch, out_fault, out_of_memory, picked_kinds, refusal_text, reply_text, row_text, store_full, text_line}
use Rattle.lt_words.specs.Script.{Line, bad_line, number_word, pieces, skipped, spells_command}
use Rattle.lt_storage.specs.Store.{BundleEntry, Durable, HasBundle, IsIndex, IsManifest, IsStore, Manifest, TableIndex, bundle_extents, entry_extent, is_covered, is_limit, root_extent}
use Rattle.lt_machine.specs.Machine.{Answer, Does, Scans, State, Step, cat_of, is_broken, is_reopen, is_write, of_query, query_of, refused, stream_at, with_items}
use Rattle.lt_machine.specs.Sound.{Fronts, Session, source_of}

-- ---- the text of an answer

abbrev pub rows_text : List Kind → List (List Value) → List ℕ
rows_text ks rows = flat_map (row_text ks) rows

-- the kinds of the columns that a scan or page prints
abbrev pub asked_kinds : State → Command → List Kind
asked_kinds s c = unwrap_or (of_query s c (λ t columns q. Some (picked_kinds t columns q))) []

abbrev pub result_text : Result Reply Refusal → List ℕ
result_text (Ok r) = reply_text r
result_text (Err e) = refusal_text e

abbrev pub answer_text : State → Command → Answer → List ℕ
answer_text s c a = rows_text (asked_kinds s c) a.rows ++ result_text a.reply

-- ---- faults

-- the refusals that stand in place of a reply by a cause outside the state
abbrev pub is_fault : Refusal → Bool
is_fault (store_full need room) = true
is_fault feed_fault = true
is_fault disk_fault = true
is_fault (damaged place len) = true
is_fault out_fault = true
is_fault (feed_mismatch n) = true
is_fault out_of_memory = true
is_fault r = false

-- the commands that read or write the disk; whether a job has a key left may have to be looked at
abbrev pub uses_disk : Command → Bool
uses_disk (do_schema t) = true
uses_disk (do_retire t v) = true
uses_disk (do_pump s n) = false
uses_disk (do_flush p) = true
uses_disk (do_compact p m) = true
uses_disk (do_job_begin p m) = true
uses_disk (do_job_step n) = true
uses_disk do_job_finish = true
uses_disk do_job_drop = false
uses_disk (do_split t k) = true
uses_disk (do_retain t) = true
uses_disk (do_scan q) = true
uses_disk (do_page q) = true
uses_disk do_status = true
uses_disk (do_deltas p) = false
uses_disk do_reopen = true

-- the commands whose answer goes by what stands in bundles
abbrev pub looks_at_bundles : Command → Bool
looks_at_bundles (do_compact p m) = true
looks_at_bundles (do_job_begin p m) = true
looks_at_bundles (do_job_step n) = true
looks_at_bundles do_job_finish = true
looks_at_bundles (do_scan q) = true
looks_at_bundles (do_page q) = true
looks_at_bundles do_status = true
looks_at_bundles (do_deltas p) = true
looks_at_bundles (do_schema t) = false
looks_at_bundles (do_retire t v) = false
looks_at_bundles (do_pump s n) = false
looks_at_bundles (do_flush p) = false
looks_at_bundles do_job_drop = false
looks_at_bundles (do_split t k) = false
looks_at_bundles (do_retain t) = false
looks_at_bundles do_reopen = false

-- which commands may end in a fault
abbrev pub may_end_in : Command → Refusal → Bool
may_end_in c (store_full need room) = uses_disk c && is_write c && nat_lt room need
may_end_in (do_pump n k) feed_fault = true
may_end_in do_reopen feed_fault = true
may_end_in do_reopen (feed_mismatch n) = true
may_end_in (do_scan q) out_fault = true
may_end_in (do_page q) out_fault = true
may_end_in c disk_fault = uses_disk c
may_end_in c (damaged place len) = uses_disk c && (looks_at_bundles c || is_reopen c)
may_end_in c out_of_memory = true
may_end_in c r = false

-- what the failed command would have left; a failed reopening leaves what stood, or what an earlier command would have left
abbrev pub WouldLeave : Feed → List Change → State → Command → Durable → Type 0
WouldLeave feed source s do_reopen d = d ≡ unwrap_or s.broken s.durable
WouldLeave feed source s c d = (a : Answer) × (s' : State) × Does feed source s c a s' × (d ≡ s'.durable)

abbrev pub is_pump_fault : Refusal → Bool
is_pump_fault feed_fault = true
is_pump_fault out_of_memory = true
is_pump_fault r = false

-- a pump that ends early stands after the records taken
abbrev pub TakesSome : Feed → State → Command → State → Type 0
TakesSome feed s (do_pump n asked) s' = (a : StreamAt) × (items : List Item) × (rest : List ℕ) × (stream_at s n ≡ Some a) × (length items < asked) × Takes feed (cat_of s) a items rest × (s' ≡ with_items n items s)
TakesSome feed s c s' = ⊥

abbrev pub is_disk_fault : Refusal → Bool
is_disk_fault disk_fault = true
is_disk_fault r = false

-- the commands that may break a session: those that write, and a reopening
abbrev pub may_break : Command → Bool
may_break c = is_write c || is_reopen c

-- The state after a fault is as it was, with two exceptions: a pump has taken some records, and a failed write breaks the session. A broken
-- session forgets what a failed command would have left only where a reopening, which reads what stands, fails too.
abbrev pub AfterFault : Feed → List Change → State → Command → Refusal → State → Type 0
AfterFault feed source s c r s' = (s' ≡ s) ⊎ (IsTrue (is_pump_fault r) × TakesSome feed s c s')
    ⊎ (IsTrue (is_disk_fault r) × ((d : Durable) × WouldLeave feed source s c d × (s' ≡ record s { broken = Some d }) × IsTrue (may_break c)))

-- the rows given before a fault are a front of the answer
abbrev pub RowsBefore : List Change → State → Command → List (List Value) → Type 0
RowsBefore source s c rows = (rows ≡ []) ⊎ ((q : Query) × (all : List (List Value)) × (n : ℕ) × (query_of c ≡ Some q) × Scans source s q all × (rows ≡ take n all))

-- In place of the machine's answer to a command that the state does not refuse, a fault may stand whose cause is allowed. In place of
-- a refusal only out of memory may stand, and no row is given.
abbrev pub FaultsIn : (Refusal → Type 0) → Feed → List Change → State → Command → Answer → State → Type 0
FaultsIn caused feed source s c a s' = (r : Refusal) × (a.reply ≡ Err r) × IsTrue (is_fault r) × IsTrue (may_end_in c r) × caused r × RowsBefore source s c a.rows × AfterFault feed source s c r s'
    × (((r ≡ out_of_memory) × (a.rows ≡ [])) ⊎ (refused s c ≡ None))

-- what is answered to a command, with the feed as it stands when the answer is given
abbrev pub Answers : (Refusal → Type 0) → Feed → State → Command → Answer → State → Type 0
Answers caused feed s c a s' = (fs : List (Header × List Item)) × Fronts feed (cat_of s) fs × (Step feed (source_of fs) s c a s' ⊎ FaultsIn caused feed (source_of fs) s c a s')

-- ---- lines

-- What was counted so far. None of the counts falls.
pub record Counts : Type 0 where
  -- how often the feed failed, and how often it was called
  pub feed : ℕ
  pub calls : ℕ
  -- how often the script failed
  pub script : ℕ
  -- how often the disk failed, and how often in a write or a sync
  pub disk : ℕ
  pub write_faults : ℕ
  -- how often the row sink failed, or in a run the output
  pub out : ℕ
  -- the disk's clock
  pub clock : ℕ

pub record AreLater (before now : Counts) : Type 0 where
  pub feed : before.feed ≤ now.feed
  pub calls : before.calls ≤ now.calls
  pub script : before.script ≤ now.script
  pub disk : before.disk ≤ now.disk
  pub write_faults : before.write_faults ≤ now.write_faults
  pub out : before.out ≤ now.out
  pub clock : before.clock ≤ now.clock

-- the disk was not used
pub record SameDisk (before now : Counts) : Type 0 where
  pub disk : now.disk ≡ before.disk
  pub write_faults : now.write_faults ≡ before.write_faults
  pub clock : now.clock ≡ before.clock

-- A session begins where nothing fails; the feed may be called, and the disk's clock goes on.
pub record HasBegun (before now : Counts) : Type 0 where
  pub feed : now.feed ≡ before.feed
  pub calls : before.calls ≤ now.calls
  pub script : now.script ≡ before.script
  pub disk : now.disk ≡ before.disk
  pub write_faults : now.write_faults ≡ before.write_faults
  pub out : now.out ≡ before.out
  pub clock : before.clock ≤ now.clock

-- the commands that call the feed
abbrev pub calls_feed : Command → Bool
calls_feed (do_pump n k) = true
calls_feed do_reopen = true
calls_feed c = false

-- the answers that tell what the feed has; its own fault is a call of it that failed, and counted
abbrev pub tells_of_feed : Result Reply Refusal → Bool
tells_of_feed (Ok reply) = true
tells_of_feed (Err (feed_mismatch n)) = true
tells_of_feed (Err r) = false

-- What the counts show of a command's answer.
pub record Shows (n m : Counts) (s s' : State) (c : Command) (reply : Result Reply Refusal) : Type 0 where
  -- no count falls
  pub later : AreLater n m
  -- where there is a reply no count of faults rose
  pub succeeded : OnOk reply ((m.feed ≡ n.feed) × (m.disk ≡ n.disk) × (m.write_faults ≡ n.write_faults) × (m.out ≡ n.out))
  -- a call of the feed that failed is answered as its fault
  pub feed_failed : n.feed < m.feed → reply ≡ Err feed_fault
  -- a write that failed is answered as the disk's fault, and breaks the session
  pub write_failed : n.write_faults < m.write_faults → (reply ≡ Err disk_fault) × (is_broken s' ≡ true)
  -- a read that failed in a command that the state does not refuse is answered as the disk's fault
  pub disk_failed : refused s c ≡ None → n.disk < m.disk → reply ≡ Err disk_fault
  -- a row sink that failed is answered as its fault
  pub out_failed : n.out < m.out → reply ≡ Err out_fault
  -- a pump or a reopening that tells of the feed has called it
  pub called : calls_feed c ≡ true → tells_of_feed reply ≡ true → Rose n.calls m.calls
  -- no other command calls the feed
  pub not_called : calls_feed c ≡ false → m.calls ≡ n.calls
  -- some commands do not use the disk
  pub not_used : uses_disk c ≡ false → SameDisk n m
  -- a session breaks only where a write failed
  pub breaks : is_broken s ≡ false → is_broken s' ≡ true → Rose n.write_faults m.write_faults

-- what may be the cause of a fault: by the counts before and after, the feed, the session before, and the command
abbrev pub CauseOf : Type 1
CauseOf = Counts → Counts → Feed → Session → Command → Refusal → Type 0

-- What a run goes by: what it reads a line as, and what may be the cause of a fault.
pub record Rules : Type 1 where
  pub reads : List ℕ → Line
  pub cause : CauseOf

-- Where a run stands as it begins and after each line: the feed and the counts then, the line's text, and the session.
pub record Moment : Type 0 where
  pub feed : Feed
  pub counts : Counts
  pub text : List ℕ
  pub session : Session

-- A command is answered by the machine, or by a fault with its cause. A fault of the row sink is no reply: it ends the run.
pub record CommandRuns (cause : CauseOf) (before : Moment) (c : Command) (m : Moment) : Type 0 where
  pub answer : Answer
  pub text : m.text ≡ answer_text before.session.state c answer
  pub answers : Answers (cause before.counts m.counts m.feed before.session c) m.feed before.session.state c answer m.session.state
  pub shows : Shows before.counts m.counts before.session.state m.session.state c answer.reply
  pub goes_on : answer.reply ≢ Err out_fault

-- What a line adds to the text, and the session after it. One that is no command leaves all as it was.
abbrev pub LineRunsAs : CauseOf → Moment → Line → Moment → Type 0
LineRunsAs cause before skipped m = (m.text ≡ []) × (m.session ≡ before.session) × (m.counts ≡ before.counts)
LineRunsAs cause before bad_line m = (m.text ≡ bad_line_text) × (m.session ≡ before.session) × (m.counts ≡ before.counts)
LineRunsAs cause before (spells_command c) m = CommandRuns cause before c m

-- A line leads from a moment to the next.
pub record LineRuns (rules : Rules) (before : Moment) (line : List ℕ) (m : Moment) : Type 0 where
  pub grows : Grows before.feed m.feed
  pub runs : LineRunsAs rules.cause before (rules.reads line) m

-- A run over lines, one moment for each.
abbrev pub Runs : Rules → Moment → List (List ℕ) → List Moment → Type 0
Runs rules before [] [] = ⊤
Runs rules before (line ∷ lines) (m ∷ ms) = LineRuns rules before line m × Runs rules m lines ms
Runs rules before [] (m ∷ ms) = ⊥
Runs rules before (line ∷ lines) [] = ⊥

abbrev pub run_text : List Moment → List ℕ
run_text ms = flat_map (λ m. m.text) ms

-- the moment that a run ends in
abbrev pub last_moment : Moment → List Moment → Moment
last_moment before [] = before
last_moment before (m ∷ ms) = last_moment m ms

-- The run is over, with the feed and the counts as they stand on return. Behind its last moment the feed may have grown, and was not
-- called; no write was made, and the disk was not used, but for a scan that a failing output broke off.
pub record IsOver (m : Moment) (status : ℕ) (last : Feed) (now : Counts) : Type 0 where
  pub grows : Grows m.feed last
  pub later : AreLater m.counts now
  pub feed : now.feed ≡ m.counts.feed
  pub calls : now.calls ≡ m.counts.calls
  pub write_faults : now.write_faults ≡ m.counts.write_faults
  pub disk : status ≢ 4 → SameDisk m.counts now

-- ---- the words of the command line, and the statuses

pub data Words : Type 0 where
  word_init : ℕ → Words
  word_run : Words
  word_gen : ℕ → Words
  no_words_known : Words

abbrev pub words_of : List (List ℕ) → Words
words_of [] = no_words_known
words_of (w ∷ []) = if same_bytes w (codes "run") then word_run else no_words_known
words_of (w ∷ n ∷ []) = if same_bytes w (codes "init") then option_map_or (λ x. if is_limit x then word_init x else no_words_known) (number_word (2 ^ 40) n) no_words_known
    else (if same_bytes w (codes "gen") then option_map_or (λ x. if nat_lt 0 x then word_gen x else no_words_known) (number_word 100000 n) no_words_known else no_words_known)
words_of (w ∷ n ∷ m ∷ ws) = no_words_known

abbrev pub usage_text : List ℕ
usage_text = ended (codes "usage: lightning init LIMIT | run | gen N")

-- why a store is not made or opened
pub data StartFault : Type 0 where
  no_store : StartFault
  store_there : StartFault
  start_disk : StartFault
  start_feed : StartFault
  start_mismatch : ℕ → StartFault
  start_damaged : ℕ → ℕ → StartFault

abbrev pub stopped_text : ℕ → List (List ℕ) → List ℕ
stopped_text status ws = text_line (codes "stopped" ∷ decimal status ∷ ws)

abbrev pub start_status : StartFault → ℕ
start_status no_store = 5
start_status store_there = 5
start_status start_disk = 6
start_status start_feed = 7
start_status (start_mismatch n) = 8
start_status (start_damaged place len) = 11

abbrev pub start_text : StartFault → List ℕ
start_text no_store = stopped_text 5 (codes "NoStore" ∷ [])
start_text store_there = stopped_text 5 (codes "StoreThere" ∷ [])
start_text start_disk = stopped_text 6 (codes "DiskFault" ∷ [])
start_text start_feed = stopped_text 7 (codes "FeedFault" ∷ [])
start_text (start_mismatch n) = stopped_text 8 (codes "FeedMismatch" ∷ decimal n ∷ [])
start_text (start_damaged place len) = stopped_text 11 (codes "Damaged" ∷ decimal place ∷ decimal len ∷ [])

abbrev pub script_fault_text : List ℕ
script_fault_text = stopped_text 3 (codes "ScriptFault" ∷ [])

abbrev pub too_long_text : List ℕ
too_long_text = stopped_text 9 (codes "TooLong" ∷ [])

abbrev pub init_text : ℕ → ℕ → List ℕ
init_text streams most = text_line (codes "ok init streams" ∷ decimal streams ∷ codes "limit" ∷ decimal most ∷ [])

abbrev pub max_script : ℕ
max_script = 2 ^ 32

-- a script's lines that were ended within some first bytes
abbrev pub lines_ended : List ℕ → List (List ℕ)
lines_ended bs = take (length (pieces 10 bs) - 1) (pieces 10 bs)

-- ---- when an opening finds damage

-- the indexes that can be read of a manifest's deltas
abbrev pub AreReadable : List ℕ → List (ℕ × Extent) → List (List TableIndex) → Type 0
AreReadable image [] is = is ≡ []
AreReadable image (d ∷ ds) [] = AreReadable image ds []
AreReadable image (d ∷ ds) (i ∷ is) = AreReadable image ds (i ∷ is) ⊎ (IsIndex i (bytes_in image d.1) × AreReadable image ds is)

abbrev pub is_known_index : Catalogue → List TableIndex → Bool
is_known_index cat i = list_all (λ t. is_some (table_numbered cat t.table) && is_covered cat t.table t.layout) i

abbrev pub IsBadBundle : List ℕ → Catalogue → List TableIndex → Extent → Type 0
IsBadBundle image cat i e = (t : TableIndex) × (b : BundleEntry) × Contains i t × Contains t.entries b × (e ≡ entry_extent b)
    × ((x : Table) (vs : List RowVersion) → table_numbered cat t.table ≡ Some x → HasBundle image x t.layout b vs → ⊥)

-- by the manifest that counts: an index or a bundle is not of the grammar, or an extent is misplaced
abbrev pub IsDamagedBelow : List ℕ → Root → Manifest → Extent → Type 0
IsDamagedBelow image r m e =
    ((d : ℕ × Extent) × Contains m.deltas d × (e ≡ d.1) × ((i : List TableIndex) → IsIndex i (bytes_in image e) → is_known_index m.catalogue i ≡ true → ⊥))
    ⊎ ((d : ℕ × Extent) × (i : List TableIndex) × Contains m.deltas d × IsIndex i (bytes_in image d.1) × IsBadBundle image m.catalogue i e)
    ⊎ ((is : List (List TableIndex)) × AreReadable image m.deltas is × IsMisplaced m.limit (root_extent r ∷ (map (λ d. d.1) m.deltas ++ bundle_extents is)) e)

-- An image that is no store names what is damaged in it: a slot, the manifest that counts, where none stands there that ends within its own
-- limit, or what that manifest leads to.
pub record IsDamaged (image : List ℕ) (e : Extent) : Type 0 where
  pub not_a_store : IsStore image → ⊥
  pub has_gate : HasNoStore image → ⊥
  pub named : IsDamagedSlot image e ⊎ ((r : Root) × CountsAsRoot image r × (((e ≡ root_extent r) × ((m : Manifest) → IsManifest m (bytes_in image e) → m.limit < end_of e))
      ⊎ ((m : Manifest) × IsManifest m (bytes_in image (root_extent r)) × IsDamagedBelow image r m e)))

-- a reopening also names both slots where no gate is open
abbrev pub IsDamagedAgain : List ℕ → Extent → Type 0
IsDamagedAgain image e = IsDamaged image e ⊎ (HasNoStore image × (e ≡ record { place = 0; length = 1024 }))
