-- The replica as a machine: its state, when a command is refused, and what it does otherwise.
use Rattle.std.specs.Prelude.{Bool, Err, IfSome, IsTrue, List, None, Ok, Option, Result, Some, [], codes, false, filter, filter_map, find, fold, if◌then◌else◌, is_none, is_some, length, map, max, min, nat_le, nat_lt, not, option_and_then, option_map, slice_get, sum, true, unwrap_or, zip, ℕ, ⊤, ◌&&◌, ◌++◌, ◌+◌, ◌-◌, ◌==◌, ◌^◌, ◌||◌, ◌∷◌, ◌≡◌, ◌≤◌, ◌⊎◌}
use Rattle.std.specs.List.{AllByRecursion, list_all, list_any}
use Rattle.std.specs.Option.{option_map_or, option_or}
use Rattle.lt_terms.specs.Key.{Range, below, in_range, lies_in, max_key, meets, same_key}
use Rattle.lt_terms.specs.declared.Progress.{Progress}
use Rattle.lt_terms.specs.Log.{Change, Header, Item, batch_item, change_item, change_key, changes_of, checkpoint_item, close_item, header_item, is_item}
use Rattle.lt_terms.specs.Value.{Value}
use Rattle.lt_world.specs.Feed.{Feed}
use Rattle.lt_tables.specs.Schema.{Catalogue, Column, KeyColumn, Registered, SchemaFault, SchemaVersion, Table, added, carriers, change_at, first_of, key_kinds, registered, table_named, when, without_version}
use Rattle.lt_tables.specs.Pump.{Part, Stop, Stops, StreamAt, Takes, all_delivered, behind_header, last_of, moved_by, numbered_from, part_of}
use Rattle.lt_tables.specs.Version.{RowVersion, collapse, greatest_ts, least_ts, seen}
use Rattle.lt_tables.specs.Query.{Command, Literal, Mode, Query, answer, bound, do_compact, do_deltas, do_flush, do_job_begin, do_job_drop, do_job_finish, do_job_step, do_page, do_pump, do_reopen, do_retain, do_retire, do_scan, do_schema, do_split, do_status, full_columns, interval, literal_part, major, minor, misfit, names_in, unknown_name}
use Rattle.lt_tables.specs.Fair.{HasHeader, Point, breaks_at, header_length}
use Rattle.lt_tables.specs.Row.{snapshot}
use Rattle.lt_words.specs.Reply.{Cause, DeltaLine, PartLine, Refusal, Reply, StreamLine, above_durable, at_edge, bad_column, bad_schema, below_minimum, compact_done, deltas_told, flush_done, is_last_version, job_begun, job_dropped, job_finished, job_open, job_stepped, key_too_long, needs_reopen, no_job, no_partition, no_stream, no_such_delta, no_such_table, no_such_version, not_done, not_safe, of_text, of_version, page_done, pump_done, reopen_done, retain_done, retire_done, scan_done, schema_done, split_done, status_told, too_many_deltas, too_many_parts, too_old, version_retired, worn, wrong_literal}
use Rattle.lt_words.specs.SchemaText.{JsonFault, version_of_text}
use Rattle.lt_storage.specs.Store.{Delta, Durable, Stream, TableDelta, all_versions, delta_with, deltas_of, merged_in, part_ranges}
use Rattle.lt_storage.specs.Bundle.{cut, grouped}
use Rattle.lt_terms.specs.declared.Progress.TheVariants as progress

-- ---- the state

-- a job's range, inputs, mode, and the minimum and catalogue of its beginning; how many keys it has taken
pub record Job : Type 0 where
  pub range : Range
  pub inputs : List ℕ
  pub is_major : Bool
  pub minimum : ℕ
  pub catalogue : Catalogue
  pub taken : ℕ

-- The durable part; where each stream stands; for each partition the keys and timestamps that were delivered to it since its
-- last flush, by rising key and falling timestamp; a job or none; and where broken, what the failed command would have left.
pub record State : Type 0 where
  pub durable : Durable
  pub streams : List StreamAt
  pub pending : List (List (List ℕ × ℕ))
  pub job : Option Job
  pub broken : Option Durable

abbrev pub is_broken : State → Bool
is_broken s = is_some s.broken

-- ---- partitions and checkpoints

abbrev pub ranges_of : Durable → List Range
ranges_of d = part_ranges d.parts

abbrev pub resumes : Durable → List ℕ
resumes d = map (λ p. p.resume) d.parts

-- the least of a number and others
abbrev pub least_of : ℕ → List ℕ → ℕ
least_of n ns = fold min n ns

abbrev pub least : List ℕ → ℕ
least [] = 0
least (n ∷ ns) = least_of n ns

-- the checkpoints of the streams that meet a range and do not stand behind a close
abbrev pub checkpoints_meeting : List StreamAt → Range → List ℕ
checkpoints_meeting ss r = filter_map (λ s. when (meets s.header.range r && not s.closed) s.point.checkpoint) ss

-- A partition's checkpoint: the greater of how far it is durable and the least checkpoint of the streams that meet it.
abbrev pub checkpoint_at : List StreamAt → Part → Range → ℕ
checkpoint_at ss p r = max p.resume (least (checkpoints_meeting ss r))

abbrev pub checkpoints : State → List ℕ
checkpoints s = map (λ x. checkpoint_at s.streams x.0 x.1) (zip s.durable.parts (ranges_of s.durable))

-- the first partition that meets an interval with a checkpoint below t, and that checkpoint
abbrev pub first_below : State → Range → ℕ → Option (ℕ × ℕ)
first_below s r t = option_map (λ x. (x.0, x.1.1)) (find (λ x. meets x.1.0 r && nat_lt x.1.1 t) (numbered_from 0 (zip (ranges_of s.durable) (checkpoints s))))

-- ---- deltas

abbrev pub delta_least : Delta → ℕ
delta_least d = least_ts (all_versions d)

abbrev pub delta_greatest : Delta → ℕ
delta_greatest d = greatest_ts (all_versions d)

-- the deltas that some partition lists
abbrev pub is_listed : List Part → Delta → Bool
is_listed ps d = list_any (λ p. list_any (λ id. id == d.id) p.ids) ps

abbrev pub on_shelf : List Part → List Delta → List Delta
on_shelf ps shelf = filter (is_listed ps) shelf

-- a delta made of a list for each table, under the carriers; empty lists have no part in it
abbrev pub table_delta : Catalogue → ℕ × List RowVersion → TableDelta
table_delta cat t = record { table = t.0; layout = carriers cat t.0; bundles = cut (carriers cat t.0) t.1 }

abbrev pub delta_of : ℕ → Catalogue → List (ℕ × List RowVersion) → Delta
delta_of id cat lists = record { id = id; tables = map (table_delta cat) lists }

abbrev pub table_numbers : Catalogue → List ℕ
table_numbers cat = map (λ t. t.number) cat

abbrev pub not_empty : ℕ × List RowVersion → Bool
not_empty t = nat_lt 0 (length t.1)

-- What a compaction makes of its inputs, table by table: their merge in the range, and for a major one the versions up to the
-- minimum collapsed.
abbrev pub output_of : Catalogue → List Delta → List ℕ → Bool → ℕ → Range → List (ℕ × List RowVersion)
output_of cat shelf ids is_major m r = filter not_empty (map (λ n. (n, if is_major then collapse m (merged_in cat shelf ids r n) else merged_in cat shelf ids r n)) (table_numbers cat))

abbrev pub job_output : List Delta → Job → List (ℕ × List RowVersion)
job_output shelf j = output_of j.catalogue shelf j.inputs j.is_major j.minimum j.range

-- how many keys there are in the inputs, merged and clipped
abbrev pub job_keys : List Delta → Job → ℕ
job_keys shelf j = sum (map (λ n. length (grouped (merged_in j.catalogue shelf j.inputs j.range n))) (table_numbers j.catalogue))

abbrev pub job_progress : State → Job → Progress
job_progress s j = if nat_lt j.taken (job_keys s.durable.shelf j) then progress.More else progress.Done

-- a compaction's inputs: the named deltas, or for a major one those of the partition whose least timestamp is at most the minimum
abbrev pub inputs_of : Durable → Part → Mode → List ℕ
inputs_of d p (minor ids) = ids
inputs_of d p major = filter (λ id. option_map_or (λ x. nat_le (delta_least x) d.minimum) (delta_with d.shelf id) false) p.ids

abbrev pub is_major_mode : Mode → Bool
is_major_mode (minor ids) = false
is_major_mode major = true

abbrev pub job_for : Durable → Part → Range → Mode → Job
job_for d p r mode = record { range = r; inputs = inputs_of d p mode; is_major = is_major_mode mode; minimum = d.minimum; catalogue = d.catalogue; taken = 0 }

abbrev pub part_job : Durable → ℕ → Mode → Option Job
part_job d n mode = option_and_then (λ p. option_map (λ r. job_for d p r mode) (slice_get (ranges_of d) n)) (slice_get d.parts n)

-- ---- what never falls

-- the checkpoint of the partition of a key
abbrev pub checkpoint_for : State → List ℕ → ℕ
checkpoint_for s key = unwrap_or (slice_get (checkpoints s) (part_of (ranges_of s.durable) key)) 0

abbrev pub is_reopen : Command → Bool
is_reopen do_reopen = true
is_reopen c = false

-- no key's checkpoint falls
abbrev pub CheckpointsStay : State → State → Type 0
CheckpointsStay s s' = (key : List ℕ) → checkpoint_for s key ≤ checkpoint_for s' key

-- ---- refusals that the state decides, in their order

-- the commands that write
abbrev pub is_write : Command → Bool
is_write (do_schema t) = true
is_write (do_retire t v) = true
is_write (do_pump s n) = false
is_write (do_flush p) = true
is_write (do_compact p m) = true
is_write (do_job_begin p m) = true
is_write (do_job_step n) = true
is_write do_job_finish = true
is_write do_job_drop = false
is_write (do_split t k) = true
is_write (do_retain t) = true
is_write (do_scan q) = false
is_write (do_page q) = false
is_write do_status = false
is_write (do_deltas p) = false
is_write do_reopen = false

abbrev pub is_worn : Durable → Bool
is_worn d = d.generation == 2 ^ 64 - 1 || d.next_id == 2 ^ 64 - 1

-- the query of a scan or page
abbrev pub query_of : Command → Option Query
query_of (do_scan q) = Some q
query_of (do_page q) = Some q
query_of c = None

-- the table and version that a command names
abbrev pub table_asked : Command → Option (List ℕ)
table_asked (do_retire t v) = Some t
table_asked (do_split t k) = Some t
table_asked c = option_map (λ q. q.table) (query_of c)

abbrev pub version_asked : Command → Option (List ℕ × ℕ)
version_asked (do_retire t v) = Some (t, v)
version_asked c = option_map (λ q. (q.table, q.version)) (query_of c)

abbrev pub part_asked : Command → Option ℕ
part_asked (do_flush p) = Some p
part_asked (do_compact p m) = Some p
part_asked (do_job_begin p m) = Some p
part_asked (do_deltas p) = Some p
part_asked c = None

abbrev pub compaction_asked : Command → Option (ℕ × Mode)
compaction_asked (do_compact p m) = Some (p, m)
compaction_asked (do_job_begin p m) = Some (p, m)
compaction_asked c = None

abbrev pub cat_of : State → Catalogue
cat_of s = s.durable.catalogue

abbrev pub unknown_table_asked : State → Command → Option Refusal
unknown_table_asked s c = option_and_then (λ t. when (is_none (table_named (cat_of s) t)) (no_such_table t)) (table_asked c)

abbrev pub registered_named : Catalogue → List ℕ → ℕ → Option Registered
registered_named cat t v = option_and_then (λ x. registered x v) (table_named cat t)

abbrev pub unknown_version_asked : State → Command → Option Refusal
unknown_version_asked s c = option_and_then (λ a. when (is_none (registered_named (cat_of s) a.0 a.1)) (no_such_version a.1)) (version_asked c)

abbrev pub retired_asked : State → Command → Option Refusal
retired_asked s c = option_and_then (λ a. when (option_map_or (λ r. not r.live) (registered_named (cat_of s) a.0 a.1) false) (version_retired a.1)) (version_asked c)

abbrev pub last_version_retired : State → Command → Option Refusal
last_version_retired s (do_retire t v) = option_and_then (λ x. when (v == length x.versions) (is_last_version v)) (table_named (cat_of s) t)
last_version_retired s c = None

-- why a schema text is not added
abbrev pub with_cause : Result Catalogue SchemaFault → Result Catalogue Cause
with_cause (Ok c) = Ok c
with_cause (Err e) = Err (of_version e)

abbrev pub added_read : Catalogue → Result SchemaVersion JsonFault → Result Catalogue Cause
added_read cat (Ok v) = with_cause (added cat v)
added_read cat (Err e) = Err (of_text e)

abbrev pub added_text : Catalogue → List ℕ → Result Catalogue Cause
added_text cat t = added_read cat (version_of_text t)

abbrev pub error_of : {A E : Type 0} → Result A E → Option E
error_of (Ok a) = None
error_of (Err e) = Some e

abbrev pub schema_refused : State → Command → Option Refusal
schema_refused s (do_schema t) = option_map bad_schema (error_of (added_text (cat_of s) t))
schema_refused s c = None

abbrev pub unknown_stream : State → Command → Option Refusal
unknown_stream s (do_pump n k) = when (not (list_any (λ x. x.header.stream == n) s.streams)) (no_stream n)
unknown_stream s c = None

abbrev pub unknown_part : State → Command → Option Refusal
unknown_part s c = option_and_then (λ n. when (nat_le (length s.durable.parts) n) (no_partition n)) (part_asked c)

abbrev pub unknown_in : List ℕ → Mode → Option ℕ
unknown_in ids (minor named) = find (λ id. not (list_any (λ x. x == id) ids)) named
unknown_in ids major = None

abbrev pub unknown_delta : State → Command → Option Refusal
unknown_delta s c = option_and_then (λ a. option_map no_such_delta (option_and_then (λ p. unknown_in p.ids a.1) (slice_get s.durable.parts a.0))) (compaction_asked c)

-- a list of literals for the key columns: too many, or not as many, by the word of its option
abbrev pub count_fault : List ℕ → (ℕ → Bool) → Option (List Literal) → Option (List ℕ)
count_fault word fits ls = option_and_then (λ ls. when (not (fits (length ls))) word) ls

abbrev pub columns_fault : Table → List Column → Query → Option (List ℕ)
columns_fault t columns q = let full = full_columns t.key columns in let k = length t.key in first_of
    (unknown_name full (unwrap_or q.columns []) ∷ unknown_name full (names_in q.filter)
    ∷ count_fault (codes "from") (λ n. nat_le n k) q.from ∷ count_fault (codes "to") (λ n. nat_le n k) q.to ∷ count_fault (codes "after") (λ n. n == k) q.after ∷ [])

-- the key column of the first literal that does not fit
abbrev pub part_misfit : List KeyColumn → List Literal → Option (List ℕ)
part_misfit [] ls = None
part_misfit (k ∷ ks) [] = None
part_misfit (k ∷ ks) (l ∷ ls) = if is_none (literal_part k.kind l) then Some k.name else part_misfit ks ls

abbrev pub literals_fault : Table → List Column → Query → Option (List ℕ)
literals_fault t columns q = let parts : Option (List Literal) → Option (List ℕ) = λ o. part_misfit t.key (unwrap_or o []) in first_of
    (parts q.from ∷ parts q.to ∷ parts q.after ∷ misfit (full_columns t.key columns) q.filter ∷ [])

abbrev pub of_query : {A : Type 0} → State → Command → (Table → List Column → Query → Option A) → Option A
of_query s c f = option_and_then (λ q. option_and_then (λ t. option_and_then (λ r. f t r.columns q) (registered t q.version)) (table_named (cat_of s) q.table)) (query_of c)

abbrev pub of_split : {A : Type 0} → State → Command → (Table → List Literal → Option A) → Option A
of_split s (do_split t ls) f = option_and_then (λ x. f x ls) (table_named (cat_of s) t)
of_split s c f = None

abbrev pub bad_column_asked : State → Command → Option Refusal
bad_column_asked s c = option_map bad_column (option_or (of_query s c columns_fault) (of_split s c (λ t ls. count_fault (codes "key") (λ n. n == length t.key) (Some ls))))

abbrev pub wrong_literal_asked : State → Command → Option Refusal
wrong_literal_asked s c = option_map wrong_literal (option_or (of_query s c literals_fault) (of_split s c (λ t ls. part_misfit t.key ls)))

-- the bytes of a split's key
abbrev pub split_key : Table → List Literal → List ℕ
split_key t ls = bound t.number (key_kinds t.key) ls

abbrev pub long_key : State → Command → Option Refusal
long_key s c = of_split s c (λ t ls. let n = length (split_key t ls) in when (nat_lt max_key n) (key_too_long n))

abbrev pub query_interval : Table → Query → Range
query_interval t q = interval t.number (key_kinds t.key) q

abbrev pub too_old_asked : State → Command → Option Refusal
too_old_asked s c = of_query s c (λ t columns q. when (nat_lt q.at s.durable.minimum) (too_old s.durable.minimum))

abbrev pub not_safe_asked : State → Command → Option Refusal
not_safe_asked s c = of_query s c (λ t columns q. option_map (λ x. not_safe x.0 x.1) (first_below s (query_interval t q) q.at))

abbrev pub retain_fault : State → Command → Option Refusal
retain_fault s (do_retain t) = option_or (when (nat_lt (least (resumes s.durable)) t) (above_durable (least (resumes s.durable)))) (when (nat_lt t s.durable.minimum) (below_minimum s.durable.minimum))
retain_fault s c = None

abbrev pub edge_of : State → List ℕ → Option ℕ
edge_of s key = option_map (λ x. x.0) (find (λ x. same_key x.1.low key) (numbered_from 0 s.durable.parts))

abbrev pub split_fault : State → Command → Option Refusal
split_fault s c = of_split s c (λ t ls. option_or (option_map at_edge (edge_of s (split_key t ls))) (when (nat_le 1024 (length s.durable.parts)) too_many_parts))

-- each input is also listed by a partition outside the range
abbrev pub kept_outside : Durable → Range → ℕ → Bool
kept_outside d r id = list_any (λ x. list_any (λ i. i == id) x.0.ids && not (lies_in x.1 r)) (zip d.parts (ranges_of d))

abbrev pub frees_nothing : Durable → Job → Bool
frees_nothing d j = nat_lt 0 (length j.inputs) && list_all (kept_outside d j.range) j.inputs

abbrev pub pending_of : State → ℕ → List (List ℕ × ℕ)
pending_of s p = unwrap_or (slice_get s.pending p) []

-- a delta would be added where 4,096 stand, and none given up
abbrev pub adds_delta : State → Command → Bool
adds_delta s (do_flush p) = nat_lt 0 (length (pending_of s p))
adds_delta s (do_compact p m) = option_map_or (frees_nothing s.durable) (part_job s.durable p m) false
adds_delta s (do_job_begin p m) = option_map_or (frees_nothing s.durable) (part_job s.durable p m) false
adds_delta s do_job_finish = option_map_or (frees_nothing s.durable) s.job false
adds_delta s c = false

abbrev pub delta_limit : State → Command → Option Refusal
delta_limit s c = when (nat_le 4096 (length s.durable.shelf) && adds_delta s c) too_many_deltas

abbrev pub asks_for_job : Command → Bool
asks_for_job (do_job_step n) = true
asks_for_job do_job_finish = true
asks_for_job do_job_drop = true
asks_for_job c = false

abbrev pub is_done : Progress → Bool
is_done progress.More = false
is_done progress.Done = true

abbrev pub not_done_yet : State → Command → Option Refusal
not_done_yet s do_job_finish = option_and_then (λ j. when (not (is_done (job_progress s j))) not_done) s.job
not_done_yet s c = None

-- The first refusal that applies, of those that the state decides.
unfoldable pub refused : State → Command → Option Refusal
refused s c = first_of
    (when (is_broken s && is_write c) needs_reopen
    ∷ when (is_worn s.durable && is_write c) worn
    ∷ unknown_table_asked s c ∷ unknown_version_asked s c ∷ retired_asked s c ∷ last_version_retired s c
    ∷ schema_refused s c ∷ unknown_stream s c ∷ unknown_part s c ∷ unknown_delta s c
    ∷ bad_column_asked s c ∷ wrong_literal_asked s c ∷ long_key s c ∷ too_old_asked s c ∷ not_safe_asked s c
    ∷ retain_fault s c ∷ split_fault s c ∷ delta_limit s c
    ∷ when (is_some (compaction_asked c) && is_some s.job) job_open
    ∷ when (asks_for_job c && is_none s.job) no_job
    ∷ not_done_yet s c ∷ [])

-- ---- restart points

-- the partitions that meet a stream are durable up to the point's greatest timestamp
abbrev pub is_usable : List Part → Range → Point → Bool
is_usable ps r p = list_all (λ x. not (meets x.1 r) || nat_le p.greatest x.0.resume) (zip ps (part_ranges ps))

-- the greatest usable point that is kept
abbrev pub usable_point : List Part → Range → List (ℕ × Point) → Option (ℕ × Point)
usable_point ps r points = last_of (filter (λ p. is_usable ps r p.1) points)

abbrev pub from_offset : ℕ → List (ℕ × Point) → List (ℕ × Point)
from_offset o points = filter (λ p. nat_le o p.0) points

-- step 1: the points below the greatest usable one are removed
abbrev pub points_kept : List Part → Range → List (ℕ × Point) → List (ℕ × Point)
points_kept ps r points = option_map_or (λ p. from_offset p.0 points) (usable_point ps r points) points

-- step 2: where the stream stands is added, if fewer than 4 are left, it lies beyond the last and beyond the header, and it
-- keeps at most 1,024 keys
abbrev pub may_add : StreamAt → List (ℕ × Point) → Bool
may_add s points = not s.closed && nat_lt (length points) 4 && nat_lt (header_length s.header) s.offset && option_map_or (λ p. nat_lt p.0 s.offset) (last_of points) true && nat_le (length s.point.window) 1024

abbrev pub points_after : List Part → StreamAt → List (ℕ × Point) → List (ℕ × Point)
points_after ps s points = let kept = points_kept ps s.header.range points in kept ++ (if may_add s kept then (s.offset, s.point) ∷ [] else [])

abbrev pub streams_after : List Part → List StreamAt → List Stream → List Stream
streams_after ps [] ss = ss
streams_after ps (a ∷ others) [] = []
streams_after ps (a ∷ others) (s ∷ ss) = record { low = s.low; points = points_after ps a s.points } ∷ streams_after ps others ss

-- an opening starts a stream at its greatest usable point, else behind its header
abbrev pub start_of : List Part → Header → List (ℕ × Point) → StreamAt
start_of ps h points = option_map_or (λ p. record { header = h; offset = p.0; point = p.1; closed = false }) (usable_point ps h.range points) (behind_header h)

abbrev pub opened : Durable → List Header → State
opened d headers = record { durable = d; streams = map (λ x. start_of d.parts x.0 x.1.points) (zip headers d.streams); pending = map (λ p. []) d.parts; job = None; broken = None }

-- the headers up to the first that has no high bound: those that no close has brought
abbrev pub initial_headers : List Header → List Header
initial_headers [] = []
initial_headers (h ∷ hs) = if is_some h.range.high then h ∷ initial_headers hs else h ∷ []

-- the fresh store of a limit and the streams' headers
abbrev pub fresh : ℕ → List Header → Durable
fresh most headers = record {
  limit = most;
  generation = 1;
  catalogue = [];
  minimum = 0;
  next_id = 0;
  parts = record { low = []; resume = 0; ids = [] } ∷ [];
  streams = map (λ h. record { low = h.range.low; points = [] }) headers;
  shelf = [];
}

-- ---- what a pump takes

abbrev pub with_items : ℕ → List Item → State → State
with_items n items s = record s {
  streams = map (λ a. if a.header.stream == n then moved_by items a else a) s.streams;
  pending = all_delivered (changes_of items) (ranges_of s.durable) s.durable.parts s.pending;
}

abbrev pub stream_at : State → ℕ → Option StreamAt
stream_at s n = find (λ a. a.header.stream == n) s.streams

-- the headers have the numbers from one on, each once
abbrev pub numbered_headers : ℕ → List Header → Bool
numbered_headers n [] = true
numbered_headers n (h ∷ hs) = h.stream == n && numbered_headers (n + 1) hs

-- the successors that enter the session where the items close the stream, each behind its header, by rising number
abbrev pub entering : List Item → List Header → Type 0
entering [] gs = gs ≡ []
entering (close_item first count ∷ items) gs = (length gs ≡ count) × IsTrue (numbered_headers first gs)
entering (header_item h ∷ items) gs = entering items gs
entering (change_item c ∷ items) gs = entering items gs
entering (checkpoint_item t ∷ items) gs = entering items gs
entering (batch_item t cs ∷ items) gs = entering items gs

abbrev pub HaveHeaders : Feed → List Header → Type 0
HaveHeaders feed gs = AllByRecursion (λ g. HasHeader feed g.stream g) gs

abbrev pub with_streams : List Header → State → State
with_streams gs s = record s { streams = s.streams ++ map behind_header gs }

-- what a pump takes of a stream, and why it stops
pub record Pumps (feed : Feed) (s : State) (n asked : ℕ) (items : List Item) (stop : Stop) : Type 0 where
  pub stands : StreamAt
  pub known : stream_at s n ≡ Some stands
  pub few : length items ≤ asked
  pub rest : List ℕ
  pub takes : Takes feed (cat_of s) stands items rest
  pub stops : Stops feed (cat_of s) (moved_by items stands) asked (length items) rest stop

-- ---- what the other commands leave

-- a commit raises the generation
abbrev pub committed : Durable → Durable
committed d = record d { generation = d.generation + 1 }

abbrev pub with_durable : State → Durable → State
with_durable s d = record s { durable = committed d }

abbrev pub with_catalogue : State → Catalogue → State
with_catalogue s cat = with_durable s (record s.durable { catalogue = cat })

-- a flush: the pending changes as one delta, the partition durable up to its checkpoint, and the restart points anew
abbrev pub named : List ℕ × ℕ → Change → Bool
named n c = same_key (change_key c) n.0 && c.ts == n.1

abbrev pub seen_pending : List Change → Catalogue → List (List ℕ × ℕ) → ℕ → List RowVersion
seen_pending source cat names table = filter_map (λ n. option_map (seen cat) (find (λ c. c.table == table && named n c) source)) names

abbrev pub flushed_lists : List Change → Catalogue → List (List ℕ × ℕ) → List (ℕ × List RowVersion)
flushed_lists source cat names = filter not_empty (map (λ t. (t, seen_pending source cat names t)) (table_numbers cat))

abbrev pub with_id : Option ℕ → Part → Part
with_id None p = p
with_id (Some id) p = record p { ids = p.ids ++ id ∷ [] }

abbrev pub with_resume : ℕ → Part → Part
with_resume t p = record p { resume = t }

abbrev pub flush_id : State → ℕ → Option ℕ
flush_id s p = when (nat_lt 0 (length (pending_of s p))) s.durable.next_id

abbrev pub resume_after : State → ℕ → ℕ
resume_after s p = unwrap_or (slice_get (checkpoints s) p) 0

abbrev pub with_delta : Option ℕ → Catalogue → List (ℕ × List RowVersion) → Durable → Durable
with_delta None cat lists d = d
with_delta (Some id) cat lists d = record d { next_id = id + 1; shelf = d.shelf ++ delta_of id cat lists ∷ [] }

abbrev pub flushed : List Change → State → ℕ → State
flushed source s p = let id = flush_id s p in
    let parts = change_at (λ x. with_resume (resume_after s p) (with_id id x)) p s.durable.parts in
    let d = with_delta id (cat_of s) (flushed_lists source (cat_of s) (pending_of s p)) s.durable in
    record s { durable = committed (record d { parts = parts; streams = streams_after parts s.streams s.durable.streams }); pending = change_at (λ x. []) p s.pending }

-- a compaction: in each partition whose range lies in the job's range the inputs give way to the output, which gets the next id
-- where it is not empty; an id that no partition lists leaves the shelf
abbrev pub output_id : Durable → Job → Option ℕ
output_id d j = when (nat_lt 0 (length (job_output d.shelf j))) d.next_id

abbrev pub replaced : Job → Option ℕ → Part → Part
replaced j id p = with_id id (record p { ids = filter (λ x. not (list_any (λ i. i == x) j.inputs)) p.ids })

abbrev pub parts_replaced : Job → Option ℕ → List Range → List Part → List Part
parts_replaced j id [] ps = ps
parts_replaced j id (r ∷ rs) [] = []
parts_replaced j id (r ∷ rs) (p ∷ ps) = (if lies_in r j.range then replaced j id p else p) ∷ parts_replaced j id rs ps

abbrev pub compacted : Durable → Job → Durable
compacted d j = let id = output_id d j in let e = with_delta id j.catalogue (job_output d.shelf j) d in
    let parts = parts_replaced j id (ranges_of d) d.parts in record e { parts = parts; shelf = on_shelf parts e.shelf }

-- a split: two partitions with the same deltas, and the pending changes parted by key
abbrev pub split_parts : List ℕ → List Part → List Range → List Part
split_parts key [] rs = []
split_parts key (p ∷ ps) [] = p ∷ ps
split_parts key (p ∷ ps) (r ∷ rs) = if in_range key r then p ∷ record p { low = key } ∷ ps else p ∷ split_parts key ps rs

abbrev pub split_pending : List ℕ → List (List (List ℕ × ℕ)) → List Range → List (List (List ℕ × ℕ))
split_pending key [] rs = []
split_pending key (ns ∷ rest) [] = ns ∷ rest
split_pending key (ns ∷ rest) (r ∷ rs) = if in_range key r then filter (λ n. below n.0 key) ns ∷ filter (λ n. not (below n.0 key)) ns ∷ rest else ns ∷ split_pending key rest rs

abbrev pub was_split : State → List ℕ → State
was_split s key = record s { durable = committed (record s.durable { parts = split_parts key s.durable.parts (ranges_of s.durable) }); pending = split_pending key s.pending (ranges_of s.durable) }

abbrev pub retained : State → ℕ → State
retained s t = with_durable s (record s.durable { minimum = t })

-- a job goes on by at most so many keys
abbrev pub job_after : State → ℕ → Job → Job
job_after s n j = record j { taken = min (j.taken + n) (job_keys s.durable.shelf j) }

-- ---- what is told

abbrev pub part_told : List ℕ → ℕ × Part → PartLine
part_told cs x = record { low = x.1.low; resume = x.1.resume; checkpoint = unwrap_or (slice_get cs x.0) 0; pending = 0; deltas = length x.1.ids }

abbrev pub with_pending : ℕ → PartLine → PartLine
with_pending n p = record p { pending = n }

abbrev pub parts_told : State → List PartLine
parts_told s = map (λ x. with_pending (length (pending_of s x.0)) (part_told (checkpoints s) x)) (numbered_from 0 s.durable.parts)

abbrev pub streams_told : State → List StreamLine
streams_told s = map (λ a. record { stream = a.header.stream; offset = a.offset; checkpoint = a.point.checkpoint; closed = a.closed }) s.streams

abbrev pub status_of : State → Reply
status_of s = status_told s.durable.minimum (parts_told s) (streams_told s) (option_map (job_progress s) s.job)

abbrev pub delta_told : Delta → DeltaLine
delta_told d = record { id = d.id; bundles = sum (map (λ t. length t.bundles) d.tables); versions = length (all_versions d); least = delta_least d; greatest = delta_greatest d }

abbrev pub deltas_at : State → ℕ → List DeltaLine
deltas_at s p = map delta_told (deltas_of s.durable.shelf (option_map_or (λ x. x.ids) (slice_get s.durable.parts p) []))

-- ---- a step

-- what a command is answered with: rows, and then a reply or a refusal
pub record Answer : Type 0 where
  pub rows : List (List Value)
  pub reply : Result Reply Refusal

abbrev pub replies : Reply → Answer
replies r = record { rows = []; reply = Ok r }

abbrev pub refuses : Refusal → Answer
refuses r = record { rows = []; reply = Err r }

abbrev pub name_and_version : Result SchemaVersion JsonFault → List ℕ × ℕ
name_and_version (Ok v) = (v.table, v.version)
name_and_version (Err e) = ([], 0)

abbrev pub names_version : List ℕ → List ℕ × ℕ
names_version t = name_and_version (version_of_text t)

-- a scan's or page's rows are the answer over the source's snapshot
abbrev pub Scans : List Change → State → Query → List (List Value) → Type 0
Scans source s q rows = (t : Table) × (r : Registered) × (table_named (cat_of s) q.table ≡ Some t) × (registered t q.version ≡ Some r)
    × (rows ≡ answer t r.columns q (snapshot source t r.columns q.at))

-- What a command that the state does not refuse leaves and answers. The source is that of the feed's fair fronts.
abbrev pub Does : Feed → List Change → State → Command → Answer → State → Type 0
Does feed source s (do_schema t) a s' = (cat : Catalogue) × (added_text (cat_of s) t ≡ Ok cat) × (a ≡ replies (schema_done (names_version t).0 (names_version t).1)) × (s' ≡ with_catalogue s cat)
Does feed source s (do_retire t v) a s' = (x : Table) × (table_named (cat_of s) t ≡ Some x) × (a ≡ replies (retire_done t v)) × (s' ≡ with_catalogue s (without_version (cat_of s) x.number v))
Does feed source s (do_pump n asked) a s' = (items : List Item) × (stop : Stop) × (gs : List Header) × Pumps feed s n asked items stop × entering items gs × HaveHeaders feed gs × (s' ≡ with_streams gs (with_items n items s))
    × ((at : StreamAt) × (stream_at s' n ≡ Some at) × (a ≡ replies (pump_done n (length items) at.offset at.point.checkpoint stop)))
Does feed source s (do_flush p) a s' = (a ≡ replies (flush_done p (resume_after s p) (flush_id s p))) × (s' ≡ flushed source s p)
Does feed source s (do_compact p m) a s' = (j : Job) × (part_job s.durable p m ≡ Some j) × (a ≡ replies (compact_done p (length j.inputs) (output_id s.durable j))) × (s' ≡ with_durable s (compacted s.durable j))
Does feed source s (do_job_begin p m) a s' = (j : Job) × (part_job s.durable p m ≡ Some j) × (a ≡ replies (job_begun p (length j.inputs))) × (s' ≡ record s { job = Some j })
Does feed source s (do_job_step n) a s' = (j : Job) × (s.job ≡ Some j) × (a ≡ replies (job_stepped (job_progress s (job_after s n j)))) × (s' ≡ record s { job = Some (job_after s n j) })
Does feed source s do_job_finish a s' = (j : Job) × (s.job ≡ Some j) × (a ≡ replies (job_finished (output_id s.durable j))) × (s' ≡ record (with_durable s (compacted s.durable j)) { job = None })
Does feed source s do_job_drop a s' = (a ≡ replies job_dropped) × (s' ≡ record s { job = None })
Does feed source s (do_split t ls) a s' = (x : Table) × (table_named (cat_of s) t ≡ Some x) × (a ≡ replies (split_done (part_of (ranges_of s.durable) (split_key x ls) + 1))) × (s' ≡ was_split s (split_key x ls))
Does feed source s (do_retain t) a s' = (a ≡ replies (retain_done t)) × (s' ≡ retained s t)
Does feed source s (do_scan q) a s' = Scans source s q a.rows × (a.reply ≡ Ok (scan_done (length a.rows))) × (s' ≡ s)
Does feed source s (do_page q) a s' = Scans source s q a.rows × (a.reply ≡ Ok (page_done (length a.rows))) × (s' ≡ s)
Does feed source s do_status a s' = (a ≡ replies (status_of s)) × (s' ≡ s)
Does feed source s (do_deltas p) a s' = (a ≡ replies (deltas_told (deltas_at s p))) × (s' ≡ s)
Does feed source s do_reopen a s' = (d : Durable) × ((d ≡ s.durable) ⊎ (s.broken ≡ Some d)) × (a ≡ replies reopen_done) × (s' ≡ opened d (initial_headers (map (λ x. x.header) s.streams)))

-- Items that a stream's check takes: each is of the stream's format, and breaks no rule where the stream stands behind those before it.
abbrev pub AreFair : Catalogue → StreamAt → List Item → Type 0
AreFair cat a [] = ⊤
AreFair cat a (i ∷ items) = IsTrue (is_item a.header.format i) × (breaks_at a.header cat a.closed a.point i ≡ None) × AreFair cat (moved_by (i ∷ []) a) items

-- what a pump does of a feed that tells nothing: it took at most as many as asked, all of them fair
pub record PumpsFair (s : State) (n asked : ℕ) (a : Answer) (s' : State) : Type 0 where
  pub stands : StreamAt
  pub known : stream_at s n ≡ Some stands
  pub items : List Item
  pub few : length items ≤ asked
  pub fair : AreFair (cat_of s) stands items
  pub entered : List Header
  pub enter : entering items entered
  pub state : s' ≡ with_streams entered (with_items n items s)
  pub at : StreamAt
  pub stands_now : stream_at s' n ≡ Some at
  pub stop : Stop
  pub answer : a ≡ replies (pump_done n (length items) at.offset at.point.checkpoint stop)

-- What a command does, whatever the feed exposes: one that does not read the feed, all of it; a pump, over a feed that exposes its contents,
-- all of it. A reopening begins a session on what the disk reads.
abbrev pub DoesOver : Option Feed → List Change → State → Command → Answer → State → Type 0
DoesOver told source s (do_pump n asked) a s' = PumpsFair s n asked a s' × IfSome told (λ f. Does f source s (do_pump n asked) a s')
DoesOver told source s do_reopen a s' = (a ≡ replies reopen_done) × ((d : Durable) × (hs : List Header) × (s' ≡ opened d hs))
DoesOver told source s c a s' = (f : Feed) → Does f source s c a s'

-- the machine may answer the command so and go on to the new state
abbrev pub StepBy : Option Refusal → Feed → List Change → State → Command → Answer → State → Type 0
StepBy (Some r) feed source s c a s' = (a ≡ refuses r) × (s' ≡ s)
StepBy None feed source s c a s' = Does feed source s c a s'

abbrev pub Step : Feed → List Change → State → Command → Answer → State → Type 0
Step feed source s c a s' = StepBy (refused s c) feed source s c a s'
