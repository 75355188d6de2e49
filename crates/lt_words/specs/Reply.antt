-- Replies and refusals, and their text.
use Rattle.std.specs.Prelude.{Bool, List, None, Option, Some, [], codes, decimal, filter_map, find, flat_map, if◌then◌else◌, length, option_map, slice_get, ℕ, ℤ, ◌++◌, ◌+◌, ◌∷◌}
use Rattle.serde_json.specs.Written.{compact_text}
use Rattle.std.specs.Fmt.{signed_decimal}
use Rattle.std.specs.Ordering.{int_cmp, is_eq}
use Rattle.std.specs.Option.{option_map_or}
use Rattle.serde_json.specs.Data.{Data, Items}
use Rattle.lt_terms.specs.declared.Progress.{Progress}
use Rattle.lt_terms.specs.declared.BadFrame.{BadFrame}
use Rattle.lt_terms.specs.Kind.{FieldKinds, Kind, enumeration, field_kind, no_kinds, plain, structured}
use Rattle.lt_terms.specs.declared.Field.{Field}
use Rattle.lt_terms.specs.Value.{Fields, Value, bool_value, bytes_value, int_value, null_value, struct_value, text_value, value_at}
use Rattle.lt_tables.specs.Pump.{Stop, at_count, at_end, at_malformed, at_partial, at_successor, at_unfair}
use Rattle.lt_tables.specs.Schema.{Column, SchemaFault, Table, bad_default, bad_name, bad_number, column_reused, default_given, duplicate_name, key_changed, kind_changed, table_mismatch, too_deep, too_many, version_not_next}
use Rattle.lt_tables.specs.Fair.{Unfair, after_close, backward, bad_shape, late, open_at, out_of_order, out_of_range, second_header, unknown_table_number, unknown_version_number}
use Rattle.lt_tables.specs.Query.{Query, full_columns, places}
use Rattle.lt_words.specs.SchemaText.{JsonFault, hex_text, missing, not_json, number_data, plain_data, unknown_member, wrong}
use Rattle.serde_json.specs.Data as json
use Rattle.lt_terms.specs.declared.BadFrame.TheVariants as bad
use Rattle.lt_terms.specs.declared.Progress.TheVariants as progress
use Rattle.lt_terms.specs.declared.Field.TheVariants as member

-- ---- replies, with the values that they print

pub record PartLine : Type 0 where
  pub low : List ℕ
  pub resume : ℕ
  pub checkpoint : ℕ
  pub pending : ℕ
  pub deltas : ℕ

pub record StreamLine : Type 0 where
  pub stream : ℕ
  pub offset : ℕ
  pub checkpoint : ℕ
  pub closed : Bool

pub record DeltaLine : Type 0 where
  pub id : ℕ
  pub bundles : ℕ
  pub versions : ℕ
  pub least : ℕ
  pub greatest : ℕ

pub data Reply : Type 0 where
  schema_done : List ℕ → ℕ → Reply
  retire_done : List ℕ → ℕ → Reply
  pump_done : ℕ → ℕ → ℕ → ℕ → Stop → Reply
  flush_done : ℕ → ℕ → Option ℕ → Reply
  compact_done : ℕ → ℕ → Option ℕ → Reply
  job_begun : ℕ → ℕ → Reply
  job_stepped : Progress → Reply
  job_finished : Option ℕ → Reply
  job_dropped : Reply
  split_done : ℕ → Reply
  retain_done : ℕ → Reply
  scan_done : ℕ → Reply
  page_done : ℕ → Reply
  status_told : ℕ → List PartLine → List StreamLine → Option Progress → Reply
  deltas_told : List DeltaLine → Reply
  reopen_done : Reply

-- ---- refusals, with the values that they keep

pub data Cause : Type 0 where
  of_text : JsonFault → Cause
  of_version : SchemaFault → Cause

pub data Refusal : Type 0 where
  needs_reopen : Refusal
  worn : Refusal
  no_such_table : List ℕ → Refusal
  no_such_version : ℕ → Refusal
  version_retired : ℕ → Refusal
  is_last_version : ℕ → Refusal
  bad_schema : Cause → Refusal
  no_stream : ℕ → Refusal
  no_partition : ℕ → Refusal
  no_such_delta : ℕ → Refusal
  bad_column : List ℕ → Refusal
  wrong_literal : List ℕ → Refusal
  key_too_long : ℕ → Refusal
  too_old : ℕ → Refusal
  not_safe : ℕ → ℕ → Refusal
  above_durable : ℕ → Refusal
  below_minimum : ℕ → Refusal
  at_edge : ℕ → Refusal
  too_many_parts : Refusal
  too_many_deltas : Refusal
  job_open : Refusal
  no_job : Refusal
  not_done : Refusal
  store_full : ℕ → ℕ → Refusal
  feed_fault : Refusal
  disk_fault : Refusal
  damaged : ℕ → ℕ → Refusal
  out_fault : Refusal
  feed_mismatch : ℕ → Refusal
  out_of_memory : Refusal

-- ---- text

abbrev pub spaced : List (List ℕ) → List ℕ
spaced [] = []
spaced (w ∷ []) = w
spaced (w ∷ v ∷ ws) = w ++ 32 ∷ spaced (v ∷ ws)

abbrev pub ended : List ℕ → List ℕ
ended line = line ++ 10 ∷ []

abbrev pub text_line : List (List ℕ) → List ℕ
text_line ws = ended (spaced ws)

-- a kept name is a JSON text
abbrev pub quoted_name : List ℕ → List ℕ
quoted_name s = compact_text (json.string s)

abbrev pub id_text : Option ℕ → List ℕ
id_text None = codes "none"
id_text (Some d) = decimal d

-- hexadecimal digits, or `-` for an empty bound
abbrev pub bound_text : List ℕ → List ℕ
bound_text [] = codes "-"
bound_text (b ∷ bs) = hex_text (b ∷ bs)

abbrev pub bad_text : BadFrame → List ℕ
bad_text (bad.Kind k) = codes "Malformed Kind " ++ decimal k
bad_text (bad.Length l) = codes "Malformed Length " ++ decimal l
bad_text bad.Body = codes "Malformed Body"

abbrev pub unfair_text : Unfair → List ℕ
unfair_text after_close = codes "Closed"
unfair_text second_header = codes "SecondHeader"
unfair_text out_of_range = codes "Range"
unfair_text (unknown_table_number n) = codes "UnknownTable " ++ decimal n
unfair_text (unknown_version_number v) = codes "UnknownVersion " ++ decimal v
unfair_text bad_shape = codes "Shape"
unfair_text (late t) = codes "Late " ++ decimal t
unfair_text (out_of_order t) = codes "Order " ++ decimal t
unfair_text (backward t) = codes "Backward " ++ decimal t
unfair_text (open_at t) = codes "Open " ++ decimal t

abbrev pub stop_text : Stop → List ℕ
stop_text at_count = codes "Count"
stop_text at_end = codes "End"
stop_text at_partial = codes "Partial"
stop_text (at_malformed b) = bad_text b
stop_text (at_unfair u) = unfair_text u
stop_text (at_successor s) = codes "Successor " ++ decimal s

abbrev pub progress_text : Progress → List ℕ
progress_text progress.More = codes "more"
progress_text progress.Done = codes "done"

abbrev pub part_line : ℕ → PartLine → List ℕ
part_line n p = text_line (codes "partition" ∷ decimal n ∷ codes "low" ∷ bound_text p.low ∷ codes "resume" ∷ decimal p.resume ∷ codes "checkpoint" ∷ decimal p.checkpoint
    ∷ codes "pending" ∷ decimal p.pending ∷ codes "deltas" ∷ decimal p.deltas ∷ [])

abbrev pub part_lines : ℕ → List PartLine → List ℕ
part_lines n [] = []
part_lines n (p ∷ ps) = part_line n p ++ part_lines (n + 1) ps

abbrev pub stream_line : StreamLine → List ℕ
stream_line s = text_line (codes "stream" ∷ decimal s.stream ∷ codes "offset" ∷ decimal s.offset ∷ codes "checkpoint" ∷ decimal s.checkpoint ∷ (if s.closed then codes "closed" ∷ [] else []))

abbrev pub delta_line : DeltaLine → List ℕ
delta_line d = text_line (codes "delta" ∷ decimal d.id ∷ codes "bundles" ∷ decimal d.bundles ∷ codes "versions" ∷ decimal d.versions ∷ codes "least" ∷ decimal d.least ∷ codes "greatest" ∷ decimal d.greatest ∷ [])

abbrev pub job_text : Option Progress → List ℕ
job_text None = codes "none"
job_text (Some p) = progress_text p

-- the text of a reply, without the rows of a scan or page
unfoldable pub reply_text : Reply → List ℕ
reply_text (schema_done t v) = text_line (codes "ok schema" ∷ t ∷ decimal v ∷ [])
reply_text (retire_done t v) = text_line (codes "ok retire" ∷ t ∷ decimal v ∷ [])
reply_text (pump_done s n o c stop) = text_line (codes "ok pump" ∷ decimal s ∷ codes "records" ∷ decimal n ∷ codes "offset" ∷ decimal o ∷ codes "checkpoint" ∷ decimal c ∷ codes "stop" ∷ stop_text stop ∷ [])
reply_text (flush_done p r d) = text_line (codes "ok flush" ∷ decimal p ∷ codes "resume" ∷ decimal r ∷ codes "delta" ∷ id_text d ∷ [])
reply_text (compact_done p i d) = text_line (codes "ok compact" ∷ decimal p ∷ codes "inputs" ∷ decimal i ∷ codes "delta" ∷ id_text d ∷ [])
reply_text (job_begun p i) = text_line (codes "ok job begin" ∷ decimal p ∷ codes "inputs" ∷ decimal i ∷ [])
reply_text (job_stepped p) = text_line (codes "ok job step" ∷ progress_text p ∷ [])
reply_text (job_finished d) = text_line (codes "ok job finish delta" ∷ id_text d ∷ [])
reply_text job_dropped = ended (codes "ok job drop")
reply_text (split_done u) = text_line (codes "ok split" ∷ decimal u ∷ [])
reply_text (retain_done t) = text_line (codes "ok retain" ∷ decimal t ∷ [])
reply_text (scan_done n) = text_line (codes "ok scan" ∷ decimal n ∷ [])
reply_text (page_done n) = text_line (codes "ok page" ∷ decimal n ∷ [])
reply_text (status_told m ps ss j) = text_line (codes "minimum" ∷ decimal m ∷ []) ++ part_lines 0 ps ++ flat_map stream_line ss ++ text_line (codes "job" ∷ job_text j ∷ []) ++ ended (codes "ok status")
reply_text (deltas_told ds) = flat_map delta_line ds ++ text_line (codes "ok deltas" ∷ decimal (length ds) ∷ [])
reply_text reopen_done = ended (codes "ok reopen")

abbrev pub member_name : Field → List ℕ
member_name member.Top = codes "Top"
member_name member.Table = codes "Table"
member_name member.Number = codes "Number"
member_name member.Version = codes "Version"
member_name member.Key = codes "Key"
member_name member.Columns = codes "Columns"
member_name member.Column = codes "Column"
member_name member.Name = codes "Name"
member_name member.Kind = codes "Kind"
member_name member.Default = codes "Default"

abbrev pub cause_words : Cause → List (List ℕ)
cause_words (of_text not_json) = codes "NotJson" ∷ []
cause_words (of_text (unknown_member n)) = codes "Unknown" ∷ quoted_name n ∷ []
cause_words (of_text (missing f)) = codes "Missing" ∷ member_name f ∷ []
cause_words (of_text (wrong f)) = codes "Wrong" ∷ member_name f ∷ []
cause_words (of_version (bad_number n)) = codes "BadNumber" ∷ signed_decimal n ∷ []
cause_words (of_version (bad_name n)) = codes "BadName" ∷ quoted_name n ∷ []
cause_words (of_version (duplicate_name n)) = codes "DuplicateName" ∷ quoted_name n ∷ []
cause_words (of_version too_deep) = codes "TooDeep" ∷ []
cause_words (of_version (bad_default c)) = codes "BadDefault" ∷ decimal c ∷ []
cause_words (of_version (table_mismatch n)) = codes "TableMismatch" ∷ decimal n ∷ []
cause_words (of_version (version_not_next v)) = codes "VersionNotNext" ∷ decimal v ∷ []
cause_words (of_version key_changed) = codes "KeyChanged" ∷ []
cause_words (of_version (column_reused c)) = codes "ColumnReused" ∷ decimal c ∷ []
cause_words (of_version (kind_changed c)) = codes "KindChanged" ∷ decimal c ∷ []
cause_words (of_version (default_given c)) = codes "DefaultGiven" ∷ decimal c ∷ []
cause_words (of_version (too_many n)) = codes "Limit" ∷ decimal n ∷ []

abbrev pub refusal_words : Refusal → List (List ℕ)
refusal_words needs_reopen = codes "E2 NeedsReopen" ∷ []
refusal_words worn = codes "E33 Worn" ∷ []
refusal_words (no_such_table n) = codes "E3 UnknownTable" ∷ quoted_name n ∷ []
refusal_words (no_such_version v) = codes "E4 UnknownVersion" ∷ decimal v ∷ []
refusal_words (version_retired v) = codes "E5 Retired" ∷ decimal v ∷ []
refusal_words (is_last_version v) = codes "E28 LastVersion" ∷ decimal v ∷ []
refusal_words (bad_schema c) = codes "E6 BadSchema" ∷ cause_words c
refusal_words (no_stream s) = codes "E7 NoStream" ∷ decimal s ∷ []
refusal_words (no_partition p) = codes "E8 NoPartition" ∷ decimal p ∷ []
refusal_words (no_such_delta d) = codes "E9 NoSuchDelta" ∷ decimal d ∷ []
refusal_words (bad_column n) = codes "E10 BadColumn" ∷ quoted_name n ∷ []
refusal_words (wrong_literal n) = codes "E11 WrongType" ∷ quoted_name n ∷ []
refusal_words (key_too_long n) = codes "E27 KeyTooLong" ∷ decimal n ∷ []
refusal_words (too_old m) = codes "E12 TooOld" ∷ decimal m ∷ []
refusal_words (not_safe p c) = codes "E13 NotSafe" ∷ decimal p ∷ decimal c ∷ []
refusal_words (above_durable r) = codes "E14 AboveDurable" ∷ decimal r ∷ []
refusal_words (below_minimum m) = codes "E15 BelowMin" ∷ decimal m ∷ []
refusal_words (at_edge p) = codes "E16 AtEdge" ∷ decimal p ∷ []
refusal_words too_many_parts = codes "E17 TooManyParts" ∷ []
refusal_words too_many_deltas = codes "E18 TooManyDeltas" ∷ []
refusal_words job_open = codes "E19 JobOpen" ∷ []
refusal_words no_job = codes "E20 NoJob" ∷ []
refusal_words not_done = codes "E21 NotDone" ∷ []
refusal_words (store_full need room) = codes "E22 StoreFull" ∷ decimal need ∷ decimal room ∷ []
refusal_words feed_fault = codes "E23 FeedFault" ∷ []
refusal_words disk_fault = codes "E24 DiskFault" ∷ []
refusal_words (damaged place len) = codes "E25 Damaged" ∷ decimal place ∷ decimal len ∷ []
refusal_words out_fault = codes "E29 OutFault" ∷ []
refusal_words (feed_mismatch s) = codes "E30 FeedMismatch" ∷ decimal s ∷ []
refusal_words out_of_memory = codes "E26 Memory" ∷ []

unfoldable pub refusal_text : Refusal → List ℕ
refusal_text r = text_line (codes "refused" ∷ refusal_words r)

-- what is answered to a line that is no command
abbrev pub bad_line_text : List ℕ
bad_line_text = ended (codes "refused E1 BadLine")

-- ---- rows as JSON

abbrev pub name_of_number : List (ℤ × List ℕ) → ℤ → Option (List ℕ)
name_of_number names z = option_map (λ n. n.1) (find (λ n. is_eq (int_cmp n.0 z)) names)

-- An enum shows its name where the version names the number, and else the number; a struct is the array of its fields.
abbrev mutual
  pub shown : Value → Kind → Data
  shown v (plain r) = plain_data v
  shown (int_value z) (enumeration names) = option_map_or json.string (name_of_number names z) (number_data z)
  shown null_value (enumeration names) = json.null
  shown (bool_value b) (enumeration names) = json.boolean b
  shown (text_value t) (enumeration names) = json.string t
  shown (bytes_value b) (enumeration names) = plain_data (bytes_value b)
  shown (struct_value fs) (enumeration names) = plain_data (struct_value fs)
  shown (struct_value fs) (structured ks) = json.array (shown_fields fs ks)
  shown null_value (structured ks) = json.null
  shown (bool_value b) (structured ks) = json.boolean b
  shown (int_value z) (structured ks) = number_data z
  shown (text_value t) (structured ks) = json.string t
  shown (bytes_value b) (structured ks) = plain_data (bytes_value b)

  pub shown_fields : Fields → FieldKinds → Items
  shown_fields fs no_kinds = json.no_items
  shown_fields fs (field_kind n name k ks) = json.item (shown (value_at n fs) k) (shown_fields fs ks)

abbrev pub shown_row : List Kind → List Value → Items
shown_row [] vs = json.no_items
shown_row (k ∷ ks) [] = json.no_items
shown_row (k ∷ ks) (v ∷ vs) = json.item (shown v k) (shown_row ks vs)

-- the kinds of the picked columns
abbrev pub picked_kinds : Table → List Column → Query → List Kind
picked_kinds t columns q = let full = full_columns t.key columns in filter_map (λ p. option_map (λ c. c.1) (slice_get full p)) (places full q.columns)

unfoldable pub row_text : List Kind → List Value → List ℕ
row_text ks row = ended (codes "row " ++ compact_text (json.array (shown_row ks row)))
