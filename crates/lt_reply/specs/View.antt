-- What replies and refusals stand for in the definitions.
use Rattle.std.specs.Prelude.{IsTrue, List, codes, false, is_some, map, ℕ, ◌∷◌, ◌≡◌}
use Rattle.std.specs.Option.{option_map_or}
use Rattle.lt_words.specs.Reply as model
use Rattle.lt_words.specs.SchemaText.{not_json}
use Rattle.lt_schema.specs.Faults.{view_refusal as view_schema_refusal}
use Rattle.lt_schema.specs.declared.refusal.SchemaRefusal.{SchemaRefusal}
use Rattle.lt_schema_json.specs.Reading.{view_fault}
use Rattle.lt_schema_json.specs.declared.refusal.JsonRefusal.{JsonRefusal}
use Rattle.lt_reply.specs.declared.refusal.Cause.{Cause}
use Rattle.lt_reply.specs.declared.refusal.Cause.TheVariants as causes
use Rattle.lt_reply.specs.declared.refusal.Refusal.{Refusal}
use Rattle.lt_reply.specs.declared.refusal.Refusal.TheVariants as refusals
use Rattle.lt_reply.specs.declared.reply.DeltaLine.{DeltaLine}
use Rattle.lt_reply.specs.declared.reply.PartLine.{PartLine}
use Rattle.lt_reply.specs.declared.reply.Reply.{Reply}
use Rattle.lt_reply.specs.declared.reply.Reply.TheVariants as replies
use Rattle.lt_reply.specs.declared.reply.StreamLine.{StreamLine}
use Rattle.lt_pump.specs.View.{view_stop}

abbrev pub view_part : PartLine → model.PartLine
view_part p = record { low = p.low; resume = p.resume; checkpoint = p.checkpoint; pending = p.pending; deltas = p.deltas }

abbrev pub view_parts : List PartLine → List model.PartLine
view_parts ps = map view_part ps

-- no stream is closed
abbrev pub view_stream : StreamLine → model.StreamLine
view_stream s = record { stream = s.stream; offset = s.offset; checkpoint = s.checkpoint; closed = false }

abbrev pub view_streams : List StreamLine → List model.StreamLine
view_streams ss = map view_stream ss

abbrev pub view_delta : DeltaLine → model.DeltaLine
view_delta d = record { id = d.id; bundles = d.bundles; versions = d.versions; least = d.least; greatest = d.greatest }

abbrev pub view_deltas : List DeltaLine → List model.DeltaLine
view_deltas ds = map view_delta ds

abbrev pub view_reply : Reply → model.Reply
view_reply (replies.Schema table version) = model.schema_done table version
view_reply (replies.Retire table version) = model.retire_done table version
view_reply (replies.Pump stream records offset checkpoint stop) = model.pump_done stream records offset checkpoint (view_stop stop)
view_reply (replies.Flush part resume delta) = model.flush_done part resume delta
view_reply (replies.Compact part inputs delta) = model.compact_done part inputs delta
view_reply (replies.JobBegin part inputs) = model.job_begun part inputs
view_reply (replies.JobStep progress) = model.job_stepped progress
view_reply (replies.JobFinish delta) = model.job_finished delta
view_reply replies.JobDrop = model.job_dropped
view_reply (replies.Split upper) = model.split_done upper
view_reply (replies.Retain at) = model.retain_done at
view_reply (replies.Scan rows) = model.scan_done rows
view_reply (replies.Page rows) = model.page_done rows
view_reply (replies.Status minimum parts streams job) = model.status_told minimum (view_parts parts) (view_streams streams) job
view_reply (replies.Deltas lines) = model.deltas_told (view_deltas lines)
view_reply replies.Reopen = model.reopen_done

-- Out of memory stands for no cause, and `IsCause` rules it out; so what is said of it here counts for nothing.
abbrev pub json_cause : JsonRefusal → model.Cause
json_cause r = option_map_or model.of_text (view_fault r) (model.of_text not_json)

abbrev pub version_cause : SchemaRefusal → model.Cause
version_cause r = option_map_or model.of_version (view_schema_refusal r) (model.of_text not_json)

abbrev pub view_cause : Cause → model.Cause
view_cause (causes.Json r) = json_cause r
view_cause (causes.Version r) = version_cause r

-- it is not out of memory
abbrev pub IsCause : Cause → Type 0
IsCause (causes.Json r) = IsTrue (is_some (view_fault r))
IsCause (causes.Version r) = IsTrue (is_some (view_schema_refusal r))

abbrev pub view_refusal : Refusal → model.Refusal
view_refusal refusals.NeedsReopen = model.needs_reopen
view_refusal refusals.Worn = model.worn
view_refusal (refusals.UnknownTable name) = model.no_such_table name
view_refusal (refusals.UnknownVersion version) = model.no_such_version version
view_refusal (refusals.Retired version) = model.version_retired version
view_refusal (refusals.LastVersion version) = model.is_last_version version
view_refusal (refusals.BadSchema cause) = model.bad_schema (view_cause cause)
view_refusal (refusals.NoStream stream) = model.no_stream stream
view_refusal (refusals.NoPartition part) = model.no_partition part
view_refusal (refusals.NoSuchDelta id) = model.no_such_delta id
view_refusal (refusals.BadColumn name) = model.bad_column name
view_refusal (refusals.WrongType name) = model.wrong_literal name
view_refusal (refusals.KeyTooLong len) = model.key_too_long len
view_refusal (refusals.TooOld min) = model.too_old min
view_refusal (refusals.NotSafe part checkpoint) = model.not_safe part checkpoint
view_refusal (refusals.AboveDurable durable) = model.above_durable durable
view_refusal (refusals.BelowMin min) = model.below_minimum min
view_refusal (refusals.AtEdge part) = model.at_edge part
view_refusal refusals.TooManyParts = model.too_many_parts
view_refusal refusals.TooManyDeltas = model.too_many_deltas
view_refusal refusals.JobOpen = model.job_open
view_refusal refusals.NoJob = model.no_job
view_refusal refusals.NotDone = model.not_done
view_refusal (refusals.StoreFull need room) = model.store_full need room
view_refusal refusals.FeedFault = model.feed_fault
view_refusal refusals.DiskFault = model.disk_fault
view_refusal (refusals.Damaged place length) = model.damaged place length
view_refusal refusals.OutFault = model.out_fault
view_refusal (refusals.FeedMismatch stream) = model.feed_mismatch stream
view_refusal refusals.Memory = model.out_of_memory

-- the words are the lines of a reply, but for the end of the last one
abbrev pub Prints : List ℕ → model.Reply → Type 0
Prints words r = model.ended words ≡ model.reply_text r

-- the words are the line of a refusal, but for its end
abbrev pub PrintsRefusal : List ℕ → model.Refusal → Type 0
PrintsRefusal words r = words ≡ model.spaced (codes "refused" ∷ model.refusal_words r)

-- a refused schema has a cause
abbrev pub IsSpoken : Refusal → Type 0
IsSpoken (refusals.BadSchema cause) = IsCause cause
IsSpoken r = Unit {0}
