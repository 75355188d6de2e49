-- What the records stand for in the definitions. Headers of format 1 name no predecessor.
use Rattle.std.specs.Prelude.{None}
use Rattle.lt_terms.specs.declared.Format.TheVariants as format
use Rattle.lt_terms.specs.Log as log
use Rattle.lt_codecs.specs.LogCodec.{ChangeParts}
use Rattle.lt_core.specs.View.{view_parts, view_range, view_settings}
use Rattle.lt_records.specs.declared.record.ChangeRecord.{ChangeRecord}
use Rattle.lt_records.specs.declared.record.Found.{Found}
use Rattle.lt_records.specs.declared.record.LogRecord.{LogRecord}
use Rattle.lt_records.specs.declared.record.StreamHeader.{StreamHeader}
use Rattle.lt_records.specs.declared.record.Found.TheVariants as found
use Rattle.lt_records.specs.declared.record.LogRecord.TheVariants as record_of

abbrev pub view_header : StreamHeader → log.Header
view_header h = record { format = format.One; stream = h.stream; range = view_range h.range; predecessor = None; from = 0 }

abbrev pub view_change : ChangeRecord → log.Change
view_change c = record { ts = c.ts; table = c.table; version = c.version; op = c.op; key = view_parts c.key; set = view_settings c.set }

-- the parts of a change behind its timestamp
abbrev pub parts_of : ChangeRecord → ChangeParts
parts_of c = (c.table, (c.version, (c.op, (view_parts c.key, view_settings c.set))))

abbrev pub view_item : LogRecord → log.Item
view_item (record_of.Header h) = log.header_item (view_header h)
view_item (record_of.Change c) = log.change_item (view_change c)
view_item (record_of.Checkpoint t) = log.checkpoint_item t

abbrev pub view_found : Found → log.Found
view_found (found.Whole item length) = log.whole (view_item item) length
view_found found.Partial = log.partial
view_found (found.Malformed bad) = log.malformed bad
