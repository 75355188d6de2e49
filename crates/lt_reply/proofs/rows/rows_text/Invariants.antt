use Rattle.std.proofs.Common.{◌≡◌, map, take}
use Rattle.std.specs.Prelude.{flat_map}
use Rattle.lt_words.specs.Reply.{row_text}
use Rattle.lt_core.specs.View.{view_row}
use Rattle.lt_schema.specs.View.{view_version}
use Rattle.lt_reply.specs.Rows.{row_kinds}
use Rattle.lt_reply.proofs.rows.rows_text.Given as goal

abbrev pub invariant-loop-row : goal.invariant-loop-row
invariant-loop-row l = l.text ≡ flat_map (row_text (row_kinds (view_version l.version))) (map view_row (take l.row-index l.rows))
