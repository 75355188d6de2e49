use Rattle.std.proofs.Common.{◌≡◌, [], drop}
use Rattle.lt_rows.specs.Present.{present_by}
use Rattle.lt_rows.specs.View.{view_changes, view_rows}
use Rattle.lt_rows.proofs.present.present_at.Given as goal

abbrev pub invariant-loop-change : goal.invariant-loop-change
invariant-loop-change l = present_by l.table l.at (view_rows l.rows.entries) (view_changes (drop l.change-index l.changes)) ≡ present_by l.table l.at [] (view_changes l.changes)
