use Rattle.std.proofs.Common.{refl}
use Rattle.lt_fair.specs.View.{view_kept}
use Rattle.lt_records.specs.View.{view_header}
use Rattle.lt_fair.proofs.FaultParts.{point_none, taken_none}
use Rattle.lt_fair.proofs.checker.Checker.new.Goals as goal

pub returns-clause-point : goal.returns-clause-point
returns-clause-point c = point_none (view_header c.args.header) (view_kept c.new-window.result) refl c.new-window.ensures

pub returns-clause-taken : goal.returns-clause-taken
returns-clause-taken c cat = taken_none (view_header c.args.header) cat _ (point_none (view_header c.args.header) (view_kept c.new-window.result) refl c.new-window.ensures)
