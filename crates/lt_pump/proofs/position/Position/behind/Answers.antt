use Rattle.lt_records.specs.View.{view_header}
use Rattle.lt_fair.specs.View.{header_of, point_in}
use Rattle.lt_pump.proofs.AttachLaws.{is_behind}
use Rattle.lt_pump.proofs.position.Position.behind.Goals as goal

pub returns : goal.returns
returns c = is_behind (header_of c.new.result) (view_header c.args.header) c.args.length (point_in c.new.result) c.new.ensures.header c.new.ensures.point c.requires
