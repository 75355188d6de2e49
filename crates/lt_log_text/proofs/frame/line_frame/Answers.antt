use Rattle.lt_records.specs.View.{view_item}
use Rattle.lt_log_text.proofs.Frames.{content_of, frame_said}
use Rattle.lt_log_text.proofs.frame.line_frame.Goals as goal

pub write-requires : goal.write-requires
write-requires c = content_of c.args.line.now (view_item c.in_ok-record.record) c.in_ok-record.ensures

pub returns-in-Ok : goal.returns-in-Ok
returns-in-Ok c = frame_said c.args.line.now (view_item c.in_ok-record.record) c.in-Ok.frame c.in_ok-record.ensures c.in-Ok.ensures.frame
