use Rattle.std.proofs.Common.{map}
use Rattle.lt_records.specs.View.{view_item}
use Rattle.lt_pump.specs.Positions.{stream_of}
use Rattle.lt_pump.specs.Reads.{left_of}
use Rattle.lt_pump.specs.View.{view_subscription}
use Rattle.lt_pump.proofs.StepLaws.{keeps_lists, step_takes}
use Rattle.lt_pump.proofs.position.Position.step.Goals as goal

pub returns-in_default-clause-step : goal.returns-in_default-clause-step
returns-in_default-clause-step g c =
    step_takes (g.F.Feed.state c.find.new.feed).told c.args.cat.now (map view_subscription c.args.subs.now) (stream_of c.args.self.now) (stream_of c.keep.new.self) (g.V.Deliver.held c.args.to.now) (g.V.Deliver.held c.keep.new.to) c.args.stream c.in-Whole.size
    (left_of c.find.new.ahead) (left_of c.skip.new.self) c.in_ok-find.field-0 c.in-Whole.item c.in_ok-unfair-in-Whole.field-0 c.in-Whole.is c.in_default.is c.requires.stream c.skip.ensures c.in_ok-find.ensures.whole c.in_ok-find.ensures.found c.in_ok-unfair-in-Whole.ensures.keeps

pub returns-in_default-clause-lists : goal.returns-in_default-clause-lists
returns-in_default-clause-lists g c =
    keeps_lists c.args.cat.now (map view_subscription c.args.subs.now) (stream_of c.args.self.now) (stream_of c.keep.new.self) (g.V.Deliver.held c.args.to.now) (g.V.Deliver.held c.keep.new.to) (view_item c.in-Whole.item) c.in_ok-unfair-in-Whole.field-0 c.in_ok-unfair-in-Whole.ensures.keeps
