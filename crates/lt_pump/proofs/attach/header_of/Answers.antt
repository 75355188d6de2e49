use Rattle.std.proofs.Common.{sym, subst, ℕ, List}
use Rattle.lt_pump.specs.Reads.{StandAhead, left_of}
use Rattle.lt_pump.proofs.ReadLaws.{stand_none}
use Rattle.lt_pump.proofs.HeaderLaws.{begins_header, begins_no_frame, begins_other}
use Rattle.lt_pump.proofs.attach.header_of.Goals as goal

pub find-requires-clause-ahead : goal.find-requires-clause-ahead
find-requires-clause-ahead g c = subst (λ (bytes : List ℕ). StandAhead (g.F.Feed.state c.args.feed.now).told c.args.stream 0 bytes) (sym c.new-ahead.ensures) (stand_none (g.F.Feed.state c.args.feed.now).told c.args.stream 0)

pub returns-in-Header-clause-begins : goal.returns-in-Header-clause-begins
returns-in-Header-clause-begins g c = begins_header (g.F.Feed.state c.find.new.feed).told c.args.stream c.in-Whole.length (left_of c.find.new.ahead) c.in_ok-item.field-0 c.in-Whole.item c.in-Header.header c.in-Whole.is c.in-Header.is c.in_ok-item.ensures.found

pub returns-in-Whole-clause-begins : goal.returns-in-Whole-clause-begins
returns-in-Whole-clause-begins g c = begins_other (g.F.Feed.state c.find.new.feed).told c.args.stream c.in-Whole.length (left_of c.find.new.ahead) c.in_ok-item.field-0 c.in-Whole.item c.in-Whole.is c.in_default-item.not-Header c.in_ok-item.ensures.found

pub returns-clause-begins : goal.returns-clause-begins
returns-clause-begins g c = begins_no_frame (g.F.Feed.state c.find.new.feed).told c.args.stream (left_of c.find.new.ahead) c.in_ok-item.field-0 c.in_default.not-Whole c.in_ok-item.ensures.found
