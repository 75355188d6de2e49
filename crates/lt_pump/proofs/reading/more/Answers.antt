use Rattle.lt_pump.specs.Reads.{left_of}
use Rattle.lt_pump.proofs.FeedLaws.{goes_itself}
use Rattle.lt_pump.proofs.ReadLaws.{more_none, more_some}
use Rattle.lt_pump.proofs.reading.more.Goals as goal

pub returns-in_err-piece-clause-feed : goal.returns-in_err-piece-clause-feed
returns-in_err-piece-clause-feed g c = goes_itself _

pub returns-then-count-eq0-clause-more : goal.returns-then-count-eq0-clause-more
returns-then-count-eq0-clause-more g c =
    more_none (g.F.Feed.state c.args.feed.now).told (g.F.Feed.state c.read_behind.new.feed).told c.args.stream c.args.offset c.in_ok-count.count (left_of c.args.ahead.now) c.read_behind.new.piece c.read_behind.ensures.feed.stays c.read_behind.ensures.feed.grows c.requires.ahead c.in_ok-count.ensures.bytes c.if-count-eq0.true

pub returns-clause-more : goal.returns-clause-more
returns-clause-more g c =
    more_some (g.F.Feed.state c.args.feed.now).told (g.F.Feed.state c.read_behind.new.feed).told c.args.stream c.args.offset c.in_ok-count.count (left_of c.args.ahead.now) (left_of c.add.new.self) c.split_at.result.0.now c.read_behind.new.piece c.read_behind.ensures.feed.stays c.read_behind.ensures.feed.grows c.requires.ahead c.in_ok-count.ensures.bytes
    c.split_at.ensures.front c.in_ok-add.ensures
