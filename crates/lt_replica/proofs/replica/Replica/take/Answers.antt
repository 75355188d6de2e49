use Rattle.std.proofs.Common.{ap, refl, ◌∙◌}
use Rattle.std.specs.Prelude.{Err}
use Rattle.lt_pump.proofs.FeedLaws.{goes_itself}
use Rattle.lt_replica.proofs.TakeLaws.{fails_feed, fails_first, fails_memory, fails_unknown, has_taken, not_missed}
use Rattle.lt_replica.proofs.replica.Replica.take.Goals as goal

pub returns-in_err-subs-clause-refused : goal.returns-in_err-subs-clause-refused
returns-in_err-subs-clause-refused g c = fails_first _ c.args.self.now c.args.stream c.args.count c.from_residual.result c.from_residual.ensures.1

pub returns-in_err-subs-clause-feed : goal.returns-in_err-subs-clause-feed
returns-in_err-subs-clause-feed g c = goes_itself _

pub returns-in-Ok-clause-pumped : goal.returns-in-Ok-clause-pumped
returns-in-Ok-clause-pumped g c = has_taken (g.F.Feed.state c.take_into.new.feed).told c.args.self.now c.take_into.new.self c.args.stream c.args.count _ c.in-Ok.pumped c.reply_of.result c.take_into.ensures.stays c.in_ok-subs.ensures.subs c.in-Ok.ensures.pumped c.reply_of.ensures

pub returns-in-Err-NoStream-clause-refused : goal.returns-in-Err-NoStream-clause-refused
returns-in-Err-NoStream-clause-refused g c =
    let missed = c.take_into.ensures.no_stream.0 (c.in-Err-NoStream.is ∙ ap Err c.in-Err-NoStream.field-0-is) in
    let untouched = c.take_into.ensures.untouched missed in
    fails_unknown (g.F.Feed.state c.args.feed.now) (g.F.Feed.state c.take_into.new.feed) c.args.self.now c.take_into.new.self c.args.stream c.args.count missed (ap (λ f. (g.F.Feed.state f).faults) untouched.0) untouched.1

pub returns-in-Err-Feed-clause-refused : goal.returns-in-Err-Feed-clause-refused
returns-in-Err-Feed-clause-refused g c =
    let is = c.in-Err-Feed.is ∙ ap Err c.in-Err-Feed.field-0-is in
    let known = not_missed c.take_into.result _ _ c.args.stream c.take_into.ensures.no_stream is (λ e. cc) in
    fails_feed (g.F.Feed.state c.args.feed.now) (g.F.Feed.state c.take_into.new.feed) c.args.self.now c.take_into.new.self c.args.stream c.args.count _ c.take_into.ensures.stays c.in_ok-subs.ensures.subs (c.take_into.ensures.fault is) (c.in-Err-Feed.ensures.some known)

pub returns-clause-refused : goal.returns-clause-refused
returns-clause-refused g c =
    let is = c.in-Err-Memory.is ∙ ap Err c.in-Err-Memory.field-0-is in
    let known = not_missed c.take_into.result _ _ c.args.stream c.take_into.ensures.no_stream is (λ e. cc) in
    fails_memory (g.F.Feed.state c.args.feed.now) (g.F.Feed.state c.take_into.new.feed) c.args.self.now c.take_into.new.self c.args.stream c.args.count _ c.take_into.ensures.stays c.in_ok-subs.ensures.subs (c.take_into.ensures.lacks is) (c.in-Err-Memory.ensures.some known)

pub returns-in_err-subs-clause-keeps : goal.returns-in_err-subs-clause-keeps
returns-in_err-subs-clause-keeps g c = record { store = refl; durable = refl }
