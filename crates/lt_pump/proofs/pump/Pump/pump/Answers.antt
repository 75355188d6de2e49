use Rattle.std.proofs.Common.{arith, length, map, refl}
use Rattle.std.proofs.lemmas.List.{length-set}
use Rattle.lt_terms.specs.Key.{ranges_from}
use Rattle.lt_pump.specs.View.{view_subscription}
use Rattle.lt_pump.proofs.FeedLaws.{goes_itself}
use Rattle.lt_pump.proofs.PumpLaws.{behind_here, behind_then, has_pumped, has_pumped_some, lows_stay, numbered_here, ranges_stay, streams_stay, within}
use Rattle.lt_pump.proofs.OthersLaws.{all_stay, others_stay}
use Rattle.lt_pump.proofs.pump.Pump.pump.Goals as goal

pub returns-in_default-clause-feed : goal.returns-in_default-clause-feed
returns-in_default-clause-feed g c = goes_itself _

pub run-requires-clause-stream : goal.run-requires-clause-stream
run-requires-clause-stream g c = numbered_here c.args.stream c.args.self.now.positions.items c.in-Some.position.now c.args.self.now.streams (within c.args.self.now.positions c.args.stream (c.in-Some.ensures.variant.0 refl)) c.in-Some.ensures.value

pub run-requires-clause-behind : goal.run-requires-clause-behind
run-requires-clause-behind g c = behind_here c.args.stream c.args.self.now.positions.items c.in-Some.position.now (g.V.Deliver.held c.args.to.now) (within c.args.self.now.positions c.args.stream (c.in-Some.ensures.variant.0 refl)) c.in-Some.ensures.value c.requires.behind

pub invariant_of-self-in-Ok : goal.invariant_of-self-in-Ok
invariant_of-self-in-Ok g c = record {
  streams = streams_stay c.args.stream c.args.self.now.positions.items c.in-Some.position.now c.run.new.self (within c.args.self.now.positions c.args.stream (c.in-Some.ensures.variant.0 refl)) c.in-Some.ensures.value c.run.ensures.header c.args.self.now.streams;
  bounds = lows_stay c.args.stream c.args.self.now.positions.items c.in-Some.position.now c.run.new.self c.args.self.now.lows (within c.args.self.now.positions c.args.stream (c.in-Some.ensures.variant.0 refl)) c.in-Some.ensures.value c.run.ensures.header c.args.self.now.bounds;
  tiles = c.args.self.now.tiles;
  ranges = ranges_stay c.args.stream c.args.self.now.positions.items c.in-Some.position.now c.run.new.self (ranges_from c.args.self.now.lows) (within c.args.self.now.positions c.args.stream (c.in-Some.ensures.variant.0 refl)) c.in-Some.ensures.value c.run.ensures.header c.args.self.now.ranges;
  some = omega (arith, length-set c.args.self.now.positions.items c.args.stream c.run.new.self, c.args.self.now.some);
  few = omega (arith, length-set c.args.self.now.positions.items c.args.stream c.run.new.self, c.args.self.now.few);
}

pub invariant_of-self-in-Err-1 : goal.invariant_of-self-in-Err-1
invariant_of-self-in-Err-1 g c = record {
  streams = streams_stay c.args.stream c.args.self.now.positions.items c.in-Some.position.now c.run.new.self (within c.args.self.now.positions c.args.stream (c.in-Some.ensures.variant.0 refl)) c.in-Some.ensures.value c.run.ensures.header c.args.self.now.streams;
  bounds = lows_stay c.args.stream c.args.self.now.positions.items c.in-Some.position.now c.run.new.self c.args.self.now.lows (within c.args.self.now.positions c.args.stream (c.in-Some.ensures.variant.0 refl)) c.in-Some.ensures.value c.run.ensures.header c.args.self.now.bounds;
  tiles = c.args.self.now.tiles;
  ranges = ranges_stay c.args.stream c.args.self.now.positions.items c.in-Some.position.now c.run.new.self (ranges_from c.args.self.now.lows) (within c.args.self.now.positions c.args.stream (c.in-Some.ensures.variant.0 refl)) c.in-Some.ensures.value c.run.ensures.header c.args.self.now.ranges;
  some = omega (arith, length-set c.args.self.now.positions.items c.args.stream c.run.new.self, c.args.self.now.some);
  few = omega (arith, length-set c.args.self.now.positions.items c.args.stream c.run.new.self, c.args.self.now.few);
}

pub returns-in-Ok-clause-pumped : goal.returns-in-Ok-clause-pumped
returns-in-Ok-clause-pumped g c =
    has_pumped (g.F.Feed.state c.run.new.feed).told c.args.cat.now c.args.stream c.args.n (map view_subscription c.args.subs.now) c.args.self.now.positions.items c.in-Some.position.now c.run.new.self (g.V.Deliver.held c.args.to.now) (g.V.Deliver.held c.run.new.to)
    (record { records = c.in-Ok.records; offset = c.offset.result; checkpoint = c.checkpoint.result; stop = c.in-Ok.stop }) (within c.args.self.now.positions c.args.stream (c.in-Some.ensures.variant.0 refl)) c.in-Some.ensures.value c.in-Ok.ensures.ran c.offset.ensures c.checkpoint.ensures

pub returns-in-Ok-clause-behind : goal.returns-in-Ok-clause-behind
returns-in-Ok-clause-behind g c = behind_then c.args.stream c.args.self.now.positions.items c.in-Some.position.now c.run.new.self (g.V.Deliver.held c.run.new.to) (within c.args.self.now.positions c.args.stream (c.in-Some.ensures.variant.0 refl)) c.in-Some.ensures.value c.run.ensures.behind

pub returns-in-Err-Feed-clause-some : goal.returns-in-Err-Feed-clause-some
returns-in-Err-Feed-clause-some g c known =
    has_pumped_some (g.F.Feed.state c.run.new.feed).told c.args.cat.now c.args.stream c.args.n (map view_subscription c.args.subs.now) c.args.self.now.positions.items c.in-Some.position.now c.run.new.self (g.V.Deliver.held c.args.to.now) (g.V.Deliver.held c.run.new.to)
    (within c.args.self.now.positions c.args.stream (c.in-Some.ensures.variant.0 refl)) c.in-Some.ensures.value c.in-Err-Feed.ensures.some

pub returns-in-Err-Feed-clause-behind : goal.returns-in-Err-Feed-clause-behind
returns-in-Err-Feed-clause-behind g c = behind_then c.args.stream c.args.self.now.positions.items c.in-Some.position.now c.run.new.self (g.V.Deliver.held c.run.new.to) (within c.args.self.now.positions c.args.stream (c.in-Some.ensures.variant.0 refl)) c.in-Some.ensures.value c.run.ensures.behind

pub returns-in-Err-Memory-clause-some : goal.returns-in-Err-Memory-clause-some
returns-in-Err-Memory-clause-some g c known =
    has_pumped_some (g.F.Feed.state c.run.new.feed).told c.args.cat.now c.args.stream c.args.n (map view_subscription c.args.subs.now) c.args.self.now.positions.items c.in-Some.position.now c.run.new.self (g.V.Deliver.held c.args.to.now) (g.V.Deliver.held c.run.new.to)
    (within c.args.self.now.positions c.args.stream (c.in-Some.ensures.variant.0 refl)) c.in-Some.ensures.value c.in-Err-Memory.ensures.some

pub returns-in-Err-Memory-clause-behind : goal.returns-in-Err-Memory-clause-behind
returns-in-Err-Memory-clause-behind g c = behind_then c.args.stream c.args.self.now.positions.items c.in-Some.position.now c.run.new.self (g.V.Deliver.held c.run.new.to) (within c.args.self.now.positions c.args.stream (c.in-Some.ensures.variant.0 refl)) c.in-Some.ensures.value c.run.ensures.behind

pub returns-in-Ok-clause-others : goal.returns-in-Ok-clause-others
returns-in-Ok-clause-others g c = others_stay (g.F.Feed.state c.run.new.feed).told c.args.cat.now (map view_subscription c.args.subs.now) c.args.stream c.args.self.now.positions.items c.args.self.now.lows c.in-Some.position.now c.run.new.self (g.V.Deliver.held c.args.to.now) (g.V.Deliver.held c.run.new.to)
    (within c.args.self.now.positions c.args.stream (c.in-Some.ensures.variant.0 refl)) c.in-Some.ensures.value c.args.self.now.tiles c.args.self.now.ranges c.in-Ok.ensures.ran.took

pub returns-in-Ok-clause-all : goal.returns-in-Ok-clause-all
returns-in-Ok-clause-all g c = all_stay c.args.stream c.args.self.now.positions.items c.run.new.self (g.V.Deliver.held c.args.to.now) (g.V.Deliver.held c.run.new.to)
    (others_stay (g.F.Feed.state c.run.new.feed).told c.args.cat.now (map view_subscription c.args.subs.now) c.args.stream c.args.self.now.positions.items c.args.self.now.lows c.in-Some.position.now c.run.new.self (g.V.Deliver.held c.args.to.now) (g.V.Deliver.held c.run.new.to)
    (within c.args.self.now.positions c.args.stream (c.in-Some.ensures.variant.0 refl)) c.in-Some.ensures.value c.args.self.now.tiles c.args.self.now.ranges c.in-Ok.ensures.ran.took) c.run.ensures.behind

pub returns-in-Err-Feed-clause-others : goal.returns-in-Err-Feed-clause-others
returns-in-Err-Feed-clause-others g c = others_stay (g.F.Feed.state c.run.new.feed).told c.args.cat.now (map view_subscription c.args.subs.now) c.args.stream c.args.self.now.positions.items c.args.self.now.lows c.in-Some.position.now c.run.new.self (g.V.Deliver.held c.args.to.now) (g.V.Deliver.held c.run.new.to)
    (within c.args.self.now.positions c.args.stream (c.in-Some.ensures.variant.0 refl)) c.in-Some.ensures.value c.args.self.now.tiles c.args.self.now.ranges c.in-Err-Feed.ensures.some.took

pub returns-in-Err-Feed-clause-all : goal.returns-in-Err-Feed-clause-all
returns-in-Err-Feed-clause-all g c = all_stay c.args.stream c.args.self.now.positions.items c.run.new.self (g.V.Deliver.held c.args.to.now) (g.V.Deliver.held c.run.new.to)
    (others_stay (g.F.Feed.state c.run.new.feed).told c.args.cat.now (map view_subscription c.args.subs.now) c.args.stream c.args.self.now.positions.items c.args.self.now.lows c.in-Some.position.now c.run.new.self (g.V.Deliver.held c.args.to.now) (g.V.Deliver.held c.run.new.to)
    (within c.args.self.now.positions c.args.stream (c.in-Some.ensures.variant.0 refl)) c.in-Some.ensures.value c.args.self.now.tiles c.args.self.now.ranges c.in-Err-Feed.ensures.some.took) c.run.ensures.behind

pub returns-in-Err-Memory-clause-others : goal.returns-in-Err-Memory-clause-others
returns-in-Err-Memory-clause-others g c = others_stay (g.F.Feed.state c.run.new.feed).told c.args.cat.now (map view_subscription c.args.subs.now) c.args.stream c.args.self.now.positions.items c.args.self.now.lows c.in-Some.position.now c.run.new.self (g.V.Deliver.held c.args.to.now) (g.V.Deliver.held c.run.new.to)
    (within c.args.self.now.positions c.args.stream (c.in-Some.ensures.variant.0 refl)) c.in-Some.ensures.value c.args.self.now.tiles c.args.self.now.ranges c.in-Err-Memory.ensures.some.took

pub returns-in-Err-Memory-clause-all : goal.returns-in-Err-Memory-clause-all
returns-in-Err-Memory-clause-all g c = all_stay c.args.stream c.args.self.now.positions.items c.run.new.self (g.V.Deliver.held c.args.to.now) (g.V.Deliver.held c.run.new.to)
    (others_stay (g.F.Feed.state c.run.new.feed).told c.args.cat.now (map view_subscription c.args.subs.now) c.args.stream c.args.self.now.positions.items c.args.self.now.lows c.in-Some.position.now c.run.new.self (g.V.Deliver.held c.args.to.now) (g.V.Deliver.held c.run.new.to)
    (within c.args.self.now.positions c.args.stream (c.in-Some.ensures.variant.0 refl)) c.in-Some.ensures.value c.args.self.now.tiles c.args.self.now.ranges c.in-Err-Memory.ensures.some.took) c.run.ensures.behind
