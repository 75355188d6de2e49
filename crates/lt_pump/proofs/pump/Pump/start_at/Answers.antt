use Rattle.std.proofs.Common.{ap, arith, length}
use Rattle.std.proofs.lemmas.List.{length-set}
use Rattle.lt_terms.specs.Key.{ranges_from}
use Rattle.lt_tables.specs.Pump.{StreamAt}
use Rattle.lt_fair.specs.View.{view_point}
use Rattle.lt_pump.specs.Positions.{started, stream_of}
use Rattle.lt_pump.proofs.SubLaws.{here}
use Rattle.lt_pump.proofs.PumpLaws.{lows_stay, ranges_stay, same_place, set_changed, streams_stay}
use Rattle.lt_pump.proofs.pump.Pump.start_at.Goals as goal

pub invariant_of-self : goal.invariant_of-self
invariant_of-self c =
    let ps = c.args.self.now.positions.items in
    let l = same_place c.args.stream ps c.requires in
    let same = ap (λ (a : StreamAt). a.header) c.start_at.ensures in
    record {
      streams = streams_stay c.args.stream ps c.index_mut.result.now c.start_at.new.self l c.index_mut.ensures.value same c.args.self.now.streams;
      bounds = lows_stay c.args.stream ps c.index_mut.result.now c.start_at.new.self c.args.self.now.lows l c.index_mut.ensures.value same c.args.self.now.bounds;
      tiles = c.args.self.now.tiles;
      ranges = ranges_stay c.args.stream ps c.index_mut.result.now c.start_at.new.self (ranges_from c.args.self.now.lows) l c.index_mut.ensures.value same c.args.self.now.ranges;
      some = omega (arith, length-set ps c.args.stream c.start_at.new.self, c.args.self.now.some);
      few = omega (arith, length-set ps c.args.stream c.start_at.new.self, c.args.self.now.few);
    }

pub returns : goal.returns
returns c =
    let ps = c.args.self.now.positions.items in
    set_changed stream_of (started c.args.offset (view_point c.args.point)) ps c.args.stream c.index_mut.result.now c.start_at.new.self (here ps c.args.stream c.index_mut.result.now (same_place c.args.stream ps c.requires) c.index_mut.ensures.value) c.start_at.ensures
