use Rattle.std.proofs.Common.{Some, ap, arith, subst, sym, length, ◌∙◌, ◌∷◌, ◌++◌, [], List, ℕ}
use Rattle.std.specs.Prelude.{IfSome}
use Rattle.std.specs.Option.{option_copied}
use Rattle.lt_records.specs.View.{view_header}
use Rattle.std.proofs.lemmas.List.{length-map}
use Rattle.lt_pump.specs.Headers.{IsFramed}
use Rattle.lt_pump.specs.Positions.{stream_of}
use Rattle.lt_pump.specs.Pumps.{HasAttached}
use Rattle.lt_pump.proofs.FeedLaws.{goes_called, goes_then}
use Rattle.lt_pump.proofs.AttachLaws.{attached, count_told, fits_number, fitting_more, fitting_none, header_refused, memory_refused, mismatch_none, mismatch_unfit}
use Rattle.lt_pump.proofs.TileLaws.{counted, tiled, tiling_more, tiling_none}
use Rattle.lt_pump.proofs.pump.Pump.attach.Goals as goal

pub loop-stream-init : goal.loop-stream-init
loop-stream-init g c = record {
  known = omega (arith, c.in_ok-count.ensures.number);
  fitting = fitting_none (g.F.Feed.state c.streams.new.self).told (option_copied c.args.kept) c.in_ok-count.count (Some c.new.result) c.new-lows.result c.new-positions.result.items
      (count_told (g.F.Feed.state c.streams.new.self).told (g.F.Feed.state c.streams.new.self).known c.in_ok-count.count (g.met.F.Feed.as_many c.streams.new.self) c.in_ok-count.ensures.number) (ap Some c.new.ensures) c.new-lows.ensures c.new-positions.ensures.items;
  tiling = tiling_none (option_copied c.args.kept) c.in_ok-count.count (Some c.new.result) c.new-lows.result c.new-positions.result.items (ap Some c.new.ensures) c.new-lows.ensures c.new-positions.ensures.items;
  kept = c.in_ok-count.ensures.called.cause.kept;
  called = c.streams.ensures.called.counted;
  goes = goes_called _ _ _ c.streams.ensures.called;
}

pub header_of-requires : goal.header_of-requires
header_of-requires g c = omega (arith, c.loop-stream-test.true, c.loop-stream.invariant.known)

pub returns-in_err-header-clause-refused : goal.returns-in_err-header-clause-refused
returns-in_err-header-clause-refused g c =
    header_refused (g.F.Feed.state c.header_of.new.feed).told (option_copied c.args.kept) (g.F.Feed.state c.args.feed.now).faults (g.F.Feed.state c.loop-stream.feed).faults (g.F.Feed.state c.header_of.new.feed).faults c.from_residual-in_err-header.result c.header_of.result c.in_err-header.field-0.0 c.in_err-header.was
    c.from_residual-in_err-header.ensures.1 c.header_of.ensures.fault c.header_of.ensures.lacks c.loop-stream.invariant.kept

pub returns-in_err-header-clause-feed : goal.returns-in_err-header-clause-feed
returns-in_err-header-clause-feed g c = goes_then _ _ _ c.loop-stream.invariant.goes c.header_of.ensures.feed

pub returns-in_default-2-clause-refused : goal.returns-in_default-2-clause-refused
returns-in_default-2-clause-refused g c = (
  c.in_ok-header.ensures.kept ∙ c.loop-stream.invariant.kept,
  mismatch_none (g.F.Feed.state c.loop-stream.feed).told (g.F.Feed.state c.header_of.new.feed).told (option_copied c.args.kept) c.in_ok-count.count c.loop-stream.stream c.loop-stream.bound c.loop-stream.lows c.loop-stream.positions.items c.in_ok-header.field-0 c.header_of.ensures.feed.stays
      c.header_of.ensures.feed.grows c.loop-stream-test.true (λ f l. sym (c.unfit_number.ensures f l) ∙ c.in_default.is) c.loop-stream.invariant.fitting c.in_default-2.is c.in_ok-header.ensures.begins,
)

pub returns-in_default-2-clause-feed : goal.returns-in_default-2-clause-feed
returns-in_default-2-clause-feed g c = goes_then _ _ _ c.loop-stream.invariant.goes c.header_of.ensures.feed

pub returns-then-not-goes_on-clause-refused : goal.returns-then-not-goes_on-clause-refused
returns-then-not-goes_on-clause-refused g c = (
  c.in_ok-header.ensures.kept ∙ c.loop-stream.invariant.kept,
  mismatch_unfit (g.F.Feed.state c.loop-stream.feed).told (g.F.Feed.state c.header_of.new.feed).told (option_copied c.args.kept) c.in_ok-count.count c.loop-stream.stream c.loop-stream.bound c.loop-stream.lows c.loop-stream.positions.items c.in_ok-header.field-0 (c.in-Some-2.header, c.in-Some-2.length)
      c.goes_on.result c.header_of.ensures.feed.stays c.header_of.ensures.feed.grows c.loop-stream-test.true (λ f l. sym (c.unfit_number.ensures f l) ∙ c.in_default.is) c.loop-stream.invariant.fitting c.in-Some-2.is c.in_ok-header.ensures.begins c.goes_on.ensures c.if-not-goes_on.true,
)

pub returns-then-not-goes_on-clause-feed : goal.returns-then-not-goes_on-clause-feed
returns-then-not-goes_on-clause-feed g c = goes_then _ _ _ c.loop-stream.invariant.goes c.header_of.ensures.feed

pub returns-in_err-bound-clause-refused : goal.returns-in_err-bound-clause-refused
returns-in_err-bound-clause-refused g c = memory_refused (g.F.Feed.state c.header_of.new.feed).told (option_copied c.args.kept) (g.F.Feed.state c.args.feed.now).faults (g.F.Feed.state c.header_of.new.feed).faults c.from_residual-in_err-bound.result c.from_residual-in_err-bound.ensures.1
    (c.in_ok-header.ensures.kept ∙ c.loop-stream.invariant.kept)

pub returns-in_err-bound-clause-feed : goal.returns-in_err-bound-clause-feed
returns-in_err-bound-clause-feed g c = goes_then _ _ _ c.loop-stream.invariant.goes c.header_of.ensures.feed

pub returns-in_err-copy-clause-refused : goal.returns-in_err-copy-clause-refused
returns-in_err-copy-clause-refused g c = memory_refused (g.F.Feed.state c.header_of.new.feed).told (option_copied c.args.kept) (g.F.Feed.state c.args.feed.now).faults (g.F.Feed.state c.header_of.new.feed).faults c.from_residual-in_err-copy.result c.from_residual-in_err-copy.ensures.1
    (c.in_ok-header.ensures.kept ∙ c.loop-stream.invariant.kept)

pub returns-in_err-copy-clause-feed : goal.returns-in_err-copy-clause-feed
returns-in_err-copy-clause-feed g c = goes_then _ _ _ c.loop-stream.invariant.goes c.header_of.ensures.feed

pub returns-in_err-push-clause-refused : goal.returns-in_err-push-clause-refused
returns-in_err-push-clause-refused g c = memory_refused (g.F.Feed.state c.header_of.new.feed).told (option_copied c.args.kept) (g.F.Feed.state c.args.feed.now).faults (g.F.Feed.state c.header_of.new.feed).faults c.from_residual-in_err-push.result c.from_residual-in_err-push.ensures.1
    (c.in_ok-header.ensures.kept ∙ c.loop-stream.invariant.kept)

pub returns-in_err-push-clause-feed : goal.returns-in_err-push-clause-feed
returns-in_err-push-clause-feed g c = goes_then _ _ _ c.loop-stream.invariant.goes c.header_of.ensures.feed

pub returns-in_err-push-2-clause-refused : goal.returns-in_err-push-2-clause-refused
returns-in_err-push-2-clause-refused g c = memory_refused (g.F.Feed.state c.header_of.new.feed).told (option_copied c.args.kept) (g.F.Feed.state c.args.feed.now).faults (g.F.Feed.state c.header_of.new.feed).faults c.from_residual-in_err-push-2.result c.from_residual-in_err-push-2.ensures.1
    (c.in_ok-header.ensures.kept ∙ c.loop-stream.invariant.kept)

pub returns-in_err-push-2-clause-feed : goal.returns-in_err-push-2-clause-feed
returns-in_err-push-2-clause-feed g c = goes_then _ _ _ c.loop-stream.invariant.goes c.header_of.ensures.feed

pub loop-stream-preserved : goal.loop-stream-preserved
loop-stream-preserved g c = record {
  known = omega (arith, c.loop-stream.invariant.known, c.header_of.ensures.feed.more);
  fitting = fitting_more (g.F.Feed.state c.loop-stream.feed).told (g.F.Feed.state c.header_of.new.feed).told (option_copied c.args.kept) c.in_ok-count.count c.loop-stream.stream c.loop-stream.bound c.in_ok-bound.bound c.loop-stream.lows c.push.new.self c.loop-stream.positions.items
      c.push-in-loop-stream.new.self.items c.in_ok-header.field-0 (c.in-Some-2.header, c.in-Some-2.length) c.behind.result c.goes_on.result c.header_of.ensures.feed.stays c.header_of.ensures.feed.grows c.loop-stream.invariant.fitting c.in-Some-2.is c.in_ok-header.ensures.begins
      (subst (λ o. IfSome o IsFramed) c.in-Some-2.is c.in_ok-header.ensures.frame) c.goes_on.ensures c.if-not-goes_on.false c.behind.ensures
      (fits_number (option_copied c.args.kept) c.in_ok-count.count c.loop-stream.stream c.loop-stream.bound (view_header c.in-Some-2.header) c.goes_on.result c.goes_on.ensures c.if-not-goes_on.false)
      c.in_ok-bound.ensures (c.in_ok-push.ensures.ok ∙ ap (λ (x : List ℕ). c.loop-stream.lows ++ x ∷ []) c.in_ok-copy.ensures) c.in_ok-push-2.ensures.items;
  tiling = tiling_more (option_copied c.args.kept) c.in_ok-count.count c.loop-stream.stream c.loop-stream.bound c.in_ok-bound.bound c.loop-stream.lows c.push.new.self c.loop-stream.positions.items c.push-in-loop-stream.new.self.items c.behind.result (view_header c.in-Some-2.header)
      c.goes_on.result c.loop-stream.invariant.tiling c.goes_on.ensures c.if-not-goes_on.false c.behind.ensures c.in_ok-bound.ensures (c.in_ok-push.ensures.ok ∙ ap (λ (x : List ℕ). c.loop-stream.lows ++ x ∷ []) c.in_ok-copy.ensures) c.in_ok-push-2.ensures.items;
  kept = c.in_ok-header.ensures.kept ∙ c.loop-stream.invariant.kept;
  called = omega (arith, c.loop-stream.invariant.called, c.header_of.ensures.feed.calls);
  goes = goes_then _ _ _ c.loop-stream.invariant.goes c.header_of.ensures.feed;
}

pub of-requires-clause-streams : goal.of-requires-clause-streams
of-requires-clause-streams g c = c.loop-stream.invariant.fitting.streams

pub of-requires-clause-bounds : goal.of-requires-clause-bounds
of-requires-clause-bounds g c = c.loop-stream.invariant.fitting.lows_are

pub of-requires-clause-tiles : goal.of-requires-clause-tiles
of-requires-clause-tiles g c = (tiled (option_copied c.args.kept) c.in_ok-count.count c.loop-stream.stream c.loop-stream.bound c.loop-stream.lows c.loop-stream.positions.items (omega (arith, c.loop-stream-test.false, c.loop-stream.auto.stream-end))
    (counted (option_copied c.args.kept) c.in_ok-count.count (λ f l. sym (c.unfit_number.ensures f l) ∙ c.in_default.is)) c.loop-stream.invariant.tiling c.loop-stream.invariant.fitting.streams).0

pub of-requires-clause-ranges : goal.of-requires-clause-ranges
of-requires-clause-ranges g c = (tiled (option_copied c.args.kept) c.in_ok-count.count c.loop-stream.stream c.loop-stream.bound c.loop-stream.lows c.loop-stream.positions.items (omega (arith, c.loop-stream-test.false, c.loop-stream.auto.stream-end))
    (counted (option_copied c.args.kept) c.in_ok-count.count (λ f l. sym (c.unfit_number.ensures f l) ∙ c.in_default.is)) c.loop-stream.invariant.tiling c.loop-stream.invariant.fitting.streams).1

pub of-requires-clause-some : goal.of-requires-clause-some
of-requires-clause-some g c =
    let n = counted (option_copied c.args.kept) c.in_ok-count.count (λ f l. sym (c.unfit_number.ensures f l) ∙ c.in_default.is) in
    omega (arith, n.some, c.loop-stream.invariant.fitting.number, c.loop-stream-test.false, c.loop-stream.auto.stream-end)

pub of-requires-clause-few : goal.of-requires-clause-few
of-requires-clause-few g c =
    let n = counted (option_copied c.args.kept) c.in_ok-count.count (λ f l. sym (c.unfit_number.ensures f l) ∙ c.in_default.is) in
    omega (arith, n.few, c.loop-stream.invariant.fitting.number, c.loop-stream-test.false, c.loop-stream.auto.stream-end)

pub returns-clause-attached : goal.returns-clause-attached
returns-clause-attached g c = subst (λ ss. HasAttached (g.F.Feed.state c.loop-stream.feed).told (option_copied c.args.kept) ss) (sym c.of.ensures)
    (attached (g.F.Feed.state c.loop-stream.feed).told (option_copied c.args.kept) c.in_ok-count.count c.loop-stream.stream c.loop-stream.bound c.loop-stream.lows c.loop-stream.positions.items (omega (arith, c.loop-stream-test.false, c.loop-stream.auto.stream-end))
    (λ f l. sym (c.unfit_number.ensures f l) ∙ c.in_default.is) c.loop-stream.invariant.fitting c.loop-stream.invariant.tiling)

pub returns-clause-known : goal.returns-clause-known
returns-clause-known g c = omega (arith, ap length c.of.ensures, length-map c.loop-stream.positions.items stream_of, c.loop-stream.invariant.fitting.number, c.loop-stream.invariant.known, c.loop-stream-test.false, c.loop-stream.auto.stream-end)

pub returns-clause-faults : goal.returns-clause-faults
returns-clause-faults g c = c.loop-stream.invariant.kept

pub returns-clause-feed : goal.returns-clause-feed
returns-clause-feed g c = c.loop-stream.invariant.goes
