use Rattle.std.proofs.Common.{ap, arith, length, map, refl, sym, ◌∙◌, subst, ℕ, List, inl, inr}
use Rattle.lt_pump.specs.Positions.{Ran, stream_of}
use Rattle.lt_tables.specs.Pump as replies
use Rattle.lt_pump.specs.Reads.{StandAhead, left_of}
use Rattle.lt_pump.specs.View.{view_subscription}
use Rattle.lt_pump.proofs.FeedLaws.{goes_itself, goes_then}
use Rattle.lt_pump.proofs.ReadLaws.{stand_none}
use Rattle.lt_pump.proofs.Results.{on_any_err}
use Rattle.lt_pump.proofs.StepLaws.{ran_all, ran_early, ran_some, same_header, step_ahead, step_one, steps_as, took_none, took_one}
use Rattle.lt_pump.proofs.position.Position.run.Goals as goal

pub returns-then-n-eq0-clause-ran : goal.returns-then-n-eq0-clause-ran
returns-then-n-eq0-clause-ran g c =
    let t = took_none (g.F.Feed.state c.args.feed.now).told c.args.cat.now (map view_subscription c.args.subs.now) (stream_of c.args.self.now) (g.V.Deliver.held c.args.to.now) in
    subst (λ n. Ran (g.F.Feed.state c.args.feed.now).told c.args.cat.now (map view_subscription c.args.subs.now) (stream_of c.args.self.now) (stream_of c.args.self.now) (g.V.Deliver.held c.args.to.now) (g.V.Deliver.held c.args.to.now) n 0 replies.at_count) (sym c.if-n-eq0.true)
    (ran_all (g.F.Feed.state c.args.feed.now).told c.args.cat.now (map view_subscription c.args.subs.now) (stream_of c.args.self.now) (stream_of c.args.self.now) (g.V.Deliver.held c.args.to.now) (g.V.Deliver.held c.args.to.now) 0 0 t.0 t.1 refl)

pub returns-then-n-eq0-clause-feed : goal.returns-then-n-eq0-clause-feed
returns-then-n-eq0-clause-feed g c = goes_itself _

pub returns-in_err-owners-clause-some : goal.returns-in_err-owners-clause-some
returns-in_err-owners-clause-some g c =
    let t = took_none (g.F.Feed.state c.args.feed.now).told c.args.cat.now (map view_subscription c.args.subs.now) (stream_of c.args.self.now) (g.V.Deliver.held c.args.to.now) in
    on_any_err _ c.from_residual.result (record { took = t.0; fewer = omega (arith, t.1, c.if-n-eq0.false) })

pub returns-in_err-owners-clause-feed : goal.returns-in_err-owners-clause-feed
returns-in_err-owners-clause-feed g c = goes_itself _

pub loop-records-init : goal.loop-records-init
loop-records-init g c = record {
  known = c.requires.known;
  place = omega (arith, ap length c.new-ahead.ensures);
  ahead = subst (λ (bytes : List ℕ). StandAhead (g.F.Feed.state c.args.feed.now).told c.args.stream c.args.self.now.offset bytes) (sym c.new-ahead.ensures) (stand_none (g.F.Feed.state c.args.feed.now).told c.args.stream c.args.self.now.offset);
  behind = c.requires.behind;
  lists = refl;
  catalogue = refl;
  header = refl;
  took = took_none (g.F.Feed.state c.args.feed.now).told c.args.cat.now (map view_subscription c.args.subs.now) (stream_of c.args.self.now) (g.V.Deliver.held c.args.to.now);
  kept = refl;
  called = inl (c.new-ahead.ensures, refl);
  goes = goes_itself _;
}

pub returns-in_err-stop-clause-some : goal.returns-in_err-stop-clause-some
returns-in_err-stop-clause-some g c =
    let t = c.loop-records.invariant.took in
    let u = c.in_err-stop.ensures.unmoved in
    on_any_err _ c.from_residual-in_err-stop.result (ran_some (g.F.Feed.state c.loop-records.feed).told (g.F.Feed.state c.step.new.feed).told c.args.cat.now (map view_subscription c.args.subs.now) (stream_of c.args.self.now) (stream_of c.loop-records.self) (stream_of c.step.new.self)
    (g.V.Deliver.held c.args.to.now) (g.V.Deliver.held c.loop-records.to) (g.V.Deliver.held c.step.new.to) c.args.n c.loop-records.records c.step.ensures.feed.stays c.step.ensures.feed.grows u.0 u.1 t.0 t.1 c.loop-records-test.true)

pub returns-in_err-stop-clause-feed : goal.returns-in_err-stop-clause-feed
returns-in_err-stop-clause-feed g c = goes_then _ _ _ c.loop-records.invariant.goes c.step.ensures.feed

pub returns-in-Some-clause-ran : goal.returns-in-Some-clause-ran
returns-in-Some-clause-ran g c =
    let t = c.loop-records.invariant.took in
    ran_early (g.F.Feed.state c.loop-records.feed).told (g.F.Feed.state c.step.new.feed).told c.args.cat.now (map view_subscription c.args.subs.now) (stream_of c.args.self.now) (stream_of c.loop-records.self) (stream_of c.step.new.self)
    (g.V.Deliver.held c.args.to.now) (g.V.Deliver.held c.loop-records.to) (g.V.Deliver.held c.step.new.to) (left_of c.step.new.ahead) c.args.n c.loop-records.records c.in_ok-stop.field-0 c.in-Some.stop c.step.ensures.feed.stays c.step.ensures.feed.grows t.0 t.1
    c.loop-records-test.true c.in-Some.is
    (steps_as (g.F.Feed.state c.step.new.feed).told c.args.cat.now c.in_ok-owners.owners c.args.subs.now (stream_of c.loop-records.self) (stream_of c.step.new.self) (g.V.Deliver.held c.loop-records.to) (g.V.Deliver.held c.step.new.to) (left_of c.step.new.ahead) c.in_ok-stop.field-0 (c.in_ok-owners.ensures ∙ c.as_slice.ensures) c.in_ok-stop.ensures.step)

pub returns-in-Some-clause-feed : goal.returns-in-Some-clause-feed
returns-in-Some-clause-feed g c = goes_then _ _ _ c.loop-records.invariant.goes c.step.ensures.feed

pub loop-records-preserved : goal.loop-records-preserved
loop-records-preserved g c =
    let told = (g.F.Feed.state c.loop-records.feed).told in
    let told' = (g.F.Feed.state c.step.new.feed).told in
    let subs = map view_subscription c.args.subs.now in
    let a = stream_of c.args.self.now in
    let b = stream_of c.loop-records.self in
    let b' = stream_of c.step.new.self in
    let held = g.V.Deliver.held c.args.to.now in
    let held1 = g.V.Deliver.held c.loop-records.to in
    let held' = g.V.Deliver.held c.step.new.to in
    let left = left_of c.step.new.ahead in
    let one = step_one told' c.args.cat.now subs b b' held1 held' left c.in_ok-stop.field-0 c.in_default.is
    (steps_as told' c.args.cat.now c.in_ok-owners.owners c.args.subs.now b b' held1 held' left c.in_ok-stop.field-0 (c.in_ok-owners.ensures ∙ c.as_slice.ensures) c.in_ok-stop.ensures.step) in
    let t = c.loop-records.invariant.took in
    let u = took_one told told' c.args.cat.now subs a b b' held held1 held' left refl c.step.ensures.feed.stays c.step.ensures.feed.grows one t.0 in
    record {
      known = omega (arith, c.loop-records.invariant.known, c.step.ensures.feed.more);
      place = c.in_ok-stop.ensures.place;
      ahead = step_ahead told' c.args.cat.now subs b b' held1 held' c.args.stream left (c.requires.stream ∙ sym (ap (λ h. h.stream) c.loop-records.invariant.header)) one;
      behind = c.in_ok-stop.ensures.behind;
      lists = c.in_ok-stop.ensures.lists ∙ c.loop-records.invariant.lists;
      catalogue = c.in_ok-stop.ensures.catalogue ∙ c.loop-records.invariant.catalogue;
      header = same_header told' c.args.cat.now subs b b' held1 held' left one ∙ c.loop-records.invariant.header;
      took = (u.0, omega (arith, u.1, t.1));
      kept = c.in_ok-stop.ensures.kept ∙ c.loop-records.invariant.kept;
      called = inr (elim c.loop-records.invariant.called [
        | inl none ↦ (let h = c.in_ok-stop.ensures.called none.0 in omega (arith, h, c.loop-records.invariant.goes.calls))
        | inr rose ↦ omega (arith, rose, c.step.ensures.feed.calls)
      ]);
      goes = goes_then _ _ _ c.loop-records.invariant.goes c.step.ensures.feed;
    }

pub returns-clause-ran : goal.returns-clause-ran
returns-clause-ran g c =
    let t = c.loop-records.invariant.took in
    ran_all (g.F.Feed.state c.loop-records.feed).told c.args.cat.now (map view_subscription c.args.subs.now) (stream_of c.args.self.now) (stream_of c.loop-records.self) (g.V.Deliver.held c.args.to.now) (g.V.Deliver.held c.loop-records.to) c.args.n c.loop-records.records t.0 t.1
    (omega (arith, c.loop-records-test.false, c.loop-records.auto.records-end))

pub returns-in-Some-clause-called : goal.returns-in-Some-clause-called
returns-in-Some-clause-called g c some = elim c.loop-records.invariant.called [
  | inl none ↦ (let h = c.in_ok-stop.ensures.called none.0 in omega (arith, h, c.loop-records.invariant.goes.calls))
  | inr rose ↦ omega (arith, rose, c.step.ensures.feed.calls)
]

pub returns-clause-called : goal.returns-clause-called
returns-clause-called g c some = elim c.loop-records.invariant.called [
  | inl none ↦ absurd (omega (arith, none.1, some, c.loop-records-test.false, c.loop-records.auto.records-end))
  | inr rose ↦ rose
]
