use Rattle.std.proofs.Common.{arith, inl, inr, refl, subst, sym, ◌∙◌}
use Rattle.lt_pump.specs.Reads.{left_of}
use Rattle.lt_records.specs.Reading.{NothingElse}
use Rattle.lt_records.specs.View.{view_found}
use Rattle.lt_pump.proofs.FeedLaws.{goes_itself, goes_then}
use Rattle.lt_pump.proofs.ReadLaws.{found_in_none, found_short, found_there, more_ahead, whole_of}
use Rattle.lt_terms.specs.declared.Format.TheVariants as format
use Rattle.lt_terms.specs.Log.{IsFound, partial}
use Rattle.lt_pump.proofs.reading.find.Goals as goal

pub loop-ahead-init : goal.loop-ahead-init
loop-ahead-init g c = record {
  known = c.requires.known;
  place = c.requires.place;
  reads = c.requires.ahead;
  kept = refl;
  called = inl refl;
  goes = goes_itself _;
}

pub returns-in_err-more-in-Partial-clause-feed : goal.returns-in_err-more-in-Partial-clause-feed
returns-in_err-more-in-Partial-clause-feed g c = goes_then _ _ _ c.loop-ahead.invariant.goes c.more.ensures.feed

pub returns-then-not-branch-clause-feed : goal.returns-then-not-branch-clause-feed
returns-then-not-branch-clause-feed g c = goes_then _ _ _ c.loop-ahead.invariant.goes c.more.ensures.feed

pub returns-then-not-branch-clause-found : goal.returns-then-not-branch-clause-found
returns-then-not-branch-clause-found g c =
    found_short (g.F.Feed.state c.more.new.feed).told c.args.stream c.args.offset (left_of c.loop-ahead.ahead) (left_of c.more.new.ahead) c.left.result.now c.in_ok-found.found _ c.in-Partial.is c.left.ensures c.in_ok-found.ensures.found
    c.if-not-branch.true c.in_ok-more-in-Partial.ensures.more

pub returns-then-not-branch-clause-only : goal.returns-then-not-branch-clause-only
returns-then-not-branch-clause-only g c =
    subst (λ b. NothingElse b partial) (c.left.ensures ∙ sym (c.in_ok-more-in-Partial.ensures.same c.if-not-branch.true)) (subst (λ x. NothingElse c.left.result.now (view_found x)) c.in-Partial.is c.in_ok-found.ensures.only)

pub returns-in_default : goal.returns-in_default
returns-in_default g c = record {
  place = c.loop-ahead.invariant.place;
  found = found_there (g.F.Feed.state c.loop-ahead.feed).told c.args.stream c.args.offset (left_of c.loop-ahead.ahead) c.left.result.now c.in_ok-found.found c.in_default.not-Partial c.left.ensures c.in_ok-found.ensures.found c.loop-ahead.invariant.reads;
  whole = whole_of (left_of c.loop-ahead.ahead) (view_found c.in_ok-found.found) (subst (λ b. IsFound format.One b (view_found c.in_ok-found.found)) c.left.ensures c.in_ok-found.ensures.found);
  only = subst (λ b. NothingElse b (view_found c.in_ok-found.found)) c.left.ensures c.in_ok-found.ensures.only;
  fault = λ e. absurd cc;
  kept = c.loop-ahead.invariant.kept;
  lacks = λ e. c.loop-ahead.invariant.kept;
  called = λ none. elim c.loop-ahead.invariant.called [
    | inl same ↦ absurd (found_in_none c.in_ok-found.found c.in_default.not-Partial (subst (λ b. IsFound format.One b (view_found c.in_ok-found.found)) (c.left.ensures ∙ same ∙ none) c.in_ok-found.ensures.found))
    | inr rose ↦ rose
  ];
  feed = c.loop-ahead.invariant.goes;
}

pub loop-ahead-preserved : goal.loop-ahead-preserved
loop-ahead-preserved g c = record {
  known = omega (arith, c.loop-ahead.invariant.known, c.more.ensures.feed.more);
  place = c.in_ok-more-in-Partial.ensures.place;
  reads = more_ahead (g.F.Feed.state c.more.new.feed).told c.args.stream c.args.offset (left_of c.loop-ahead.ahead) (left_of c.more.new.ahead) _ c.if-not-branch.false c.in_ok-more-in-Partial.ensures.more;
  kept = c.in_ok-more-in-Partial.ensures.kept ∙ c.loop-ahead.invariant.kept;
  called = inr (let h = c.in_ok-more-in-Partial.ensures.called in omega (arith, h, c.loop-ahead.invariant.goes.calls));
  goes = goes_then _ _ _ c.loop-ahead.invariant.goes c.more.ensures.feed;
}
