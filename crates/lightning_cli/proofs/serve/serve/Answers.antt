use Rattle.std.proofs.Common.{sym, subst, ◌∙◌, arith, refl}
use Rattle.lt_engine.specs.State.{IsFed}
use Rattle.lt_pump.proofs.FeedLaws.{goes_itself, goes_then}
use Rattle.lightning_cli.proofs.EndLaws.{script_then}
use Rattle.lightning_cli.proofs.OutLaws.{bytes_stay, bytes_then, gone_then, none_gone, out_then, over_gone, unfailed_itself, unfailed_then}
use Rattle.lightning_cli.proofs.ServeLaws.{begins}
use Rattle.lightning_cli.proofs.serve.serve.Goals as goal

pub loop-init : goal.loop-init
loop-init g c =
    let e = c.new-server.ensures in
    record {
      short = omega arith;
      turns = omega arith;
      written = e.replies;
      fed = subst (λ r. IsFed r (g.F.Feed.state c.args.feed.now)) (sym e.replica) c.requires.fed;
      disk = refl;
      feed = goes_itself _;
      script = bytes_stay _;
      out = bytes_stay _;
      taken = none_gone _;
      script_unfailed = unfailed_itself _;
      out_unfailed = unfailed_itself _;
      serving = λ m old tells feed counts stands. begins m old _ c.args.replica _ tells feed counts stands e.replica e.replies e.line;
    }

pub loop-preserved : goal.loop-preserved
loop-preserved g c =
    let i = c.loop.invariant in
    let e = c.in-More.ensures in
    let goes = c.take_piece.ensures.goes in
    record {
      short = e.more.1;
      turns = omega (arith, i.turns, e.more.0);
      written = e.more.2;
      fed = e.fed;
      disk = goes.0 ∙ i.disk;
      feed = goes_then _ _ _ i.feed goes.1;
      script = bytes_then _ _ _ i.script goes.2;
      out = bytes_then _ _ _ i.out goes.3;
      taken = gone_then _ _ _ _ _ i.script.stays i.taken e.taken;
      script_unfailed = unfailed_then _ _ _ i.script_unfailed e.unfailed.0;
      out_unfailed = unfailed_then _ _ _ i.out_unfailed e.unfailed.1;
      serving = λ m old tells feed counts stands. e.serves m old (i.serving m old tells feed counts stands);
    }

pub returns-in-Over-clause-served : goal.returns-in-Over-clause-served
returns-in-Over-clause-served g c m old tells feed counts stands = c.in-Over.ensures.serves m old (c.loop.invariant.serving m old tells feed counts stands)

pub returns-in-Over-clause-script_over : goal.returns-in-Over-clause-script_over
returns-in-Over-clause-script_over g c = script_then _ _ _ _ c.loop.invariant.script_unfailed c.in-Over.ensures.script_over

pub returns-in-Over-clause-out_over : goal.returns-in-Over-clause-out_over
returns-in-Over-clause-out_over g c = out_then _ _ _ _ c.loop.invariant.out_unfailed c.in-Over.ensures.out_over

pub returns-in-Over-clause-too_long : goal.returns-in-Over-clause-too_long
returns-in-Over-clause-too_long g c e = over_gone _ _ _ c.loop.invariant.script.stays c.loop.invariant.taken (c.in-Over.ensures.too_long e)

pub returns-in-Over-clause-statuses : goal.returns-in-Over-clause-statuses
returns-in-Over-clause-statuses g c = c.in-Over.ensures.statuses

pub returns-in-Over-clause-goes : goal.returns-in-Over-clause-goes
returns-in-Over-clause-goes g c =
    let i = c.loop.invariant in
    let goes = c.take_piece.ensures.goes in
    (goes.0 ∙ i.disk, goes_then _ _ _ i.feed goes.1, bytes_then _ _ _ i.script goes.2, bytes_then _ _ _ i.out goes.3)
