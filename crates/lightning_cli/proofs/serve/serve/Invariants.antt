use Rattle.std.proofs.Common.{◌≡◌, ◌≤◌, []}
use Rattle.lt_world.specs.Object.{BytesGo}
use Rattle.lt_world.specs.Feed.{FeedGoes}
use Rattle.lt_machine.specs.Program.{Tells, Told, outside_of}
use Rattle.lt_machine.specs.Run.{Moment, max_script}
use Rattle.lt_engine.specs.State.{IsFed}
use Rattle.lightning_cli.specs.Commands.{StandsIn}
use Rattle.lightning_cli.specs.Serving.{IsServing, IsTaken, Unfailed}
use Rattle.lightning_cli.proofs.serve.serve.Given as goal

abbrev pub invariant-loop : goal.invariant-loop
invariant-loop g l =
    let D = g.D.Disk in
    let F = g.F.Feed in
    let S = g.S.Source in
    let K = g.K.Sink in
    record {
      short : l.count ≤ max_script;
      turns : l.counter ≤ l.count;
      written : l.server.replies.items ≡ [];
      fed : IsFed l.server.replica (F.state l.feed);
      disk : l.disk ≡ l.fn.disk;
      feed : FeedGoes (F.state l.fn.feed) (F.state l.feed);
      script : BytesGo (S.state l.fn.script) (S.state l.script);
      out : BytesGo (K.state l.fn.out) (K.state l.out);
      taken : IsTaken (S.state l.fn.script).told (S.state l.script).told l.count;
      script_unfailed : Unfailed (S.state l.fn.script) (S.state l.script);
      out_unfailed : Unfailed (K.state l.fn.out) (K.state l.out);
      serving : (m : Moment) (old : Told) → Tells (outside_of (D.state l.fn.disk) (F.state l.fn.feed) (S.state l.fn.script) (K.state l.fn.out)) old
          → m.feed ≡ old.feed → m.counts ≡ old.counts → StandsIn (D.state l.fn.disk) m l.fn.replica
          → IsServing m old (outside_of (D.state l.disk) (F.state l.feed) (S.state l.script) (K.state l.out)) l.count [] l.server;
    }
