use Rattle.std.proofs.Common.{◌≡◌, List, ℕ, take, ◌++◌}
use Rattle.std.specs.Prelude.{IsSome}
use Rattle.std.specs.Io.KnownBytes.{Appends}
use Rattle.lt_world.specs.Object.{BytesGo}
use Rattle.lt_world.specs.Feed.{FeedGoes}
use Rattle.lt_machine.specs.Run.{Moment}
use Rattle.lt_engine.specs.State.{IsFed}
use Rattle.lightning_cli.specs.Serving.{Stands, Unfailed}
use Rattle.lightning_cli.proofs.server.Server.take.Given as goal

abbrev pub invariant-loop-byte : goal.invariant-loop-byte
invariant-loop-byte g l =
    let D = g.D.Disk in
    let F = g.F.Feed in
    let K = g.K.Sink in
    record {
      fed : IsFed l.self.replica (F.state l.feed);
      disk : l.disk ≡ l.fn.disk;
      feed : FeedGoes (F.state l.fn.feed) (F.state l.feed);
      out : BytesGo (K.state l.fn.out) (K.state l.out);
      unfailed : Unfailed (K.state l.fn.out) (K.state l.out);
      stands : (m : Moment) (before written : List ℕ) → IsSome (K.state l.fn.out).told → Stands m before written (D.state l.fn.disk) (F.state l.fn.feed) l.fn.self
          → (more : List ℕ) × Appends (K.state l.fn.out).told (K.state l.out).told more
          × Stands m (before ++ take l.byte-index l.bytes) (written ++ more) (D.state l.disk) (F.state l.feed) l.self;
    }
