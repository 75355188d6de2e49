use Rattle.lightning_log.specs.Writing.{IsWriting}
use Rattle.lightning_log.proofs.writing.write.Given as goal

abbrev pub invariant-loop : goal.invariant-loop
invariant-loop g l =
    let S = g.S.Source in
    let K = g.K.Sink in
    IsWriting (S.state l.fn.input).told (S.state l.input).told (K.state l.fn.out).told (K.state l.out).told l.encoder
