use Rattle.std.proofs.Common.{sym, ap, ◌∙◌, subst, arith, take, ◌++◌}
use Rattle.std.proofs.Math.Seq.{take-add}
use Rattle.std.specs.Io.KnownBytes.{Appends}
use Rattle.lightning_log.proofs.WriteLaws.{appends_then}
use Rattle.lightning_log.proofs.output.put.Goals as goal

pub loop-at-preserved : goal.loop-at-preserved
loop-at-preserved g c =
    let i = c.loop-at.invariant in
    let e = c.in_ok-at.ensures in
    let s = c.split_at.ensures in
    record {
      within = omega (arith, e.bound.1, s.back_len);
      written = subst (λ t. Appends (g.K.Sink.state c.args.out.now).told (g.K.Sink.state c.write.new.self).told t)
          (ap (λ b. take c.loop-at.at c.args.bytes.now ++ take c.in_ok-at.field-0 b) s.back ∙ sym (take-add c.loop-at.at c.in_ok-at.field-0 c.args.bytes.now))
          (appends_then _ _ _ (take c.loop-at.at c.args.bytes.now) (take c.in_ok-at.field-0 c.split_at.result.1.now) i.written e.bytes);
    }
