use Rattle.std.proofs.Common.{ap, arith, map, ◌∙◌, ◌≡◌}
use Rattle.std.proofs.lemmas.List.{take_all}
use Rattle.lt_core.specs.View.{view_row}
use Rattle.lt_pending.specs.Held.{held_in}
use Rattle.lt_rows.proofs.MapViews.{if_ok}
use Rattle.lt_rows.specs.View.{view_changes}
use Rattle.lt_schema.specs.View.{view_version}
use Rattle.lt_steps.specs.Memory.{gone_over}
use Rattle.lt_replica.specs.State.{memory_of}
use Rattle.lt_replica.proofs.ScanLaws.{reads_held}
use Rattle.lt_replica.proofs.replica.Replica.rows_of.Goals as goal

pub returns : goal.returns
returns c =
    let r = c.args.self.now in
    let parts = c.deref-part-items.result.now in
    let all : view_changes c.as_slice.result.now ≡ gone_over (memory_of r) = ap view_changes c.as_slice.ensures.value ∙ c.loop-part.invariant
    ∙ ap (λ ps. gone_over (map held_in ps)) (take_all c.loop-part.part-index parts (omega (arith, c.loop-part-test.false)) ∙ c.deref-part-items.ensures.value) in
    if_ok c.rows_at.result (λ rows h. reads_held r (view_version c.args.version.now) c.args.at (view_changes c.as_slice.result.now) (map view_row rows) all h) c.rows_at.ensures
