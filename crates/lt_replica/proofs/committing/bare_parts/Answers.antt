use Rattle.std.proofs.Common.{ap, arith, map, sym, ◌∙◌}
use Rattle.std.specs.Option.{option_copied}
use Rattle.lt_manifest.specs.View.{view_part}
use Rattle.lt_replica.specs.Settling.{part_of_entry}
use Rattle.lt_replica.proofs.CommitLaws.{bare_part}
use Rattle.lt_replica.proofs.StatusLaws.{never_missing, one_more}
use Rattle.lt_replica.proofs.committing.bare_parts.Goals.{in-Some+in_ok-copy+in_ok-push, in_default}
use Rattle.lt_replica.proofs.committing.bare_parts.Goals as goal

pub loop-part-preserved : goal.loop-part-preserved
loop-part-preserved c =
    let es = c.args.map.now in
    let part = c.loop-part.part in
    elim c.match-get.branch [
      | in-Some+in_ok-copy+in_ok-push w ↦ (
          let e = w.in-Some.entry.now in
          ap (map view_part) (w.parts-is ∙ w.in_ok-push.ensures.ok)
          ∙ one_more view_part c.loop-part.parts (record { low = w.in_ok-copy.field-0; resume = e.resume; deltas = w.new.result }) (map part_of_entry es) part c.loop-part.invariant
          (bare_part es part e w.in_ok-copy.field-0 w.new.result (sym c.get.ensures.entry ∙ ap option_copied w.in-Some.is) w.in_ok-copy.ensures w.new.ensures)
          )
      | in_default w ↦ absurd (never_missing es part c.get.result w.in_default.not-Some c.get.ensures.entry (omega (arith, c.loop-part-test.true, c.len-part-end.ensures.count)))
    ]
