use Rattle.std.proofs.Common.{refl, ◌∙◌}
use Rattle.lt_rows.proofs.MapViews.{laid_next}
use Rattle.lt_rows.proofs.present.lay_over.Goals as goal

pub loop-number-preserved : goal.loop-number-preserved
loop-number-preserved c =
    laid_next c.loop-number.number-iterator.iter.rest.now c.next.new.self.iter.rest.now c.in-Some.field-0.now c.loop-number.was.entries c.insert.new.self.entries _ c.in-Some.ensures.steps refl c.in_ok-insert.ensures.entries
    ∙ c.loop-number.invariant
