use Rattle.std.proofs.Common.{map, subst, sym, ◌∙◌, ◌≡◌, []}
use Rattle.std.proofs.lemmas.Bool.{false≢true}
use Rattle.std.specs.List.{AllByRecursion}
use Rattle.lt_manifest.specs.View.{view_stream}
use Rattle.lt_replica.proofs.OpeningLaws.{points_at}
use Rattle.lt_replica.proofs.opening.have_no_points.Goals as goal

pub returns-then-not-is_empty-clause-some : goal.returns-then-not-is_empty-clause-some
returns-then-not-is_empty-clause-some c = λ e all. false≢true (sym c.if-not-is_empty.true ∙ c.is_empty.ensures.1 (points_at c.as_slice-stream-items.result.now c.loop-stream.stream-index c.stream-item.result c.loop-stream-test.true c.stream-item.is
    (subst (λ ys. AllByRecursion (λ s. s.points ≡ []) (map view_stream ys)) (sym c.as_slice-stream-items.ensures) all)))
