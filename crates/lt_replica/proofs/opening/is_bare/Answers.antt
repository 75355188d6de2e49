use Rattle.std.proofs.Common.{sym, ◌∙◌}
use Rattle.std.proofs.lemmas.Bool.{false≢true}
use Rattle.lt_replica.proofs.OpeningLaws.{deltas_none}
use Rattle.lt_replica.proofs.opening.is_bare.Goals.{else-manifest-eq0, then-manifest-eq0}
use Rattle.lt_replica.proofs.opening.is_bare.Goals as goal

pub returns-else-is_empty-clause-laden : goal.returns-else-is_empty-clause-laden
returns-else-is_empty-clause-laden c = λ e bare. elim c.if-manifest-eq0.branch [
  | then-manifest-eq0 w ↦ false≢true (sym e ∙ w.value-is ∙ w.is_empty.ensures.1 (deltas_none c.args.manifest.now.deltas bare.deltas))
  | else-manifest-eq0 w ↦ w.if-manifest-eq0.false bare.minimum
]
