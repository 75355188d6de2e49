use Rattle.lt_lemmas.proofs.PointLaws.{point_suffices}
use Rattle.lt_theorems.proofs.point_suffices.Goals as goal

pub returns : goal.returns
returns c = point_suffices
