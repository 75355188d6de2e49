use Rattle.lt_codecs.proofs.FoundLaws.{finds_one}
use Rattle.lt_codecs.proofs.finds_exactly_one.Goals as goal

pub returns : goal.returns
returns c = finds_one
