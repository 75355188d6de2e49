use Rattle.lt_store_codecs.proofs.KindLaws.{kinds_apart}
use Rattle.lt_store_codecs.proofs.kinds_are_prefix_free.Goals as goal

pub returns : goal.returns
returns c = kinds_apart
