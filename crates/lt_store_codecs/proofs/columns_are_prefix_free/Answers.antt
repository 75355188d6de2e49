use Rattle.lt_store_codecs.proofs.KindLaws.{columns_apart}
use Rattle.lt_store_codecs.proofs.columns_are_prefix_free.Goals as goal

pub returns : goal.returns
returns c = columns_apart
