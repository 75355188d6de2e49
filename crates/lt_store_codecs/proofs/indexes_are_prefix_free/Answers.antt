use Rattle.lt_store_codecs.proofs.IndexLaws.{prefix_free}
use Rattle.lt_store_codecs.proofs.indexes_are_prefix_free.Goals as goal

pub returns : goal.returns
returns c = prefix_free
