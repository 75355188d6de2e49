use Rattle.lt_store_codecs.proofs.IndexLaws.{decides}
use Rattle.lt_store_codecs.proofs.decides_indexes.Goals as goal

pub returns : goal.returns
returns c = decides
