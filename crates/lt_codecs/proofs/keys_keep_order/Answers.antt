use Rattle.lt_codecs.proofs.KeyLaws.{keeps_order}
use Rattle.lt_codecs.proofs.keys_keep_order.Goals as goal

pub returns : goal.returns
returns c = keeps_order
