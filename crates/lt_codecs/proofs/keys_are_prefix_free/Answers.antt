use Rattle.lt_codecs.proofs.KeyLaws.{keys_prefix_free}
use Rattle.lt_codecs.proofs.keys_are_prefix_free.Goals as goal

pub returns : goal.returns
returns c = keys_prefix_free
