use Rattle.lt_codecs.proofs.LogLaws.{values_prefix_free}
use Rattle.lt_codecs.proofs.values_are_prefix_free.Goals as goal

pub returns : goal.returns
returns c = values_prefix_free
