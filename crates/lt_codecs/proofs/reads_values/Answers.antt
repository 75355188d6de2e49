use Rattle.lt_codecs.proofs.FoundLaws.{reads_value}
use Rattle.lt_codecs.proofs.reads_values.Goals as goal

pub returns : goal.returns
returns c = reads_value
