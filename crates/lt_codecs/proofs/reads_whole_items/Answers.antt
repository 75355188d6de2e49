use Rattle.lt_codecs.proofs.FoundLaws.{reads_whole}
use Rattle.lt_codecs.proofs.reads_whole_items.Goals as goal

pub returns : goal.returns
returns c = reads_whole
