use Rattle.lt_codecs.proofs.FoundLaws.{decides_whole}
use Rattle.lt_codecs.proofs.decides_whole_items.Goals as goal

pub returns : goal.returns
returns c = decides_whole
