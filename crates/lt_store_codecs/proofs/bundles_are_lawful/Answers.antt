-- proofs/bundles_are_lawful/Answers.antt
use Rattle.lt_store_codecs.proofs.BundleLaws.{bundles_lawful}
use Rattle.lt_store_codecs.proofs.bundles_are_lawful.Goals as goal

pub returns : goal.returns
returns c = bundles_lawful
