use Rattle.lt_store_codecs.proofs.BundleLaws.{one_list}
use Rattle.lt_store_codecs.proofs.bundles_spell_one_list.Goals as goal

pub returns : goal.returns
returns c = one_list
