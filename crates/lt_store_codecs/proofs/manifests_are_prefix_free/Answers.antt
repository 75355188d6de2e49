use Rattle.lt_store_codecs.proofs.ManifestLaws.{prefix_free}
use Rattle.lt_store_codecs.proofs.manifests_are_prefix_free.Goals as goal

pub returns : goal.returns
returns c = prefix_free
