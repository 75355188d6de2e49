use Rattle.lt_store_codecs.proofs.ManifestLaws.{decides}
use Rattle.lt_store_codecs.proofs.decides_manifests.Goals as goal

pub returns : goal.returns
returns c = decides
