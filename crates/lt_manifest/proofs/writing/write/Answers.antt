use Rattle.lt_store_codecs.proofs.ManifestLaws.{decides}
use Rattle.lt_manifest.specs.View.{view_manifest}
use Rattle.lt_manifest.proofs.writing.write.Goals as goal

pub put_manifest-requires : goal.put_manifest-requires
put_manifest-requires c = ((decides (view_manifest c.args.manifest.now)).0 c.requires).0
