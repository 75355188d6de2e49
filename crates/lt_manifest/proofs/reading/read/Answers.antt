use Rattle.lt_manifest.proofs.Whole.{nothing_else}
use Rattle.lt_manifest.proofs.reading.read.Goals as goal

pub returns-clause-only : goal.returns-clause-only
returns-clause-only c = nothing_else c.args.bytes.now _ c.in_ok-manifest_of.ensures
