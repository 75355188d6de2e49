use Rattle.std.proofs.Common.{ap, arith, refl, ◌+◌}
use Rattle.lt_manifest.proofs.Adding.{retire_ends, retire_on}
use Rattle.lt_manifest.proofs.reading.catalogue.retire_versions.Goals as goal

pub returns-then-not-retire_one : goal.returns-then-not-retire_one
returns-then-not-retire_one c = retire_ends c.args.number c.loop-read.version c.loop-read.read-index c.args.versions.now c.read-item.result _ _ _ c.retire_one.result c.read-item.result.live (omega (arith, c.loop-read-test.true)) c.read-item.is refl c.if-not-retire_one.true c.retire_one.ensures c.loop-read.invariant.1

pub loop-read-preserved : goal.loop-read-preserved
loop-read-preserved c = (
  ap (λ n. n + 1) c.loop-read.invariant.0,
  retire_on c.args.number c.loop-read.version c.loop-read.read-index c.args.versions.now c.read-item.result _ _ _ c.retire_one.result c.read-item.result.live (omega (arith, c.loop-read-test.true)) c.read-item.is refl c.if-not-retire_one.false c.retire_one.ensures c.loop-read.invariant.1,
)
