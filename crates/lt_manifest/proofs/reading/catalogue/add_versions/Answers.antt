use Rattle.std.proofs.Common.{ap, arith, ◌+◌}
use Rattle.lt_manifest.specs.Reading.{table_read}
use Rattle.lt_manifest.proofs.Adding.{goes_on, stops}
use Rattle.lt_manifest.proofs.reading.catalogue.add_versions.Goals as goal

pub returns-then-not-branch : goal.returns-then-not-branch
returns-then-not-branch c = stops (table_read c.args.number c.args.name.now c.args.key.now c.args.versions.now) c.loop-read.version c.loop-read.read-index c.args.versions.now c.read-item.result _ _ _ c.in_ok-add_one.field-0 (omega (arith, c.loop-read-test.true)) c.read-item.is c.if-not-branch.true c.in_ok-add_one.ensures c.loop-read.invariant.1

pub loop-read-preserved : goal.loop-read-preserved
loop-read-preserved c = (
  ap (λ n. n + 1) c.loop-read.invariant.0,
  goes_on (table_read c.args.number c.args.name.now c.args.key.now c.args.versions.now) c.loop-read.version c.loop-read.read-index c.args.versions.now c.read-item.result _ _ _ c.in_ok-add_one.field-0 (omega (arith, c.loop-read-test.true)) c.read-item.is c.if-not-branch.false c.in_ok-add_one.ensures c.loop-read.invariant.1,
)
