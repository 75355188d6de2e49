use Rattle.std.proofs.Common.{ap, arith, length, ◌∙◌}
use Rattle.lt_disk.proofs.Moments.{told_at, where_told}
use Rattle.lt_image_laws.proofs.Commit.{manifest_filled}
use Rattle.lt_store.specs.Making.{fresh_manifest}
use Rattle.lt_store.proofs.First.{made}
use Rattle.lt_store.proofs.making.make.Goals as goal

pub write_first-requires : goal.write_first-requires
write_first-requires g c = omega (arith, manifest_filled (fresh_manifest c.args.limit c.args.lows.now), ap length c.in_ok-bytes.ensures, ap length c.as_slice.ensures)

pub returns-clause-made : goal.returns-clause-made
returns-clause-made g c =
    where_told (g.D.Disk.state c.args.disk.now).told _ (λ seen tells hs is image left.
    made c.args.limit hs c.args.lows.now c.as_slice.result.now image is (c.as_slice.ensures ∙ c.in_ok-bytes.ensures)
    (told_at (g.D.Disk.state c.args.disk.now).told seen _ tells c.in_ok-write_first.ensures.made image left))
