use Rattle.std.proofs.Common.{arith}
use Rattle.lt_world.specs.Disk.{with_bytes}
use Rattle.lt_disk.proofs.Moments.{Device, told_at, where_told}
use Rattle.lt_delta.proofs.Writes.{told_written}
use Rattle.lt_store.proofs.First.{first_made}
use Rattle.lt_store.proofs.making.write_first.Given as given
use Rattle.lt_store.proofs.making.write_first.Goals as goal

abbrev device : (g : given.Over) → Device g.row.D.Denot
device g = record { state = g.D.Disk.state; counts_now = g.met.D.Disk.counts_now; only_now = g.met.D.Disk.only_now; reads_an_image = g.met.D.Disk.reads_an_image }

pub returns-clause-made : goal.returns-clause-made
returns-clause-made g c =
    let v = device g in
    let old = c.args.disk.now in
    let mid = c.write_at.new.self in
    let new = c.format.new.disk in
    let bytes = c.args.bytes.now in
    where_told (v.state old).told _ (λ seen tells.
    let written = told_at (v.state old).told seen _ tells (told_written (v.state old).told (v.state mid).told 1024 bytes c.write_at.ensures.called.stays c.in_ok-write_at.ensures.bytes) in
    first_made v mid new bytes seen written c.format.ensures.others c.in_ok-format.ensures.stable
    (told_at (v.state mid).told (with_bytes seen 1024 bytes) _ written c.in_ok-format.ensures.made (omega arith) c.requires))
