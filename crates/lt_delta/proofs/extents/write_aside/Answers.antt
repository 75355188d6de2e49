use Rattle.std.proofs.Common.{arith}
use Rattle.lt_disk.proofs.Moments.{Device}
use Rattle.lt_delta.proofs.Writes.{failed, told_written, wrote}
use Rattle.lt_delta.proofs.extents.write_aside.Given as given
use Rattle.lt_delta.proofs.extents.write_aside.Goals as goal

abbrev device : (g : given.Over) → Device g.row.D.Denot
device g = record { state = g.D.Disk.state; counts_now = g.met.D.Disk.counts_now; only_now = g.met.D.Disk.only_now; reads_an_image = g.met.D.Disk.reads_an_image }

pub returns-in-Ok-clause-ok : goal.returns-in-Ok-clause-ok
returns-in-Ok-clause-ok g c =
    let v = device g in
    let old = c.args.disk.now in
    let new = c.write_at.new.self in
    let e = c.in_ok-extent.extent in
    let taken = c.in_ok-extent.ensures.taken in
    record {
      takes = taken;
      writes = wrote v old new e c.args.bytes.now taken.lowest.size c.write_at.ensures.crash c.write_at.ensures.called.time c.write_at.ensures.called.stays c.in-Ok.ensures.bytes;
      told = told_written (v.state old).told (v.state new).told e.place c.args.bytes.now c.write_at.ensures.called.stays c.in-Ok.ensures.bytes;
    }

pub returns-in-Err-clause-refused : goal.returns-in-Err-clause-refused
returns-in-Err-clause-refused g c =
    let e = c.in_ok-extent.extent in
    let lowest = c.in_ok-extent.ensures.taken.lowest in
    record {
      extent = e;
      gap = lowest;
      writes = failed (device g) c.args.disk.now c.write_at.new.self e c.args.bytes.now lowest.size c.write_at.ensures.crash c.write_at.ensures.called.time c.write_at.ensures.called.stays c.in-Err.ensures.bytes;
    }

pub returns-in-Err-clause-err : goal.returns-in-Err-clause-err
returns-in-Err-clause-err g c =
    let taken = c.in_ok-extent.ensures.taken in
    c.give.ensures.undoes c.args.space.now (omega (arith, taken.lowest.size, c.requires)) taken.taken
