use Rattle.std.proofs.Common.{length}
use Rattle.lt_disk.proofs.Moments.{Device}
use Rattle.lt_root.proofs.Puts.{put_images, put_reads}
use Rattle.lt_root.proofs.writing.put.Given as given
use Rattle.lt_root.proofs.writing.put.Goals as goal

abbrev device : (g : given.Over) → Device g.row.D.Denot
device g = record { state = g.D.Disk.state; counts_now = g.met.D.Disk.counts_now; only_now = g.met.D.Disk.only_now; reads_an_image = g.met.D.Disk.reads_an_image }

pub returns-clause-images : goal.returns-clause-images
returns-clause-images g c = put_images (device g) c.args.disk.now c.write_at.new.self c.sync.new.self c.args.place (length c.args.bytes.now) c.write_at.ensures.crash c.write_at.ensures.called.time c.sync.ensures.called.time c.sync.ensures.crash

pub returns-clause-reads : goal.returns-clause-reads
returns-clause-reads g c = put_reads (g.D.Disk.state c.args.disk.now) (g.D.Disk.state c.write_at.new.self) (g.D.Disk.state c.sync.new.self) c.args.place c.args.bytes.now c.write_at.ensures.called.stays c.in_ok-write_at.ensures.bytes c.sync.ensures.same
