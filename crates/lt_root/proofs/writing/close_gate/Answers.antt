use Rattle.std.proofs.Common.{inl, refl}
use Rattle.lt_disk.specs.Within.{IsWithin}
use Rattle.lt_disk.proofs.Moments.{Device, joined, still}
use Rattle.lt_root.specs.Steps.{IsClosing}
use Rattle.lt_root.proofs.Gates.{closing, open_read}
use Rattle.lt_root.proofs.writing.close_gate.Given as given
use Rattle.lt_root.proofs.writing.close_gate.Goals as goal

abbrev device : (g : given.Over) → Device g.row.D.Denot
device g = record {
  state = g.D.Disk.state;
  counts_now = g.met.D.Disk.counts_now;
  only_now = g.met.D.Disk.only_now;
  reads_an_image = g.met.D.Disk.reads_an_image;
}

pub returns-clause-images : goal.returns-clause-images
returns-clause-images g c =
    let v = device g in
    let old = c.args.disk.now in
    let mid = c.read_at.new.self in
    let gate = open_read (v.state old).told c.args.slot c.place_of_gate.result c.read_at.new.buf c.place_of_gate.ensures c.read_at.auto.buf c.in-Ok.ensures.bytes c.if-gate.false in
    joined v old mid c.put.new.disk (v.state old).leaves (IsWithin (v.state mid) c.place_of_gate-2.result 1) (IsClosing (v.state old) c.args.slot)
    (still v old mid (v.state old).leaves (λ image left. left) c.read_at.ensures.called.time c.read_at.ensures.crash) c.put.ensures.images
    (λ image left. (image, left, inl refl))
    (λ image within. closing (v.state old) (v.state mid) c.args.slot c.place_of_gate-2.result 1 image c.read_at.ensures.crash gate c.place_of_gate-2.ensures refl within)

pub returns-in_err-put-clause-images : goal.returns-in_err-put-clause-images
returns-in_err-put-clause-images g c =
    let v = device g in
    let old = c.args.disk.now in
    let mid = c.read_at.new.self in
    let gate = open_read (v.state old).told c.args.slot c.place_of_gate.result c.read_at.new.buf c.place_of_gate.ensures c.read_at.auto.buf c.in-Ok.ensures.bytes c.if-gate.false in
    joined v old mid c.put.new.disk (v.state old).leaves (IsWithin (v.state mid) c.place_of_gate-2.result 1) (IsClosing (v.state old) c.args.slot)
    (still v old mid (v.state old).leaves (λ image left. left) c.read_at.ensures.called.time c.read_at.ensures.crash) c.put.ensures.images
    (λ image left. (image, left, inl refl))
    (λ image within. closing (v.state old) (v.state mid) c.args.slot c.place_of_gate-2.result 1 image c.read_at.ensures.crash gate c.place_of_gate-2.ensures refl within)
