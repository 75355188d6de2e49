use Rattle.std.proofs.Common.{false}
use Rattle.lt_world.specs.Disk.{with_bytes}
use Rattle.lt_disk.proofs.Moments.{Device, told_at}
use Rattle.lt_delta.proofs.Writes.{failed, told_written, wrote}
use Rattle.lt_root.specs.Steps.{KeepsOthers, KeepsRoot}
use Rattle.lt_store.proofs.Replacing.{may_commit, not_written, replaced, side_of, some_there}
use Rattle.lt_store.proofs.committing.replace.Given as given
use Rattle.lt_store.proofs.committing.replace.Goals as goal

abbrev device : (g : given.Over) → Device g.row.D.Denot
device g = record { state = g.D.Disk.state; counts_now = g.met.D.Disk.counts_now; only_now = g.met.D.Disk.only_now; reads_an_image = g.met.D.Disk.reads_an_image }

pub returns-in-Err-clause-leads : goal.returns-in-Err-clause-leads
returns-in-Err-clause-leads g c = record {
  placed = false;
  each = λ going w.
      let v = device g in
      let old = c.args.disk.now in
      let mid = c.write_at.new.self in
      let images = (failed v old mid c.args.extent c.args.bytes.now w.size c.write_at.ensures.crash c.write_at.ensures.called.time c.write_at.ensures.called.stays c.in-Err.ensures.bytes).images in
      not_written v old mid c.args.root.now c.args.extent c.args.bytes.now going w images;
}

pub returns-in-Ok-clause-leads : goal.returns-in-Ok-clause-leads
returns-in-Ok-clause-leads g c =
    let before = (device g).state c.write_at.new.self in
    let now = (device g).state c.try_commit.new.disk in
    let root = c.args.root.now in
    let place = c.args.extent.place in
    let len = c.args.extent.length in
    let side = side_of (KeepsRoot before now root place len) (KeepsOthers before now root place len) c.try_commit.result c.try_commit.ensures.torn in
    record {
      placed = side.0;
      each = λ going w.
          let v = device g in
          let old = c.args.disk.now in
          let mid = c.write_at.new.self in
          let root = c.args.root.now in
          let e = c.args.extent in
          let bytes = c.args.bytes.now in
          let there = some_there (v.state old).told w.tells in
          let seen = with_bytes there.0 e.place bytes in
          let images = (wrote v old mid e bytes w.size c.write_at.ensures.crash c.write_at.ensures.called.time c.write_at.ensures.called.stays c.in-Ok.ensures.bytes).images in
          let tells = told_at (v.state old).told there.0 _ there.1 (told_written (v.state old).told (v.state mid).told e.place bytes c.write_at.ensures.called.stays c.in-Ok.ensures.bytes) in
          let may = may_commit v old mid root e bytes going w images there.0 there.1 tells in
          replaced v old mid root e bytes going w images there.0 there.1 tells c.try_commit.new.disk c.try_commit.ensures.images
          (told_at (v.state mid).told seen _ tells c.try_commit.ensures.any_moment may.0 may.1 may.2) c.try_commit.result side.0
          (told_at (v.state mid).told seen _ tells c.try_commit.ensures.acknowledged may.0 may.1 may.2)
          (told_at (v.state mid).told seen _ tells c.try_commit.ensures.unwritten may.0 may.1 may.2)
          side.1
          c.try_commit.ensures.others c.try_commit.ensures.stable;
    }
