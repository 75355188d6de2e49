use Rattle.std.proofs.Common.{rules, subst, sym, ◌≡◌}
use Rattle.lt_disk.specs.Crash.{left_by}
use Rattle.lt_disk.specs.Memory.{disk_held, disk_may_leave}
use Rattle.lt_disk.proofs.Crashes.{left_is_image}
use Rattle.lt_disk.proofs.mem_disk.MemDisk.crash.Goals as goal

pub returns-clause-image : goal.returns-clause-image
returns-clause-image c =
    let disk = c.args.self.now in
    let held : disk_held c.holding.result ≡ left_by c.args.picks.now disk.content.first disk.history = search rules in
    subst (disk_may_leave disk) (sym held) (left_is_image c.args.picks.now disk.content.first disk.history disk.bytes)
