use Rattle.std.proofs.Common.{rules, ◌∷◌, ◌≡◌}
use Rattle.lt_disk.specs.declared.history.Event.TheVariants.{Sync}
use Rattle.lt_disk.proofs.Images.{synced}
use Rattle.lt_disk.proofs.mem_disk.MemDiskDisk.sync.Goals as goal

pub returns-clause-crash : goal.returns-clause-crash
returns-clause-crash c =
    let old = c.args.self.now in
    let noted : c.note.new.self ≡ Sync ∷ old.history = search rules in
    synced old.content.first old.history c.note.new.self old.bytes noted
