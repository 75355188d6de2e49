use Rattle.std.proofs.Common.{refl, rules, ◌≡◌}
use Rattle.lt_disk.proofs.Images.{torn_held, unnoted_follows}
use Rattle.lt_disk.proofs.mem_disk.MemDiskDisk.write_at.Goals as goal

pub returns-then-is_err-clause-bytes : goal.returns-then-is_err-clause-bytes
returns-then-is_err-clause-bytes c =
    let old = c.args.self.now in
    torn_held _ _ old.content.first _ _ old.history old.replays old.bytes refl

pub returns-then-is_err-clause-crash : goal.returns-then-is_err-clause-crash
returns-then-is_err-clause-crash c =
    let old = c.args.self.now in
    let unnoted : c.note_write.new.history ≡ old.history = search rules in
    unnoted_follows _ _ old.content.first _ old.history _ old.bytes refl unnoted

pub returns-else-is_err-clause-bytes : goal.returns-else-is_err-clause-bytes
returns-else-is_err-clause-bytes c =
    let old = c.args.self.now in
    torn_held _ _ old.content.first _ _ old.history old.replays old.bytes refl

pub returns-then-is_err-2-clause-bytes : goal.returns-then-is_err-2-clause-bytes
returns-then-is_err-2-clause-bytes c =
    let old = c.args.self.now in
    let same : c.write.new.content.now ≡ old.content.now = search rules in
    torn_held _ _ old.content.first _ _ old.history old.replays old.bytes same

pub returns-then-is_err-2-clause-crash : goal.returns-then-is_err-2-clause-crash
returns-then-is_err-2-clause-crash c =
    let old = c.args.self.now in
    let unnoted : c.write.new.history ≡ old.history = search rules in
    unnoted_follows _ _ old.content.first _ old.history _ old.bytes c.write.ensures.first unnoted
