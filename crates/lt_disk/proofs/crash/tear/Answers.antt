use Rattle.std.proofs.Common.{ap, slice_get, sym, ◌∙◌}
use Rattle.lt_disk.specs.Crash.{left_of}
use Rattle.lt_disk.proofs.Crashes.{torn_more}
use Rattle.lt_disk.proofs.crash.tear.Goals as goal

pub loop-number-preserved : goal.loop-number-preserved
loop-number-preserved c =
    let picks = c.args.picks.now in
    let number = c.loop-number.number in
    let event = c.index-events-number.result in
    c.in_ok-leave.ensures
    ∙ ap (λ p. left_of p event c.loop-number.image.items) c.pick_at.ensures
    ∙ ap (left_of (slice_get picks number) event) c.loop-number.invariant
    ∙ sym (torn_more picks c.args.events.now number event c.args.image.now.items c.loop-number-test.true c.index-events-number.is)
