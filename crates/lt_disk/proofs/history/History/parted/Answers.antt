use Rattle.std.proofs.Common.{[], ap, arith, drop, reverse, sym, take, ◌∙◌, ◌≡◌}
use Rattle.lt_disk.specs.Crash.{since_sync}
use Rattle.lt_disk.proofs.Crashes.{none_at_sync, only_since}
use Rattle.lt_disk.proofs.history.History.parted.Goals as goal
use Rattle.lt_disk.proofs.history.History.parted.Goals.{then-loop-start-test+else-is_write, else-loop-start-test}

pub returns-clause-since : goal.returns-clause-since
returns-clause-since c =
    let events = c.as_slice-events.result.now in
    let start = c.loop-start.start in
    let none : since_sync (reverse (take start events)) ≡ [] = elim c.loop-start-test.branch [
      | then-loop-start-test+else-is_write w ↦
          none_at_sync events start w.index-events-start.result w.loop-start-test.true c.loop-start.invariant.within w.index-events-start.is (sym w.is_write.ensures ∙ w.if-is_write.false)
      | else-loop-start-test w ↦ ap (λ n. since_sync (reverse (take n events))) (let e : start ≡ 0 = omega (arith, w.loop-start-test.false) in e)
    ] in
    let since : since_sync (reverse events) ≡ reverse (drop start events) = only_since events start c.loop-start.invariant.since none in
    cc
