use Rattle.std.proofs.Common.{List, subst, sym}
use Rattle.std.specs.List.{AllByRecursion}
use Rattle.lt_terms.specs.Log.{Change}
use Rattle.lt_pending.specs.Held.{held_in}
use Rattle.tests_stream.proofs.Tested.{IsOther, fresh-without}
use Rattle.tests_stream.proofs.pending.put.Goals as goal

pub put-requires-clause-fresh : goal.put-requires-clause-fresh
put-requires-clause-fresh c =
    let key = c.in_ok-key.key in
    let ts = c.in_ok-change.change.ts in
    let Fresh : List Change → Type 0 = λ cs. AllByRecursion (IsOther key ts) cs in
    subst Fresh (sym c.remove.ensures) (fresh-without key ts (held_in c.args.changes.now))
