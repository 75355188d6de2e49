use Rattle.std.proofs.Common.{arith, length, rules, ◌<◌, ◌^◌, ◌≡◌}
use Rattle.lt_pending.specs.Stamps.{changes_in}
use Rattle.lt_pending.proofs.changes.Changes.keep_below.Goals as goal

pub drop_from-requires-clause-few : goal.drop_from-requires-clause-few
drop_from-requires-clause-few c =
    let had : c.args.self.now.count ≡ length (changes_in c.args.self.now.keys.entries) = c.args.self.now.counted in
    let few : c.args.self.now.count < 2 ^ 64 = search rules in
    omega (arith, had, few)
