use Rattle.std.proofs.Common.{ap, arith, length, rules, ◌<◌, ◌^◌, ◌≡◌}
use Rattle.std.specs.Prelude.{filter, not, ◌≤◌}
use Rattle.lt_terms.specs.Key.{below}
use Rattle.lt_terms.specs.Log.{change_key}
use Rattle.lt_pending.specs.Stamps.{changes_in}
use Rattle.lt_pending.proofs.Splits.{upper-length}
use Rattle.lt_pending.proofs.changes.Changes.upper_of.Goals as goal

pub count_in-count-requires : goal.count_in-count-requires
count_in-count-requires c =
    let all = changes_in c.args.self.now.keys.entries in
    let had : c.args.self.now.count ≡ length all = c.args.self.now.counted in
    let few : c.args.self.now.count < 2 ^ 64 = search rules in
    let copied : length (changes_in c.in_ok-keys.keys.entries) ≡ length (filter (λ d. not (below (change_key d) c.args.key.now)) all) = ap length c.in_ok-keys.ensures.changes in
    let part : length (filter (λ d. not (below (change_key d) c.args.key.now)) all) ≤ length all = upper-length c.args.key.now all in
    omega (arith, had, few, copied, part)
