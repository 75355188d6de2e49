use Rattle.std.proofs.Common.{ap, cond, sym, ◌∙◌, ◌≡◌}
use Rattle.lt_tables.specs.Fair.{window_ts}
use Rattle.lt_fair.specs.Windows.{is_above, keys_above}
use Rattle.lt_fair.proofs.AboveLaws.{ts_above}
use Rattle.lt_fair.proofs.above.KeysAbove.last_of.Goals as goal

pub returns-then-is_above : goal.returns-then-is_above
returns-then-is_above c =
    let last = c.unwrap_or-last.result in
    let counts = sym c.is_above.ensures ∙ c.if-is_above.true in
    let found = ts_above c.self.inside.bound c.args.key.now c.self.inside.map.entries c.copied.result last c.self.invariant (c.copied.ensures ∙ c.get.ensures.value) c.unwrap_or-last.ensures in
    sym (ap (window_ts c.args.key.now) (sym c.self.view_is) ∙ found ∙ ap (λ b. cond b last 0) counts)

pub returns-else-is_above : goal.returns-else-is_above
returns-else-is_above c =
    let last = c.unwrap_or-last.result in
    let counts = sym c.is_above.ensures ∙ c.if-is_above.false in
    let found = ts_above c.self.inside.bound c.args.key.now c.self.inside.map.entries c.copied.result last c.self.invariant (c.copied.ensures ∙ c.get.ensures.value) c.unwrap_or-last.ensures in
    sym (ap (window_ts c.args.key.now) (sym c.self.view_is) ∙ found ∙ ap (λ b. cond b last 0) counts)
