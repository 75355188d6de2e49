use Rattle.std.proofs.Common.{List, ap, refl, subst, sym, ◌∙◌}
use Rattle.lt_pending.specs.Stamps.{AreNamed, changes_in}
use Rattle.lt_pending.proofs.Names.{new-named}
use Rattle.lt_pending.proofs.Puts.{Held, Named, Stamped, put-new-at}
use Rattle.lt_pending.proofs.keys.put_key.Goals as goal

pub returns-clause-ok : goal.returns-clause-ok
returns-clause-ok c = ap changes_in c.in_ok-insert.ensures.entries
    ∙ put-new-at c.args.change c.args.key c.args.keys.now.entries c.in_ok-stamps.stamps c.requires.key c.in_ok-insert.ensures.was_ordered c.requires.named c.requires.absent c.in_ok-stamps.ensures

pub returns-clause-named : goal.returns-clause-named
returns-clause-named c =
    let All : List Held → Type 0 = λ es. AreNamed es in
    let Own : List Stamped → Type 0 = λ ss. Named c.args.key ss in
    subst All (sym c.in_ok-insert.ensures.entries)
    (new-named c.args.key c.in_ok-stamps.stamps c.args.keys.now.entries (subst Own (sym c.in_ok-stamps.ensures) ((sym c.requires.key, refl), tt)) c.requires.named)
