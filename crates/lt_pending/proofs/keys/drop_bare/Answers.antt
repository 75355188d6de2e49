use Rattle.std.proofs.Common.{List, ap, subst, sym, ◌∙◌}
use Rattle.std.specs.BTreeMap.{is_at}
use Rattle.std.specs.List.{AllByRecursion}
use Rattle.lt_terms.specs.Key.{bytes_cmp}
use Rattle.lt_pending.specs.Stamps.{AreNamed, IsNamed, changes_in}
use Rattle.lt_pending.proofs.Names.{removed-all}
use Rattle.lt_pending.proofs.Puts.{Held}
use Rattle.lt_pending.proofs.Takes.{drop-bare}
use Rattle.lt_pending.proofs.keys.drop_bare.Goals as goal

pub returns-then-is_bare-clause-changes : goal.returns-then-is_bare-clause-changes
returns-then-is_bare-clause-changes c = ap changes_in c.remove.ensures.entries
    ∙ drop-bare (is_at (bytes_cmp c.args.key.now)) c.args.keys.now.entries (c.is_bare.ensures.bare c.if-is_bare.true)

pub returns-then-is_bare-clause-named : goal.returns-then-is_bare-clause-named
returns-then-is_bare-clause-named c =
    let All : List Held → Type 0 = λ es. AreNamed es in
    subst All (sym c.remove.ensures.entries) (removed-all (λ e. AllByRecursion (IsNamed e.0) e.1.entries) (is_at (bytes_cmp c.args.key.now)) c.args.keys.now.entries c.requires)
