use Rattle.std.proofs.Common.{List, ap, length, subst, sym, ◌+◌, ◌∙◌}
use Rattle.std.specs.Prelude.{if◌then◌else◌}
use Rattle.std.specs.BTreeMap.{is_at}
use Rattle.lt_terms.specs.Key.{bytes_cmp}
use Rattle.lt_pending.specs.Stamps.{AreNamed, IsNamed, changes_in, later, stamped}
use Rattle.lt_pending.proofs.Names.{removed-all, set-named}
use Rattle.lt_pending.proofs.Puts.{Held, Named, Stamped}
use Rattle.lt_pending.proofs.Takes.{take-count, take-none, take-old}
use Rattle.lt_pending.proofs.keys.take_from.Goals as goal

pub returns-in-Some-clause-taken : goal.returns-in-Some-clause-taken
returns-in-Some-clause-taken c =
    let n = c.take_stamp.new.stamps in
    ap changes_in (c.get_mut.follows.holds n).0
    ∙ take-old c.args.key.now c.args.ts c.args.keys.now.entries c.in-Some.stamps.now n c.in-Some.ensures.ordered c.requires (sym c.in-Some.ensures.value) c.take_stamp.ensures.ordered c.take_stamp.ensures.taken

pub returns-in-Some-clause-count : goal.returns-in-Some-clause-count
returns-in-Some-clause-count c =
    let n = c.take_stamp.new.stamps in
    ap (λ es. length (changes_in es) + (if c.take_stamp.result then 1 else 0)) (c.get_mut.follows.holds n).0
    ∙ take-count (is_at (bytes_cmp c.args.key.now)) c.args.keys.now.entries c.in-Some.stamps.now n (if c.take_stamp.result then 1 else 0) (sym c.in-Some.ensures.value) c.take_stamp.ensures.count

pub returns-in-Some-clause-named : goal.returns-in-Some-clause-named
returns-in-Some-clause-named c =
    let n = c.take_stamp.new.stamps in
    let All : List Held → Type 0 = λ es. AreNamed es in
    subst All (sym (c.get_mut.follows.holds n).0)
    (set-named (is_at (bytes_cmp c.args.key.now)) c.args.keys.now.entries c.in-Some.stamps.now n (sym c.in-Some.ensures.value)
    (λ k t m. let Own : List Stamped → Type 0 = λ ss. Named k ss in subst Own (sym c.take_stamp.ensures.taken) (removed-all (IsNamed k) (is_at (later (stamped c.args.ts))) c.in-Some.stamps.now.entries m)) c.requires)

pub returns-in-None-clause-taken : goal.returns-in-None-clause-taken
returns-in-None-clause-taken c =
    ap (λ m. changes_in m.entries) c.get_mut.follows.holds-at-none ∙ take-none c.args.key.now c.args.ts c.args.keys.now.entries c.requires (sym c.in-None.ensures.value)
