use Rattle.std.proofs.Common.{length, subst, sym, ap, ◌<◌, ◌∙◌}
use Rattle.lt_fair.specs.Windows.{IsPutPlace, stands_at}
use Rattle.lt_fair.proofs.WindowLaws.{insert_there, set_there}
use Rattle.lt_fair.proofs.window.put_listed.Goals as goal

pub returns-then-stands_at-clause-ok : goal.returns-then-stands_at-clause-ok
returns-then-stands_at-clause-ok c =
    let at = c.place_of-at.result in
    let place = subst (λ ws. IsPutPlace c.args.key ws at) c.deref.ensures.value c.place_of-at.ensures in
    let stands = sym (ap (λ ws. stands_at c.args.key ws at) c.deref-2.ensures.value) ∙ sym c.stands_at.ensures.answer ∙ c.if-stands_at.true in
    let within = subst (λ ws. at < length ws) c.deref-2.ensures.value (c.stands_at.ensures.within c.if-stands_at.true) in
    set_there c.args.key c.args.ts c.args.list.now.items at c.index_mut.result.now place within c.index_mut.ensures.value stands

pub returns-in_ok-insert-clause-ok : goal.returns-in_ok-insert-clause-ok
returns-in_ok-insert-clause-ok c =
    let at = c.place_of-at.result in
    let place = subst (λ ws. IsPutPlace c.args.key ws at) c.deref.ensures.value c.place_of-at.ensures in
    let other = sym (ap (λ ws. stands_at c.args.key ws at) c.deref-2.ensures.value) ∙ sym c.stands_at.ensures.answer ∙ c.if-stands_at.false in
    c.in_ok-insert.ensures.items ∙ insert_there c.args.key c.args.ts c.args.list.now.items at place other
