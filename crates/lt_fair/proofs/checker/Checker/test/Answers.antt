use Rattle.std.proofs.Common.{subst, sym, ◌∙◌}
use Rattle.lt_records.specs.View.{view_item}
use Rattle.lt_fair.specs.Faults.{Answers}
use Rattle.lt_fair.specs.View.{header_of, point_in}
use Rattle.lt_fair.proofs.FaultParts.{by_point, not_shut}
use Rattle.lt_fair.proofs.checker.Checker.test.Goals as goal

pub returns-clause-by_point : goal.returns-clause-by_point
returns-clause-by_point c = subst (λ o. Answers o c.answer.result) (sym (not_shut (header_of c.args.self.now) c.args.cat.now (point_in c.args.self.now) (view_item c.args.item.now))) c.answer.ensures

pub returns-clause-by_list : goal.returns-clause-by_list
returns-clause-by_list c items t =
    let h = header_of c.args.self.now in
    let p = point_in c.args.self.now in
    let i = view_item c.args.item.now in
    subst (λ o. Answers o c.answer.result) (sym (not_shut h c.args.cat.now p i) ∙ by_point h c.args.cat.now p i items t) c.answer.ensures
