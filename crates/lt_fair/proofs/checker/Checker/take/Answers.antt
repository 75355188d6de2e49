use Rattle.std.proofs.Common.{subst, sym}
use Rattle.std.specs.Prelude.{OnOk, [], ◌++◌, ◌∷◌}
use Rattle.lt_records.specs.View.{view_item}
use Rattle.lt_fair.specs.Faults.{Answers, HasTaken}
use Rattle.lt_fair.specs.View.{header_of, point_in}
use Rattle.lt_fair.proofs.FaultParts.{by_point, not_shut, taken_on_ok}
use Rattle.lt_fair.proofs.checker.Checker.take.Goals as goal

pub returns-clause-by_point : goal.returns-clause-by_point
returns-clause-by_point c = subst (λ o. Answers o c.step.result) (sym (not_shut (header_of c.args.self.now) c.args.cat.now (point_in c.args.self.now) (view_item c.args.item.now))) c.step.ensures.answer

pub returns-clause-by_list : goal.returns-clause-by_list
returns-clause-by_list c items t =
    let h = header_of c.args.self.now in
    let p = point_in c.args.self.now in
    let i = view_item c.args.item.now in
    subst (λ o. Answers o c.step.result) (by_point h c.args.cat.now p i items t) (returns-clause-by_point c)

pub returns-clause-taken : goal.returns-clause-taken
returns-clause-taken c items t =
    let h = header_of c.args.self.now in
    subst (λ h. OnOk c.step.result (HasTaken h c.args.cat.now (point_in c.step.new.self) (items ++ view_item c.args.item.now ∷ []))) (sym c.step.ensures.header)
    (taken_on_ok h c.args.cat.now (point_in c.args.self.now) (point_in c.step.new.self) items c.args.item.now c.step.result t (returns-clause-by_point c) c.step.ensures.next)
