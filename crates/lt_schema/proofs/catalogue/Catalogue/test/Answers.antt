use Rattle.std.proofs.Common.{ap, subst, sym, ◌∙◌}
use Rattle.std.specs.Option.{option_or}
use Rattle.std.proofs.lemmas.Result.{err_from_is_err_and}
use Rattle.lt_tables.specs.Schema.{IsCatalogue}
use Rattle.lt_schema.specs.Faults.{Finds, fault_against, fault_alone, view_refusal}
use Rattle.lt_schema.specs.View.{view_version}
use Rattle.lt_schema.proofs.FaultLaws.{fault_is, found_first}
use Rattle.lt_schema.proofs.catalogue.Catalogue.test.Goals as goal

pub returns-in_err-test_alone : goal.returns-in_err-test_alone
returns-in_err-test_alone c =
    let cat = c.args.self.now in
    let v = view_version c.args.version.now in
    let is = subst IsCatalogue c.self.view_is c.self.invariant.lawful in
    let p = err_from_is_err_and c.from_residual.result c.from_residual.ensures.1 in
    rw (p.1, p.2, fault_is cat v is) (found_first (view_refusal c.in_err-test_alone.field-0.0) (fault_alone v) (fault_against cat v) c.in_err-test_alone.ensures)

pub returns : goal.returns
returns c =
    let cat = c.args.self.now in
    let v = view_version c.args.version.now in
    let is = subst IsCatalogue c.self.view_is c.self.invariant.lawful in
    subst (λ o. Finds o c.test_against.result) (sym (fault_is cat v is ∙ ap (λ o. option_or o (fault_against cat v)) c.in_ok-test_alone.ensures)) c.test_against.ensures
