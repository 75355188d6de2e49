use Rattle.std.proofs.Common.{ap, ap₂, eq-eqb, ne_eqb, refl, sym, ◌∙◌}
use Rattle.lt_machine.specs.Machine.{refused}
use Rattle.lt_words.specs.Reply.{schema_done}
use Rattle.lt_tables.specs.Query.{do_schema}
use Rattle.lt_schema.specs.View.{view_version}
use Rattle.lt_engine.specs.Answers.{text_refusal, version_refusal}
use Rattle.lt_engine.specs.Steps.{Refuses, Stays}
use Rattle.lt_engine.specs.State.{memory_of, state_of}
use Rattle.lt_pump.specs.Pumps.{streams_of}
use Rattle.lt_engine.proofs.Refusals.{accepted, names_are, schema_accepted, schema_is, schema_worn, text_refused, version_refused}
use Rattle.lt_engine.proofs.Results.{err_is, refuses_to}
use Rattle.lt_engine.proofs.SchemaLaws.{schema_does, stays_itself}
use Rattle.lt_engine.proofs.replica.Replica.schema.Goals as goal

pub returns-then-self-clause-refused : goal.returns-then-self-clause-refused
returns-then-self-clause-refused c =
    let s = c.args.self.now in
    ((tt, schema_worn s.catalogue s.generation s.map (streams_of s.pump) (memory_of s) c.args.text.now (eq-eqb s.generation 18446744073709551615 c.if-self.true)), stays_itself s)

pub returns-in_err-version-clause-refused : goal.returns-in_err-version-clause-refused
returns-in_err-version-clause-refused c =
    let s = c.args.self.now in
    let t = c.args.text.now in
    err_is c.from_residual.result c.in_err-version.field-0.0 (λ e. Refuses (refused (state_of s) (do_schema t)) e × Stays s s) c.from_residual.ensures.1
    (refuses_to (text_refusal t) (refused (state_of s) (do_schema t)) (λ r e. schema_is s.catalogue s.generation s.map (streams_of s.pump) (memory_of s) t (ne_eqb s.generation 18446744073709551615 c.if-self.false) ∙ text_refused s.catalogue t r e) c.in_err-version.field-0.0 c.in_err-version.ensures.err, stays_itself s)

pub returns-in_err-add-clause-refused : goal.returns-in_err-add-clause-refused
returns-in_err-add-clause-refused c =
    let s = c.args.self.now in
    let t = c.args.text.now in
    let v = view_version c.in_ok-version.version in
    err_is c.from_residual-in_err-add.result c.in_err-add.field-0.0 (λ e. Refuses (refused (state_of s) (do_schema t)) e × Stays s c.add.new.self) c.from_residual-in_err-add.ensures.1 (
      refuses_to (version_refusal s.catalogue v) (refused (state_of s) (do_schema t)) (λ r e. schema_is s.catalogue s.generation s.map (streams_of s.pump) (memory_of s) t (ne_eqb s.generation 18446744073709551615 c.if-self.false)
          ∙ version_refused s.catalogue t v r c.in_ok-version.ensures.ok e) c.in_err-add.field-0.0 c.in_err-add.ensures.err.0,
      c.in_err-add.ensures.err.1,
    )

pub returns-clause-done : goal.returns-clause-done
returns-clause-done c =
    let s = c.args.self.now in
    let t = c.args.text.now in
    let v = view_version c.in_ok-version.version in
    let k = c.in_ok-add.ensures.ok in
    schema_does s c.add.new.self t _ _ (accepted s.catalogue t v c.in_ok-version.ensures.ok k.0) k.1
    (ap₂ schema_done c.in_ok-copy.ensures refl ∙ ap (λ x. schema_done x.0 x.1) (sym (names_are t v c.in_ok-version.ensures.ok)))
    (schema_accepted s.catalogue s.generation s.map (streams_of s.pump) (memory_of s) t v (ne_eqb s.generation 18446744073709551615 c.if-self.false) c.in_ok-version.ensures.ok k.0)
