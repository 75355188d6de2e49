use Rattle.std.proofs.Common.{ap, eq-eqb, ne_eqb, refl, sym, ◌∙◌}
use Rattle.std.specs.Prelude.{Some, option_map}
use Rattle.lt_schema.specs.Faults.{view_retire}
use Rattle.lt_tables.specs.Schema.{Table, table_named}
use Rattle.lt_engine.specs.State.{memory_of, state_with}
use Rattle.lt_words.specs.Reply.{no_such_table, retire_done}
use Rattle.lt_pump.specs.Pumps.{streams_of}
use Rattle.lt_engine.proofs.CatalogueChanges.{retired_err, retired_ok}
use Rattle.lt_engine.proofs.Refusals.{retire_unknown, retire_worn}
use Rattle.lt_engine.proofs.Results.{none_named, numbered_by, retire_told}
use Rattle.lt_engine.proofs.SchemaLaws.{retire_does, stays_itself}
use Rattle.lt_engine.proofs.replica.Replica.retire.Goals as goal

pub returns-then-self-clause-refused : goal.returns-then-self-clause-refused
returns-then-self-clause-refused c =
    let s = c.args.self.now in
    ((tt, retire_worn s.catalogue s.generation s.map (streams_of s.pump) (memory_of s) c.args.table.now c.args.version (eq-eqb s.generation 18446744073709551615 c.if-self.true)), stays_itself s)

pub returns-in_default-clause-refused : goal.returns-in_default-clause-refused
returns-in_default-clause-refused c =
    let s = c.args.self.now in (
      (
        tt,
        retire_unknown s.catalogue s.generation s.map (streams_of s.pump) (memory_of s) c.args.table.now c.args.version (ne_eqb s.generation 18446744073709551615 c.if-self.false)
            (none_named s.catalogue c.args.table.now (c.in_default.ensures ∙ ap (λ name. option_map (λ (t : Table). t.number) (table_named s.catalogue name)) c.as_slice.ensures.bytes))
            ∙ ap (λ x. Some (no_such_table x)) (sym c.in_ok-name.ensures),
      ),
      stays_itself s,
    )

pub returns-in-Ok-clause-done : goal.returns-in-Ok-clause-done
returns-in-Ok-clause-done c =
    let s = c.args.self.now in
    let d = numbered_by s.catalogue c.in-Some.ensures c.as_slice.ensures.bytes in
    let a = retired_ok _ _ c.in-Some.number c.args.version c.in-Ok.ensures.answer in
    retire_does s _ c.args.table.now c.in-Some.number c.args.version _ (ne_eqb s.generation 18446744073709551615 c.if-self.false) c.get-lawful.ensures.lawful d a.0
    (record { catalogue = a.1; generation = refl; map = refl; streams = refl; memory = refl }) (ap (λ x. retire_done x c.args.version) c.in_ok-name.ensures)

pub returns-in-Err-UnknownTable-clause-refused : goal.returns-in-Err-UnknownTable-clause-refused
returns-in-Err-UnknownTable-clause-refused c =
    let s = c.args.self.now in (
      (
        tt,
        retire_told s.catalogue s.generation s.map (streams_of s.pump) (memory_of s) c.args.table.now c.in-Some.number c.args.version _ (ne_eqb s.generation 18446744073709551615 c.if-self.false) c.get-lawful.ensures.lawful
            (numbered_by s.catalogue c.in-Some.ensures c.as_slice.ensures.bytes) (retired_err s.catalogue c.in-Some.number c.args.version _ c.in-Err-UnknownTable.ensures.answer ∙ ap (λ x. Some (view_retire x)) c.in-Err-UnknownTable.field-0-is)
            ∙ ap (λ x. Some (no_such_table x)) (sym c.in_ok-name.ensures),
      ),
      record { state = ap (λ cat. state_with cat s.generation s.map (streams_of s.pump) (memory_of s)) c.in-Err-UnknownTable.ensures.refused; memory = refl },
    )

pub returns-in-Err-UnknownVersion-clause-refused : goal.returns-in-Err-UnknownVersion-clause-refused
returns-in-Err-UnknownVersion-clause-refused c =
    let s = c.args.self.now in (
      (
        tt,
        retire_told s.catalogue s.generation s.map (streams_of s.pump) (memory_of s) c.args.table.now c.in-Some.number c.args.version _ (ne_eqb s.generation 18446744073709551615 c.if-self.false) c.get-lawful.ensures.lawful
            (numbered_by s.catalogue c.in-Some.ensures c.as_slice.ensures.bytes) (retired_err s.catalogue c.in-Some.number c.args.version _ c.in-Err-UnknownVersion.ensures.answer ∙ ap (λ x. Some (view_retire x)) c.in-Err-UnknownVersion.field-0-is),
      ),
      record { state = ap (λ cat. state_with cat s.generation s.map (streams_of s.pump) (memory_of s)) c.in-Err-UnknownVersion.ensures.refused; memory = refl },
    )

pub returns-in-Err-AlreadyRetired-clause-refused : goal.returns-in-Err-AlreadyRetired-clause-refused
returns-in-Err-AlreadyRetired-clause-refused c =
    let s = c.args.self.now in (
      (
        tt,
        retire_told s.catalogue s.generation s.map (streams_of s.pump) (memory_of s) c.args.table.now c.in-Some.number c.args.version _ (ne_eqb s.generation 18446744073709551615 c.if-self.false) c.get-lawful.ensures.lawful
            (numbered_by s.catalogue c.in-Some.ensures c.as_slice.ensures.bytes) (retired_err s.catalogue c.in-Some.number c.args.version _ c.in-Err-AlreadyRetired.ensures.answer ∙ ap (λ x. Some (view_retire x)) c.in-Err-AlreadyRetired.field-0-is),
      ),
      record { state = ap (λ cat. state_with cat s.generation s.map (streams_of s.pump) (memory_of s)) c.in-Err-AlreadyRetired.ensures.refused; memory = refl },
    )

pub returns-in-Err-LastVersion-clause-refused : goal.returns-in-Err-LastVersion-clause-refused
returns-in-Err-LastVersion-clause-refused c =
    let s = c.args.self.now in (
      (
        tt,
        retire_told s.catalogue s.generation s.map (streams_of s.pump) (memory_of s) c.args.table.now c.in-Some.number c.args.version _ (ne_eqb s.generation 18446744073709551615 c.if-self.false) c.get-lawful.ensures.lawful
            (numbered_by s.catalogue c.in-Some.ensures c.as_slice.ensures.bytes) (retired_err s.catalogue c.in-Some.number c.args.version _ c.in-Err-LastVersion.ensures.answer ∙ ap (λ x. Some (view_retire x)) c.in-Err-LastVersion.field-0-is),
      ),
      record { state = ap (λ cat. state_with cat s.generation s.map (streams_of s.pump) (memory_of s)) c.in-Err-LastVersion.ensures.refused; memory = refl },
    )
