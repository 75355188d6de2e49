use Rattle.std.proofs.Common.{Some, ap, sym, ◌∙◌}
use Rattle.lt_words.specs.Reply.{no_such_table}
use Rattle.lt_replica.proofs.Results.{named_told, numbered_by}
use Rattle.lt_replica.proofs.schema.without_version.Goals as goal

pub returns-in-Err-UnknownTable-clause-refused : goal.returns-in-Err-UnknownTable-clause-refused
returns-in-Err-UnknownTable-clause-refused c =
    let cat = c.args.catalogue.now in
    (tt, named_told cat c.in_ok-next.next c.args.table.now c.in-Some.number c.args.version _ _ c.in_ok-next.ensures c.get-lawful.ensures.lawful (numbered_by cat c.in-Some.ensures c.as_slice.ensures.bytes) c.in-Err-UnknownTable.ensures.answer c.in-Err-UnknownTable.field-0-is ∙ ap (λ x. Some (no_such_table x)) (sym c.in_ok-copy-in-Err-UnknownTable.ensures))

pub returns-in-Err-UnknownVersion-clause-refused : goal.returns-in-Err-UnknownVersion-clause-refused
returns-in-Err-UnknownVersion-clause-refused c =
    let cat = c.args.catalogue.now in
    (tt, named_told cat c.in_ok-next.next c.args.table.now c.in-Some.number c.args.version _ _ c.in_ok-next.ensures c.get-lawful.ensures.lawful (numbered_by cat c.in-Some.ensures c.as_slice.ensures.bytes) c.in-Err-UnknownVersion.ensures.answer c.in-Err-UnknownVersion.field-0-is)

pub returns-in-Err-AlreadyRetired-clause-refused : goal.returns-in-Err-AlreadyRetired-clause-refused
returns-in-Err-AlreadyRetired-clause-refused c =
    let cat = c.args.catalogue.now in
    (tt, named_told cat c.in_ok-next.next c.args.table.now c.in-Some.number c.args.version _ _ c.in_ok-next.ensures c.get-lawful.ensures.lawful (numbered_by cat c.in-Some.ensures c.as_slice.ensures.bytes) c.in-Err-AlreadyRetired.ensures.answer c.in-Err-AlreadyRetired.field-0-is)

pub returns-clause-refused : goal.returns-clause-refused
returns-clause-refused c =
    let cat = c.args.catalogue.now in
    (tt, named_told cat c.in_ok-next.next c.args.table.now c.in-Some.number c.args.version _ _ c.in_ok-next.ensures c.get-lawful.ensures.lawful (numbered_by cat c.in-Some.ensures c.as_slice.ensures.bytes) c.in-Err-LastVersion.ensures.answer c.in-Err-LastVersion.field-0-is)
