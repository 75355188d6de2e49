use Rattle.std.proofs.Common.{List, arith, map, subst, sym}
use Rattle.std.specs.declared.result.Result.TheVariants.{Err, Ok}
use Rattle.std.proofs.lemmas.Result.{err_from_is_err_and}
use Rattle.lt_manifest.specs.Reading.{HasRoom, Rebuilds}
use Rattle.lt_manifest.specs.View.{view_table}
use Rattle.lt_manifest.specs.declared.reading.tables.TableRead.{TableRead}
use Rattle.lt_manifest.proofs.Whole.{built, has_room, unbuilt, unread}
use Rattle.lt_manifest.proofs.reading.manifest_of.Goals as goal

pub returns-in_err-unbuilt : goal.returns-in_err-unbuilt
returns-in_err-unbuilt c =
    let p = err_from_is_err_and c.from_residual.result c.from_residual.ensures.1 in
    rw (p.1, p.2) (unread c.args.bytes.now c.in_err-unbuilt.field-0.0 c.in_err-unbuilt.ensures)

pub rebuilt-requires : goal.rebuilt-requires
rebuilt-requires c = subst HasRoom (sym c.as_slice.ensures) (has_room c.args.bytes.now c.in_ok-unbuilt.unbuilt (λ i. omega (arith, c.type_inv.bytes i)) c.in_ok-unbuilt.ensures)

pub returns-in_err-catalogue : goal.returns-in_err-catalogue
returns-in_err-catalogue c =
    let p = err_from_is_err_and c.from_residual-in_err-catalogue.result c.from_residual-in_err-catalogue.ensures.1 in
    let none = subst (λ (ts : List TableRead). Rebuilds (map view_table ts) (Err c.in_err-catalogue.field-0.0)) c.as_slice.ensures c.in_err-catalogue.ensures in
    rw (p.1, p.2) (unbuilt c.args.bytes.now c.in_ok-unbuilt.unbuilt c.in_err-catalogue.field-0.0 c.in_ok-unbuilt.ensures none)

pub returns : goal.returns
returns c =
    let made = subst (λ (ts : List TableRead). Rebuilds (map view_table ts) (Ok c.in_ok-catalogue.catalogue)) c.as_slice.ensures c.in_ok-catalogue.ensures in
    built c.args.bytes.now c.in_ok-unbuilt.unbuilt c.in_ok-catalogue.catalogue (λ i. omega (arith, c.type_inv.bytes i)) c.in_ok-unbuilt.ensures made
