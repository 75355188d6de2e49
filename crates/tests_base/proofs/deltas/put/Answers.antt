use Rattle.std.proofs.Common.{ap, arith, sym, subst, List, ◌+◌, ◌<◌}
use Rattle.lt_core.specs.View.{view_cells}
use Rattle.lt_terms.specs.declared.Op.TheVariants as ops
use Rattle.lt_tables.specs.Version.{RowVersion}
use Rattle.lt_memdelta.specs.Deltas.{EachRow}
use Rattle.tests_base.specs.Stands.{StandsBy}
use Rattle.lt_memdelta.specs.declared.group.Group.{Group}
use Rattle.lt_memdelta.proofs.EachRow.{each-group, each-put, each-then, later-fresh}
use Rattle.tests_base.proofs.Stands.{row-stands, stand-later}
use Rattle.tests_base.proofs.deltas.put.Goals as goal

pub put-requires-clause-fresh : goal.put-requires-clause-fresh
put-requires-clause-fresh c =
    let n = c.args.count in
    let v : RowVersion = record { key = c.in_ok-key.field-0; ts = n + 1; op = ops.Insert; cells = view_cells c.new.result } in
    later-fresh v _ (each-group (λ w. w.ts < n + 1) _ _ c.args.delta.now (each-then (StandsBy n) (λ w. w.ts < n + 1) (λ w h. omega (arith, h.0)) c.args.delta.now c.requires.earlier))

pub returns : goal.returns
returns c =
    let n = c.args.count in
    let Stands : List Group → Type 0 = λ gs. EachRow (StandsBy (n + 1)) gs in
    subst Stands (sym c.in_ok-put.ensures.ok) (each-put (StandsBy (n + 1)) _ _ _ c.args.delta.now (row-stands c.in_ok-key.field-0 n (view_cells c.new.result) c.in_ok-key.ensures c.requires.few (ap view_cells c.new.ensures))
    (stand-later n c.args.delta.now c.requires.earlier))
