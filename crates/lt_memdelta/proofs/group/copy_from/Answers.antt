use Rattle.std.proofs.Common.{List, ap, arith, length, rules, ◌∙◌, ◌+◌, ◌≡◌}
use Rattle.lt_tables.specs.Version.{RowVersion}
use Rattle.lt_memdelta.specs.Deltas.{with_rows}
use Rattle.lt_memdelta.specs.Groups.{rows_from}
use Rattle.lt_memdelta.specs.declared.group.Group.{Group}
use Rattle.lt_memdelta.proofs.Grouped.{copied-group}
use Rattle.lt_memdelta.proofs.group.copy_from.Goals as goal

pub loop-group-preserved : goal.loop-group-preserved
loop-group-preserved c =
    let f = rows_from c.args.low.now in
    let g = c.group-item.result in
    let n : Group = record { table = g.table; version = g.version; rows = c.in_ok-rows.rows } in
    let made : n ≡ with_rows f g = ap (λ (rs : List RowVersion). let x : Group = record { table = g.table; version = g.version; rows = rs } in x) c.in_ok-rows.ensures.rows in
    let sum : c.in_ok-count.count ≡ c.loop-group.count + c.in_ok-rows.len = search rules in
    let len : c.in_ok-rows.len ≡ length n.rows = c.in_ok-rows.ensures.count in
    copied-group f c.args.groups.now c.loop-group.copies.items c.push.new.self.items c.loop-group.group-index c.loop-group.count c.in_ok-count.count g n
    c.loop-group-test.true c.group-item.is made c.in_ok-push.ensures.items (sum ∙ omega (arith, len)) c.loop-group.invariant
