use Rattle.std.proofs.Common.{List, [], ap, sym, ◌++◌, ◌∙◌, ◌∷◌}
use Rattle.std.specs.List.{position}
use Rattle.lt_tables.specs.Version.{RowVersion, put_version}
use Rattle.lt_version.specs.View.{view_version}
use Rattle.lt_memdelta.specs.Deltas.{is_group}
use Rattle.lt_memdelta.specs.declared.group.Group.{Group}
use Rattle.lt_memdelta.proofs.Grouped.{put-at, put-end, stands-at, stands-nowhere}
use Rattle.lt_memdelta.proofs.Puts.{on-ok}
use Rattle.lt_memdelta.proofs.group.put_in.Goals as goal

pub returns-in_default-clause-ok : goal.returns-in_default-clause-ok
returns-in_default-clause-ok c =
    let table = c.args.table in
    let version = c.args.version in
    let v = view_version c.args.row in
    let old = c.args.groups.now.items in
    let none = ap (position (is_group table version)) (sym c.deref.ensures.value) ∙ sym c.position_of.ensures ∙ c.in_default.is in
    let rows = c.in_ok-put.ensures.ok ∙ ap (put_version v) c.new-rows.ensures in
    c.in_ok-push.ensures.items ∙ ap (λ (rs : List RowVersion). let g : Group = record { table = table; version = version; rows = rs } in old ++ g ∷ []) rows ∙ put-end table version v old (stands-nowhere table version old none)

pub returns-clause-ok : goal.returns-clause-ok
returns-clause-ok c =
    let table = c.args.table in
    let version = c.args.version in
    let v = view_version c.args.row in
    let old = c.args.groups.now.items in
    let some = ap (position (is_group table version)) (sym c.deref.ensures.value) ∙ sym c.position_of.ensures ∙ c.in-Some.is in
    let at = stands-at table version old c.in-Some.i c.index_mut.result.now some in
    on-ok c.put-2.result (put-at table version v old c.in-Some.i c.index_mut.result.now c.put-2.new.self at c.index_mut.ensures.value) c.put-2.ensures.ok
