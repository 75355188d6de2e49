use Rattle.std.proofs.Common.{arith, ap, sym, subst, List, ◌+◌, ◌∙◌, ◌≡◌}
use Rattle.std.specs.Prelude.{IsTrue, not}
use Rattle.std.specs.List.{list_all}
use Rattle.lt_tables.specs.Version.{same_name}
use Rattle.lt_version.specs.View.{view_version}
use Rattle.lt_memdelta.specs.Deltas.{group_rows, put_in, table_in, total}
use Rattle.lt_memdelta.specs.declared.group.Group.{Group}
use Rattle.lt_memdelta.proofs.Grouped.{put-total}
use Rattle.lt_memdelta.proofs.mem_delta.MemDelta.put.Goals as goal

pub invariant_of-self-2 : goal.invariant_of-self-2
invariant_of-self-2 c =
    let v = view_version c.args.row in
    let old = c.self.inside.groups.items in
    let table = table_in c.args.row.key in
    let named = c.table_of-table.ensures ∙ ap table_in c.as_slice.ensures in
    let Fresh : List Group → Type 0 = λ gs. IsTrue (list_all (λ w. not (same_name v w)) (group_rows table c.args.version gs)) in
    let more : total (put_in table c.args.version v old) ≡ 1 + total old = put-total table c.args.version v old (subst Fresh (sym c.self.view_is) c.requires.fresh) in
    let put = ap total (c.in_ok-put_in.ensures.ok ∙ ap (λ t. put_in t c.args.version v old) named) in
    let had : c.self.inside.count ≡ total old = c.self.invariant in
    omega (arith, had) ∙ sym more ∙ sym put
