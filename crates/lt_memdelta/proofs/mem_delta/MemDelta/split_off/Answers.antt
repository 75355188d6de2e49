use Rattle.std.proofs.Common.{ap, arith, ◌∙◌, ◌+◌, ◌≡◌}
use Rattle.std.specs.Prelude.{map}
use Rattle.lt_memdelta.specs.Deltas.{total, with_rows}
use Rattle.lt_memdelta.specs.Groups.{rows_below, rows_from}
use Rattle.lt_memdelta.proofs.Grouped.{kept-total, sides-total}
use Rattle.lt_memdelta.proofs.mem_delta.MemDelta.split_off.Goals as goal

pub overflow_sub-self : goal.overflow_sub-self
overflow_sub-self c =
    let key = c.args.key.now in
    let old = c.self.inside.groups.items in
    let moved : c.in_ok-groups.count ≡ total (map (with_rows (rows_from key)) old) = c.in_ok-groups.ensures.count ∙ ap total (c.in_ok-groups.ensures.groups ∙ ap (map (with_rows (rows_from key))) c.deref.ensures.value) in
    let sides : total (map (with_rows (rows_below key)) old) + total (map (with_rows (rows_from key)) old) ≡ total old = sides-total key old in
    let had : c.self.inside.count ≡ total old = c.self.invariant in
    omega (arith, moved, sides, had)

pub invariant_of-self : goal.invariant_of-self
invariant_of-self c =
    let key = c.args.key.now in
    let old = c.self.inside.groups.items in
    let moved : c.in_ok-groups.count ≡ total (map (with_rows (rows_from key)) old) = c.in_ok-groups.ensures.count ∙ ap total (c.in_ok-groups.ensures.groups ∙ ap (map (with_rows (rows_from key))) c.deref.ensures.value) in
    let sides : total (map (with_rows (rows_below key)) old) + total (map (with_rows (rows_from key)) old) ≡ total old = sides-total key old in
    let had : c.self.inside.count ≡ total old = c.self.invariant in
    let left : total c.keep_below.new.groups.items ≡ total (map (with_rows (rows_below key)) old) = ap total c.keep_below.ensures ∙ kept-total (map (with_rows (rows_below key)) old) in
    omega (arith, moved, sides, had, left)
