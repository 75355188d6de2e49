use Rattle.std.proofs.Common.{None, Some, rules, sym, ◌∙◌}
use Rattle.lt_memdelta.proofs.Steps.{cell_got}
use Rattle.lt_memdelta.proofs.mem_iter.MemIterVersions.cell.Goals as goal

pub returns-in-Some-get : goal.returns-in-Some-get
returns-in-Some-get c =
    let it = c.args.self.now in
    c.as_cell.ensures ∙ sym (cell_got it.first it.walk c.in-Some.first c.args.leaf (Some c.in-Some-get.cell.now) (search rules) (search rules))

pub returns-in-None : goal.returns-in-None
returns-in-None c =
    let it = c.args.self.now in
    sym (cell_got it.first it.walk c.in-Some.first c.args.leaf None (search rules) (search rules))
