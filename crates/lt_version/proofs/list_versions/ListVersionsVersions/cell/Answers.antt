use Rattle.std.proofs.Common.{rules, None, Some, sym, ◌∙◌}
use Rattle.lt_version.proofs.Firsts.{cell_got}
use Rattle.lt_version.proofs.list_versions.ListVersionsVersions.cell.Goals as goal

pub returns-in-Some-get : goal.returns-in-Some-get
returns-in-Some-get c =
    let it = c.args.self.now in
    c.as_cell.ensures ∙ sym (cell_got it.list it.at c.args.leaf c.in-Some.first.now (Some c.in-Some-get.cell.now) (search rules) (search rules))

pub returns-in-None : goal.returns-in-None
returns-in-None c =
    let it = c.args.self.now in
    sym (cell_got it.list it.at c.args.leaf c.in-Some.first.now None (search rules) (search rules))
