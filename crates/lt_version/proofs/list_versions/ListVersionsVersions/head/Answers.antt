use Rattle.std.proofs.Common.{Some, ap, rules, sym, ◌∙◌}
use Rattle.std.specs.Prelude.{option_map}
use Rattle.lt_version.specs.View.{name_of}
use Rattle.lt_version.proofs.Firsts.{first_got, first_none}
use Rattle.lt_version.proofs.list_versions.ListVersionsVersions.head.Goals as goal

pub returns-in-None : goal.returns-in-None
returns-in-None c =
    let it = c.args.self.now in
    sym (ap (option_map name_of) (first_none it.list it.at (search rules)))

pub returns-in-Some : goal.returns-in-Some
returns-in-Some c =
    let it = c.args.self.now in
    ap Some (search rules) ∙ sym (ap (option_map name_of) (first_got it.list it.at c.in-Some.first.now (search rules)))
