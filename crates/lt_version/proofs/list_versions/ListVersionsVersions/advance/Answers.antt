use Rattle.std.proofs.Common.{map}
use Rattle.lt_version.specs.View.{view_version}
use Rattle.lt_version.proofs.Firsts.{dropped_one}
use Rattle.lt_version.proofs.list_versions.ListVersionsVersions.advance.Goals as goal

pub returns-then-self-len-clause-ok : goal.returns-then-self-len-clause-ok
returns-then-self-len-clause-ok c = dropped_one (map view_version c.args.self.now.list) c.args.self.now.at
