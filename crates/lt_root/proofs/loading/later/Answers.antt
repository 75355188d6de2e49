use Rattle.std.proofs.lemmas.Cmp.{ranked}
use Rattle.lt_root.proofs.Choosing.{both_equal, counts_first}
use Rattle.lt_root.proofs.loading.later.Goals as goal

pub returns-in-Greater-clause-ok : goal.returns-in-Greater-clause-ok
returns-in-Greater-clause-ok c image are = counts_first image c.args.first c.args.second are (ranked c.args.first.generation c.args.second.generation _ c.in-Greater.ensures)

pub returns-in-Equal-clause-refused : goal.returns-in-Equal-clause-refused
returns-in-Equal-clause-refused c image are = both_equal image c.args.first c.args.second are (ranked c.args.first.generation c.args.second.generation _ c.in-Equal.ensures)
