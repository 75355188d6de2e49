use Rattle.lt_manifest.proofs.Numbers.{sorted_rises}
use Rattle.lt_manifest.proofs.reading.ids.listed_ids.Goals as goal

pub returns-clause-rise : goal.returns-clause-rise
returns-clause-rise c = sorted_rises c.sort_unstable.new.self.items c.sort_unstable.ensures.sorted
