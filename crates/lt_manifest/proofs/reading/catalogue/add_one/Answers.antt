use Rattle.lt_manifest.proofs.Adding.{err_for}
use Rattle.lt_manifest.proofs.reading.catalogue.add_one.Goals as goal

pub returns-in-Err : goal.returns-in-Err
returns-in-Err c = err_for c.refused.result _ _ _ _ _ c.in_ok-next.ensures c.refused.ensures c.in-Err.ensures.answer
