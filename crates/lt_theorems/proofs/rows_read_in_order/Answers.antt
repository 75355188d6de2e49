use Rattle.lt_lemmas.proofs.RowLemmas.{reads_in_order}
use Rattle.lt_theorems.proofs.rows_read_in_order.Goals as goal

pub returns : goal.returns
returns c = reads_in_order
