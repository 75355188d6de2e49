use Rattle.lt_lemmas.proofs.SchemaTextLaws.{text_reads_back}
use Rattle.lt_theorems.proofs.written_texts_read_back.Goals as goal

pub returns : goal.returns
returns c = text_reads_back
