-- proofs/store_codecs_read_back/Answers.antt
use Rattle.lt_store_codecs.proofs.StoreLaws.{store_codecs}
use Rattle.lt_store_codecs.proofs.store_codecs_read_back.Goals as goal

pub returns : goal.returns
returns c = store_codecs
