-- proofs/log_codecs_read_back/Answers.antt
use Rattle.lt_codecs.proofs.LogCodecs.{log_codecs}
use Rattle.lt_codecs.proofs.log_codecs_read_back.Goals as goal

pub returns : goal.returns
returns c = log_codecs
