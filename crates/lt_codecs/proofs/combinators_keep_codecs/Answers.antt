-- proofs/combinators_keep_codecs/Answers.antt
use Rattle.lt_codecs.proofs.Codecs.{keep_codecs}
use Rattle.lt_codecs.proofs.combinators_keep_codecs.Goals as goal

pub returns : goal.returns
returns g c = keep_codecs g.C.AnyCodecs.parts
