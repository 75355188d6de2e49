use Rattle.lt_codecs.proofs.LogLaws.{frames_prefix_free}
use Rattle.lt_codecs.proofs.frames_are_prefix_free.Goals as goal

pub returns : goal.returns
returns c = frames_prefix_free
