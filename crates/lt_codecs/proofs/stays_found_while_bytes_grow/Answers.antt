use Rattle.lt_codecs.proofs.FoundLaws.{stays_found}
use Rattle.lt_codecs.proofs.stays_found_while_bytes_grow.Goals as goal

pub returns : goal.returns
returns c = stays_found
