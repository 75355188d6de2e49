use Rattle.lt_laws.proofs.FrontStands.{sound_grows}
use Rattle.lt_theorems.proofs.sound_grows.Goals as goal

pub returns : goal.returns
returns c = sound_grows
