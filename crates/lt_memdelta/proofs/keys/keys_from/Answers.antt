use Rattle.std.proofs.Common.{ap, ◌∙◌}
use Rattle.lt_memdelta.specs.Stamps.{rows_of}
use Rattle.lt_memdelta.proofs.Clips.{at-or-above}
use Rattle.lt_memdelta.proofs.keys.keys_from.Goals as goal

pub returns : goal.returns
returns c = ap rows_of (c.range.ensures.between tt) ∙ at-or-above c.args.low.now c.args.keys.now.entries
