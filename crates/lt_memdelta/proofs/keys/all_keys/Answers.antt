use Rattle.std.proofs.Common.{ap, ◌∙◌}
use Rattle.lt_memdelta.specs.Stamps.{rows_of}
use Rattle.lt_memdelta.proofs.Clips.{all-of}
use Rattle.lt_memdelta.proofs.keys.all_keys.Goals as goal

pub returns : goal.returns
returns c = ap rows_of (c.range.ensures.between tt) ∙ all-of c.args.keys.now.entries
