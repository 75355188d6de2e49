use Rattle.std.proofs.Common.{ap, sym, ◌∙◌, ◌∷◌}
use Rattle.lt_terms.specs.Key.{rise}
use Rattle.lt_manifest.proofs.Lists.{lows}
use Rattle.lt_manifest.proofs.reading.rules.lows_rise_above.Goals as goal

pub returns : goal.returns
returns c = c.keys_rise_above.ensures ∙ ap (λ ls. rise (c.args.low.now ∷ ls)) (sym (lows c.args.parts.now))
