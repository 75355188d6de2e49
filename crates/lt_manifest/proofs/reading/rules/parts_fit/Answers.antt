use Rattle.std.proofs.Common.{sym, ◌∙◌}
use Rattle.lt_manifest.proofs.Numbers.{does_rise}
use Rattle.lt_manifest.proofs.reading.rules.parts_fit.Goals as goal

pub are_parts-requires : goal.are_parts-requires
are_parts-requires c = does_rise c.args.known.now (sym c.rise.ensures ∙ c.if-not-rise.false)
