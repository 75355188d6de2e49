use Rattle.std.proofs.Common.{drop, map, ◌∷◌, ◌≡◌}
use Rattle.lt_terms.specs.Key.{rise}
use Rattle.lt_manifest.proofs.reading.rules.keys_rise_above.Given as goal

abbrev pub invariant-loop-item : goal.invariant-loop-item
invariant-loop-item g l = rise (l.last ∷ map g.T.Keyed.key_of (drop l.item-index l.items)) ≡ rise (l.low ∷ map g.T.Keyed.key_of l.items)
