use Rattle.std.proofs.Common.{List, ap, map, ℕ, ℤ, ◌∙◌}
use Rattle.std.proofs.lemmas.List.{take_all}
use Rattle.lt_schema_json.specs.Writing.{name_data}
use Rattle.lt_schema_json.proofs.Written.{array_written}
use Rattle.lt_schema_json.proofs.writing.kind.names_json.Goals as goal

pub returns : goal.returns
returns c = array_written c.loop-number.items _ (c.loop-number.invariant ∙ ap (λ (ns : List (ℤ × List ℕ)). map name_data ns) (take_all _ _ c.loop-number-test.false ∙ c.as_slice-number-items.ensures))
