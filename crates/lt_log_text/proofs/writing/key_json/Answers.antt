use Rattle.std.proofs.Common.{List, ap, map, ◌∙◌}
use Rattle.std.proofs.lemmas.List.{take_all}
use Rattle.lt_core.specs.View.{view_parts}
use Rattle.lt_core.specs.declared.key.KeyPart.{KeyPart}
use Rattle.lt_log_text.specs.Lines.{part_data}
use Rattle.lt_schema_json.proofs.Written.{array_written}
use Rattle.lt_log_text.proofs.writing.key_json.Goals as goal

pub returns : goal.returns
returns c = array_written c.loop-part.items _ (c.loop-part.invariant ∙ ap (λ (ps : List KeyPart). map part_data (view_parts ps)) (take_all _ _ c.loop-part-test.false ∙ c.as_slice-part-items.ensures))
