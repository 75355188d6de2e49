use Rattle.std.proofs.Common.{List, ap, map, ◌∙◌}
use Rattle.std.proofs.lemmas.List.{take_all}
use Rattle.lt_schema.specs.View.{view_key}
use Rattle.lt_schema.specs.declared.version.KeyColumn.{KeyColumn}
use Rattle.lt_schema_json.specs.Writing.{key_data}
use Rattle.lt_schema_json.proofs.Written.{array_written}
use Rattle.lt_schema_json.proofs.writing.key_json.Goals as goal

pub returns : goal.returns
returns c = array_written c.loop-column.items _ (c.loop-column.invariant ∙ ap (λ (ks : List KeyColumn). map key_data (view_key ks)) (take_all _ _ c.loop-column-test.false ∙ c.as_slice-column-items.ensures))
