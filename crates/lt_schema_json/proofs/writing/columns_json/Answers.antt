use Rattle.std.proofs.Common.{List, ap, map, ◌∙◌}
use Rattle.std.proofs.lemmas.List.{take_all}
use Rattle.lt_words.specs.SchemaText.{column_data}
use Rattle.lt_schema.specs.View.{view_columns}
use Rattle.lt_schema.specs.declared.version.Column.{Column}
use Rattle.lt_schema_json.proofs.Written.{array_written}
use Rattle.lt_schema_json.proofs.writing.columns_json.Goals as goal

pub returns : goal.returns
returns c = array_written c.loop-column.items _ (c.loop-column.invariant ∙ ap (λ (cs : List Column). map column_data (view_columns cs)) (take_all _ _ c.loop-column-test.false ∙ c.as_slice-column-items.ensures))
