use Rattle.std.proofs.Common.{List, ap, ap₂, drop, length, map, min, take, ◌++◌, ◌∙◌, ◌≡◌}
use Rattle.serde_json.specs.Data.{array}
use Rattle.serde_json.specs.View.{view}
use Rattle.serde_json.specs.declared.value.Value.{Value as Json}
use Rattle.serde_json.proofs.Views.{view-Array}
use Rattle.lt_words.specs.SchemaText.{plain_data}
use Rattle.lt_core.specs.View.{view_row}
use Rattle.lt_core.specs.declared.value.Value.{Value}
use Rattle.lt_schema.specs.View.{view_columns}
use Rattle.lt_reply.proofs.Shown.{row_compact, row_items}
use Rattle.lt_reply.proofs.rows.row_json.Goals as goal

pub returns : goal.returns
returns c =
    let vs = c.args.row.now in
    let key = c.args.version.now.key in
    let same = c.as_slice-values.ensures in
    let count : c.min.result ≡ min (length vs) (length key) = c.min.ensures ∙ ap₂ min (ap length same) c.len.ensures in
    let parts = c.split_at.ensures.front ∙ ap (λ (us : List Value). take c.min.result us) same in
    let values = c.split_at.ensures.back ∙ ap (λ (us : List Value). drop c.min.result us) same in
    let front = c.in_ok-put_parts.ensures ∙ ap (λ (js : List Json). map view js ++ map plain_data (view_row c.split_at.result.0.now)) c.new-items.ensures.items in
    row_compact _ (view_row vs) _ _ (view-Array _ ∙ ap array (row_items key (view_columns c.args.version.now.columns) vs _ _ c.min.result _ _ count parts values front c.in_ok-put_values.ensures)) c.in_ok-to_string.ensures.text
