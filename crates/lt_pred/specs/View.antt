-- What literals and predicates stand for in the definitions.
use Rattle.std.specs.Prelude.{List, map}
use Rattle.lt_tables.specs.Query as model
use Rattle.lt_pred.specs.declared.literal.Literal.{Literal}
use Rattle.lt_pred.specs.declared.literal.Literal.TheVariants as literals
use Rattle.lt_pred.specs.declared.pred.Pred.{Pred, fold-Pred}
use Rattle.lt_pred.specs.declared.pred.Pred.TheOpen.{Pred-F}

abbrev pub view_literal : Literal → model.Literal
view_literal literals.Null = model.null_literal
view_literal (literals.Bool b) = model.bool_literal b
view_literal (literals.Int z) = model.int_literal z
view_literal (literals.Text t) = model.text_literal t

abbrev pub view_literals : List Literal → List model.Literal
view_literals ls = map view_literal ls

-- one level, with each predicate inside already seen
abbrev pub pred_step : Pred-F model.Pred → model.Pred
pred_step Pred-F.All = model.all_rows
pred_step (Pred-F.And p q) = model.both p q
pred_step (Pred-F.Or p q) = model.either p q
pred_step (Pred-F.Not p) = model.negated p
pred_step (Pred-F.IsNull name) = model.is_null name
pred_step (Pred-F.Cmp op name l) = model.compares op name (view_literal l)

abbrev pub view_pred : Pred → model.Pred
view_pred = fold-Pred model.Pred pred_step
