use Rattle.std.proofs.Common.{Some, ap, ap₂, arith, length, sym, ◌<◌, ◌∙◌, ◌≡◌, ◌≤◌}
use Rattle.lt_parts.specs.Parts.{split_fault, view_refusal}
use Rattle.lt_parts.specs.declared.refusal.SplitRefusal.TheVariants as parts
use Rattle.lt_replica.proofs.SplitLaws.{edge_within}
use Rattle.lt_replica.proofs.splitting.split_map.Goals as goal

pub overflow_cast-result : goal.overflow_cast-result
overflow_cast-result c =
    let es = c.args.map.now in
    let part = c.in-Err-AtEdge.part in
    let told : split_fault es c.args.key.now ≡ Some (parts.AtEdge part) = ap₂ split_fault (sym c.in_ok-copy.ensures) (sym c.in_ok-copy-2.ensures) ∙ c.in-Err-AtEdge.ensures.refused ∙ ap view_refusal c.in-Err-AtEdge.field-0-is in
    let within : part < length es = edge_within es c.args.key.now part told in
    let few : length es ≤ 1024 = c.len.ensures.lawful.few in
    omega (arith, within, few)
