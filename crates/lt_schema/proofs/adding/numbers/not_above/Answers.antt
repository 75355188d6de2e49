use Rattle.std.proofs.Common.{rules, w32}
use Rattle.std.specs.Prelude.{FitsSigned}
use Rattle.std.proofs.lemmas.Int.{to_z-of_z}
use Rattle.lt_schema.proofs.Rising.{passed_more}
use Rattle.lt_schema.proofs.adding.numbers.not_above.Goals as goal

pub loop-number-preserved : goal.loop-number-preserved
loop-number-preserved c =
    let n = c.loop-number-item.result in
    let fits : FitsSigned w32 n.0 = search rules in
    let more = passed_more c.loop-number.fault c.loop-number.before c.loop-number.number-index c.as_slice-number-items.result.now n c.loop-number.invariant c.loop-number-test.true c.loop-number-item.is fits in
    rw (c.or-fault.ensures, c.unless_above.ensures, to_z-of_z w32 n.0 fits) more
