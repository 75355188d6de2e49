use Rattle.std.proofs.Common.{arith}
use Rattle.lt_records.proofs.Front.{next_found, next_only}
use Rattle.lt_records.proofs.reading.frame.next.Goals as goal

pub returns-clause-found : goal.returns-clause-found
returns-clause-found c = next_found c.args.bytes.now c.find.result (λ i. omega (arith, c.type_inv.bytes i)) c.find.ensures

pub returns-clause-only : goal.returns-clause-only
returns-clause-only c = next_only c.args.bytes.now c.find.result (λ i. omega (arith, c.type_inv.bytes i)) c.find.ensures
