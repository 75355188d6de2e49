use Rattle.std.proofs.Common.{sym, ◌∙◌}
use Rattle.lt_replica.specs.Numbers.{numbers_of}
use Rattle.lt_replica.proofs.CommitLaws.{worn_first, worn_second, writes_broken, writes_worn}
use Rattle.lt_replica.proofs.replica.Replica.test_writable.Goals.{then-generation-via-else-generation+then-self, then-generation-via-then-generation}
use Rattle.lt_replica.proofs.replica.Replica.test_writable.Goals as goal

pub returns-then-is_broken-clause-err : goal.returns-then-is_broken-clause-err
returns-then-is_broken-clause-err c = writes_broken c.args.self.now (sym c.if-is_broken.true ∙ c.is_broken.ensures)

pub returns-then-generation-clause-err : goal.returns-then-generation-clause-err
returns-then-generation-clause-err c =
    let r = c.args.self.now in
    writes_worn r (sym c.is_broken.ensures ∙ c.if-is_broken.false) (elim c.then-generation.branch [
      | then-generation-via-then-generation w ↦ worn_first (numbers_of r.store r.next_id) (sym c.generation.ensures ∙ w.if-generation.true)
      | then-generation-via-else-generation+then-self w ↦ worn_second (numbers_of r.store r.next_id) w.if-self.true
    ])
