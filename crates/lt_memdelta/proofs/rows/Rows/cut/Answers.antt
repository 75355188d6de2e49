use Rattle.std.proofs.Common.{sym, subst}
use Rattle.std.specs.Prelude.{IsTrue, List}
use Rattle.lt_terms.specs.Key.{below}
use Rattle.lt_tables.specs.Version.{RowVersion, is_ordered}
use Rattle.lt_lemmas.proofs.MergeLaws.{filter-ordered}
use Rattle.lt_memdelta.specs.Stamps.{rows_of}
use Rattle.lt_memdelta.proofs.rows.Rows.cut.Goals as goal

pub invariant_of-self : goal.invariant_of-self
invariant_of-self c =
    let P : List RowVersion → Type 0 = λ vs. IsTrue (is_ordered vs) in
    subst P (sym c.drop_from.ensures) (filter-ordered (λ v. below v.key c.args.low.now) (rows_of c.self.inside.keys.entries) c.self.invariant)
