use Rattle.std.proofs.Common.{sym, subst, ◌∙◌}
use Rattle.std.specs.Prelude.{IsTrue, List, not}
use Rattle.lt_terms.specs.Key.{below}
use Rattle.lt_tables.specs.Version.{RowVersion, is_ordered}
use Rattle.lt_lemmas.proofs.MergeLaws.{filter-ordered}
use Rattle.lt_memdelta.specs.Stamps.{rows_of}
use Rattle.lt_memdelta.proofs.rows.Rows.copy_from.Goals as goal

pub copied-requires : goal.copied-requires
copied-requires c =
    let P : List RowVersion → Type 0 = λ vs. IsTrue (is_ordered vs) in
    subst P (sym (c.over.ensures ∙ c.keys_from.ensures)) (filter-ordered (λ v. not (below v.key c.args.low.now)) (rows_of c.self.inside.keys.entries) c.self.invariant)
