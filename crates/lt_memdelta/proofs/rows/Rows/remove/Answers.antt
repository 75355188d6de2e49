use Rattle.std.proofs.Common.{sym, subst, ◌∙◌, ◌≡◌}
use Rattle.std.specs.Prelude.{IsTrue, List, not}
use Rattle.lt_tables.specs.Version.{RowVersion, is_ordered}
use Rattle.lt_lemmas.proofs.MergeLaws.{filter-ordered}
use Rattle.lt_memdelta.specs.Groups.{has_name, without}
use Rattle.lt_memdelta.specs.Stamps.{rows_of}
use Rattle.lt_memdelta.proofs.rows.Rows.remove.Goals as goal

pub invariant_of-self : goal.invariant_of-self
invariant_of-self c =
    let old = rows_of c.self.inside.keys.entries in
    let new : rows_of c.drop_bare.new.keys.entries ≡ without c.args.key.now c.args.ts old = c.drop_bare.ensures ∙ c.take_row-removed.ensures.taken in
    let P : List RowVersion → Type 0 = λ vs. IsTrue (is_ordered vs) in
    subst P (sym new) (filter-ordered (λ v. not (has_name c.args.key.now c.args.ts v)) old c.self.invariant)
