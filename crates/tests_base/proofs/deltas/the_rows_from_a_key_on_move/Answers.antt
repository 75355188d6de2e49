use Rattle.std.proofs.Common.{List, [], sym, subst}
use Rattle.std.specs.Prelude.{IsTrue, not}
use Rattle.lt_terms.specs.Key.{below}
use Rattle.lt_tables.specs.Version.{RowVersion, is_version}
use Rattle.lt_memdelta.specs.Deltas.{EachRow}
use Rattle.lt_memdelta.specs.declared.group.Group.{Group}
use Rattle.lt_memdelta.proofs.EachRow.{each-filtered}
use Rattle.tests_base.proofs.deltas.the_rows_from_a_key_on_move.Goals as goal

abbrev Lawful : RowVersion → Type 0
Lawful w = IsTrue (is_version [] w)

abbrev AreLawful : List Group → Type 0
AreLawful gs = EachRow Lawful gs

pub walks-requires : goal.walks-requires
walks-requires g c = subst AreLawful (sym c.in_ok-moved.ensures.kept) (each-filtered Lawful (λ v. below v.key c.in_ok-key.field-0) c.in_ok-delta.delta c.in_ok-delta.ensures)

pub walks-requires-2 : goal.walks-requires-2
walks-requires-2 g c = subst AreLawful (sym c.in_ok-moved.ensures.moved) (each-filtered Lawful (λ v. not (below v.key c.in_ok-key.field-0)) c.in_ok-delta.delta c.in_ok-delta.ensures)
