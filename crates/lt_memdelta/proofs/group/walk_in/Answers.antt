use Rattle.std.proofs.Common.{List, ap, refl, slice_index_or, subst, sym, ◌∙◌, ◌≡◌}
use Rattle.std.specs.Prelude.{IsTrue}
use Rattle.lt_core.specs.View.{view_range}
use Rattle.lt_tables.specs.Version.{RowVersion, clip, is_ordered}
use Rattle.lt_memdelta.specs.Deltas.{group_rows}
use Rattle.lt_memdelta.specs.declared.group.Group.{Group}
use Rattle.lt_memdelta.proofs.Grouped.{rows-at, rows-nowhere, stands-at, stands-nowhere}
use Rattle.lt_memdelta.proofs.group.walk_in.Goals as goal

abbrev Ordered : List RowVersion → Type 0
Ordered vs = IsTrue (is_ordered vs)

-- the rows of the group that was found
abbrev found : goal.After-walk → Type 0
found c = group_rows c.args.table c.args.version c.args.groups.now ≡ (slice_index_or c.args.groups.now c.in-Some.i c.index-groups-i.result).rows

found-rows : (c : goal.After-walk) → found c
found-rows c =
    let at = stands-at c.args.table c.args.version c.args.groups.now c.in-Some.i c.index-groups-i.result (sym c.position_of.ensures ∙ c.in-Some.is) in
    rows-at c.args.table c.args.version c.args.groups.now c.in-Some.i c.index-groups-i.result at c.index-groups-i.is ∙ ap (λ (g : Group). g.rows) c.index-groups-i.is

pub returns-in-Some-clause-rest : goal.returns-in-Some-clause-rest
returns-in-Some-clause-rest c = c.walk.ensures.rest ∙ ap (clip (view_range c.args.range.now)) (sym (found-rows c))

pub returns-in-Some-clause-ordered : goal.returns-in-Some-clause-ordered
returns-in-Some-clause-ordered c = subst Ordered (sym (found-rows c)) c.walk.ensures.ordered

pub returns-in-None-clause-rest : goal.returns-in-None-clause-rest
returns-in-None-clause-rest c =
    c.none.ensures ∙ ap (clip (view_range c.args.range.now)) (sym (rows-nowhere c.args.table c.args.version c.args.groups.now (stands-nowhere c.args.table c.args.version c.args.groups.now (sym c.position_of.ensures ∙ c.in-None.is))))

pub returns-in-None-clause-ordered : goal.returns-in-None-clause-ordered
returns-in-None-clause-ordered c =
    subst Ordered (sym (rows-nowhere c.args.table c.args.version c.args.groups.now (stands-nowhere c.args.table c.args.version c.args.groups.now (sym c.position_of.ensures ∙ c.in-None.is)))) refl
