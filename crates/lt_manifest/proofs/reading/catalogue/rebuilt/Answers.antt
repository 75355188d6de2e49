use Rattle.std.proofs.Common.{sym, ◌∙◌}
use Rattle.lt_manifest.proofs.Rebuilt.{made, not_made, out_of_turn}
use Rattle.lt_manifest.proofs.reading.catalogue.rebuilt.Goals as goal

pub returns-then-not-are_in_turn : goal.returns-then-not-are_in_turn
returns-then-not-are_in_turn c = out_of_turn _ (sym c.are_in_turn.ensures ∙ c.if-not-are_in_turn.true)

pub returns-then-branch : goal.returns-then-branch
returns-then-branch c = made _ _ c.new-catalogue.result c.in_ok-add_tables.field-0 c.new-catalogue.ensures c.if-branch.true (sym c.are_in_turn.ensures ∙ c.if-not-are_in_turn.false) c.in_ok-add_tables.ensures

pub returns-else-branch : goal.returns-else-branch
returns-else-branch c = not_made _ c.add_tables.new.catalogue c.new-catalogue.result c.in_ok-add_tables.field-0 c.new-catalogue.ensures c.if-branch.false c.in_ok-add_tables.ensures
