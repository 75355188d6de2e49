use Rattle.std.proofs.Common.{ap, rules, ◌∙◌}
use Rattle.std.proofs.lemmas.Fn.{filter_same}
use Rattle.lt_memdelta.specs.Deltas.{is_kept, total}
use Rattle.lt_memdelta.proofs.Grouped.{kept-total}
use Rattle.lt_memdelta.proofs.group.drop_empty.Goals as goal

pub returns-clause-kept : goal.returns-clause-kept
returns-clause-kept c = filter_same _ is_kept _ (λ x b f' k. search rules) _ _ c.retain.ensures.filtered

pub returns-clause-count : goal.returns-clause-count
returns-clause-count c = ap total (returns-clause-kept c) ∙ kept-total c.args.groups.now.items
