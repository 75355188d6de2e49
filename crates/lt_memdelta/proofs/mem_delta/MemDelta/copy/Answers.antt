use Rattle.std.proofs.Common.{ap, ◌∙◌}
use Rattle.std.specs.Prelude.{map}
use Rattle.lt_memdelta.specs.Deltas.{with_rows}
use Rattle.lt_memdelta.specs.Groups.{rows_from}
use Rattle.lt_memdelta.proofs.Grouped.{all-from-least}
use Rattle.lt_memdelta.proofs.mem_delta.MemDelta.copy.Goals as goal

pub returns : goal.returns
returns c = c.in_ok-groups.ensures.groups ∙ ap (λ low. map (with_rows (rows_from low)) c.deref.result.now) c.new-least.ensures ∙ all-from-least c.deref.result.now ∙ c.deref.ensures.value ∙ c.self.view_is
