use Rattle.std.proofs.Common.{ap, ◌∙◌}
use Rattle.lt_memdelta.specs.Stamps.{rows_of}
use Rattle.lt_memdelta.proofs.Puts.{put-new}
use Rattle.lt_memdelta.proofs.keys.put_key.Goals as goal

pub returns-clause-ok : goal.returns-clause-ok
returns-clause-ok c = ap rows_of c.in_ok-insert.ensures.entries
    ∙ put-new c.args.key c.args.ts c.args.change c.args.keys.now.entries c.in_ok-stamps.stamps c.in_ok-insert.ensures.was_ordered c.requires c.in_ok-stamps.ensures
