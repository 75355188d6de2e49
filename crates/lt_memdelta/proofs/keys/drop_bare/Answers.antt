use Rattle.std.proofs.Common.{ap, ◌∙◌}
use Rattle.std.specs.BTreeMap.{is_at}
use Rattle.lt_terms.specs.Key.{bytes_cmp}
use Rattle.lt_memdelta.specs.Stamps.{rows_of}
use Rattle.lt_memdelta.proofs.Takes.{drop-bare}
use Rattle.lt_memdelta.proofs.keys.drop_bare.Goals as goal

pub returns-then-is_bare : goal.returns-then-is_bare
returns-then-is_bare c = ap rows_of c.remove.ensures.entries
    ∙ drop-bare (is_at (bytes_cmp c.args.key.now)) c.args.keys.now.entries (c.is_bare.ensures.bare c.if-is_bare.true)
