use Rattle.std.proofs.Common.{ap, length, sym, ◌+◌, ◌∙◌}
use Rattle.std.specs.Prelude.{if◌then◌else◌}
use Rattle.std.specs.BTreeMap.{is_at}
use Rattle.lt_terms.specs.Key.{bytes_cmp}
use Rattle.lt_memdelta.specs.Stamps.{rows_of}
use Rattle.lt_memdelta.proofs.Takes.{take-count, take-none, take-old}
use Rattle.lt_memdelta.proofs.keys.take_row.Goals as goal

pub returns-in-Some-clause-taken : goal.returns-in-Some-clause-taken
returns-in-Some-clause-taken c =
    let n = c.take_stamp.new.stamps in
    ap rows_of (c.get_mut.follows.holds n).0
    ∙ take-old c.args.key.now c.args.ts c.args.keys.now.entries c.in-Some.stamps.now n c.in-Some.ensures.ordered c.requires (sym c.in-Some.ensures.value) c.take_stamp.ensures.taken

pub returns-in-Some-clause-count : goal.returns-in-Some-clause-count
returns-in-Some-clause-count c =
    let n = c.take_stamp.new.stamps in
    ap (λ es. length (rows_of es) + (if c.take_stamp.result then 1 else 0)) (c.get_mut.follows.holds n).0
    ∙ take-count (is_at (bytes_cmp c.args.key.now)) c.args.keys.now.entries c.in-Some.stamps.now n (if c.take_stamp.result then 1 else 0) (sym c.in-Some.ensures.value) c.take_stamp.ensures.count

pub returns-in-None-clause-taken : goal.returns-in-None-clause-taken
returns-in-None-clause-taken c =
    ap (λ m. rows_of m.entries) c.get_mut.follows.holds-at-none ∙ take-none c.args.key.now c.args.ts c.args.keys.now.entries (sym c.in-None.ensures.value)
