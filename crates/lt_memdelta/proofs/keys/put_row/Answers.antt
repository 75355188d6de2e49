use Rattle.std.proofs.Common.{ap, sym, ◌∙◌}
use Rattle.std.specs.BTreeMap.{is_at}
use Rattle.lt_terms.specs.Key.{bytes_cmp}
use Rattle.lt_memdelta.specs.Stamps.{rows_of}
use Rattle.lt_memdelta.specs.declared.change.Change.{Change}
use Rattle.lt_memdelta.proofs.Puts.{on-err, on-ok, put-old, put-same}
use Rattle.lt_memdelta.proofs.keys.put_row.Goals as goal

pub returns-in-Some-clause-ok : goal.returns-in-Some-clause-ok
returns-in-Some-clause-ok c =
    let row = c.args.row in
    let change : Change = record { op = row.op; cells = row.cells } in
    let n = c.put_stamp.new.stamps in
    on-ok c.put_stamp.result (λ e. ap rows_of (c.get_mut.follows.holds n).0
    ∙ put-old row.key row.ts change c.args.keys.now.entries c.in-Some.stamps.now n c.in-Some.ensures.ordered (sym c.in-Some.ensures.value) e) c.put_stamp.ensures.ok

pub returns-in-Some-clause-err : goal.returns-in-Some-clause-err
returns-in-Some-clause-err c =
    let n = c.put_stamp.new.stamps in
    on-err c.put_stamp.result (λ e. ap rows_of (c.get_mut.follows.holds n).0
    ∙ put-same (is_at (bytes_cmp c.args.row.key)) c.args.keys.now.entries c.in-Some.stamps.now n (sym c.in-Some.ensures.value) e) c.put_stamp.ensures.err
