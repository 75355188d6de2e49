use Rattle.std.proofs.Common.{List, ap, subst, sym, ◌∙◌}
use Rattle.std.specs.BTreeMap.{is_at}
use Rattle.lt_terms.specs.Key.{bytes_cmp}
use Rattle.lt_pending.specs.Stamps.{AreNamed, changes_in}
use Rattle.lt_pending.proofs.Names.{put-named, set-named}
use Rattle.lt_pending.proofs.Puts.{Held, on-err, on-ok, put-old-at, put-same}
use Rattle.lt_pending.proofs.keys.put_in.Goals as goal

pub returns-in-Some-clause-ok : goal.returns-in-Some-clause-ok
returns-in-Some-clause-ok c =
    let n = c.put_stamp.new.stamps in
    on-ok c.put_stamp.result (λ e. ap changes_in (c.get_mut.follows.holds n).0
    ∙ put-old-at c.args.change c.args.key c.args.keys.now.entries c.in-Some.stamps.now n c.requires.key c.in-Some.ensures.ordered c.requires.named c.requires.fresh (sym c.in-Some.ensures.value) e) c.put_stamp.ensures.ok

pub returns-in-Some-clause-err : goal.returns-in-Some-clause-err
returns-in-Some-clause-err c =
    let n = c.put_stamp.new.stamps in
    on-err c.put_stamp.result (λ e. ap changes_in (c.get_mut.follows.holds n).0
    ∙ put-same (is_at (bytes_cmp c.args.key)) c.args.keys.now.entries c.in-Some.stamps.now n (sym c.in-Some.ensures.value) e) c.put_stamp.ensures.err

pub returns-in-Some-clause-named : goal.returns-in-Some-clause-named
returns-in-Some-clause-named c =
    let n = c.put_stamp.new.stamps in
    let All : List Held → Type 0 = λ es. AreNamed es in
    subst All (sym (c.get_mut.follows.holds n).0)
    (set-named (is_at (bytes_cmp c.args.key)) c.args.keys.now.entries c.in-Some.stamps.now n (sym c.in-Some.ensures.value)
    (λ k t m. put-named c.args.key k c.args.change c.in-Some.stamps.now n c.put_stamp.result c.requires.key t c.put_stamp.ensures.ok c.put_stamp.ensures.err m) c.requires.named)
