use Rattle.std.proofs.Common.{ap, refl}
use Rattle.lt_disk.proofs.Moments.{Device}
use Rattle.lt_tables.specs.Query.{do_retire}
use Rattle.lt_reply.specs.declared.reply.Reply.TheVariants as reply
use Rattle.lt_words.specs.Reply.{retire_done}
use Rattle.lt_replica.proofs.TriedLaws.{answered_err, answered_ok, is_error, lacks_first, refused_first, retire_refuses, retire_tried, writes_not}
use Rattle.lt_replica.proofs.replica.Replica.retire.Given as given
use Rattle.lt_replica.proofs.replica.Replica.retire.Goals as goal

abbrev device : (g : given.Over) → Device g.row.D.Denot
device g = record { state = g.D.Disk.state; counts_now = g.met.D.Disk.counts_now; only_now = g.met.D.Disk.only_now; reads_an_image = g.met.D.Disk.reads_an_image }

pub returns-in_err-test_writable : goal.returns-in_err-test_writable
returns-in_err-test_writable g c =
    let e = c.in_err-test_writable in
    writes_not (device g) c.args.disk.now c.args.self.now (do_retire c.args.table.now c.args.version) e.field-0.0 c.from_residual.result (is_error _ _ c.from_residual.ensures.1) refl e.ensures.named e.ensures.err

pub returns-in_err-name : goal.returns-in_err-name
returns-in_err-name g c = lacks_first (device g) c.args.disk.now c.args.self.now (do_retire c.args.table.now c.args.version) _ (is_error _ _ c.from_residual-in_err-name.ensures.1)

pub returns-in_err-catalogue : goal.returns-in_err-catalogue
returns-in_err-catalogue g c =
    let s = c.args.self.now in
    let may = c.in_ok-test_writable.ensures.ok in
    let e = c.in_err-catalogue in
    refused_first (device g) c.args.disk.now s (do_retire c.args.table.now c.args.version) e.field-0.0 _ (is_error _ _ c.from_residual-in_err-catalogue.ensures.1) may.whole (retire_refuses s c.args.table.now c.args.version e.field-0.0 may e.ensures.refused)

pub returns-in_err-commit_catalogue : goal.returns-in_err-commit_catalogue
returns-in_err-commit_catalogue g c =
    let v = device g in
    let says = reply.Retire c.in_ok-name.name c.args.version in
    let e = c.in_err-commit_catalogue in
    retire_tried (v.state c.args.disk.now) (v.state c.commit_catalogue.new.disk) c.args.self.now c.commit_catalogue.new.self c.args.table.now c.args.version c.in_ok-catalogue.catalogue says c.commit_catalogue.result _ c.in_ok-test_writable.ensures.ok c.in_ok-catalogue.ensures.without
    (ap (λ x. retire_done x c.args.version) c.in_ok-name.ensures) c.commit_catalogue.ensures.rest c.commit_catalogue.ensures.tried (answered_err c.commit_catalogue.result e.field-0.0 says _ e.was (is_error _ _ c.from_residual-in_err-commit_catalogue.ensures.1))

pub returns : goal.returns
returns g c =
    let v = device g in
    let says = reply.Retire c.in_ok-name.name c.args.version in
    let k = c.in_ok-commit_catalogue in
    retire_tried (v.state c.args.disk.now) (v.state c.commit_catalogue.new.disk) c.args.self.now c.commit_catalogue.new.self c.args.table.now c.args.version c.in_ok-catalogue.catalogue says c.commit_catalogue.result _ c.in_ok-test_writable.ensures.ok c.in_ok-catalogue.ensures.without
    (ap (λ x. retire_done x c.args.version) c.in_ok-name.ensures) c.commit_catalogue.ensures.rest c.commit_catalogue.ensures.tried (answered_ok c.commit_catalogue.result k.field-0 says k.was)
