use Rattle.std.proofs.Common.{ap, refl}
use Rattle.lt_disk.proofs.Moments.{Device}
use Rattle.lt_tables.specs.Query.{do_schema}
use Rattle.lt_schema.specs.View.{view_version}
use Rattle.lt_reply.specs.declared.reply.Reply.TheVariants as reply
use Rattle.lt_words.specs.Reply.{schema_done}
use Rattle.lt_replica.proofs.TriedLaws.{answered_err, answered_ok, is_error, lacks_first, refused_first, schema_tried, text_refuses, version_refuses, writes_not}
use Rattle.lt_replica.proofs.replica.Replica.schema.Given as given
use Rattle.lt_replica.proofs.replica.Replica.schema.Goals as goal

abbrev device : (g : given.Over) → Device g.row.D.Denot
device g = record { state = g.D.Disk.state; counts_now = g.met.D.Disk.counts_now; only_now = g.met.D.Disk.only_now; reads_an_image = g.met.D.Disk.reads_an_image }

pub returns-in_err-test_writable : goal.returns-in_err-test_writable
returns-in_err-test_writable g c =
    let e = c.in_err-test_writable in
    writes_not (device g) c.args.disk.now c.args.self.now (do_schema c.args.text.now) e.field-0.0 c.from_residual.result (is_error _ _ c.from_residual.ensures.1) refl e.ensures.named e.ensures.err

pub returns-in_err-version : goal.returns-in_err-version
returns-in_err-version g c =
    let s = c.args.self.now in
    let may = c.in_ok-test_writable.ensures.ok in
    let e = c.in_err-version in
    refused_first (device g) c.args.disk.now s (do_schema c.args.text.now) e.field-0.0 _ (is_error _ _ c.from_residual-in_err-version.ensures.1) may.whole (text_refuses s c.args.text.now e.field-0.0 may e.ensures.err)

pub returns-in_err-copy : goal.returns-in_err-copy
returns-in_err-copy g c = lacks_first (device g) c.args.disk.now c.args.self.now (do_schema c.args.text.now) _ (is_error _ _ c.from_residual-in_err-copy.ensures.1)

pub returns-in_err-catalogue : goal.returns-in_err-catalogue
returns-in_err-catalogue g c =
    let s = c.args.self.now in
    let may = c.in_ok-test_writable.ensures.ok in
    let e = c.in_err-catalogue in
    refused_first (device g) c.args.disk.now s (do_schema c.args.text.now) e.field-0.0 _ (is_error _ _ c.from_residual-in_err-catalogue.ensures.1) may.whole
    (version_refuses s c.args.text.now (view_version c.in_ok-version.version) e.field-0.0 may c.in_ok-version.ensures.ok e.ensures.refused)

pub returns-in_err-commit_catalogue : goal.returns-in_err-commit_catalogue
returns-in_err-commit_catalogue g c =
    let v = device g in
    let version = view_version c.in_ok-version.version in
    let says = reply.Schema c.in_ok-copy.field-0 version.version in
    let e = c.in_err-commit_catalogue in
    let k = c.in_ok-catalogue.ensures in
    schema_tried (v.state c.args.disk.now) (v.state c.commit_catalogue.new.disk) c.args.self.now c.commit_catalogue.new.self c.args.text.now version c.in_ok-catalogue.catalogue says c.commit_catalogue.result _ c.in_ok-test_writable.ensures.ok c.in_ok-version.ensures.ok k.free k.with
    (ap (λ x. schema_done x version.version) c.in_ok-copy.ensures) c.commit_catalogue.ensures.rest c.commit_catalogue.ensures.tried (answered_err c.commit_catalogue.result e.field-0.0 says _ e.was (is_error _ _ c.from_residual-in_err-commit_catalogue.ensures.1))

pub returns : goal.returns
returns g c =
    let v = device g in
    let version = view_version c.in_ok-version.version in
    let says = reply.Schema c.in_ok-copy.field-0 version.version in
    let done = c.in_ok-commit_catalogue in
    let k = c.in_ok-catalogue.ensures in
    schema_tried (v.state c.args.disk.now) (v.state c.commit_catalogue.new.disk) c.args.self.now c.commit_catalogue.new.self c.args.text.now version c.in_ok-catalogue.catalogue says c.commit_catalogue.result _ c.in_ok-test_writable.ensures.ok c.in_ok-version.ensures.ok k.free k.with
    (ap (λ x. schema_done x version.version) c.in_ok-copy.ensures) c.commit_catalogue.ensures.rest c.commit_catalogue.ensures.tried (answered_ok c.commit_catalogue.result done.field-0 says done.was)
