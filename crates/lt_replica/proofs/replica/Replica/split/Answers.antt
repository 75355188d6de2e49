use Rattle.std.proofs.Common.{refl, ◌∙◌}
use Rattle.std.proofs.lemmas.List.{length-map}
use Rattle.lt_disk.proofs.Moments.{Device}
use Rattle.lt_pending.specs.Held.{held_in}
use Rattle.lt_pred.specs.View.{view_literals}
use Rattle.lt_tables.specs.Query.{do_split}
use Rattle.lt_reply.specs.declared.reply.Reply.TheVariants as reply
use Rattle.lt_replica.proofs.SplitCommits.{has_split, key_refuses, parts_refuse, split_tried}
use Rattle.lt_replica.proofs.TriedLaws.{answered_err, answered_ok, is_error, refused_first, writes_not}
use Rattle.lt_replica.proofs.replica.Replica.split.Given as given
use Rattle.lt_replica.proofs.replica.Replica.split.Goals as goal

abbrev device : (g : given.Over) → Device g.row.D.Denot
device g = record { state = g.D.Disk.state; counts_now = g.met.D.Disk.counts_now; only_now = g.met.D.Disk.only_now; reads_an_image = g.met.D.Disk.reads_an_image }

pub returns-in_err-test_writable : goal.returns-in_err-test_writable
returns-in_err-test_writable g c =
    let e = c.in_err-test_writable in
    writes_not (device g) c.args.disk.now c.args.self.now (do_split c.args.table.now (view_literals c.args.key.now)) e.field-0.0 c.from_residual.result (is_error _ _ c.from_residual.ensures.1) refl e.ensures.named e.ensures.err

pub returns-in_err-key : goal.returns-in_err-key
returns-in_err-key g c =
    let s = c.args.self.now in
    let name = c.args.table.now in
    let ls = view_literals c.args.key.now in
    let may = c.in_ok-test_writable.ensures.ok in
    let e = c.in_err-key in
    refused_first (device g) c.args.disk.now s (do_split name ls) e.field-0.0 _ (is_error _ _ c.from_residual-in_err-key.ensures.1) may.whole (key_refuses s name ls e.field-0.0 may e.ensures.refused)

pub returns-in_err-map : goal.returns-in_err-map
returns-in_err-map g c =
    let s = c.args.self.now in
    let name = c.args.table.now in
    let ls = view_literals c.args.key.now in
    let may = c.in_ok-test_writable.ensures.ok in
    let e = c.in_err-map in
    refused_first (device g) c.args.disk.now s (do_split name ls) e.field-0.0 _ (is_error _ _ c.from_residual-in_err-map.ensures.1) may.whole (parts_refuse s name ls c.in_ok-key.key e.field-0.0 may c.in_ok-key.ensures.key e.ensures.refused)

pub returns-in_err-commit_split : goal.returns-in_err-commit_split
returns-in_err-commit_split g c =
    let v = device g in
    let s = c.args.self.now in
    let name = c.args.table.now in
    let ls = view_literals c.args.key.now in
    let key = c.in_ok-key.key in
    let upper = c.in_ok-map.upper in
    let m = c.in_ok-map.ensures in
    let says = reply.Split upper in
    let e = c.in_err-commit_split in
    split_tried (v.state c.args.disk.now) (v.state c.commit_split.new.disk) s c.commit_split.new.self name ls key c.settle.new.map upper says c.commit_split.result _ c.in_ok-test_writable.ensures.ok c.in_ok-key.ensures.key
    (has_split s.catalogue name ls s.map c.in_ok-map.map c.settle.new.map key upper c.in_ok-key.ensures.key m.split m.part m.free c.settle.ensures.parts) (length-map s.parts.items held_in ∙ s.as_many) refl
    c.commit_split.ensures.rest c.commit_split.ensures.tried (answered_err c.commit_split.result e.field-0.0 says _ e.was (is_error _ _ c.from_residual-in_err-commit_split.ensures.1))

pub returns : goal.returns
returns g c =
    let v = device g in
    let s = c.args.self.now in
    let name = c.args.table.now in
    let ls = view_literals c.args.key.now in
    let key = c.in_ok-key.key in
    let upper = c.in_ok-map.upper in
    let m = c.in_ok-map.ensures in
    let says = reply.Split upper in
    let done = c.in_ok-commit_split in
    split_tried (v.state c.args.disk.now) (v.state c.commit_split.new.disk) s c.commit_split.new.self name ls key c.settle.new.map upper says c.commit_split.result _ c.in_ok-test_writable.ensures.ok c.in_ok-key.ensures.key
    (has_split s.catalogue name ls s.map c.in_ok-map.map c.settle.new.map key upper c.in_ok-key.ensures.key m.split m.part m.free c.settle.ensures.parts) (length-map s.parts.items held_in ∙ s.as_many) refl
    c.commit_split.ensures.rest c.commit_split.ensures.tried (answered_ok c.commit_split.result done.field-0 says done.was)
