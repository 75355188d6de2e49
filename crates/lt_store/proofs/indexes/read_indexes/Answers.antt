use Rattle.std.proofs.Common.{[], ap, arith, get_or, length-append, subst, sym, ◌<◌, ◌∙◌, ◌∷◌}
use Rattle.std.specs.Prelude.{IfSome, length, map, take, ◌+◌}
use Rattle.std.specs.List.{AllByRecursion}
use Rattle.lt_world.specs.Disk.{bytes_in}
use Rattle.lt_storage.specs.Store.{IsIndex}
use Rattle.lt_machine.specs.Program.{ReadsAll}
use Rattle.lt_disk.proofs.Moments.{Device}
use Rattle.lt_delta.specs.Reading.{IsLawful}
use Rattle.lt_delta.specs.View.{view_index}
use Rattle.lt_manifest.specs.View.{view_delta, view_manifest}
use Rattle.lt_manifest.specs.declared.stored.DeltaStored.{DeltaStored}
use Rattle.lt_store.specs.Opening.{HurtsIndex, HurtsIndexes, RefusesStep}
use Rattle.lt_store.proofs.Indexing.{at_error, hurts_first, lawful_more, read_more, refuses_by}
use Rattle.lt_store.proofs.Looking.{looks_on}
use Rattle.lt_store.proofs.indexes.read_indexes.Given as given
use Rattle.lt_store.proofs.indexes.read_indexes.Goals as goal

abbrev device : (g : given.Over) → Device g.row.D.Denot
device g = record { state = g.D.Disk.state; counts_now = g.met.D.Disk.counts_now; only_now = g.met.D.Disk.only_now; reads_an_image = g.met.D.Disk.reads_an_image }

abbrev none : DeltaStored
none = record { id = 0; index = record { place = 0; length = 0 } }

pub returns-in_err-index-clause-refused : goal.returns-in_err-index-clause-refused
returns-in_err-index-clause-refused g c =
    let old = (g.D.Disk.state c.args.disk.now).told in
    let now = (g.D.Disk.state c.loop-delta.disk).told in
    let so_far = c.loop-delta.invariant in
    let m = c.args.manifest.now in
    let n = c.loop-delta.delta-index in
    let d = get_or c.as_slice-delta-items.result.now n none in
    let there : n < length m.deltas = omega (arith, c.loop-delta-test.true, ap length c.as_slice-delta-items.ensures) in
    at_error (RefusesStep (HurtsIndexes old (view_manifest m))) c.from_residual.result c.in_err-index.field-0.0 c.from_residual.ensures.1
    (refuses_by (HurtsIndex now (view_manifest m) d.index) (HurtsIndexes old (view_manifest m)) c.in_err-index.field-0.0
    (λ e hurts. hurts_first old now m n c.loop-delta.indexes.items d none so_far.looks.told there (ap (λ ds. get_or ds n none) c.as_slice-delta-items.ensures) so_far.read e hurts)
    c.in_err-index.ensures.refused)

pub loop-delta-preserved : goal.loop-delta-preserved
loop-delta-preserved g c =
    let v = device g in
    let old = c.args.disk.now in
    let so_far = c.loop-delta.invariant in
    let m = c.args.manifest.now in
    let n = c.loop-delta.delta-index in
    let is = c.loop-delta.indexes.items in
    let i = c.in_ok-index.index in
    let d = get_or c.as_slice-delta-items.result.now n none in
    let there : n < length m.deltas = omega (arith, c.loop-delta-test.true, ap length c.as_slice-delta-items.ensures) in
    let known = c.in_ok-index.ensures in
    let read = subst (λ told. IfSome told (λ image. IsIndex (view_index i) (bytes_in image d.index))) {x = (v.state c.loop-delta.disk).told} {y = (v.state old).told} so_far.looks.told known.read in
    record {
      looks = looks_on v n 1 old c.loop-delta.disk c.read_known.new.disk so_far.looks c.read_known.ensures.looks;
      faults = known.cause.kept ∙ so_far.faults;
      read = subst (λ xs. IfSome (v.state old).told (λ image. ReadsAll image m.catalogue (map view_delta (take (n + 1) m.deltas)) (map view_index xs))) (sym c.in_ok-push.ensures.items)
          (read_more (v.state old).told m n is d none i there (ap (λ ds. get_or ds n none) c.as_slice-delta-items.ensures) so_far.read read known.known);
      lawful = subst (λ xs. AllByRecursion IsLawful (map view_index xs)) (sym c.in_ok-push.ensures.items) (lawful_more is i so_far.lawful known.lawful);
      many = ap length c.in_ok-push.ensures.items ∙ length-append is (i ∷ []) ∙ ap (λ k. k + 1) so_far.many;
    }
