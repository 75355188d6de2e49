use Rattle.std.proofs.Common.{ap, false, refl, subst, sym, ◌∙◌, ◌≡◌}
use Rattle.std.specs.Prelude.{IfSome, map}
use Rattle.lt_disk.proofs.Moments.{Device}
use Rattle.lt_machine.specs.Program.{ReadsAll}
use Rattle.lt_image_laws.specs.Opening.{named_extents}
use Rattle.lt_delta.specs.View.{view_index}
use Rattle.lt_manifest.specs.View.{view_manifest}
use Rattle.lt_store.specs.Opening.{OpensSynced, refusal_of_root}
use Rattle.lt_store.specs.declared.refusal.OpenRefusal.TheVariants as refusals
use Rattle.lt_store.proofs.Looking.{looks_on, looks_once}
use Rattle.lt_store.proofs.Steps.{behind, is_error, looks_behind, no_indexes, no_manifest, no_memory, no_root, no_space, opens, value_of}
use Rattle.lt_store.proofs.opening.open_synced.Given as given
use Rattle.lt_store.proofs.opening.open_synced.Goals as goal

abbrev device : (g : given.Over) → Device g.row.D.Denot
device g = record { state = g.D.Disk.state; counts_now = g.met.D.Disk.counts_now; only_now = g.met.D.Disk.only_now; reads_an_image = g.met.D.Disk.reads_an_image }

pub returns-in_err-root-clause-opens : goal.returns-in_err-root-clause-opens
returns-in_err-root-clause-opens g c =
    let old = g.D.Disk.state c.args.disk.now in
    let now = g.D.Disk.state c.load.new.disk in
    let load = c.in_err-root.ensures in
    let r = c.in_err-root.field-0.0 in
    subst (OpensSynced old now) (sym (is_error c.from_residual.result (refusal_of_root r) c.from_residual.ensures.1))
    (no_root old now r (looks_once old now load.same load.images load.read load.written load.goes) load.cause load.refused)

pub returns-in_err-manifest-clause-opens : goal.returns-in_err-manifest-clause-opens
returns-in_err-manifest-clause-opens g c =
    let v = device g in
    let old = v.state c.args.disk.now in
    let mid = v.state c.load.new.disk in
    let now = v.state c.read_manifest.new.disk in
    let load = c.in_ok-root.ensures in
    let e = c.in_err-manifest.field-0.0 in
    subst (OpensSynced old now) (sym (is_error c.from_residual-in_err-manifest.result e c.from_residual-in_err-manifest.ensures.1))
    (no_manifest old mid now c.in_ok-root.root e (looks_on v 1 2 c.args.disk.now c.load.new.disk c.read_manifest.new.disk (looks_once old mid load.same load.images load.read load.written load.goes) c.in_err-manifest.ensures.looks)
    load.same load.cause.kept load.ok c.in_err-manifest.ensures.cause c.in_err-manifest.ensures.refused)

pub returns-in_err-indexes-clause-opens : goal.returns-in_err-indexes-clause-opens
returns-in_err-indexes-clause-opens g c =
    let v = device g in
    let old = v.state c.args.disk.now in
    let mid = v.state c.read_manifest.new.disk in
    let now = v.state c.read_indexes.new.disk in
    let load = c.in_ok-root.ensures in
    let read = c.in_ok-manifest.ensures in
    let r = c.in_ok-root.root in
    let m = c.in_ok-manifest.manifest in
    let e = c.in_err-indexes.field-0.0 in
    let was = behind v c.args.disk.now c.load.new.disk c.read_manifest.new.disk r m (looks_once old (v.state c.load.new.disk) load.same load.images load.read load.written load.goes) read.looks load.cause.kept read.cause.kept load.ok read.read in
    subst (OpensSynced old now) (sym (is_error c.from_residual-in_err-indexes.result e c.from_residual-in_err-indexes.ensures.1))
    (no_indexes (value_of c.read_indexes.result) old mid now r m e (looks_behind v c.args.disk.now c.read_manifest.new.disk c.read_indexes.new.disk r m was c.in_err-indexes.ensures.looks) was.looks.told was.faults was.has
    c.in_err-indexes.ensures.cause c.in_err-indexes.ensures.refused)

pub returns-in_err-live-clause-opens : goal.returns-in_err-live-clause-opens
returns-in_err-live-clause-opens g c =
    let v = device g in
    let old = v.state c.args.disk.now in
    let now = v.state c.read_indexes.new.disk in
    let load = c.in_ok-root.ensures in
    let read = c.in_ok-manifest.ensures in
    let r = c.in_ok-root.root in
    let m = c.in_ok-manifest.manifest in
    let was = behind v c.args.disk.now c.load.new.disk c.read_manifest.new.disk r m (looks_once old (v.state c.load.new.disk) load.same load.images load.read load.written load.goes) read.looks load.cause.kept read.cause.kept load.ok read.read in
    let all = c.in_ok-indexes.ensures in
    subst (OpensSynced old now) (sym (is_error c.from_residual-in_err-live.result refusals.Memory c.from_residual-in_err-live.ensures.1))
    (no_memory old now r m (looks_behind v c.args.disk.now c.read_manifest.new.disk c.read_indexes.new.disk r m was all.looks) (all.cause.kept ∙ was.faults) was.has)

pub returns-in_err-space-clause-opens : goal.returns-in_err-space-clause-opens
returns-in_err-space-clause-opens g c =
    let v = device g in
    let old = v.state c.args.disk.now in
    let now = v.state c.read_indexes.new.disk in
    let load = c.in_ok-root.ensures in
    let read = c.in_ok-manifest.ensures in
    let r = c.in_ok-root.root in
    let m = c.in_ok-manifest.manifest in
    let is = c.in_ok-indexes.indexes.items in
    let was = behind v c.args.disk.now c.load.new.disk c.read_manifest.new.disk r m (looks_once old (v.state c.load.new.disk) load.same load.images load.read load.written load.goes) read.looks load.cause.kept read.cause.kept load.ok read.read in
    let all = c.in_ok-indexes.ensures in
    let e = c.in_err-space.field-0.0 in
    let reads = subst (λ told. IfSome told (λ image. ReadsAll image m.catalogue (view_manifest m).deltas (map view_index is))) was.looks.told all.read in
    let named = c.deref-2.ensures.value ∙ c.in_ok-live.ensures ∙ ap (λ xs. named_extents r (view_manifest m) (map view_index xs)) c.deref.ensures.value in
    subst (OpensSynced old now) (sym (is_error c.from_residual-in_err-space.result e c.from_residual-in_err-space.ensures.1))
    (no_space (value_of c.space_of.result) old now r m is c.deref-2.result.now e (looks_behind v c.args.disk.now c.read_manifest.new.disk c.read_indexes.new.disk r m was all.looks) (all.cause.kept ∙ was.faults) was.has reads named
    c.in_err-space.ensures.own c.in_err-space.ensures.refused)

pub invariant_of-store : goal.invariant_of-store
invariant_of-store g c = record { slot = c.in_ok-root.ensures.lawful.1 }

pub returns-clause-opens : goal.returns-clause-opens
returns-clause-opens g c =
    let v = device g in
    let old = v.state c.args.disk.now in
    let now = v.state c.read_indexes.new.disk in
    let load = c.in_ok-root.ensures in
    let read = c.in_ok-manifest.ensures in
    let r = c.in_ok-root.root in
    let m = c.in_ok-manifest.manifest in
    let is = c.in_ok-indexes.indexes.items in
    let was = behind v c.args.disk.now c.load.new.disk c.read_manifest.new.disk r m (looks_once old (v.state c.load.new.disk) load.same load.images load.read load.written load.goes) read.looks load.cause.kept read.cause.kept load.ok read.read in
    let all = c.in_ok-indexes.ensures in
    let reads = subst (λ told. IfSome told (λ image. ReadsAll image m.catalogue (view_manifest m).deltas (map view_index is))) was.looks.told all.read in
    let named = c.deref-2.ensures.value ∙ c.in_ok-live.ensures ∙ ap (λ xs. named_extents r (view_manifest m) (map view_index xs)) c.deref.ensures.value in
    let whole : false ≡ false = refl in
    opens old now _ c.deref-2.result.now (looks_behind v c.args.disk.now c.read_manifest.new.disk c.read_indexes.new.disk r m was all.looks) (all.cause.kept ∙ was.faults) was.has reads read.lawful all.lawful named
    c.in_ok-space.ensures.apart c.in_ok-space.ensures.taken c.in_ok-space.ensures.limit whole
