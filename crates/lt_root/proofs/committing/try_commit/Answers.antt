use Rattle.std.proofs.Common.{ap, arith, inl, inr, length, ◌-◌, ◌≡◌, ◌⊎◌}
use Rattle.std.specs.Prelude.{Err, IfErr, Ok, OnErr, Result}
use Rattle.lt_world.specs.Slots.{HasRoot}
use Rattle.lt_world.specs.Slots.{slot_place}
use Rattle.lt_disk.proofs.Moments.{Device, changed, changes_on, holds_now, unchanged, weaker, where_told}
use Rattle.lt_root.specs.Roots.{next_root}
use Rattle.lt_root.specs.Steps.{HasCommitted}
use Rattle.lt_root.specs.declared.refusal.CommitFault.TheVariants as faults
use Rattle.lt_root.proofs.Stages.{body_run, closing_changes, closing_run, gate_run, gate_torn, next_is, opened_now, reaches_closed, reaches_ready, reaches_synced, sync_run}
use Rattle.lt_root.proofs.committing.try_commit.Given as given
use Rattle.lt_root.proofs.committing.try_commit.Goals as goal

abbrev device : (g : given.Over) → Device g.row.D.Denot
device g = record {
  state = g.D.Disk.state;
  counts_now = g.met.D.Disk.counts_now;
  only_now = g.met.D.Disk.only_now;
  reads_an_image = g.met.D.Disk.reads_an_image;
}

at_err : {T E P : Type 0} (r : Result T E) → P → OnErr r P
at_err (Ok x) p = tt
at_err (Err e) p = p

at_fault : {T E P : Type 0} (Q : E → Type 0) (r : Result T E) → P → IfErr r (λ e. Q e → P)
at_fault Q (Ok x) p = tt
at_fault Q (Err e) p = λ q. p

-- ---- nothing but the other slot changes

pub returns-in_err-close_gate-clause-images : goal.returns-in_err-close_gate-clause-images
returns-in_err-close_gate-clause-images g c =
    let v = device g in
    let old = c.args.disk.now in
    let slot = 1 - c.args.root.now.slot in
    let synced = unchanged v (slot_place slot) 512 old c.sync.new.self c.sync.ensures.called.time c.sync.ensures.crash c.sync.ensures.same in
    let closed = changes_on v (slot_place slot) 512 old c.sync.new.self c.close_gate.new.disk synced (closing_changes v slot c.sync.new.self c.close_gate.new.disk c.close_gate.ensures.images c.close_gate.ensures.reads) in
    closed.images

pub returns-in_err-put-clause-images : goal.returns-in_err-put-clause-images
returns-in_err-put-clause-images g c =
    let v = device g in
    let old = c.args.disk.now in
    let slot = 1 - c.args.root.now.slot in
    let synced = unchanged v (slot_place slot) 512 old c.sync.new.self c.sync.ensures.called.time c.sync.ensures.crash c.sync.ensures.same in
    let closed = changes_on v (slot_place slot) 512 old c.sync.new.self c.close_gate.new.disk synced (closing_changes v slot c.sync.new.self c.close_gate.new.disk c.close_gate.ensures.images c.close_gate.ensures.reads) in
    let written = changes_on v (slot_place slot) 512 old c.close_gate.new.disk c.put.new.disk closed (changed v (slot_place slot) 512 c.place_of_slot.result (length c.body.result) c.close_gate.new.disk c.put.new.disk (omega (arith, c.place_of_slot.ensures)) (omega (arith, c.place_of_slot.ensures, ap length c.body.ensures)) c.put.ensures.images c.put.ensures.reads) in
    written.images

pub returns-in_err-put-2-clause-images : goal.returns-in_err-put-2-clause-images
returns-in_err-put-2-clause-images g c =
    let v = device g in
    let old = c.args.disk.now in
    let slot = 1 - c.args.root.now.slot in
    let synced = unchanged v (slot_place slot) 512 old c.sync.new.self c.sync.ensures.called.time c.sync.ensures.crash c.sync.ensures.same in
    let closed = changes_on v (slot_place slot) 512 old c.sync.new.self c.close_gate.new.disk synced (closing_changes v slot c.sync.new.self c.close_gate.new.disk c.close_gate.ensures.images c.close_gate.ensures.reads) in
    let written = changes_on v (slot_place slot) 512 old c.close_gate.new.disk c.put.new.disk closed (changed v (slot_place slot) 512 c.place_of_slot.result (length c.body.result) c.close_gate.new.disk c.put.new.disk (omega (arith, c.place_of_slot.ensures)) (omega (arith, c.place_of_slot.ensures, ap length c.body.ensures)) c.put.ensures.images c.put.ensures.reads) in
    let opened = changes_on v (slot_place slot) 512 old c.put.new.disk c.put-2.new.disk written (changed v (slot_place slot) 512 c.place_of_gate.result 1 c.put.new.disk c.put-2.new.disk (omega (arith, c.place_of_gate.ensures)) (omega (arith, c.place_of_gate.ensures)) c.put-2.ensures.images c.put-2.ensures.reads) in
    opened.images

pub returns-clause-images : goal.returns-clause-images
returns-clause-images g c =
    let v = device g in
    let old = c.args.disk.now in
    let slot = 1 - c.args.root.now.slot in
    let synced = unchanged v (slot_place slot) 512 old c.sync.new.self c.sync.ensures.called.time c.sync.ensures.crash c.sync.ensures.same in
    let closed = changes_on v (slot_place slot) 512 old c.sync.new.self c.close_gate.new.disk synced (closing_changes v slot c.sync.new.self c.close_gate.new.disk c.close_gate.ensures.images c.close_gate.ensures.reads) in
    let written = changes_on v (slot_place slot) 512 old c.close_gate.new.disk c.put.new.disk closed (changed v (slot_place slot) 512 c.place_of_slot.result (length c.body.result) c.close_gate.new.disk c.put.new.disk (omega (arith, c.place_of_slot.ensures)) (omega (arith, c.place_of_slot.ensures, ap length c.body.ensures)) c.put.ensures.images c.put.ensures.reads) in
    let opened = changes_on v (slot_place slot) 512 old c.put.new.disk c.put-2.new.disk written (changed v (slot_place slot) 512 c.place_of_gate.result 1 c.put.new.disk c.put-2.new.disk (omega (arith, c.place_of_gate.ensures)) (omega (arith, c.place_of_gate.ensures)) c.put-2.ensures.images c.put-2.ensures.reads) in
    opened.images

pub returns-in_err-close_gate-clause-others : goal.returns-in_err-close_gate-clause-others
returns-in_err-close_gate-clause-others g c =
    let v = device g in
    let old = c.args.disk.now in
    let slot = 1 - c.args.root.now.slot in
    let synced = unchanged v (slot_place slot) 512 old c.sync.new.self c.sync.ensures.called.time c.sync.ensures.crash c.sync.ensures.same in
    let closed = changes_on v (slot_place slot) 512 old c.sync.new.self c.close_gate.new.disk synced (closing_changes v slot c.sync.new.self c.close_gate.new.disk c.close_gate.ensures.images c.close_gate.ensures.reads) in
    closed.reads

pub returns-in_err-put-clause-others : goal.returns-in_err-put-clause-others
returns-in_err-put-clause-others g c =
    let v = device g in
    let old = c.args.disk.now in
    let slot = 1 - c.args.root.now.slot in
    let synced = unchanged v (slot_place slot) 512 old c.sync.new.self c.sync.ensures.called.time c.sync.ensures.crash c.sync.ensures.same in
    let closed = changes_on v (slot_place slot) 512 old c.sync.new.self c.close_gate.new.disk synced (closing_changes v slot c.sync.new.self c.close_gate.new.disk c.close_gate.ensures.images c.close_gate.ensures.reads) in
    let written = changes_on v (slot_place slot) 512 old c.close_gate.new.disk c.put.new.disk closed (changed v (slot_place slot) 512 c.place_of_slot.result (length c.body.result) c.close_gate.new.disk c.put.new.disk (omega (arith, c.place_of_slot.ensures)) (omega (arith, c.place_of_slot.ensures, ap length c.body.ensures)) c.put.ensures.images c.put.ensures.reads) in
    written.reads

pub returns-in_err-put-2-clause-others : goal.returns-in_err-put-2-clause-others
returns-in_err-put-2-clause-others g c =
    let v = device g in
    let old = c.args.disk.now in
    let slot = 1 - c.args.root.now.slot in
    let synced = unchanged v (slot_place slot) 512 old c.sync.new.self c.sync.ensures.called.time c.sync.ensures.crash c.sync.ensures.same in
    let closed = changes_on v (slot_place slot) 512 old c.sync.new.self c.close_gate.new.disk synced (closing_changes v slot c.sync.new.self c.close_gate.new.disk c.close_gate.ensures.images c.close_gate.ensures.reads) in
    let written = changes_on v (slot_place slot) 512 old c.close_gate.new.disk c.put.new.disk closed (changed v (slot_place slot) 512 c.place_of_slot.result (length c.body.result) c.close_gate.new.disk c.put.new.disk (omega (arith, c.place_of_slot.ensures)) (omega (arith, c.place_of_slot.ensures, ap length c.body.ensures)) c.put.ensures.images c.put.ensures.reads) in
    let opened = changes_on v (slot_place slot) 512 old c.put.new.disk c.put-2.new.disk written (changed v (slot_place slot) 512 c.place_of_gate.result 1 c.put.new.disk c.put-2.new.disk (omega (arith, c.place_of_gate.ensures)) (omega (arith, c.place_of_gate.ensures)) c.put-2.ensures.images c.put-2.ensures.reads) in
    opened.reads

pub returns-clause-others : goal.returns-clause-others
returns-clause-others g c =
    let v = device g in
    let old = c.args.disk.now in
    let slot = 1 - c.args.root.now.slot in
    let synced = unchanged v (slot_place slot) 512 old c.sync.new.self c.sync.ensures.called.time c.sync.ensures.crash c.sync.ensures.same in
    let closed = changes_on v (slot_place slot) 512 old c.sync.new.self c.close_gate.new.disk synced (closing_changes v slot c.sync.new.self c.close_gate.new.disk c.close_gate.ensures.images c.close_gate.ensures.reads) in
    let written = changes_on v (slot_place slot) 512 old c.close_gate.new.disk c.put.new.disk closed (changed v (slot_place slot) 512 c.place_of_slot.result (length c.body.result) c.close_gate.new.disk c.put.new.disk (omega (arith, c.place_of_slot.ensures)) (omega (arith, c.place_of_slot.ensures, ap length c.body.ensures)) c.put.ensures.images c.put.ensures.reads) in
    let opened = changes_on v (slot_place slot) 512 old c.put.new.disk c.put-2.new.disk written (changed v (slot_place slot) 512 c.place_of_gate.result 1 c.put.new.disk c.put-2.new.disk (omega (arith, c.place_of_gate.ensures)) (omega (arith, c.place_of_gate.ensures)) c.put-2.ensures.images c.put-2.ensures.reads) in
    opened.reads

-- ---- each image has the old root or the next one

pub returns-in_err-close_gate-clause-any_moment : goal.returns-in_err-close_gate-clause-any_moment
returns-in_err-close_gate-clause-any_moment g c =
    let v = device g in
    let old = c.args.disk.now in
    let r = c.args.root.now in
    let n = next_root r c.args.place c.args.length in
    where_told (v.state old).told _ (λ seen is_seen behind some has.
    let next = next_is r c.args.place c.args.length c.requires.slot c.requires.generation behind (omega (arith, c.ranges.place.fits)) some (omega (arith, c.ranges.length.fits)) in
    let at_sync = reaches_synced v r n next old c.sync.new.self seen is_seen c.sync.ensures.same (sync_run v r n next old c.sync.new.self has c.sync.ensures.called.time c.sync.ensures.crash) c.in_ok-sync.ensures.durable in
    weaker v old c.close_gate.new.disk (HasRoot r) (λ image. HasRoot r image ⊎ HasCommitted n seen image) (closing_run v r n next old c.sync.new.self c.close_gate.new.disk at_sync c.close_gate.ensures.images) (λ image former. inl former))

pub returns-in_err-put-clause-any_moment : goal.returns-in_err-put-clause-any_moment
returns-in_err-put-clause-any_moment g c =
    let v = device g in
    let old = c.args.disk.now in
    let r = c.args.root.now in
    let n = next_root r c.args.place c.args.length in
    where_told (v.state old).told _ (λ seen is_seen behind some has.
    let next = next_is r c.args.place c.args.length c.requires.slot c.requires.generation behind (omega (arith, c.ranges.place.fits)) some (omega (arith, c.ranges.length.fits)) in
    let at_sync = reaches_synced v r n next old c.sync.new.self seen is_seen c.sync.ensures.same (sync_run v r n next old c.sync.new.self has c.sync.ensures.called.time c.sync.ensures.crash) c.in_ok-sync.ensures.durable in
    let at_closed = reaches_closed v r n next old c.sync.new.self c.close_gate.new.disk at_sync c.close_gate.ensures.images c.close_gate.ensures.reads (c.in_ok-close_gate.ensures.stable c.in_ok-sync.ensures.durable) c.in_ok-close_gate.ensures.closed in
    weaker v old c.put.new.disk (HasRoot r) (λ image. HasRoot r image ⊎ HasCommitted n seen image) (body_run v r n next old c.close_gate.new.disk c.put.new.disk c.place_of_slot.result c.body.result c.place_of_slot.ensures c.body.ensures at_closed c.put.ensures.images) (λ image former. inl former))

pub returns-in_err-put-2-clause-any_moment : goal.returns-in_err-put-2-clause-any_moment
returns-in_err-put-2-clause-any_moment g c =
    let v = device g in
    let old = c.args.disk.now in
    let r = c.args.root.now in
    let n = next_root r c.args.place c.args.length in
    let slot = 1 - c.args.root.now.slot in
    let synced = unchanged v (slot_place slot) 512 old c.sync.new.self c.sync.ensures.called.time c.sync.ensures.crash c.sync.ensures.same in
    let closed = changes_on v (slot_place slot) 512 old c.sync.new.self c.close_gate.new.disk synced (closing_changes v slot c.sync.new.self c.close_gate.new.disk c.close_gate.ensures.images c.close_gate.ensures.reads) in
    let written = changes_on v (slot_place slot) 512 old c.close_gate.new.disk c.put.new.disk closed (changed v (slot_place slot) 512 c.place_of_slot.result (length c.body.result) c.close_gate.new.disk c.put.new.disk (omega (arith, c.place_of_slot.ensures)) (omega (arith, c.place_of_slot.ensures, ap length c.body.ensures)) c.put.ensures.images c.put.ensures.reads) in
    where_told (v.state old).told _ (λ seen is_seen behind some has.
    let next = next_is r c.args.place c.args.length c.requires.slot c.requires.generation behind (omega (arith, c.ranges.place.fits)) some (omega (arith, c.ranges.length.fits)) in
    let at_sync = reaches_synced v r n next old c.sync.new.self seen is_seen c.sync.ensures.same (sync_run v r n next old c.sync.new.self has c.sync.ensures.called.time c.sync.ensures.crash) c.in_ok-sync.ensures.durable in
    let at_closed = reaches_closed v r n next old c.sync.new.self c.close_gate.new.disk at_sync c.close_gate.ensures.images c.close_gate.ensures.reads (c.in_ok-close_gate.ensures.stable c.in_ok-sync.ensures.durable) c.in_ok-close_gate.ensures.closed in
    let at_ready = reaches_ready v r n next old c.close_gate.new.disk c.put.new.disk c.place_of_slot.result c.body.result c.place_of_slot.ensures c.body.ensures at_closed c.put.ensures.images c.in_ok-put.ensures.bytes c.in_ok-put.ensures.stable in
    gate_run v r n next old c.put.new.disk c.put-2.new.disk c.place_of_gate.result seen c.place_of_gate.ensures is_seen written.reads at_ready c.put-2.ensures.images)

pub returns-clause-any_moment : goal.returns-clause-any_moment
returns-clause-any_moment g c =
    let v = device g in
    let old = c.args.disk.now in
    let r = c.args.root.now in
    let n = next_root r c.args.place c.args.length in
    let slot = 1 - c.args.root.now.slot in
    let synced = unchanged v (slot_place slot) 512 old c.sync.new.self c.sync.ensures.called.time c.sync.ensures.crash c.sync.ensures.same in
    let closed = changes_on v (slot_place slot) 512 old c.sync.new.self c.close_gate.new.disk synced (closing_changes v slot c.sync.new.self c.close_gate.new.disk c.close_gate.ensures.images c.close_gate.ensures.reads) in
    let written = changes_on v (slot_place slot) 512 old c.close_gate.new.disk c.put.new.disk closed (changed v (slot_place slot) 512 c.place_of_slot.result (length c.body.result) c.close_gate.new.disk c.put.new.disk (omega (arith, c.place_of_slot.ensures)) (omega (arith, c.place_of_slot.ensures, ap length c.body.ensures)) c.put.ensures.images c.put.ensures.reads) in
    where_told (v.state old).told _ (λ seen is_seen behind some has.
    let next = next_is r c.args.place c.args.length c.requires.slot c.requires.generation behind (omega (arith, c.ranges.place.fits)) some (omega (arith, c.ranges.length.fits)) in
    let at_sync = reaches_synced v r n next old c.sync.new.self seen is_seen c.sync.ensures.same (sync_run v r n next old c.sync.new.self has c.sync.ensures.called.time c.sync.ensures.crash) c.in_ok-sync.ensures.durable in
    let at_closed = reaches_closed v r n next old c.sync.new.self c.close_gate.new.disk at_sync c.close_gate.ensures.images c.close_gate.ensures.reads (c.in_ok-close_gate.ensures.stable c.in_ok-sync.ensures.durable) c.in_ok-close_gate.ensures.closed in
    let at_ready = reaches_ready v r n next old c.close_gate.new.disk c.put.new.disk c.place_of_slot.result c.body.result c.place_of_slot.ensures c.body.ensures at_closed c.put.ensures.images c.in_ok-put.ensures.bytes c.in_ok-put.ensures.stable in
    gate_run v r n next old c.put.new.disk c.put-2.new.disk c.place_of_gate.result seen c.place_of_gate.ensures is_seen written.reads at_ready c.put-2.ensures.images)

pub returns-in_err-close_gate-clause-unwritten : goal.returns-in_err-close_gate-clause-unwritten
returns-in_err-close_gate-clause-unwritten g c =
    let v = device g in
    let old = c.args.disk.now in
    let r = c.args.root.now in
    let n = next_root r c.args.place c.args.length in
    where_told (v.state old).told _ (λ seen is_seen behind some has.
    let next = next_is r c.args.place c.args.length c.requires.slot c.requires.generation behind (omega (arith, c.ranges.place.fits)) some (omega (arith, c.ranges.length.fits)) in
    let at_sync = reaches_synced v r n next old c.sync.new.self seen is_seen c.sync.ensures.same (sync_run v r n next old c.sync.new.self has c.sync.ensures.called.time c.sync.ensures.crash) c.in_ok-sync.ensures.durable in
    at_fault (λ e. e ≡ faults.Read) c.from_residual-in_err-close_gate.result (closing_run v r n next old c.sync.new.self c.close_gate.new.disk at_sync c.close_gate.ensures.images))

pub returns-clause-acknowledged : goal.returns-clause-acknowledged
returns-clause-acknowledged g c =
    let v = device g in
    let old = c.args.disk.now in
    let r = c.args.root.now in
    let n = next_root r c.args.place c.args.length in
    where_told (v.state old).told _ (λ seen is_seen behind some has.
    let next = next_is r c.args.place c.args.length c.requires.slot c.requires.generation behind (omega (arith, c.ranges.place.fits)) some (omega (arith, c.ranges.length.fits)) in
    let at_sync = reaches_synced v r n next old c.sync.new.self seen is_seen c.sync.ensures.same (sync_run v r n next old c.sync.new.self has c.sync.ensures.called.time c.sync.ensures.crash) c.in_ok-sync.ensures.durable in
    let at_closed = reaches_closed v r n next old c.sync.new.self c.close_gate.new.disk at_sync c.close_gate.ensures.images c.close_gate.ensures.reads (c.in_ok-close_gate.ensures.stable c.in_ok-sync.ensures.durable) c.in_ok-close_gate.ensures.closed in
    let at_ready = reaches_ready v r n next old c.close_gate.new.disk c.put.new.disk c.place_of_slot.result c.body.result c.place_of_slot.ensures c.body.ensures at_closed c.put.ensures.images c.in_ok-put.ensures.bytes c.in_ok-put.ensures.stable in
    opened_now v r n next old c.put.new.disk c.put-2.new.disk c.place_of_gate.result c.place_of_gate.ensures at_ready c.in_ok-put-2.ensures.bytes c.in_ok-put-2.ensures.stable)

-- ---- after a fault the old root counts in each image, or each has all else as it read

pub returns-in_err-sync-clause-torn : goal.returns-in_err-sync-clause-torn
returns-in_err-sync-clause-torn g c =
    let v = device g in
    let old = c.args.disk.now in
    let r = c.args.root.now in
    let n = next_root r c.args.place c.args.length in
    at_err c.from_residual.result (inl (where_told (v.state old).told _ (λ seen is_seen behind some has.
    let next = next_is r c.args.place c.args.length c.requires.slot c.requires.generation behind (omega (arith, c.ranges.place.fits)) some (omega (arith, c.ranges.length.fits)) in
    holds_now v old c.sync.new.self (HasRoot r) (sync_run v r n next old c.sync.new.self has c.sync.ensures.called.time c.sync.ensures.crash))))

pub returns-in_err-close_gate-clause-torn : goal.returns-in_err-close_gate-clause-torn
returns-in_err-close_gate-clause-torn g c =
    let v = device g in
    let old = c.args.disk.now in
    let r = c.args.root.now in
    let n = next_root r c.args.place c.args.length in
    at_err c.from_residual-in_err-close_gate.result (inl (where_told (v.state old).told _ (λ seen is_seen behind some has.
    let next = next_is r c.args.place c.args.length c.requires.slot c.requires.generation behind (omega (arith, c.ranges.place.fits)) some (omega (arith, c.ranges.length.fits)) in
    let at_sync = reaches_synced v r n next old c.sync.new.self seen is_seen c.sync.ensures.same (sync_run v r n next old c.sync.new.self has c.sync.ensures.called.time c.sync.ensures.crash) c.in_ok-sync.ensures.durable in
    holds_now v old c.close_gate.new.disk (HasRoot r) (closing_run v r n next old c.sync.new.self c.close_gate.new.disk at_sync c.close_gate.ensures.images))))

pub returns-in_err-put-clause-torn : goal.returns-in_err-put-clause-torn
returns-in_err-put-clause-torn g c =
    let v = device g in
    let old = c.args.disk.now in
    let r = c.args.root.now in
    let n = next_root r c.args.place c.args.length in
    at_err c.from_residual-in_err-put.result (inl (where_told (v.state old).told _ (λ seen is_seen behind some has.
    let next = next_is r c.args.place c.args.length c.requires.slot c.requires.generation behind (omega (arith, c.ranges.place.fits)) some (omega (arith, c.ranges.length.fits)) in
    let at_sync = reaches_synced v r n next old c.sync.new.self seen is_seen c.sync.ensures.same (sync_run v r n next old c.sync.new.self has c.sync.ensures.called.time c.sync.ensures.crash) c.in_ok-sync.ensures.durable in
    let at_closed = reaches_closed v r n next old c.sync.new.self c.close_gate.new.disk at_sync c.close_gate.ensures.images c.close_gate.ensures.reads (c.in_ok-close_gate.ensures.stable c.in_ok-sync.ensures.durable) c.in_ok-close_gate.ensures.closed in
    holds_now v old c.put.new.disk (HasRoot r) (body_run v r n next old c.close_gate.new.disk c.put.new.disk c.place_of_slot.result c.body.result c.place_of_slot.ensures c.body.ensures at_closed c.put.ensures.images))))

pub returns-in_err-put-2-clause-torn : goal.returns-in_err-put-2-clause-torn
returns-in_err-put-2-clause-torn g c =
    let v = device g in
    let old = c.args.disk.now in
    let r = c.args.root.now in
    let n = next_root r c.args.place c.args.length in
    let slot = 1 - c.args.root.now.slot in
    let synced = unchanged v (slot_place slot) 512 old c.sync.new.self c.sync.ensures.called.time c.sync.ensures.crash c.sync.ensures.same in
    let closed = changes_on v (slot_place slot) 512 old c.sync.new.self c.close_gate.new.disk synced (closing_changes v slot c.sync.new.self c.close_gate.new.disk c.close_gate.ensures.images c.close_gate.ensures.reads) in
    let written = changes_on v (slot_place slot) 512 old c.close_gate.new.disk c.put.new.disk closed (changed v (slot_place slot) 512 c.place_of_slot.result (length c.body.result) c.close_gate.new.disk c.put.new.disk (omega (arith, c.place_of_slot.ensures)) (omega (arith, c.place_of_slot.ensures, ap length c.body.ensures)) c.put.ensures.images c.put.ensures.reads) in
    at_err c.from_residual-in_err-put-2.result (inr (where_told (v.state old).told _ (λ seen is_seen behind some has.
    let next = next_is r c.args.place c.args.length c.requires.slot c.requires.generation behind (omega (arith, c.ranges.place.fits)) some (omega (arith, c.ranges.length.fits)) in
    let at_sync = reaches_synced v r n next old c.sync.new.self seen is_seen c.sync.ensures.same (sync_run v r n next old c.sync.new.self has c.sync.ensures.called.time c.sync.ensures.crash) c.in_ok-sync.ensures.durable in
    let at_closed = reaches_closed v r n next old c.sync.new.self c.close_gate.new.disk at_sync c.close_gate.ensures.images c.close_gate.ensures.reads (c.in_ok-close_gate.ensures.stable c.in_ok-sync.ensures.durable) c.in_ok-close_gate.ensures.closed in
    let at_ready = reaches_ready v r n next old c.close_gate.new.disk c.put.new.disk c.place_of_slot.result c.body.result c.place_of_slot.ensures c.body.ensures at_closed c.put.ensures.images c.in_ok-put.ensures.bytes c.in_ok-put.ensures.stable in
    gate_torn v r n next old c.put.new.disk c.put-2.new.disk c.place_of_gate.result seen c.place_of_gate.ensures is_seen written.reads at_ready c.put-2.ensures.images)))
