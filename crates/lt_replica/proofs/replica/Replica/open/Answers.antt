use Rattle.std.proofs.Common.{[], ap, ap₂, map, refl, subst, sym, ◌∙◌}
use Rattle.std.specs.Prelude.{IfSome, Some}
use Rattle.std.proofs.lemmas.List.{length-map}
use Rattle.lt_tables.specs.Pump.{Attaches}
use Rattle.lt_manifest.specs.View.{view_manifest}
use Rattle.lt_pump.proofs.FeedLaws.{goes_itself}
use Rattle.lt_pump.specs.Pumps.{streams_of}
use Rattle.lt_parts.specs.Parts.{AreParts}
use Rattle.lt_store.proofs.Keeping.{stands_taken}
use Rattle.lt_store.specs.Opening.{placing_read}
use Rattle.lt_replica.specs.Numbers.{HasLawfulShape, numbers_of}
use Rattle.lt_replica.specs.Opening.{RefusesOpening}
use Rattle.lt_replica.specs.declared.refusal.OpeningRefusal.TheVariants as opening
use Rattle.lt_replica.proofs.Results.{err_is}
use Rattle.lt_replica.specs.Settling.{part_of_entry}
use Rattle.lt_replica.proofs.CommitLaws.{its_shape, manifest_by}
use Rattle.lt_replica.proofs.OpeningLaws.{attach_cause, attach_refused, begun_parts, deltas_none, none_behind, none_indexed, opened_manifest, same_nothing}
use Rattle.lt_replica.proofs.replica.Replica.open.Goals as goal

pub returns-in_err-opened-clause-feed : goal.returns-in_err-opened-clause-feed
returns-in_err-opened-clause-feed g c = goes_itself (g.F.Feed.state c.args.feed.now)

pub returns-then-not-is_bare-clause-feed : goal.returns-then-not-is_bare-clause-feed
returns-then-not-is_bare-clause-feed g c = goes_itself (g.F.Feed.state c.args.feed.now)

pub returns-in_err-lows-clause-feed : goal.returns-in_err-lows-clause-feed
returns-in_err-lows-clause-feed g c = goes_itself (g.F.Feed.state c.args.feed.now)

pub returns-in_err-pump-clause-refused : goal.returns-in_err-pump-clause-refused
returns-in_err-pump-clause-refused g c =
    let disk = g.D.Disk.state c.args.disk.now in
    let disk' = g.D.Disk.state c.open.new.disk in
    let feed = g.F.Feed.state c.args.feed.now in
    let feed' = g.F.Feed.state c.attach.new.feed in
    let r = c.in_err-pump.field-0.0 in
    let e = c.in_ok-opened.ensures in
    err_is c.from_residual-in_err-pump.result (opening.Attach r) (RefusesOpening disk disk' feed feed') c.from_residual-in_err-pump.ensures.1
    (attach_refused disk disk' feed feed' (Some c.in_ok-lows.lows) r c.in_err-pump.ensures.refused e.cause.kept e.written.kept
    (attach_cause disk disk' feed feed' (placing_read c.in_ok-opened.opened) c.in_ok-lows.lows r e.opened c.in_ok-lows.ensures c.in_err-pump.ensures.refused))

pub of-map-requires : goal.of-map-requires
of-map-requires g c = subst AreParts (sym c.in_ok-entries_of.ensures) (begun_parts (view_manifest c.in_ok-opened.opened.manifest) c.in_ok-opened.ensures.lawful.0)

pub invariant_of-result : goal.invariant_of-result
invariant_of-result g c =
    let o = c.in_ok-opened.opened in
    let m = view_manifest o.manifest in
    let ss = streams_of c.in_ok-pump.pump in
    let e = c.in_ok-opened.ensures in
    let is = opened_manifest m (numbers_of o.store o.manifest.next_id) c.settle.new.map ss (c.if-not-is_bare.ensures.bare refl) e.lawful.0 e.stands.limit refl (c.in_ok-pump.ensures.attached.lows ∙ c.in_ok-lows.ensures) (c.settle.ensures.parts ∙ ap (map part_of_entry) (c.of-map.ensures ∙ c.in_ok-entries_of.ensures)) in
    record {
      as_many = c.in_ok-parts.ensures.many ∙ c.len.ensures.count;
      behind = none_behind ss c.in_ok-parts.parts.items _ c.in_ok-parts.ensures;
      settled = c.settle.ensures.settled;
      lawful = subst HasLawfulShape is (its_shape m e.lawful.0);
      taken = manifest_by o.store (stands_taken o.store (placing_read o) [] e.stands);
    }

pub returns-clause-opened : goal.returns-clause-opened
returns-clause-opened g c =
    let o = c.in_ok-opened.opened in
    let m = view_manifest o.manifest in
    let ss = streams_of c.in_ok-pump.pump in
    let e = c.in_ok-opened.ensures in
    let a = c.in_ok-pump.ensures in
    let n = numbers_of o.store o.manifest.next_id in
    let is = opened_manifest m n c.settle.new.map ss (c.if-not-is_bare.ensures.bare refl) e.lawful.0 e.stands.limit refl (a.attached.lows ∙ c.in_ok-lows.ensures) (c.settle.ensures.parts ∙ ap (map part_of_entry) (c.of-map.ensures ∙ c.in_ok-entries_of.ensures)) in
    record {
      placing = placing_read o;
      at = e.stands;
      placed = ap₂ (λ x y. record { root = o.store.root; manifest = x; indexes = y }) is (none_indexed o.indexes.items o.manifest.deltas (deltas_none o.manifest.deltas (c.if-not-is_bare.ensures.bare refl).deltas) e.many);
      read = e.opened;
      whole = e.whole;
      headers = a.attached.headers;
      streams = a.attached.behind;
      attaches = subst (λ lows. IfSome (g.F.Feed.state c.attach.new.feed).told (λ f. Attaches f (Some lows) a.attached.headers)) (c.in_ok-lows.ensures ∙ ap (λ x. map (λ s. s.low) x.streams) is) a.attached.attaches;
      empty = c.in_ok-parts.ensures.nothing ∙ same_nothing c.in_ok-parts.parts.items (map part_of_entry c.settle.new.map) (c.in_ok-parts.ensures.many ∙ c.len.ensures.count ∙ sym (length-map c.settle.new.map part_of_entry));
      fed = a.known;
      stable = e.stable;
      unfailed = (a.faults, e.cause.kept, e.written.kept);
      called = a.called;
      reads = e.reads;
    }
