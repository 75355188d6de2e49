use Rattle.std.proofs.Common.{List, ap, arith, false, length, subst, sym, ◌∙◌, ◌≡◌, ◌≤◌}
use Rattle.std.specs.Prelude.{not}
use Rattle.std.proofs.lemmas.List.{length-map}
use Rattle.lt_terms.specs.Key.{is_empty_range}
use Rattle.lt_storage.specs.Store.{BundleEntry}
use Rattle.lt_version_laws.specs.Meets.{AreEntries}
use Rattle.lt_delta.specs.Meeting.{BeginsAt, EndsAt, entries_of, interval}
use Rattle.lt_delta.specs.View.{view_entry, view_index}
use Rattle.lt_delta.proofs.Meets.{are_entries, empty_meets, no_meet, some_meet}
use Rattle.lt_delta.proofs.index.DeltaIndex.meeting.Goals as goal

pub returns-then-not-is_below : goal.returns-then-not-is_below
returns-then-not-is_below c = empty_meets (interval c.args.low.now c.args.high) (entries_of (view_index c.args.self.now) c.args.table) (ap not (sym c.is_below.ensures ∙ c.if-not-is_below.true))

pub ended_below-first-requires : goal.ended_below-first-requires
ended_below-first-requires c = subst AreEntries (sym c.entries-entries.ensures) (are_entries (view_index c.args.self.now) c.args.table c.requires.each)

pub begun_below-end-requires : goal.begun_below-end-requires
begun_below-end-requires c = subst AreEntries (sym c.entries-entries.ensures) (are_entries (view_index c.args.self.now) c.args.table c.requires.each)

pub returns-then-first-end : goal.returns-then-first-end
returns-then-first-end c =
    let r = interval c.args.low.now c.args.high in
    let there = c.entries-entries.ensures in
    let end = c.begun_below-end.result in
    let some : is_empty_range r ≡ false = ap not (sym c.is_below.ensures ∙ c.if-not-is_below.false) in
    some_meet r (entries_of (view_index c.args.self.now) c.args.table) c.ended_below-first.result end some (subst (λ (es : List BundleEntry). EndsAt r.low es c.ended_below-first.result) there c.ended_below-first.ensures.parted)
    (subst (λ (es : List BundleEntry). BeginsAt r.high es end) there c.begun_below-end.ensures.parted)
    (subst (λ (es : List BundleEntry). end ≤ length es) there (omega (arith, c.begun_below-end.ensures.within, length-map c.entries-entries.result.now view_entry)))
    (omega (arith, c.if-first-end.true))

pub returns-else-first-end : goal.returns-else-first-end
returns-else-first-end c =
    let r = interval c.args.low.now c.args.high in
    let there = c.entries-entries.ensures in
    let some : is_empty_range r ≡ false = ap not (sym c.is_below.ensures ∙ c.if-not-is_below.false) in
    no_meet r (entries_of (view_index c.args.self.now) c.args.table) c.ended_below-first.result c.begun_below-end.result some (subst (λ (es : List BundleEntry). EndsAt r.low es c.ended_below-first.result) there c.ended_below-first.ensures.parted)
    (subst (λ (es : List BundleEntry). BeginsAt r.high es c.begun_below-end.result) there c.begun_below-end.ensures.parted) (omega (arith, c.if-first-end.false))
