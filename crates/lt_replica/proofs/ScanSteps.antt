-- The command that scans: what it answers is the machine's, with the rows that were given before it.
use Rattle.std.proofs.Common.{ℕ, List, [], ap, append-nil, arith, inl, inr, refl, subst, sym, take, ◌+◌, ◌≡◌, ◌⊎◌}
use Rattle.std.proofs.lemmas.Bool.{false≢true}
use Rattle.std.specs.Prelude.{Err, IfErr, IfOk, IfSome, None, Ok, OnOk, Option, Result, Some, ◌<◌, ◌≤◌}
use Rattle.std.specs.Io.KnownBytes.{Appends}
use Rattle.lt_world.specs.Disk.{DiskState, Rose}
use Rattle.lt_world.specs.Feed.{Feed}
use Rattle.lt_replica.specs.Stepped.{memory_causes}
use Rattle.lt_machine.specs.Machine.{refused}
use Rattle.lt_world.specs.Feed.{FeedState}
use Rattle.lt_world.specs.RowSink.{Given, RowSinkState, texts_of}
use Rattle.lt_machine.specs.Outside.{BelongsTo, GivenUpTo, StaysBut, World, counts_at, world_of}
use Rattle.lt_tables.specs.Query.{Query}
use Rattle.lt_words.specs.Reply as model
use Rattle.lt_machine.specs.Run.{Shows}
use Rattle.lt_tables.specs.Query.{do_scan}
use Rattle.lt_machine.specs.Sound.{source_of}
use Rattle.lt_machine.specs.Step.{BreaksIn, RefusesAs}
use Rattle.lt_terms.specs.Value.{Value}
use Rattle.lt_reply.specs.View.{IsSpoken, view_refusal, view_reply}
use Rattle.lt_reply.specs.declared.refusal.Refusal.{Refusal}
use Rattle.lt_reply.specs.declared.refusal.Refusal.TheVariants as refusals
use Rattle.lt_reply.specs.declared.reply.Reply.{Reply}
use Rattle.lt_scan.specs.declared.row_sink.RowRefusal.{RowRefusal}
use Rattle.lt_scan.specs.declared.row_sink.RowRefusal.TheVariants as rows
use Rattle.lt_replica.specs.Scans.{GivesSome}
use Rattle.lt_replica.specs.State.{memory_of, state_of}
use Rattle.lt_replica.specs.Steps.{AreRows, BreaksOff, Refuses, ScanFails, Scanned, answer_of, breaks_off, refuses_scan, sink_fails, with_rows}
use Rattle.lt_replica.specs.Stepped.{IsAnswered, LeadsOn}
use Rattle.lt_replica.specs.declared.replica.Replica.{Replica}
use Rattle.lt_replica.proofs.Results.{refuses_spoken}
use Rattle.lt_replica.proofs.BrokenLaws.{reads_scan}
use Rattle.lt_replica.proofs.StepLaws.{IsCaused, and_stays, free_step, given_nothing, is_caused, is_refused, leads_on, refusal_answers}

-- ---- the machine

abbrev given_whole : (rows rows' : RowSinkState) (given : List (List Value)) (answer : Result model.Reply model.Refusal) → Given rows rows' given → GivenUpTo rows rows' given answer
given_whole rows rows' given answer g = record { next = []; broken_off = []; text = subst (Appends rows.told rows'.told) (sym (append-nil (texts_of rows.spell given))) g.text; list = g.list; only_so = inl refl }

-- the worlds that a scan goes from and to
abbrev from_to : DiskState → FeedState → RowSinkState → World
from_to disk feed rows = world_of disk feed rows

untouched : (disk : DiskState) (feed : FeedState) (f : Feed) (r : Replica) (q : Query) (before now : RowSinkState) (e : Refusal) → now ≡ before → Refuses (refused (state_of r) (do_scan q)) e → BelongsTo f (state_of r) (memory_of r)
    → IsAnswered f (from_to disk feed before) (from_to disk feed now) r r (do_scan q) (Err e)
untouched disk feed f r q before now e same h b =
    let w = from_to disk feed before in
    subst (λ (s : RowSinkState). IsAnswered f w (from_to disk feed s) r r (do_scan q) (Err e)) (sym same)
    ([], given_nothing before (Err (view_refusal e)), inl refl, refusal_answers (memory_causes (counts_at w) (counts_at w)) f b.0 (state_of r) (do_scan q) e refl b.1.fronts h)

-- the row that the sink broke off in is the next one
breaks_in : (f : Feed) (r : Replica) (q : Query) (before now : RowSinkState) (e : Refusal) → (h : BreaksOff r q before now e) → BelongsTo f (state_of r) (memory_of r)
    → (h.appended.broken_off ≡ []) ⊎ BreaksIn f (state_of r) (do_scan q) (take h.number h.all) h.appended.next
breaks_in f r q before now e h b = elim h.next [ inl none ↦ inl none | inr is ↦ inr (b.0, b.1.fronts, inr (q, h.all, h.number + 1, refl, h.are_rows f b, is)) ]

fails : (disk : DiskState) (feed : FeedState) (f : Feed) (r : Replica) (q : Query) (before now : RowSinkState) (e : Refusal) → ScanFails r q before now e → BelongsTo f (state_of r) (memory_of r)
    → IsAnswered f (from_to disk feed before) (from_to disk feed now) r r (do_scan q) (Err e)
fails disk feed f r q before now e (sink_fails is rose h) b = subst (λ (e : Refusal). IsAnswered f (from_to disk feed before) (from_to disk feed now) r r (do_scan q) (Err e)) (sym is)
    (take h.number h.all, h.appended, breaks_in f r q before now refusals.OutFault h b, (b.0, b.1.fronts, inr (model.out_fault, refl, refl, refl, rose, inr (q, h.all, h.number, refl, h.are_rows f b, refl), inl refl, inr h.free)))
fails disk feed f r q before now e (breaks_off is kept h) b = subst (λ (e : Refusal). IsAnswered f (from_to disk feed before) (from_to disk feed now) r r (do_scan q) (Err e)) (sym is)
    (take h.number h.all, h.appended, breaks_in f r q before now refusals.Memory h b, (b.0, b.1.fronts, inr (model.out_of_memory, refl, refl, refl, tt, inr (q, h.all, h.number, refl, h.are_rows f b, refl), inl refl, inr h.free)))
fails disk feed f r q before now e (refuses_scan same h) b = untouched disk feed f r q before now e same h b

machine : (told : Option Feed) (disk : DiskState) (feed : FeedState) (r : Replica) (q : Query) (before now : RowSinkState) (result : Result Reply Refusal) → IfOk result (Scanned r q before now) → IfErr result (ScanFails r q before now)
    → IfSome told (λ f. BelongsTo f (state_of r) (memory_of r) → IsAnswered f (from_to disk feed before) (from_to disk feed now) r r (do_scan q) result)
machine None disk feed r q before now result d h = tt
machine (Some f) disk feed r q before now (Ok reply) d h = λ b. (
  d.given,
  given_whole before now d.given (Ok (view_reply reply)) d.appended,
  inl refl,
  (b.0, b.1.fronts, inl (free_step f (source_of b.0) (state_of r) (state_of r) (do_scan q) (with_rows d.given (Ok reply)) d.free (d.are_rows f b, ap Ok d.reply_is, refl))),
)
machine (Some f) disk feed r q before now (Err e) d h = λ b. fails disk feed f r q before now e h b

-- why a scan breaks off, by why a row was not taken
pub scan_breaks : (r : Replica) (q : Query) (before now : RowSinkState) (all : List (List Value)) (e : RowRefusal) (x : Refusal) → refused (state_of r) (do_scan q) ≡ None → AreRows r q all → GivesSome before now all e
    → (e ≡ rows.Fault → Rose before.faults now.faults) → (e ≡ rows.Memory → now.faults ≡ before.faults) → (e ≡ rows.Fault → x ≡ refusals.OutFault) → (e ≡ rows.Memory → x ≡ refusals.Memory) → ScanFails r q before now x
scan_breaks r q before now all rows.Fault x free are gives cause lacks fault memory = sink_fails (fault refl) (cause refl) (record { free = free; all = all; number = gives.number; appended = gives.appended; next = gives.next; are_rows = are })
scan_breaks r q before now all rows.Memory x free are gives cause lacks fault memory = breaks_off (memory refl) (lacks refl) (record { free = free; all = all; number = gives.number; appended = gives.appended; next = gives.next; are_rows = are })

-- ---- whatever the feed exposes

-- at a row sink's fault its count rose, and at no other refusal
sink_kept : (r : Replica) (q : Query) (before now : RowSinkState) (e : Refusal) → ScanFails r q before now e → before.faults < now.faults → e ≡ refusals.OutFault
sink_kept r q before now e (sink_fails is rose h) less = is
sink_kept r q before now e (breaks_off is kept h) less = absurd (omega (arith, kept, less))
sink_kept r q before now e (refuses_scan same h) less = let kept : now.faults ≡ before.faults = ap (λ (s : RowSinkState). s.faults) same in absurd (omega (arith, kept, less))

out_failed : (r : Replica) (q : Query) (before now : RowSinkState) (result : Result Reply Refusal) → IfOk result (Scanned r q before now) → IfErr result (ScanFails r q before now) → before.faults < now.faults → answer_of result ≡ Err model.out_fault
out_failed r q before now (Ok reply) d h less = let kept : now.faults ≡ before.faults = d.kept in absurd (omega (arith, kept, less))
out_failed r q before now (Err e) d h less = ap (λ (e : Refusal). Err (view_refusal e)) (sink_kept r q before now e h less)

succeeded : {A : Type 0} (r : Replica) (q : Query) (before now : RowSinkState) (result : Result Reply Refusal) → IfOk result (Scanned r q before now) → (now.faults ≡ before.faults → A) → OnOk (answer_of result) A
succeeded {A} r q before now (Ok reply) d a = a d.kept
succeeded {A} r q before now (Err e) d a = tt

shows : (disk : DiskState) (feed : FeedState) (r : Replica) (q : Query) (before now : RowSinkState) (result : Result Reply Refusal) → before.faults ≤ now.faults → IfOk result (Scanned r q before now) → IfErr result (ScanFails r q before now)
    → Shows (counts_at (from_to disk feed before)) (counts_at (from_to disk feed now)) (state_of r) (state_of r) (do_scan q) (answer_of result)
shows disk feed r q before now result later d h = record {
  later = record { feed = omega arith; calls = omega arith; script = omega arith; disk = omega arith; write_faults = omega arith; out = later; clock = omega arith };
  succeeded = succeeded r q before now result d (λ kept. (refl, refl, refl, kept));
  feed_failed = λ less. absurd (omega (arith, less));
  write_failed = λ less. absurd (omega (arith, less));
  disk_failed = λ free less. absurd (omega (arith, less));
  out_failed = out_failed r q before now result d h;
  called = λ yes tells. absurd (false≢true yes);
  not_called = λ no. refl;
  not_used = λ no. record { disk = refl; write_faults = refl; clock = refl };
  breaks = λ whole broken. absurd (false≢true broken);
}

refused_as : (r : Replica) (q : Query) (before now : RowSinkState) (result : Result Reply Refusal) → IfOk result (Scanned r q before now) → IfErr result (ScanFails r q before now)
    → IfSome (refused (state_of r) (do_scan q)) (λ x. RefusesAs x (answer_of result) × (state_of r ≡ state_of r))
refused_as r q before now (Ok reply) d h = subst (λ (o : Option model.Refusal). IfSome o (λ x. RefusesAs x (Ok (view_reply reply)) × (state_of r ≡ state_of r))) (sym d.free) tt
refused_as r q before now (Err e) d (sink_fails is rose h) = subst (λ (o : Option model.Refusal). IfSome o (λ x. RefusesAs x (Err (view_refusal e)) × (state_of r ≡ state_of r))) (sym h.free) tt
refused_as r q before now (Err e) d (breaks_off is kept h) = subst (λ (o : Option model.Refusal). IfSome o (λ x. RefusesAs x (Err (view_refusal e)) × (state_of r ≡ state_of r))) (sym h.free) tt
refused_as r q before now (Err e) d (refuses_scan same h) = let o = refused (state_of r) (do_scan q) in and_stays o (λ x. RefusesAs x (Err (view_refusal e))) refl (is_refused o e h)

pub scan_spoken : (r : Replica) (q : Query) (before now : RowSinkState) (result : Result Reply Refusal) → IfErr result (ScanFails r q before now) → IfErr result IsSpoken
scan_spoken r q before now (Ok reply) h = tt
scan_spoken r q before now (Err e) (sink_fails is rose h) = subst IsSpoken (sym is) tt
scan_spoken r q before now (Err e) (breaks_off is kept h) = subst IsSpoken (sym is) tt
scan_spoken r q before now (Err e) (refuses_scan same h) = refuses_spoken (refused (state_of r) (do_scan q)) e h

causes : (disk : DiskState) (feed : FeedState) (r : Replica) (q : Query) (before now : RowSinkState) (result : Result Reply Refusal) → IfErr result (ScanFails r q before now)
    → IfErr (answer_of result) (IsCaused (memory_causes (counts_at (from_to disk feed before)) (counts_at (from_to disk feed now))) (refused (state_of r) (do_scan q)) (do_scan q))
causes disk feed r q before now (Ok reply) h = tt
causes disk feed r q before now (Err e) h = by e h
  where
    caused : Refusal → Type 0
    caused e = IsCaused (memory_causes (counts_at (from_to disk feed before)) (counts_at (from_to disk feed now))) (refused (state_of r) (do_scan q)) (do_scan q) (view_refusal e)

    by : (e : Refusal) → ScanFails r q before now e → caused e
    by e (sink_fails is rose h) = subst caused (sym is) (inr (refl, refl, rose))
    by e (breaks_off is kept h) = subst caused (sym is) (inr (refl, refl, tt))
    by e (refuses_scan same h) = is_caused (memory_causes (counts_at (from_to disk feed before)) (counts_at (from_to disk feed now))) (refused (state_of r) (do_scan q)) (do_scan q) e refl h

stays_but : (r : Replica) (q : Query) (result : Result Reply Refusal) → IfErr (answer_of result) (λ e. StaysBut (do_scan q) e (state_of r) (state_of r))
stays_but r q (Ok reply) = tt
stays_but r q (Err e) = inl refl

pub scan_step : (disk : DiskState) (feed : FeedState) (r : Replica) (q : Query) (before now : RowSinkState) (result : Result Reply Refusal) → ((image : List ℕ) → disk.left_since disk.clock image → disk.leaves image) → before.faults ≤ now.faults → IfOk result (Scanned r q before now) → IfErr result (ScanFails r q before now)
    → LeadsOn (world_of disk feed before) (world_of disk feed now) r r (do_scan q) result
scan_step disk feed r q before now result only later d h = leads_on disk feed feed before now r r (do_scan q) result (reads_scan q) (record { store = refl; durable = refl }) only (record {
  machine = machine feed.told disk feed r q before now result d h;
  belongs = itself feed.told;
  above = λ a. a;
  shows = shows disk feed r q before now result later d h;
  causes = causes disk feed r q before now result h;
  refused = refused_as r q before now result d h;
  stays = stays_but r q result;
  again = refl;
  done = λ none. absurd cc;
})
  where
    itself : (told : Option Feed) → IfSome told (λ f. BelongsTo f (state_of r) (memory_of r) → BelongsTo f (state_of r) (memory_of r))
    itself None = tt
    itself (Some f) = λ b. b
