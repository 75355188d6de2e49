-- How a call of the program ends where no script runs, and where one does.
use Rattle.std.proofs.lemmas.Fmt.{decimal_digit}
use Rattle.std.proofs.Common.{◌≡◌, ◌≤◌, ◌<◌, ℕ, length, List, [], ◌∷◌, ◌++◌, refl, subst, sym, ap, ◌∙◌, append-nil, append_assoc, arith, false, inl, inr, true, zero}
use Rattle.std.proofs.lemmas.Bool.{false≢true}
use Rattle.std.specs.Prelude.{IfSome, IsTrue, None, Option, Some, codes, decimal, ⊤, ◌⊎◌}
use Rattle.lt_world.specs.Disk.{DiskGoes, DiskState, LeftOnly}
use Rattle.lt_world.specs.Feed.{Feed}
use Rattle.lt_machine.specs.InMemory.{BeginsFresh, FeedUnfit, in_memory, is_memory_status, on_memory, only_run}
use Rattle.lt_world.specs.Object.{BytesState}
use Rattle.lt_world.specs.Feed.{FeedGoes, FeedState}
use Rattle.lt_world.specs.Disk.{LeavesNow}
use Rattle.lt_machine.specs.Outside.{counts_in}
use Rattle.lt_world.specs.Object.{IsFront}
use Rattle.lt_machine.specs.Program.{Did, Endures, Ends, EndsFor, IsIdle, NamesFault, Outside, RunEnds, StandFrom, Stops, Tells, Told, Trace, counts_of, is_start_status, lacks, moments_of, not_opened, outside_of, ran, rules_of, stops, stops_cut}
use Rattle.lt_words.specs.Reply.{text_line}
use Rattle.lt_machine.specs.Run.{Counts, HasBegun, IsOver, Moment, StartFault, Words, last_moment, max_script, no_words_known, start_damaged, start_disk, start_feed, start_mismatch, start_status, start_text, no_store, store_there, usage_text, word_run}
use Rattle.lt_machine.specs.Sound.{Session}
use Rattle.lt_machine.specs.Step.{NotStarted, Serves, Started}
use Rattle.lt_engine.specs.State.{StandsFor, view_start}
use Rattle.lt_engine.specs.declared.refusal.StartRefusal.{StartRefusal}
use Rattle.lt_engine.specs.declared.replica.Replica.{Replica}
use Rattle.lightning_cli.specs.Commands.{StandsIn}
use Rattle.lightning_cli.specs.Serving.{Finishes, HasServed, IsRunStatus, OutOver, ScriptOver}
use Rattle.lightning_cli.specs.Turns.{HasStopped, has_number}
use Rattle.lightning_cli.proofs.FeedLaws.{at_told, told_grew}
use Rattle.lightning_cli.proofs.OutLaws.{appended, out_finishes, out_kept, told_same}

-- ---- the fixed lines

pub usage_is : codes "usage: lightning init LIMIT | run | gen N\n" ≡ usage_text
usage_is = refl

pub no_store_is : codes "stopped 5 NoStore\n" ≡ start_text no_store
no_store_is = sym (ap (λ d. text_line (codes "stopped" ∷ d ∷ codes "NoStore" ∷ [])) (decimal_digit 5 (omega arith)))

pub store_there_is : codes "stopped 5 StoreThere\n" ≡ start_text store_there
store_there_is = sym (ap (λ d. text_line (codes "stopped" ∷ d ∷ codes "StoreThere" ∷ [])) (decimal_digit 5 (omega arith)))

pub disk_fault_is : codes "stopped 6 DiskFault\n" ≡ start_text start_disk
disk_fault_is = sym (ap (λ d. text_line (codes "stopped" ∷ d ∷ codes "DiskFault" ∷ [])) (decimal_digit 6 (omega arith)))

pub feed_fault_is : codes "stopped 7 FeedFault\n" ≡ start_text start_feed
feed_fault_is = sym (ap (λ d. text_line (codes "stopped" ∷ d ∷ codes "FeedFault" ∷ [])) (decimal_digit 7 (omega arith)))

pub mismatch_is : (n : ℕ) → start_text (start_mismatch n) ≡ codes "stopped 8 FeedMismatch " ++ (decimal n ++ codes "\n")
mismatch_is n = ap (λ d. text_line (codes "stopped" ∷ d ∷ codes "FeedMismatch" ∷ decimal n ∷ [])) (decimal_digit 8 (omega arith))

pub damaged_is : (place len : ℕ) → start_text (start_damaged place len) ≡ codes "stopped " ++ (decimal 11 ++ (codes " Damaged " ++ (decimal place ++ (codes " " ++ (decimal len ++ codes "\n")))))
damaged_is place len = ap (λ z. codes "stopped " ++ z)
    (append_assoc (decimal 11) (codes " Damaged " ++ (decimal place ++ (codes " " ++ decimal len))) (codes "\n")
    ∙ ap (λ z. decimal 11 ++ (codes " Damaged " ++ z)) (append_assoc (decimal place) (codes " " ++ decimal len) (codes "\n")))

-- ---- the trace of a call that runs no script

abbrev idle : List ℕ → Trace
idle written = record { taken = []; written = written; opening = None; moments = [] }

is_idle : (written : List ℕ) → IsIdle (idle written)
is_idle written = record { taken = refl; opening = refl; moments = refl }

-- ---- what a crash leaves

stand_all : (d : DiskState) (f : Feed) (ms : List Moment) → StandFrom on_memory d f ms
stand_all d f [] = tt
stand_all d f (m ∷ ms) = ((λ image left. (m, (zero, omega arith, refl), tt)), tt, stand_all d f ms)

any_opening : (d : DiskState) (f : Feed) (t : Trace) (o : Option Moment) → IfSome o (λ m. LeavesNow d (on_memory.leaves f (last_moment m t.moments).session))
any_opening d f t None = tt
any_opening d f t (Some m) = λ image left. tt

pub disk_stays : (d : DiskState) → DiskGoes d d
disk_stays d = record { stays = (λ h. h, λ h. h); faults = omega arith; write_faults = omega arith; reads = omega arith; clock = omega arith; past = λ t image le l. l }

-- where the disk is not used, a crash leaves what it might have left before
memory_endures : (d d' : DiskState) (f : Feed) (t : Trace) → LeftOnly d d' d.leaves → Endures on_memory d d' f t
memory_endures d d' f t l = record {
  any_moment = record {
    later = l.later;
    each = λ image x. inl (l.each image x);
    before = λ s image le x. elim (l.before s image le x) [ inl a ↦ inl a | inr b ↦ inr (inl b) ];
  };
  answered = stand_all d' f (moments_of t);
  on_return = any_opening d' f t t.opening;
}

-- ---- other words

not_run : (k : Words) → k ≡ no_words_known → k ≡ word_run → ⊥
not_run k e d = absurd cc

usage_ended : (words : List (List ℕ)) (w w' : Outside) (old new : Told) (written : List ℕ) (status : ℕ) → only_run words ≡ no_words_known → old.script ≡ new.script → new.written ≡ old.written ++ written
    → ((status ≡ 2) × (written ≡ usage_text)) ⊎ ((status ≡ 4) × IsFront written usage_text) → Did in_memory words w w' old new status
usage_ended words w w' old new written status other script wrote why = record {
  trace = idle written;
  took = script;
  wrote = wrote;
  ends = subst (λ k. Ends in_memory w w' old new k (idle written) status) (sym other) (is_idle written, why);
  endures = λ asked sound. absurd (not_run (only_run words) other asked);
}

pub usage_did : (words : List (List ℕ)) (d : DiskState) (f : FeedState) (x o o' : BytesState) (old new : Told) (status : ℕ) → only_run words ≡ no_words_known → Tells (outside_of d f x o) old → Tells (outside_of d f x o') new
    → Finishes o o' usage_text 2 status → Did in_memory words (outside_of d f x o) (outside_of d f x o') old new status
usage_did words d f x o o' old new status other tells tells' finishes =
    let script = told_same x.told new.script old.script tells'.script tells.script in
    elim finishes [
      | inl a ↦ usage_ended words (outside_of d f x o) (outside_of d f x o') old new usage_text status other script (appended o.told o'.told old.written new.written usage_text tells.written tells'.written a.1) (inl (a.0, refl))
      | inr a ↦ usage_ended words (outside_of d f x o) (outside_of d f x o') old new a.1.0 status other script (appended o.told o'.told old.written new.written a.1.0 tells.written tells'.written a.1.2) (inr (a.0, a.1.1))
    ]

two_or_four : (n k : ℕ) → (n ≡ 2) ⊎ (n ≡ 4) → n ≡ k → (k ≡ 2 → ⊥) → (k ≡ 4 → ⊥) → ⊥
two_or_four n k (inl a) e p q = p (sym e ∙ a)
two_or_four n k (inr a) e p q = q (sym e ∙ a)

usage_known : (n : ℕ) → (n ≡ 2) ⊎ (n ≡ 4) → is_memory_status n ≡ true
usage_known n (inl a) = ap is_memory_status a
usage_known n (inr a) = ap is_memory_status a

pub usage_ends : (words : List (List ℕ)) (d : DiskState) (f : FeedState) (x o o' : BytesState) (status : ℕ) → only_run words ≡ no_words_known → Finishes o o' usage_text 2 status → EndsFor in_memory words (outside_of d f x o) (outside_of d f x o') status
usage_ends words d f x o o' status other finishes =
    let out = out_finishes o o' usage_text 2 status (λ e. absurd (omega (arith, e))) finishes in
    let why : (status ≡ 2) ⊎ (status ≡ 4) = elim finishes [ inl a ↦ inl a.0 | inr a ↦ inr a.0 ] in
    record {
      known = usage_known status why;
      usage = λ e. other;
      other_words = λ e. (why, refl, refl);
      script_failed = λ e. absurd (two_or_four status 3 why e (λ z. omega (arith, z)) (λ z. omega (arith, z)));
      out_failed = λ e. (out.failed e).rose;
      not_started = λ asked is. absurd (not_run (only_run words) other asked);
      named = λ asked is. absurd (not_run (only_run words) other asked);
      too_long = λ e. absurd (two_or_four status 9 why e (λ z. omega (arith, z)) (λ z. omega (arith, z)));
      script_stops = inl ((λ e. two_or_four status 3 why e (λ z. omega (arith, z)) (λ z. omega (arith, z))), refl);
      script_kept = λ n m. refl;
      out_stops = λ e. (out.failed e).stops;
      out_kept = λ e. (out.kept e).faults;
    }

-- ---- no session begins

unfit_at : (told : Option Feed) (n m k j : Counts) (e : StartFault) → k.feed ≡ n.feed → j.feed ≡ m.feed → FeedUnfit told n m e → FeedUnfit told k j e
unfit_at told n m k j no_store a b h = absurd h
unfit_at told n m k j store_there a b h = absurd h
unfit_at told n m k j start_disk a b h = absurd h
unfit_at told n m k j start_feed a b h = omega (arith, a, b, h)
unfit_at told n m k j (start_mismatch x) a b h = h
unfit_at told n m k j (start_damaged place len) a b h = absurd h

pub stopped_as : (e d : StartRefusal) (a b : BytesState) (status : ℕ) → e ≡ d → HasStopped (view_start d) a b status → HasStopped (view_start e) a b status
stopped_as e d a b status is h = subst (λ x. HasStopped (view_start x) a b status) (sym is) h

-- what was said of it
abbrev Unfit : Option Feed → Counts → Counts → Option StartFault → Type 0
Unfit told n m v = IfSome v (FeedUnfit told n m)

number_not_feed : (e : StartFault) → e ≡ start_feed → IsTrue (has_number e) → ⊥
number_not_feed e is h = false≢true (sym (ap has_number is) ∙ h)

-- a feed that failed is named
names_feed : (v : Option StartFault) (o o' : BytesState) (status : ℕ) → HasStopped v o o' status → v ≡ Some start_feed → (status ≡ 7) ⊎ (status ≡ 4)
names_feed None o o' status h e = absurd cc
names_feed (Some x) o o' status (inl (inl a)) e = let is : x ≡ start_feed = cc in inl (a.0 ∙ ap start_status is)
names_feed (Some x) o o' status (inl (inr a)) e = inr a.0
names_feed (Some x) o o' status (inr a) e = let is : x ≡ start_feed = cc in absurd (number_not_feed x is a.0)

stop_ended : (words : List (List ℕ)) (w w' : Outside) (old new : Told) (written : List ℕ) (status : ℕ) → only_run words ≡ word_run → old.script ≡ new.script → new.written ≡ old.written ++ written
    → Stops (FeedUnfit w'.feed.told old.counts new.counts) written status → NamesFault old.counts new.counts status → LeftOnly w.disk w'.disk w.disk.leaves → Did in_memory words w w' old new status
stop_ended words w w' old new written status asked script wrote why names left = record {
  trace = idle written;
  took = script;
  wrote = wrote;
  ends = subst (λ k. Ends in_memory w w' old new k (idle written) status) (sym asked) (not_opened (is_idle written) why names left);
  endures = λ e sound. memory_endures w.disk w'.disk new.feed (idle written) left;
}

-- nothing was written
same_written : (o o' : BytesState) (old new : Told) → o'.told ≡ o.told → o.told ≡ Some old.written → o'.told ≡ Some new.written → new.written ≡ old.written ++ []
same_written o o' old new same tells tells' = told_same o.told old.written new.written tells (sym same ∙ tells') ∙ sym (append-nil old.written)

pub stopped_did : (words : List (List ℕ)) (d d' : DiskState) (f f' : FeedState) (x o o' : BytesState) (old new : Told) (v : Option StartFault) (status : ℕ) → only_run words ≡ word_run → Tells (outside_of d f x o) old → Tells (outside_of d' f' x o') new
    → NotStarted on_memory d d' f f' v → LeftOnly d d' d.leaves → d'.faults ≡ d.faults → HasStopped v o o' status → Did in_memory words (outside_of d f x o) (outside_of d' f' x o') old new status
stopped_did words d d' f f' x o o' old new v status asked tells tells' not left unused stopped = by v not.cause not.feed_failed stopped
  where
    w : Outside
    w = outside_of d f x o

    w' : Outside
    w' = outside_of d' f' x o'

    before : old.counts.feed ≡ f.faults
    before = sym (ap (λ (k : Counts). k.feed) tells.counts)

    after : new.counts.feed ≡ f'.faults
    after = sym (ap (λ (k : Counts). k.feed) tells'.counts)

    script : old.script ≡ new.script
    script = told_same x.told new.script old.script tells'.script tells.script

    disk : (old.counts.disk < new.counts.disk) → ⊥
    disk l = absurd (omega (arith, l, ap (λ (k : Counts). k.disk) tells.counts, ap (λ (k : Counts). k.disk) tells'.counts, unused))

    names : (u : Option StartFault) → (f.faults < f'.faults → u ≡ Some start_feed) → HasStopped u o o' status → NamesFault old.counts new.counts status
    names u named s = record {
      feed = λ l. names_feed u o o' status s (named (omega (arith, l, before, after)));
      disk = λ l. absurd (disk l);
    }

    at : (e : StartFault) → FeedUnfit f'.told (counts_in d f 0 0) (counts_in d' f' 0 0) e → FeedUnfit f'.told old.counts new.counts e
    at e h = unfit_at f'.told (counts_in d f 0 0) (counts_in d' f' 0 0) old.counts new.counts e before after h

    lacked : status ≡ 10 → o' ≡ o → NamesFault old.counts new.counts status → Did in_memory words w w' old new status
    lacked is same ns = stop_ended words w w' old new [] status asked script (same_written o o' old new (ap (λ (z : BytesState). z.told) same) tells.written tells'.written) (lacks is refl) ns left

    by : (u : Option StartFault) → Unfit f'.told (counts_in d f 0 0) (counts_in d' f' 0 0) u → (f.faults < f'.faults → u ≡ Some start_feed) → HasStopped u o o' status → Did in_memory words w w' old new status
    by None cause named s = lacked s.0 s.1 (names None named s)
    by (Some e) cause named (inl (inl a)) =
        stop_ended words w w' old new (start_text e) status asked script (appended o.told o'.told old.written new.written (start_text e) tells.written tells'.written a.1) (stops e (at e cause) a.0 refl) (names (Some e) named (inl (inl a))) left
    by (Some e) cause named (inl (inr a)) =
        stop_ended words w w' old new a.1.0 status asked script (appended o.told o'.told old.written new.written a.1.0 tells.written tells'.written a.1.2) (stops_cut e (at e cause) a.0 a.1.1) (names (Some e) named (inl (inr a))) left
    by (Some e) cause named (inr a) = lacked a.1 a.2 (names (Some e) named (inr a))

-- the statuses that say why no session began over a feed
abbrev Stopped : ℕ → Type 0
Stopped n = (n ≡ 7) ⊎ (n ≡ 8) ⊎ (n ≡ 4) ⊎ (n ≡ 10)

stopped_status : (told : Option Feed) (n m : Counts) (v : Option StartFault) (o o' : BytesState) (status : ℕ) → Unfit told n m v → HasStopped v o o' status → Stopped status
stopped_status told n m None o o' status h s = inr (inr (inr s.0))
stopped_status told n m (Some e) o o' status h (inl (inr a)) = inr (inr (inl a.0))
stopped_status told n m (Some e) o o' status h (inr a) = inr (inr (inr a.1))
stopped_status told n m (Some no_store) o o' status h (inl (inl a)) = absurd h
stopped_status told n m (Some store_there) o o' status h (inl (inl a)) = absurd h
stopped_status told n m (Some start_disk) o o' status h (inl (inl a)) = absurd h
stopped_status told n m (Some start_feed) o o' status h (inl (inl a)) = inl a.0
stopped_status told n m (Some (start_mismatch k)) o o' status h (inl (inl a)) = inr (inl a.0)
stopped_status told n m (Some (start_damaged place len)) o o' status h (inl (inl a)) = absurd h

stopped_known : (n : ℕ) → Stopped n → is_memory_status n ≡ true
stopped_known n (inl a) = ap is_memory_status a
stopped_known n (inr (inl a)) = ap is_memory_status a
stopped_known n (inr (inr (inl a))) = ap is_memory_status a
stopped_known n (inr (inr (inr a))) = ap is_memory_status a

no_other : (n k : ℕ) → Stopped n → n ≡ k → (k ≡ 2) ⊎ (k ≡ 3) ⊎ (k ≡ 9) → ⊥
no_other n k (inl a) e h = elim h [ inl x ↦ omega (arith, a, e, x) | inr (inl x) ↦ omega (arith, a, e, x) | inr (inr x) ↦ omega (arith, a, e, x) ]
no_other n k (inr (inl a)) e h = elim h [ inl x ↦ omega (arith, a, e, x) | inr (inl x) ↦ omega (arith, a, e, x) | inr (inr x) ↦ omega (arith, a, e, x) ]
no_other n k (inr (inr (inl a))) e h = elim h [ inl x ↦ omega (arith, a, e, x) | inr (inl x) ↦ omega (arith, a, e, x) | inr (inr x) ↦ omega (arith, a, e, x) ]
no_other n k (inr (inr (inr a))) e h = elim h [ inl x ↦ omega (arith, a, e, x) | inr (inl x) ↦ omega (arith, a, e, x) | inr (inr x) ↦ omega (arith, a, e, x) ]

stopped_over : (v : Option StartFault) (o o' : BytesState) (status : ℕ) → ((e : StartFault) → v ≡ Some e → start_status e ≡ 4 → ⊥) → HasStopped v o o' status → OutOver o o' status
stopped_over None o o' status other s = out_kept o o' status (λ e. absurd (omega (arith, s.0, e))) (record { faults = ap (λ (z : BytesState). z.faults) s.1; failed_at = ap (λ (z : BytesState). z.failed_at) s.1 })
stopped_over (Some x) o o' status other (inl a) = out_finishes o o' (start_text x) (start_status x) status (other x refl) a
stopped_over (Some x) o o' status other (inr a) = out_kept o o' status (λ e. absurd (omega (arith, a.1, e))) (record { faults = ap (λ (z : BytesState). z.faults) a.2; failed_at = ap (λ (z : BytesState). z.failed_at) a.2 })

not_four : (e : StartFault) → start_status e ≡ 4 → ⊥
not_four no_store h = absurd (omega (arith, h))
not_four store_there h = absurd (omega (arith, h))
not_four start_disk h = absurd (omega (arith, h))
not_four start_feed h = absurd (omega (arith, h))
not_four (start_mismatch n) h = absurd (omega (arith, h))
not_four (start_damaged place len) h = absurd (omega (arith, h))

says_why : (told : Option Feed) (n m : Counts) (v : Option StartFault) (o o' : BytesState) (status : ℕ) → Unfit told n m v → HasStopped v o o' status → is_start_status status ≡ true → (e : StartFault) × (start_status e ≡ status) × FeedUnfit told n m e
says_why told n m None o o' status h s is = absurd (false≢true (sym (ap is_start_status s.0) ∙ is))
says_why told n m (Some e) o o' status h (inl (inl a)) is = (e, sym a.0, h)
says_why told n m (Some e) o o' status h (inl (inr a)) is = absurd (false≢true (sym (ap is_start_status a.0) ∙ is))
says_why told n m (Some e) o o' status h (inr a) is = absurd (false≢true (sym (ap is_start_status a.1) ∙ is))

unfit_map : (told : Option Feed) (n m k j : Counts) (v : Option StartFault) → k.feed ≡ n.feed → j.feed ≡ m.feed → Unfit told n m v → Unfit told k j v
unfit_map told n m k j None a b h = tt
unfit_map told n m k j (Some e) a b h = unfit_at told n m k j e a b h

pub stopped_ends : (words : List (List ℕ)) (d d' : DiskState) (f f' : FeedState) (x o o' : BytesState) (v : Option StartFault) (status : ℕ) → only_run words ≡ word_run
    → NotStarted on_memory d d' f f' v → d'.faults ≡ d.faults → HasStopped v o o' status → EndsFor in_memory words (outside_of d f x o) (outside_of d' f' x o') status
stopped_ends words d d' f f' x o o' v status asked not unused stopped =
    let w = outside_of d f x o in
    let w' = outside_of d' f' x o' in
    let unfit = unfit_map f'.told (counts_in d f 0 0) (counts_in d' f' 0 0) (counts_of w) (counts_of w') v refl refl not.cause in
    let out = stopped_over v o o' status (λ e is h. not_four e h) stopped in
    let why = stopped_status f'.told (counts_of w) (counts_of w') v o o' status unfit stopped in
    record {
      known = stopped_known status why;
      usage = λ e. absurd (no_other status 2 why e (inl refl));
      other_words = λ e. absurd (not_run (only_run words) e asked);
      script_failed = λ e. absurd (no_other status 3 why e (inr (inl refl)));
      out_failed = λ e. (out.failed e).rose;
      not_started = λ run is. says_why f'.told (counts_of w) (counts_of w') v o o' status unfit stopped is;
      named = λ run is. record { feed = λ l. names_feed v o o' status stopped (not.feed_failed l); disk = λ l. absurd (omega (arith, l, unused)) };
      too_long = λ e. absurd (no_other status 9 why e (inr (inr refl)));
      script_stops = inl ((λ e. no_other status 3 why e (inr (inl refl))), refl);
      script_kept = λ n m. refl;
      out_stops = λ e. (out.failed e).stops;
      out_kept = λ e. (out.kept e).faults;
    }

-- ---- a script runs

-- the moment that a session begins in, and what the objects expose then
abbrev pub begun_at : DiskState → FeedState → BytesState → BytesState → Feed → Session → Moment
begun_at d f x o g y = record { feed = g; counts = counts_of (outside_of d f x o); text = []; session = y }

abbrev pub begun : DiskState → FeedState → BytesState → BytesState → Feed → Told → Told
begun d f x o g old = record { feed = g; script = old.script; written = old.written; counts = counts_of (outside_of d f x o) }

pub begun_tells : (d d1 : DiskState) (f f1 : FeedState) (x o : BytesState) (g : Feed) (old : Told) → Tells (outside_of d f x o) old → f1.told ≡ Some g → Tells (outside_of d1 f1 x o) (begun d1 f1 x o g old)
begun_tells d d1 f f1 x o g old tells e = record { feed = e; script = tells.script; written = tells.written; counts = refl }

pub begun_stands : (d d1 : DiskState) (f f1 : FeedState) (x o : BytesState) (g : Feed) (y : Session) (r : Replica) → f1.told ≡ Some g → StandsFor r y → Started on_memory d d1 f f1 y → StandsIn d1 (begun_at d1 f1 x o g y) r
begun_stands d d1 f f1 x o g y r e stands s = record { stands = stands; serves = at_told (λ h. ⊤ → Serves on_memory d1 h y) f1.told g e s.serves tt }

pub ran_did : (words : List (List ℕ)) (d d1 d' : DiskState) (f f1 f' : FeedState) (x x' o o' : BytesState) (old new : Told) (g : Feed) (y : Session) (status : ℕ) → only_run words ≡ word_run → Tells (outside_of d f x o) old → Tells (outside_of d' f' x' o') new
    → f1.told ≡ Some g → Started on_memory d d1 f f1 y → FeedGoes f f1 → d.clock ≤ d1.clock → LeftOnly d d' d.leaves → HasServed (begun_at d1 f1 x o g y) (begun d1 f1 x o g old) (outside_of d' f' x' o') status
    → Did in_memory words (outside_of d f x o) (outside_of d' f' x' o') old new status
ran_did words d d1 d' f f1 f' x x' o o' old new g y status asked tells tells' e started goes clock left s =
    let w = outside_of d f x o in
    let w' = outside_of d' f' x' o' in
    let m = begun_at d1 f1 x o g y in
    let same_counts : s.now.counts ≡ new.counts = sym s.tells.counts ∙ tells'.counts in
    let same_feed : s.now.feed ≡ new.feed = told_same f'.told new.feed s.now.feed tells'.feed s.tells.feed in
    let has : HasBegun old.counts m.counts = subst (λ k. HasBegun k m.counts) tells.counts (record { feed = started.unfailed.0; calls = goes.calls; script = refl; disk = started.unfailed.1; write_faults = started.unfailed.2; out = refl; clock = clock }) in
    let opens : BeginsFresh (Some g) y = subst (λ t. BeginsFresh t y) e started.opens in
    let ends = subst (λ k. RunEnds (rules_of in_memory) m k old.script s.trace status) same_counts s.ends in
    let over = subst (λ k. IsOver (last_moment m s.trace.moments) status new.feed k) same_counts (subst (λ z. IsOver (last_moment m s.trace.moments) status z s.now.counts) same_feed s.over) in
    record {
      trace = s.trace;
      took = s.took ∙ ap (λ z. s.trace.taken ++ z) (told_same x'.told new.script s.now.script tells'.script s.tells.script);
      wrote = told_same o'.told s.now.written new.written s.tells.written tells'.written ∙ s.wrote;
      ends = subst (λ k. Ends in_memory w w' old new k s.trace status) (sym asked) (ran m s.opening (told_grew f.told f1.told old.feed g tells.feed e goes.grows) has opens (λ sound. (ends, over)));
      endures = λ run sound. memory_endures d d' new.feed s.trace left;
    }

run_known : (n : ℕ) → IsRunStatus n → is_memory_status n ≡ true
run_known n (inl a) = ap is_memory_status a
run_known n (inr (inl a)) = ap is_memory_status a
run_known n (inr (inr (inl a))) = ap is_memory_status a
run_known n (inr (inr (inr (inl a)))) = ap is_memory_status a
run_known n (inr (inr (inr (inr a)))) = ap is_memory_status a

not_start : (n : ℕ) → IsRunStatus n → is_start_status n ≡ false
not_start n (inl a) = ap is_start_status a
not_start n (inr (inl a)) = ap is_start_status a
not_start n (inr (inr (inl a))) = ap is_start_status a
not_start n (inr (inr (inr (inl a)))) = ap is_start_status a
not_start n (inr (inr (inr (inr a)))) = ap is_start_status a

not_two : (n : ℕ) → IsRunStatus n → n ≡ 2 → ⊥
not_two n (inl a) e = absurd (omega (arith, a, e))
not_two n (inr (inl a)) e = absurd (omega (arith, a, e))
not_two n (inr (inr (inl a))) e = absurd (omega (arith, a, e))
not_two n (inr (inr (inr (inl a)))) e = absurd (omega (arith, a, e))
not_two n (inr (inr (inr (inr a)))) e = absurd (omega (arith, a, e))

pub ran_ends : (words : List (List ℕ)) (w w' : Outside) (status : ℕ) → only_run words ≡ word_run → IsRunStatus status → ScriptOver w.script w'.script status → OutOver w.out w'.out status → (status ≡ 9 → IfSome w.script.told (λ s. max_script < length s))
    → EndsFor in_memory words w w' status
ran_ends words w w' status asked why script out long = record {
  known = run_known status why;
  usage = λ e. absurd (not_two status why e);
  other_words = λ e. absurd (not_run (only_run words) e asked);
  script_failed = script.failed;
  out_failed = λ e. (out.failed e).rose;
  not_started = λ run is. absurd (false≢true (sym (not_start status why) ∙ is));
  named = λ run is. absurd (false≢true (sym (not_start status why) ∙ is));
  too_long = long;
  script_stops = elim script.stops [ inl a ↦ inl (a.0, a.1.faults) | inr b ↦ inr b ];
  script_kept = script.kept;
  out_stops = λ e. (out.failed e).stops;
  out_kept = λ e. (out.kept e).faults;
}
