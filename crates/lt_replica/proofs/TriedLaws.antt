-- What a command on versions leaves: it was refused before anything was written, or its commit was called.
use Rattle.std.proofs.Common.{List, [], ap, ap₂, false, inl, inr, refl, subst, sym, true, ℕ, ◌+◌, ◌∙◌, ◌≡◌}
use Rattle.std.specs.Prelude.{Err, None, Ok, OnErr, OnOk, Option, Result, Some}
use Rattle.std.specs.Result.{IsErrAnd}
use Rattle.lt_disk.proofs.Moments.{Device}
use Rattle.lt_world.specs.Disk.{DiskState}
use Rattle.lt_words.specs.Reply.{retire_done, schema_done}
use Rattle.lt_words.specs.SchemaText.{version_of_text}
use Rattle.lt_tables.specs.Query.{Command, do_retire, do_schema}
use Rattle.lt_tables.specs.Schema.{Catalogue, SchemaVersion, schema_fault, with_version}
use Rattle.lt_storage.specs.Store.{Durable, bare_manifest}
use Rattle.lt_machine.specs.Machine.{State, is_write, refused, with_catalogue}
use Rattle.lt_pump.specs.Pumps.{streams_of}
use Rattle.lt_reply.specs.View.{view_reply}
use Rattle.lt_reply.specs.declared.refusal.Refusal.{Refusal}
use Rattle.lt_reply.specs.declared.refusal.Refusal.TheVariants as refusals
use Rattle.lt_reply.specs.declared.reply.Reply.{Reply}
use Rattle.lt_store.specs.Commits.{HasKept}
use Rattle.lt_store.specs.declared.committing.CommitRefusal.{CommitRefusal}
use Rattle.lt_store.specs.declared.store.Store.{Store}
use Rattle.lt_replica.specs.Answers.{IsWithout, retire_refusal, text_refusal, version_refusal}
use Rattle.lt_replica.specs.Catalogues.{CommitsCatalogue, KeepsRest, calls, lacks}
use Rattle.lt_replica.specs.Committing.{Attempt, CommitCall, after, HasRun, IsLeft, IsNoWrite, MayWrite, Tried, WritesNothing, answer_for, refuses, tries}
use Rattle.lt_replica.specs.State.{IsIn, durable_with, memory_of, numbers_of, state_in, state_of, state_with}
use Rattle.lt_replica.specs.Steps.{Refuses, Stays}
use Rattle.lt_replica.specs.declared.replica.Replica.{Replica}
use Rattle.lt_replica.proofs.CommitLaws.{goes_nowhere, none_broken, not_worn, quiet_itself}
use Rattle.lt_replica.proofs.Refusals.{accepted, names_are, retire_at, schema_accepted, schema_is, text_refused, version_refused}
use Rattle.lt_replica.proofs.Results.{refuses_to}
use Rattle.lt_replica.proofs.SchemaLaws.{retire_attempt, schema_attempt}

-- ---- refused before anything was written

-- a store that is whole was not broken
pub whole_refuses : (old : Replica) (c : Command) (e : Refusal) → old.store.broken ≡ false → Refuses (refused (state_of old) c) e → (broken : Option Durable) → IsIn old broken → Refuses (refused (state_in old broken) c) e
whole_refuses old c e whole h None is = h
whole_refuses old c e whole h (Some d) is = absurd (none_broken old d is whole)

pub refused_first : {D : Type 0} (v : Device D) (d : D) (old : Replica) (c : Command) (e : Refusal) (r : Result Reply Refusal) → r ≡ Err e → old.store.broken ≡ false → Refuses (refused (state_of old) c) e → Tried (v.state d) (v.state d) old old c r
refused_first v d old c e r is whole h = refuses e is (whole_refuses old c e whole h) (record { state = refl; memory = refl }) refl (quiet_itself v d) (goes_nowhere (v.state d))

pub lacks_first : {D : Type 0} (v : Device D) (d : D) (old : Replica) (c : Command) (r : Result Reply Refusal) → r ≡ Err refusals.Memory → Tried (v.state d) (v.state d) old old c r
lacks_first v d old c r is = refuses refusals.Memory is (λ broken there. tt) (record { state = refl; memory = refl }) refl (quiet_itself v d) (goes_nowhere (v.state d))

no_write_refuses : (old : Replica) (c : Command) (e : Refusal) → is_write c ≡ true → IsNoWrite e → WritesNothing old e → (broken : Option Durable) → IsIn old broken → Refuses (refused (state_in old broken) c) e
no_write_refuses old c refusals.NeedsReopen w named nothing broken is = (nothing.spoken, nothing.refuses broken c is w)
no_write_refuses old c refusals.Worn w named nothing broken is = (nothing.spoken, nothing.refuses broken c is w)
no_write_refuses old c e w named nothing broken is = absurd named

pub writes_not : {D : Type 0} (v : Device D) (d : D) (old : Replica) (c : Command) (e : Refusal) (r : Result Reply Refusal) → r ≡ Err e → is_write c ≡ true → IsNoWrite e → WritesNothing old e → Tried (v.state d) (v.state d) old old c r
writes_not v d old c e r is w named nothing = refuses e is (no_write_refuses old c e w named nothing) (record { state = refl; memory = refl }) refl (quiet_itself v d) (goes_nowhere (v.state d))

-- ---- the commit was called

-- the numbers after a call that failed, and after one that did not
pub numbers_same : (old new : Store) (id : ℕ) (e : CommitRefusal) → HasKept old new [] (Err e) → numbers_of new id ≡ numbers_of old id
numbers_same old new id e kept = elim kept [
  | inl same ↦ ap₂ (λ s r. record { limit = s.limit; generation = r.generation; next_id = id }) same.space same.root
  | inr broken ↦ ap₂ (λ l r. record { limit = l; generation = r.generation; next_id = id }) broken.1.limit broken.1.root
]

state_same : (old new : Replica) (cat : Catalogue) → new.catalogue ≡ cat → KeepsRest old new → state_of new ≡ state_with cat (numbers_of new.store old.next_id) old.map (streams_of old.pump) (memory_of old)
state_same old new cat c k =
    ap₂ (λ x id. state_with x (numbers_of new.store id) new.map (streams_of new.pump) (memory_of new)) c k.next_id
    ∙ ap₂ (λ es ss. state_with cat (numbers_of new.store old.next_id) es ss (memory_of new)) k.map k.streams
    ∙ ap (state_with cat (numbers_of new.store old.next_id) old.map (streams_of old.pump)) k.memory

stays_behind : (old new : Replica) (e : CommitRefusal) → HasKept old.store new.store [] (Err e) → KeepsRest old new → new.catalogue ≡ old.catalogue → Stays old new
stays_behind old new e kept k same = record {
  state = state_same old new old.catalogue same k ∙ ap (λ n. state_with old.catalogue n old.map (streams_of old.pump) (memory_of old)) (numbers_same old.store new.store old.next_id e kept);
  memory = k.memory;
}

state_after : (old new : Replica) (cat : Catalogue) → new.store.space.limit ≡ old.store.space.limit → new.store.root.generation ≡ old.store.root.generation + 1 → new.catalogue ≡ cat → KeepsRest old new → state_of new ≡ with_catalogue (state_of old) cat
state_after old new cat l g c k = state_same old new cat c k ∙ ap₂ (λ x y. state_with cat (record { limit = x; generation = y; next_id = old.next_id }) old.map (streams_of old.pump) (memory_of old)) l g

-- what a command answers by the answer of its commit
abbrev pub Answered : Result (Unit {0}) Refusal → Reply → Result Reply Refusal → Type 0
Answered (Ok x) reply r = r ≡ Ok reply
Answered (Err e) reply r = r ≡ Err e

left_by : (disk disk' : DiskState) (old new : Replica) (c : Command) (t : Attempt old c) (cat : Catalogue) (m : _) (reply : Reply) (r : Result Reply Refusal) → after t ≡ with_catalogue (state_of old) cat → t.memory ≡ memory_of old → view_reply reply ≡ t.reply
    → KeepsRest old new → (result : Result (Unit {0}) CommitRefusal) → CommitCall disk disk' old.store new.store m result → OnOk (answer_for result) (new.catalogue ≡ cat) → OnErr (answer_for result) (new.catalogue ≡ old.catalogue) → Answered (answer_for result) reply r → IsLeft old new t result r
left_by disk disk' old new c t cat m reply r is_after memory says k (Ok x) call ok err answered = (reply, answered, says, state_after old new cat call.kept.limit call.ok.generation ok k ∙ sym is_after, k.memory ∙ sym memory, k.next_id)
left_by disk disk' old new c t cat m reply r is_after memory says k (Err e) call ok err answered = (answered, stays_behind old new e call.kept k err, k.next_id)

run_left : (disk disk' : DiskState) (old new : Replica) (c : Command) (t : Attempt old c) (cat : Catalogue) (reply : Reply) (given : Result (Unit {0}) Refusal) (r : Result Reply Refusal) → after t ≡ with_catalogue (state_of old) cat → t.memory ≡ memory_of old → view_reply reply ≡ t.reply → old.store.broken ≡ false
    → KeepsRest old new → HasRun disk disk' old.store new.store (bare_manifest (durable_with cat (numbers_of old.store old.next_id) old.map (streams_of old.pump))) given → OnOk given (new.catalogue ≡ cat) → OnErr given (new.catalogue ≡ old.catalogue) → Answered given reply r → Tried disk disk' old new c r
run_left disk disk' old new c t cat reply given r is_after memory says whole k run ok err answered =
    let m = bare_manifest (durable_with cat (numbers_of old.store old.next_id) old.map (streams_of old.pump)) in
    let is : m ≡ bare_manifest (after t).durable = ap (λ (s : State). bare_manifest s.durable) (sym is_after) in
    let a : given ≡ answer_for run.result = run.answer in
    tries t run.result whole (subst (λ x. CommitCall disk disk' old.store new.store x run.result) is run.call)
    (left_by disk disk' old new c t cat m reply r is_after memory says k run.result run.call (subst (λ g. OnOk g (new.catalogue ≡ cat)) a ok) (subst (λ g. OnErr g (new.catalogue ≡ old.catalogue)) a err) (subst (λ g. Answered g reply r) a answered))

pub tried_catalogue : (disk disk' : DiskState) (old new : Replica) (c : Command) (t : Attempt old c) (cat : Catalogue) (reply : Reply) (given : Result (Unit {0}) Refusal) (r : Result Reply Refusal) → after t ≡ with_catalogue (state_of old) cat → t.memory ≡ memory_of old → view_reply reply ≡ t.reply → old.store.broken ≡ false
    → KeepsRest old new → CommitsCatalogue disk disk' old new cat given → Answered given reply r → Tried disk disk' old new c r
tried_catalogue disk disk' old new c t cat reply given r is_after memory says whole k (lacks is same store quiet goes) answered =
    refuses refusals.Memory (subst (λ g. Answered g reply r) is answered) (λ broken there. tt)
    (record { state = state_same old new old.catalogue same k ∙ ap (λ s. state_with old.catalogue (numbers_of s old.next_id) old.map (streams_of old.pump) (memory_of old)) store; memory = k.memory }) store quiet goes
tried_catalogue disk disk' old new c t cat reply given r is_after memory says whole k (calls run ok err) answered = run_left disk disk' old new c t cat reply given r is_after memory says whole k run ok err answered

-- ---- exits

pub is_error : {T E : Type 0} (r : Result T E) (x : E) → IsErrAnd r (λ e. e ≡ x) → r ≡ Err x
is_error (Ok a) x h = absurd h
is_error (Err e) x h = ap Err h

pub answered_err : (given : Result (Unit {0}) Refusal) (e : Refusal) (reply : Reply) (r : Result Reply Refusal) → given ≡ Err e → r ≡ Err e → Answered given reply r
answered_err given e reply r is said = subst (λ g. Answered g reply r) (sym is) said

pub answered_ok : (given : Result (Unit {0}) Refusal) (x : Unit {0}) (reply : Reply) → given ≡ Ok x → Answered given reply (Ok reply)
answered_ok given x reply is = subst (λ g. Answered g reply (Ok reply)) (sym is) refl

-- ---- a retirement

pub retire_refuses : (old : Replica) (name : List ℕ) (v : ℕ) (e : Refusal) → MayWrite old → Refuses (retire_refusal old.catalogue name v) e → Refuses (refused (state_of old) (do_retire name v)) e
retire_refuses old name v e may h =
    refuses_to (retire_refusal old.catalogue name v) (refused (state_of old) (do_retire name v)) (λ r is. retire_at old.catalogue (numbers_of old.store old.next_id) old.map (streams_of old.pump) (memory_of old) name v (not_worn old may) ∙ is) e h

pub retire_tried : (disk disk' : DiskState) (old new : Replica) (name : List ℕ) (v : ℕ) (next : Catalogue) (reply : Reply) (given : Result (Unit {0}) Refusal) (r : Result Reply Refusal) → MayWrite old → IsWithout old.catalogue name v next → view_reply reply ≡ retire_done name v
    → KeepsRest old new → CommitsCatalogue disk disk' old new next given → Answered given reply r → Tried disk disk' old new (do_retire name v) r
unfolding retire_attempt
retire_tried disk disk' old new name v next reply given r may w says k tried answered =
    tried_catalogue disk disk' old new (do_retire name v) (retire_attempt old name w.number v (not_worn old may) w.lawful w.named w.free) next reply given r (ap (with_catalogue (state_of old)) (sym w.is)) refl says may.whole k tried answered

-- ---- a schema

pub text_refuses : (old : Replica) (t : List ℕ) (e : Refusal) → MayWrite old → Refuses (text_refusal t) e → Refuses (refused (state_of old) (do_schema t)) e
text_refuses old t e may h =
    refuses_to (text_refusal t) (refused (state_of old) (do_schema t)) (λ r is. schema_is old.catalogue (numbers_of old.store old.next_id) old.map (streams_of old.pump) (memory_of old) t (not_worn old may) ∙ text_refused old.catalogue t r is) e h

pub version_refuses : (old : Replica) (t : List ℕ) (version : SchemaVersion) (e : Refusal) → MayWrite old → version_of_text t ≡ Ok version → Refuses (version_refusal old.catalogue version) e → Refuses (refused (state_of old) (do_schema t)) e
version_refuses old t version e may ok h =
    refuses_to (version_refusal old.catalogue version) (refused (state_of old) (do_schema t))
    (λ r is. schema_is old.catalogue (numbers_of old.store old.next_id) old.map (streams_of old.pump) (memory_of old) t (not_worn old may) ∙ version_refused old.catalogue t version r ok is) e h

pub schema_tried : (disk disk' : DiskState) (old new : Replica) (t : List ℕ) (version : SchemaVersion) (next : Catalogue) (reply : Reply) (given : Result (Unit {0}) Refusal) (r : Result Reply Refusal) → MayWrite old → version_of_text t ≡ Ok version → schema_fault old.catalogue version ≡ None
    → next ≡ with_version old.catalogue version → view_reply reply ≡ schema_done version.table version.version → KeepsRest old new → CommitsCatalogue disk disk' old new next given → Answered given reply r → Tried disk disk' old new (do_schema t) r
unfolding schema_attempt
schema_tried disk disk' old new t version next reply given r may ok free is says k tried answered =
    let added = accepted old.catalogue t version ok free in
    let lets = schema_accepted old.catalogue (numbers_of old.store old.next_id) old.map (streams_of old.pump) (memory_of old) t version (not_worn old may) ok free in
    tried_catalogue disk disk' old new (do_schema t) (schema_attempt old t (with_version old.catalogue version) added lets) next reply given r (ap (with_catalogue (state_of old)) (sym is)) refl
    (says ∙ ap (λ x. schema_done x.0 x.1) (sym (names_are t version ok))) may.whole k tried answered
