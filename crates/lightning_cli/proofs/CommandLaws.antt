-- What a command is answered with is what the machine answered, with the texts of its rows before it.
use Rattle.std.proofs.Common.{Bool, List, [], ◌∷◌, ap, append-nil, append_assoc, arith, inl, inr, refl, subst, sym, false, true, ℕ, ◌++◌, ◌∙◌, ◌≡◌}
use Rattle.std.proofs.lemmas.Bool.{false≢true}
use Rattle.std.proofs.lemmas.Grind.{flat_map-append}
use Rattle.std.specs.Prelude.{Err, IfErr, IfSome, IsTrue, None, Ok, OnOk, Option, Result, Some, is_none, is_some, option_and_then, option_map, unwrap_or, ◌&&◌, ◌⊎◌}
use Rattle.std.specs.Io.KnownBytes.{Appends}
use Rattle.lt_world.specs.Disk.{DiskState, Rose}
use Rattle.lt_world.specs.Feed.{AreShort, Feed}
use Rattle.lt_words.specs.Lines.{asks_all, is_all_rows, is_built}
use Rattle.lt_machine.specs.InMemory.{memory_causes, on_memory}
use Rattle.lt_terms.specs.Kind.{Kind}
use Rattle.lt_terms.specs.Log.{Change, Header, Item}
use Rattle.lt_machine.specs.Machine.{Answer, Does, Scans, State, StepBy, cat_of, refused, refuses}
use Rattle.lt_world.specs.Feed.{FeedGoes, FeedState}
use Rattle.lt_world.specs.RowSink.{RowSinkState, texts_of}
use Rattle.lt_machine.specs.Outside.{GivenUpTo, StaysBut, caused_by, counts_in, world_of}
use Rattle.lt_tables.specs.Query.{Query}
use Rattle.lt_words.specs.Reply as model
use Rattle.lt_words.specs.Reply.{out_fault, out_of_memory, picked_kinds, refusal_text, row_text}
use Rattle.lt_machine.specs.Run.{Answers, Counts, FaultsIn, Moment, RowsBefore, Shows, answer_text, asked_kinds, is_fault, may_end_in, result_text, rows_text}
use Rattle.lt_tables.specs.Schema.{Catalogue, IsCatalogue, Registered, SchemaVersion, Table, registered, schema_version, table_named, whole_version}
use Rattle.lt_tables.specs.Query.{Command, do_compact, do_deltas, do_flush, do_job_begin, do_job_drop, do_job_finish, do_job_step, do_page, do_pump, do_reopen, do_retain, do_retire, do_scan, do_schema, do_split, do_status}
use Rattle.lt_machine.specs.Sound.{Fronts, Session, source_of}
use Rattle.lt_machine.specs.Step.{BreaksIn, RefusesAs, Served, Serves, Stepped}
use Rattle.lt_terms.specs.Value.{Value}
use Rattle.lt_command.specs.View.{view_command}
use Rattle.lt_command.specs.declared.command.Command as code
use Rattle.lt_command.specs.declared.command.Command.TheVariants as commands
use Rattle.lt_command.specs.declared.command.Query as queries
use Rattle.lt_engine.specs.State.{StandsFor}
use Rattle.lt_engine.specs.declared.replica.Replica.{Replica}
use Rattle.lt_laws.proofs.AnswerLaws.{named_is_numbered}
use Rattle.lt_lemmas.proofs.FrontLaws.{grows_itself}
use Rattle.lt_reply.proofs.RowKinds.{all_picked}
use Rattle.lt_reply.specs.Rows.{row_kinds}
use Rattle.lightning_cli.specs.Commands.{HasAnswered, IsNow, Leads, StandsIn, version_named, version_read}
use Rattle.lt_schema.specs.declared.version.SchemaVersion as code_version
use Rattle.lt_schema.specs.View.{view_version}
use Rattle.lt_world.specs.Object.{BytesState}
use Rattle.lightning_cli.specs.Rows.{LeadsOut, rows_state}
use Rattle.lt_engine.specs.Steps.{answer_of, falls, fell}
use Rattle.lt_reply.specs.View.{view_refusal}
use Rattle.lt_reply.specs.declared.refusal.Refusal.{Refusal}
use Rattle.lt_reply.specs.declared.refusal.Refusal.TheVariants as refusals
use Rattle.lt_reply.specs.declared.reply.Reply.{Reply}
use Rattle.lightning_cli.proofs.FeedLaws.{at_told, serves_grown, told_grew, told_on}
use Rattle.lightning_cli.proofs.EndLaws.{never_rose}
use Rattle.lightning_cli.proofs.OutLaws.{appends_nothing, rows_written}
use Rattle.lightning_cli.proofs.RefusalLaws.{refused_no_fault}

-- ---- causes

-- Without the fault of a row sink it is no matter how often the script and the output had failed.
memory_caused : (n m k j : Counts) (r : model.Refusal) → k.feed ≡ n.feed → j.feed ≡ m.feed → (r ≡ out_fault → ⊥) → caused_by (memory_causes n m) r → caused_by (memory_causes k j) r
memory_caused n m k j model.needs_reopen e d silent h = absurd h
memory_caused n m k j model.worn e d silent h = absurd h
memory_caused n m k j (model.no_such_table name) e d silent h = absurd h
memory_caused n m k j (model.no_such_version v) e d silent h = absurd h
memory_caused n m k j (model.version_retired v) e d silent h = absurd h
memory_caused n m k j (model.is_last_version v) e d silent h = absurd h
memory_caused n m k j (model.bad_schema cause) e d silent h = absurd h
memory_caused n m k j (model.no_stream x) e d silent h = absurd h
memory_caused n m k j (model.no_partition x) e d silent h = absurd h
memory_caused n m k j (model.no_such_delta x) e d silent h = absurd h
memory_caused n m k j (model.bad_column name) e d silent h = absurd h
memory_caused n m k j (model.wrong_literal name) e d silent h = absurd h
memory_caused n m k j (model.key_too_long x) e d silent h = absurd h
memory_caused n m k j (model.too_old x) e d silent h = absurd h
memory_caused n m k j (model.not_safe x t) e d silent h = absurd h
memory_caused n m k j (model.above_durable x) e d silent h = absurd h
memory_caused n m k j (model.below_minimum x) e d silent h = absurd h
memory_caused n m k j (model.at_edge x) e d silent h = absurd h
memory_caused n m k j model.too_many_parts e d silent h = absurd h
memory_caused n m k j model.too_many_deltas e d silent h = absurd h
memory_caused n m k j model.job_open e d silent h = absurd h
memory_caused n m k j model.no_job e d silent h = absurd h
memory_caused n m k j model.not_done e d silent h = absurd h
memory_caused n m k j (model.store_full need room) e d silent h = absurd h
memory_caused n m k j model.feed_fault e d silent h = omega (arith, e, d, h)
memory_caused n m k j model.disk_fault e d silent h = absurd h
memory_caused n m k j (model.damaged place len) e d silent h = absurd h
memory_caused n m k j model.out_fault e d silent h = absurd (silent refl)
memory_caused n m k j (model.feed_mismatch x) e d silent h = absurd h
memory_caused n m k j model.out_of_memory e d silent h = tt

answers_caused : (caused more : model.Refusal → Type 0) (f : Feed) (s s' : State) (c : Command) (a : Answer) → ((r : model.Refusal) → a.reply ≡ Err r → caused r → more r) → Answers caused f s c a s' → Answers more f s c a s'
answers_caused caused more f s s' c a k h = (
  h.0,
  h.1,
  elim h.2 [
    | inl step ↦ inl step
    | inr x ↦ inr (x.0, x.1, x.2, x.3, k x.0 x.1 x.4, x.5, x.6, x.7)
  ],
)

-- no fault of such a row sink is answered
no_out : (n m : Counts) (s : State) (c : Command) (r : Result model.Reply model.Refusal) → is_built c ≡ true → (Rose n.out m.out → ⊥)
    → IfErr r (λ e. (refused s c ≡ Some e) ⊎ (IsTrue (is_fault e) × IsTrue (may_end_in c e) × caused_by (memory_causes n m) e)) → r ≡ Err out_fault → ⊥
no_out n m s c (Ok reply) built silent h e = absurd cc
no_out n m s c (Err x) built silent h e =
    let is : x ≡ out_fault = cc in
    elim h [
      | inl f ↦ false≢true (sym (refused_no_fault s c built x f) ∙ ap is_fault is)
      | inr f ↦ silent (subst (λ (y : model.Refusal). caused_by (memory_causes n m) y) is f.2)
    ]

ok_on : {A E : Type 0} {P Q : Type 0} (r : Result A E) → (P → Q) → OnOk r P → OnOk r Q
ok_on (Ok x) k h = k h
ok_on (Err e) k h = tt

-- what the counts show, beside any counts of the script and of the output
shows_beside : (d d' : DiskState) (f f' : FeedState) (a b x y : ℕ) (s s' : State) (c : Command) (r : Result model.Reply model.Refusal) → Shows (counts_in d f 0 a) (counts_in d' f' 0 b) s s' c r → Shows (counts_in d f x y) (counts_in d' f' x y) s s' c r
shows_beside d d' f f' a b x y s s' c r h = record {
  later = record { feed = h.later.feed; calls = h.later.calls; script = omega arith; disk = h.later.disk; write_faults = h.later.write_faults; out = omega arith; clock = h.later.clock };
  succeeded = ok_on r (λ p. (p.0, p.1, p.2, refl)) h.succeeded;
  feed_failed = h.feed_failed;
  write_failed = h.write_failed;
  disk_failed = h.disk_failed;
  out_failed = λ l. absurd (omega (arith, l));
  called = h.called;
  not_called = h.not_called;
  not_used = λ q. record { disk = (h.not_used q).disk; write_faults = (h.not_used q).write_faults; clock = (h.not_used q).clock };
  breaks = h.breaks;
}

-- ---- answers without rows

none_some : {A : Type 0} (o : Option A) (x : A) → o ≡ None → o ≡ Some x → ⊥
none_some o x h k = absurd cc

-- a query that names no version gives no rows
no_scan : (source : List Change) (s : State) (q : Query) (rows : List (List Value)) → version_named (cat_of s) q.table q.version ≡ None → Scans source s q rows → ⊥
no_scan source s q rows none h =
    none_some (version_named (cat_of s) q.table q.version) (whole_version h.0 q.version h.1) none
    (ap (option_and_then (λ (t : Table). option_map (whole_version t q.version) (registered t q.version))) h.2 ∙ ap (option_map (whole_version h.0 q.version)) h.3)

does_none : (f : Feed) (source : List Change) (s s' : State) (c : Command) (a : Answer) → version_read (cat_of s) c ≡ None → Does f source s c a s' → a.rows ≡ []
does_none f source s s' (do_schema t) a none d = ap (λ (x : Answer). x.rows) d.2
does_none f source s s' (do_retire t v) a none d = ap (λ (x : Answer). x.rows) d.2
does_none f source s s' (do_pump n k) a none d = ap (λ (x : Answer). x.rows) d.7.2
does_none f source s s' (do_flush p) a none d = ap (λ (x : Answer). x.rows) d.0
does_none f source s s' (do_compact p m) a none d = ap (λ (x : Answer). x.rows) d.2
does_none f source s s' (do_job_begin p m) a none d = ap (λ (x : Answer). x.rows) d.2
does_none f source s s' (do_job_step n) a none d = ap (λ (x : Answer). x.rows) d.2
does_none f source s s' do_job_finish a none d = ap (λ (x : Answer). x.rows) d.2
does_none f source s s' do_job_drop a none d = ap (λ (x : Answer). x.rows) d.0
does_none f source s s' (do_split t k) a none d = ap (λ (x : Answer). x.rows) d.2
does_none f source s s' (do_retain t) a none d = ap (λ (x : Answer). x.rows) d.0
does_none f source s s' (do_scan q) a none d = absurd (no_scan source s q a.rows none d.0)
does_none f source s s' (do_page q) a none d = absurd (no_scan source s q a.rows none d.0)
does_none f source s s' do_status a none d = ap (λ (x : Answer). x.rows) d.0
does_none f source s s' (do_deltas p) a none d = ap (λ (x : Answer). x.rows) d.0
does_none f source s s' do_reopen a none d = ap (λ (x : Answer). x.rows) d.2

step_none : (o : Option model.Refusal) (f : Feed) (source : List Change) (s s' : State) (c : Command) (a : Answer) → version_read (cat_of s) c ≡ None → StepBy o f source s c a s' → a.rows ≡ []
step_none None f source s s' c a none d = does_none f source s s' c a none d
step_none (Some r) f source s s' c a none d = ap (λ (x : Answer). x.rows) d.0

-- before a fault neither
fault_none : (caused : model.Refusal → Type 0) (f : Feed) (source : List Change) (s s' : State) (c : Command) (a : Answer) → version_read (cat_of s) c ≡ None → FaultsIn caused f source s c a s' → a.rows ≡ []
fault_none caused f source s s' c a none x = elim x.5 [
  | inl e ↦ e
  | inr h ↦ absurd (no_scan source s h.0 h.1 (sym (ap (option_and_then (λ (q : Query). version_named (cat_of s) q.table q.version)) h.3) ∙ none) h.4)
]

none_given : (caused : model.Refusal → Type 0) (f : Feed) (s s' : State) (c : Command) (a : Answer) → version_read (cat_of s) c ≡ None → Answers caused f s c a s' → a.rows ≡ []
none_given caused f s s' c a none h = elim h.2 [
  | inl step ↦ step_none (refused s c) f (source_of h.0) s s' c a none step
  | inr x ↦ fault_none caused f (source_of h.0) s s' c a none x
]

-- ---- what a step leads to

-- A command was answered with these rows before its reply.
pub record LeadsBy (rs rs' : RowSinkState) (start m : Moment) (c : Command) (r : Result model.Reply model.Refusal) (d : DiskState) (f : FeedState) (replica : Replica) : Type 0 where
  pub leads : Leads start m c d f replica
  pub given : List (List Value)
  pub rows : GivenUpTo rs rs' given r
  pub text : leads.next.text ≡ rows_text (asked_kinds m.session.state c) given ++ result_text r
  pub none : version_read (cat_of m.session.state) c ≡ None → given ≡ []

-- what a step leads to, but for its text
abbrev pub LeadsFrom : DiskState → DiskState → FeedState → FeedState → RowSinkState → RowSinkState → Command → Result model.Reply model.Refusal → Replica → Replica → Type 0
LeadsFrom d d' f f' rs rs' c r replica replica' = (x : Session) → StandsFor replica x → (y : Session) × StandsFor replica' y × Stepped on_memory (world_of d f rs) (world_of d' f' rs') x y c r

-- a row sink that counts no fault is the cause of none
pub no_fault : (d d' : DiskState) (f f' : FeedState) (rs rs' : RowSinkState) (x y : Session) (c : Command) (r : Result model.Reply model.Refusal) → is_built c ≡ true → (Rose rs.faults rs'.faults → ⊥) → Stepped on_memory (world_of d f rs) (world_of d' f' rs') x y c r
    → r ≡ Err out_fault → ⊥
no_fault d d' f f' rs rs' x y c r built silent step = no_out (counts_in d f 0 rs.faults) (counts_in d' f' 0 rs'.faults) x.state c r built silent (step.causes (λ q. tt))

abbrev lost : model.Refusal → Result model.Reply model.Refusal
lost x = Err x

err_same : (x y : model.Refusal) → lost x ≡ lost y → x ≡ y
err_same x y e = cc

-- the same step, by other words for the row sink
pub step_as : (d d' : DiskState) (f f' : FeedState) (c : Command) (r : Result model.Reply model.Refusal) (replica replica' : Replica) (a b a' b' : RowSinkState) → a' ≡ a → b' ≡ b → LeadsFrom d d' f f' a' b' c r replica replica' → LeadsFrom d d' f f' a b c r replica replica'
step_as d d' f f' c r replica replica' a b a' b' h k stepped = subst (λ x. LeadsFrom d d' f f' x b c r replica replica') h (subst (λ x. LeadsFrom d d' f f' a' x c r replica replica') k stepped)

pub leads : (d d' : DiskState) (f f' : FeedState) (rs rs' : RowSinkState) (start m : Moment) (c : Command) (r : Result model.Reply model.Refusal) (replica replica' : Replica)
    → ((y : Session) → Stepped on_memory (world_of d f rs) (world_of d' f' rs') m.session y c r → r ≡ Err out_fault → ⊥) → IsNow d f start m → StandsIn d m replica → FeedGoes f f' → IfSome f'.told AreShort → LeadsFrom d d' f f' rs rs' c r replica replica'
    → LeadsBy rs rs' start m c r d' f' replica'
leads d d' f f' rs rs' start m c r replica replica' unfailed now stands goes short stepped =
    let x = m.session in
    let led = stepped x stands.stands in
    let y = led.0 in
    let step = led.2 in
    let g = told_on f.told f'.told m.feed goes.stays now.feed in
    let grows = told_grew f.told f'.told m.feed g.0 now.feed g.1 goes.grows in
    let serves = serves_grown d d m.feed g.0 x grows (at_told AreShort f'.told g.0 g.1 short) stands.serves in
    let served = at_told (λ h. Serves on_memory d h x → Served on_memory h (world_of d f rs) (world_of d' f' rs') x y c r) f'.told g.0 g.1 step.served serves in
    let n : Counts = counts_in d f 0 rs.faults in
    let k : Counts = counts_in d' f' 0 rs'.faults in
    let j : Counts = counts_in d' f' start.counts.script start.counts.out in
    let a : Answer = record { rows = served.given; reply = r } in
    let next : Moment = record { feed = g.0; counts = j; text = answer_text x.state c a; session = y } in
    let goes_on = unfailed y step in
    let same : counts_in d f start.counts.script start.counts.out ≡ m.counts = sym now.counts in
    record {
      leads = record {
        next = next;
        grows = grows;
        runs = record {
          answer = a;
          text = refl;
          answers = answers_caused (λ e. caused_by (memory_causes n k) e) (λ e. caused_by (memory_causes m.counts j) e) g.0 x.state y.state c a
              (λ e is h. memory_caused n k m.counts j e (ap (λ (z : Counts). z.feed) now.counts) refl (λ o. goes_on (is ∙ ap Err o)) h) served.answers;
          shows = subst (λ (z : Counts). Shows z j x.state y.state c r) same (shows_beside d d' f f' rs.faults rs'.faults start.counts.script start.counts.out x.state y.state c r step.shows);
          goes_on = goes_on;
        };
        now = record { feed = g.1; counts = refl };
        stands = record { stands = led.1; serves = served.serves };
      };
      given = served.given;
      rows = served.rows;
      text = refl;
      none = λ unnamed. none_given (λ e. caused_by (memory_causes n k) e) g.0 x.state y.state c a unnamed served.answers;
    }

-- an answer behind a text, of which some is written
pub answered : {T E : Type 0} {start m : Moment} {c : Command} {d : DiskState} {f : FeedState} {replica : Replica} {held held' : Option (List ℕ)} {kept : List ℕ} {out : Result T E} (before part more left line : List ℕ) (a : Leads start m c d f replica)
    → Appends held held' more → a.next.text ≡ part ++ line → before ++ part ≡ more ++ left → OnOk out (kept ≡ left ++ line) → HasAnswered start m c d f replica held held' before kept out
answered before part more left line a h text all ok = record {
  leads = a;
  more = more;
  rest = left ++ line;
  appends = h;
  text = ap (λ x. before ++ x) text ∙ sym (append_assoc before part line) ∙ ap (λ x. x ++ line) all ∙ append_assoc more left line;
  left = ok;
}

-- ---- answers with rows

kinds_at : (t : Table) (q : Query) (v : SchemaVersion) (x : Option Registered) → q.columns ≡ None → option_map (whole_version t q.version) x ≡ Some v → unwrap_or (option_and_then (λ r. Some (picked_kinds t r.columns q)) x) [] ≡ row_kinds v
kinds_at t q v None all e = absurd cc
kinds_at t q v (Some r) all e = let is : whole_version t q.version r ≡ v = cc in all_picked t (whole_version t q.version r) q refl all ∙ ap row_kinds is

kinds_of : (s : State) (q : Query) (v : SchemaVersion) → q.columns ≡ None → version_named (cat_of s) q.table q.version ≡ Some v → asked_kinds s (do_scan q) ≡ row_kinds v
kinds_of s q v all e = by (table_named (cat_of s) q.table) e
  where
    by : (o : Option Table) → option_and_then (λ t. option_map (whole_version t q.version) (registered t q.version)) o ≡ Some v
        → unwrap_or (option_and_then (λ t. option_and_then (λ r. Some (picked_kinds t r.columns q)) (registered t q.version)) o) [] ≡ row_kinds v
    by None e = absurd cc
    by (Some t) e = kinds_at t q v (registered t q.version) all e

none_of : {A : Type 0} (o : Option A) → is_none o ≡ true → o ≡ None
none_of None e = refl
none_of (Some x) e = absurd (false≢true e)

first_true : (a b c d e f : Bool) → (a && b && c && d && e && f) ≡ true → a ≡ true
first_true true b c d e f h = refl
first_true false b c d e f h = absurd (false≢true h)

all_columns : (q : Query) → asks_all q ≡ true → q.columns ≡ None
all_columns q h = none_of q.columns (first_true (is_none q.columns) (is_none q.from) (is_none q.to) (is_none q.after) (is_none q.limit) (is_all_rows q.filter) h)

-- the kinds of a command's rows are those of the version that they are read by
kinds_are : (s : State) (c : Command) (v : SchemaVersion) → is_built c ≡ true → version_read (cat_of s) c ≡ Some v → asked_kinds s c ≡ row_kinds v
kinds_are s (do_schema t) v b e = absurd cc
kinds_are s (do_retire t n) v b e = absurd cc
kinds_are s (do_pump n k) v b e = absurd cc
kinds_are s (do_flush p) v b e = absurd cc
kinds_are s (do_compact p m) v b e = absurd cc
kinds_are s (do_job_begin p m) v b e = absurd cc
kinds_are s (do_job_step n) v b e = absurd cc
kinds_are s do_job_finish v b e = absurd cc
kinds_are s do_job_drop v b e = absurd cc
kinds_are s (do_split t k) v b e = absurd cc
kinds_are s (do_retain t) v b e = absurd cc
kinds_are s (do_scan q) v b e = kinds_of s q v (all_columns q b) e
kinds_are s (do_page q) v b e = absurd (false≢true b)
kinds_are s do_status v b e = absurd cc
kinds_are s (do_deltas p) v b e = absurd cc
kinds_are s do_reopen v b e = absurd cc

-- the rows that were given, spelled as they are asked for
spelled : (ks kinds : List Kind) (spell : List Value → List ℕ) (given : List (List Value)) → ks ≡ kinds → spell ≡ row_text kinds → texts_of spell given ≡ rows_text ks given
spelled ks kinds spell given e h = ap (λ (s : List Value → List ℕ). texts_of s given) h ∙ ap (λ (k : List Kind). rows_text k given) (sym e)

-- where no fault of the sink is told, all rows given were spelled
pub all_spelled : {rs rs' : RowSinkState} {start m : Moment} {c : Command} {r : Result model.Reply model.Refusal} {d : DiskState} {f : FeedState} {replica : Replica} (v : SchemaVersion) → is_built c ≡ true → version_read (cat_of m.session.state) c ≡ Some v
    → rs.spell ≡ row_text (row_kinds v) → (r ≡ Err out_fault → ⊥) → (a : LeadsBy rs rs' start m c r d f replica) → Appends rs.told rs'.told (rows_text (asked_kinds m.session.state c) a.given)
all_spelled {rs} {rs'} {start} {m} {c} v built reads spell goes a =
    let whole : a.rows.broken_off ≡ [] = elim a.rows.only_so [
      | inl e ↦ e
      | inr x ↦ absurd (goes x.0)
    ] in
    subst (Appends rs.told rs'.told) (ap (λ x. texts_of rs.spell a.given ++ x) whole ∙ append-nil (texts_of rs.spell a.given) ∙ spelled (asked_kinds m.session.state c) (row_kinds v) rs.spell a.given (kinds_are m.session.state c v built reads) spell) a.rows.text

pub ok_is : {T E : Type 0} (r : Result T E) (kept before line more : List ℕ) → line ≡ more → OnOk r (kept ≡ before ++ line) → OnOk r (kept ≡ before ++ more)
ok_is (Ok x) kept before line more e h = h ∙ ap (λ t. before ++ t) e
ok_is (Err x) kept before line more e h = tt

abbrev no_rows : RowSinkState
no_rows = record { spell = λ row. []; told = None; rows = None; faults = 0 }

pub alone_leads : (d d' : DiskState) (f f' : FeedState) (start m : Moment) (c : Command) (r : Result model.Reply model.Refusal) (replica replica' : Replica) → is_built c ≡ true → IsNow d f start m → StandsIn d m replica → FeedGoes f f' → IfSome f'.told AreShort
    → LeadsFrom d d' f f' no_rows no_rows c r replica replica' → LeadsBy no_rows no_rows start m c r d' f' replica'
alone_leads d d' f f' start m c r replica replica' built now stands goes short stepped =
    leads d d' f f' no_rows no_rows start m c r replica replica' (λ y step. no_fault d d' f f' no_rows no_rows m.session y c r built never_rose step) now stands goes short stepped

-- an answer with no rows goes behind the text
pub answered_alone : {T E : Type 0} {rs rs' : RowSinkState} {start m : Moment} {c : Command} {r : Result model.Reply model.Refusal} {d : DiskState} {f : FeedState} {replica : Replica} {held : Option (List ℕ)} {kept : List ℕ} {out : Result T E} (before : List ℕ)
    → LeadsBy rs rs' start m c r d f replica → version_read (cat_of m.session.state) c ≡ None → OnOk out (kept ≡ before ++ result_text r) → HasAnswered start m c d f replica held held before kept out
answered_alone {T} {E} {rs} {rs'} {start} {m} {c} {r} {held = held} before a unnamed ok =
    answered before [] [] before (result_text r) a.leads (appends_nothing held) (a.text ∙ ap (λ x. rows_text (asked_kinds m.session.state c) x ++ result_text r) (a.none unnamed)) (append-nil before) ok

-- the rows of an answer went behind the text
pub answered_rows : {T E : Type 0} {start m : Moment} {c : Command} {r : Result model.Reply model.Refusal} {d : DiskState} {f : FeedState} {replica : Replica} {kept : List ℕ} {out : Result T E} (v : code_version.SchemaVersion) (o p : BytesState) (before left : List ℕ)
    (fault : Bool) → is_built c ≡ true → version_read (cat_of m.session.state) c ≡ Some (view_version v) → (r ≡ Err out_fault → ⊥) → is_some o.told ≡ true → (w : LeadsOut o p fault) → (a : LeadsBy (rows_state v o before) (rows_state v p left) start m c r d f replica)
    → OnOk out (kept ≡ left ++ result_text r) → HasAnswered start m c d f replica o.told p.told before kept out
answered_rows {T} {E} {start} {m} {c} {r} v o p before left fault built reads goes told w a ok =
    let part = rows_text (asked_kinds m.session.state c) a.given in
    answered before part w.more left (result_text r) a.leads w.appends a.text (rows_written o.told p.told before left part w.more told w.appends (all_spelled (view_version v) built reads refl goes a)) ok

-- ---- out of memory, where nothing was done

lacks : (c : Command) → IsTrue (may_end_in c out_of_memory)
lacks (do_schema t) = refl
lacks (do_retire t v) = refl
lacks (do_pump n k) = refl
lacks (do_flush p) = refl
lacks (do_compact p m) = refl
lacks (do_job_begin p m) = refl
lacks (do_job_step n) = refl
lacks do_job_finish = refl
lacks do_job_drop = refl
lacks (do_split t k) = refl
lacks (do_retain t) = refl
lacks (do_scan q) = refl
lacks (do_page q) = refl
lacks do_status = refl
lacks (do_deltas p) = refl
lacks do_reopen = refl

lack_shows : (n : Counts) (s : State) (c : Command) → Shows n n s s c (Err out_of_memory)
lack_shows n s c = record {
  later = record { feed = omega arith; calls = omega arith; script = omega arith; disk = omega arith; write_faults = omega arith; out = omega arith; clock = omega arith };
  succeeded = tt;
  feed_failed = λ l. absurd (omega (arith, l));
  write_failed = λ l. absurd (omega (arith, l));
  disk_failed = λ free l. absurd (omega (arith, l));
  out_failed = λ l. absurd (omega (arith, l));
  called = λ a b. absurd (false≢true b);
  not_called = λ q. refl;
  not_used = λ q. record { disk = refl; write_faults = refl; clock = refl };
  breaks = λ a b. absurd (false≢true (sym a ∙ b));
}

pub lacks_memory : (d : DiskState) (f : FeedState) (start m : Moment) (c : Command) (replica : Replica) → IsNow d f start m → StandsIn d m replica → (a : Leads start m c d f replica) × (a.next.text ≡ refusal_text out_of_memory)
lacks_memory d f start m c replica now stands =
    let b = stands.serves.belongs in (
      record {
        next = record { feed = m.feed; counts = m.counts; text = refusal_text out_of_memory; session = m.session };
        grows = grows_itself m.feed;
        runs = record {
          answer = refuses out_of_memory;
          text = refl;
          answers = (b.0, b.1.fronts, inr (out_of_memory, refl, refl, lacks c, tt, inl refl, inl refl, inl (refl, refl)));
          shows = lack_shows m.counts m.session.state c;
          goes_on = λ e. absurd cc;
        };
        now = record { feed = now.feed; counts = now.counts };
        stands = record { stands = stands.stands; serves = stands.serves };
      },
      refl,
    )

-- ---- the output failed within the rows

-- no refusal of the state is such a fault
not_fault : (s : State) (c : Command) (e : model.Refusal) → is_built c ≡ true → refused s c ≡ Some e → e ≡ out_fault → ⊥
not_fault s c e built is same = false≢true (sym (refused_no_fault s c built e is) ∙ ap is_fault same)

-- so the state does not refuse the command
unrefused : (s : State) (c : Command) (P : Type 0) → is_built c ≡ true → IfSome (refused s c) (λ e. RefusesAs e (Err out_fault) × P) → refused s c ≡ None
unrefused s c P built h = by (refused s c) refl h
  where
    by : (o : Option model.Refusal) → refused s c ≡ o → IfSome o (λ e. RefusesAs e (Err out_fault) × P) → o ≡ None
    by None is h = refl
    by (Some e) is h = elim h.0 [
      | inl same ↦ absurd (not_fault s c e built is (err_same e out_fault (sym same)))
      | inr other ↦ absurd (let no : out_fault ≡ out_of_memory = err_same out_fault out_of_memory other in cc)
    ]

-- and leaves it
unchanged : (s s' : State) (c : Command) → StaysBut c out_fault s s' → s' ≡ s
unchanged s s' c h = elim h [
  | inl e ↦ e
  | inr (inl x) ↦ absurd (false≢true x.0)
  | inr (inr x) ↦ absurd (false≢true x.0)
]

may_not : (s : State) (c : Command) (P : Type 0) → is_built c ≡ true → (refused s c ≡ Some out_fault) ⊎ (IsTrue (is_fault out_fault) × IsTrue (may_end_in c out_fault) × P) → IsTrue (may_end_in c out_fault)
may_not s c P built h = elim h [
  | inl e ↦ absurd (not_fault s c out_fault built e refl)
  | inr x ↦ x.1
]

-- a command that may end so does not do what the machine does with such a reply
does_not : (f : Feed) (source : List Change) (s s' : State) (c : Command) (rows : List (List Value)) → IsTrue (may_end_in c out_fault) → Does f source s c (record { rows = rows; reply = Err out_fault }) s' → ⊥
does_not f source s s' (do_schema t) rows may d = absurd (false≢true may)
does_not f source s s' (do_retire t v) rows may d = absurd (false≢true may)
does_not f source s s' (do_pump n k) rows may d = absurd (false≢true may)
does_not f source s s' (do_flush p) rows may d = absurd (false≢true may)
does_not f source s s' (do_compact p m) rows may d = absurd (false≢true may)
does_not f source s s' (do_job_begin p m) rows may d = absurd (false≢true may)
does_not f source s s' (do_job_step n) rows may d = absurd (false≢true may)
does_not f source s s' do_job_finish rows may d = absurd (false≢true may)
does_not f source s s' do_job_drop rows may d = absurd (false≢true may)
does_not f source s s' (do_split t k) rows may d = absurd (false≢true may)
does_not f source s s' (do_retain t) rows may d = absurd (false≢true may)
does_not f source s s' (do_scan q) rows may d = let e = d.1 in absurd cc
does_not f source s s' (do_page q) rows may d = let e = d.1 in absurd cc
does_not f source s s' do_status rows may d = absurd (false≢true may)
does_not f source s s' (do_deltas p) rows may d = absurd (false≢true may)
does_not f source s s' do_reopen rows may d = absurd (false≢true may)

-- the rows that were given before it are a front of the answer
rows_before : (caused : model.Refusal → Type 0) (f : Feed) (s s' : State) (c : Command) (rows : List (List Value)) → IsTrue (may_end_in c out_fault) → refused s c ≡ None → Answers caused f s c (record { rows = rows; reply = Err out_fault }) s'
    → (fs : List (Header × List Item)) × Fronts f (cat_of s) fs × RowsBefore (source_of fs) s c rows
rows_before caused f s s' c rows may free h = (
  h.0,
  h.1,
  elim h.2 [
    | inl step ↦ absurd (does_not f (source_of h.0) s s' c rows may (subst (λ o. StepBy o f (source_of h.0) s c (record { rows = rows; reply = Err out_fault }) s') free step))
    | inr x ↦ x.5
  ],
)

-- The line counts as answered with out of memory, behind these rows: their text is what was given, and a rest.
record CutBy (f : Feed) (s : State) (c : Command) (spell : List Value → List ℕ) (part : List ℕ) : Type 0 where
  rows : List (List Value)
  fs : List (Header × List Item)
  fronts : Fronts f (cat_of s) fs
  before : RowsBefore (source_of fs) s c rows
  rest : List ℕ
  text : texts_of spell rows ≡ part ++ rest

cut_rows : (caused : model.Refusal → Type 0) (f : Feed) (s s' : State) (c : Command) (rs rs' : RowSinkState) (given : List (List Value)) (rows : GivenUpTo rs rs' given (Err out_fault)) → IsTrue (may_end_in c out_fault) → refused s c ≡ None
    → Answers caused f s c (record { rows = given; reply = Err out_fault }) s' → (rows.broken_off ≡ []) ⊎ BreaksIn f s c given rows.next → CutBy f s c rs.spell (texts_of rs.spell given ++ rows.broken_off)
cut_rows caused f s s' c rs rs' given rows may free answers next = elim next [ inl none ↦ whole none | inr breaks ↦ elim rows.only_so [ inl none ↦ whole none | inr part ↦ broken breaks part.1 ] ]
  where
    whole : rows.broken_off ≡ [] → CutBy f s c rs.spell (texts_of rs.spell given ++ rows.broken_off)
    whole none =
        let b = rows_before caused f s s' c given may free answers in
        record { rows = given; fs = b.0; fronts = b.1; before = b.2; rest = []; text = sym (append-nil (texts_of rs.spell given)) ∙ ap (λ x. texts_of rs.spell given ++ x) (sym none) ∙ sym (append-nil (texts_of rs.spell given ++ rows.broken_off)) }

    broken : BreaksIn f s c given rows.next → (rest : List ℕ) × (rs.spell rows.next ≡ rows.broken_off ++ rest) → CutBy f s c rs.spell (texts_of rs.spell given ++ rows.broken_off)
    broken b part = record {
      rows = given ++ rows.next ∷ [];
      fs = b.0;
      fronts = b.1;
      before = b.2;
      rest = part.0;
      text = flat_map-append rs.spell given (rows.next ∷ []) ∙ ap (λ x. texts_of rs.spell given ++ x) (append-nil (rs.spell rows.next) ∙ part.1) ∙ sym (append_assoc (texts_of rs.spell given) rows.broken_off part.0);
    }

cut_shows : (n m : Counts) (s s' : State) (c : Command) → m.out ≡ n.out → Shows n m s s' c (Err out_fault) → Shows n m s s' c (Err out_of_memory)
cut_shows n m s s' c same h = record {
  later = h.later;
  succeeded = tt;
  feed_failed = λ l. let e = h.feed_failed l in absurd cc;
  write_failed = λ l. let e = (h.write_failed l).0 in absurd cc;
  disk_failed = λ free l. let e = h.disk_failed free l in absurd cc;
  out_failed = λ l. absurd (omega (arith, l, same));
  called = λ a b. absurd (false≢true b);
  not_called = h.not_called;
  not_used = h.not_used;
  breaks = h.breaks;
}

-- a front of its text was given
pub cut_leads : (d d' : DiskState) (f f' : FeedState) (rs rs' : RowSinkState) (start m : Moment) (c : Command) (replica replica' : Replica) (v : SchemaVersion) → is_built c ≡ true → version_read (cat_of m.session.state) c ≡ Some v → rs.spell ≡ row_text (row_kinds v)
    → IsNow d f start m → StandsIn d m replica → FeedGoes f f' → IfSome f'.told AreShort → LeadsFrom d d' f f' rs rs' c (Err out_fault) replica replica'
    → (a : Leads start m c d' f' replica') × (part : List ℕ) × (rest : List ℕ) × Appends rs.told rs'.told part × (a.next.text ≡ part ++ rest)
cut_leads d d' f f' rs rs' start m c replica replica' v built reads spell now stands goes short stepped =
    let x = m.session in
    let led = stepped x stands.stands in
    let y = led.0 in
    let step = led.2 in
    let r : Result model.Reply model.Refusal = Err out_fault in
    let g = told_on f.told f'.told m.feed goes.stays now.feed in
    let grows = told_grew f.told f'.told m.feed g.0 now.feed g.1 goes.grows in
    let serves = serves_grown d d m.feed g.0 x grows (at_told AreShort f'.told g.0 g.1 short) stands.serves in
    let served = at_told (λ h. Serves on_memory d h x → Served on_memory h (world_of d f rs) (world_of d' f' rs') x y c r) f'.told g.0 g.1 step.served serves in
    let n : Counts = counts_in d f 0 rs.faults in
    let k : Counts = counts_in d' f' 0 rs'.faults in
    let j : Counts = counts_in d' f' start.counts.script start.counts.out in
    let free = unrefused x.state c _ built (step.refused (λ q. tt)) in
    let may = may_not x.state c _ built (step.causes (λ q. tt)) in
    let cut = cut_rows (λ e. caused_by (memory_causes n k) e) g.0 x.state y.state c rs rs' served.given served.rows may free served.answers served.next in
    let a : Answer = record { rows = cut.rows; reply = Err out_of_memory } in
    let next : Moment = record { feed = g.0; counts = j; text = answer_text x.state c a; session = y } in
    let same : counts_in d f start.counts.script start.counts.out ≡ m.counts = sym now.counts in
    let part = texts_of rs.spell served.given ++ served.rows.broken_off in
    let line = result_text (Err out_of_memory) in (
      record {
        next = next;
        grows = grows;
        runs = record {
          answer = a;
          text = refl;
          answers = (cut.fs, cut.fronts, inr (out_of_memory, refl, refl, lacks c, tt, cut.before, inl (unchanged x.state y.state c step.stays), inr free));
          shows = subst (λ (z : Counts). Shows z j x.state y.state c (Err out_of_memory)) same
              (cut_shows (counts_in d f start.counts.script start.counts.out) j x.state y.state c refl (shows_beside d d' f f' rs.faults rs'.faults start.counts.script start.counts.out x.state y.state c r step.shows));
          goes_on = λ e. absurd cc;
        };
        now = record { feed = g.1; counts = refl };
        stands = record { stands = led.1; serves = served.serves };
      },
      part,
      cut.rest ++ line,
      served.rows.text,
      ap (λ t. t ++ line) (sym (spelled (asked_kinds x.state c) (row_kinds v) rs.spell cut.rows (kinds_are x.state c v built reads) spell) ∙ cut.text) ∙ append_assoc part cut.rest line,
    )

-- ---- the version that is read by

-- the table with a name has its version by its number
numbered_version : (cat : Catalogue) (name : List ℕ) (number v : ℕ) → IsCatalogue cat → Some number ≡ option_map (λ (t : Table). t.number) (table_named cat name) → schema_version cat number v ≡ version_named cat name v
numbered_version cat name number v lawful e = by (table_named cat name) refl e
  where
    by : (o : Option Table) → table_named cat name ≡ o → Some number ≡ option_map (λ (t : Table). t.number) o → schema_version cat number v ≡ option_and_then (λ (t : Table). option_map (whole_version t v) (registered t v)) o
    by None d e = absurd cc
    by (Some t) d e =
        let same : number ≡ t.number = cc in
        ap (λ (m : ℕ). schema_version cat m v) same ∙ ap (option_and_then (λ (x : Table). option_map (whole_version x v) (registered x v))) (named_is_numbered cat name t lawful d)

no_table : (cat : Catalogue) (name : List ℕ) (v : ℕ) → None ≡ option_map (λ (t : Table). t.number) (table_named cat name) → None ≡ version_named cat name v
no_table cat name v e = by (table_named cat name) e
  where
    by : (o : Option Table) → None ≡ option_map (λ (t : Table). t.number) o → None ≡ option_and_then (λ (t : Table). option_map (whole_version t v) (registered t v)) o
    by None e = refl
    by (Some t) e = absurd cc

abbrev number_named : Catalogue → List ℕ → Option ℕ
number_named cat name = option_map (λ (t : Table). t.number) (table_named cat name)

-- a command without a query names none
pub read_none : (cat : Catalogue) (c : code.Command) → ((q : queries.Query) → c ≡ commands.Scan q → ⊥) → ((q : queries.Query) → c ≡ commands.Page q → ⊥) → None ≡ version_read cat (view_command c)
read_none cat (commands.Schema text) h k = refl
read_none cat (commands.Retire table version) h k = refl
read_none cat (commands.Pump stream count) h k = refl
read_none cat (commands.Flush part) h k = refl
read_none cat (commands.Compact part mode) h k = refl
read_none cat (commands.JobBegin part mode) h k = refl
read_none cat (commands.JobStep keys) h k = refl
read_none cat commands.JobFinish h k = refl
read_none cat commands.JobDrop h k = refl
read_none cat (commands.Split table key) h k = refl
read_none cat (commands.Retain at) h k = refl
read_none cat (commands.Scan query) h k = absurd (h query refl)
read_none cat (commands.Page query) h k = absurd (k query refl)
read_none cat commands.Status h k = refl
read_none cat (commands.Deltas part) h k = refl
read_none cat commands.Reopen h k = refl

pub read_unnamed : (cat : Catalogue) (name bytes : List ℕ) (v : ℕ) → bytes ≡ name → None ≡ number_named cat bytes → None ≡ version_named cat name v
read_unnamed cat name bytes v same e = no_table cat name v (e ∙ ap (number_named cat) same)

pub read_named : (cat : Catalogue) (name bytes : List ℕ) (v number : ℕ) → bytes ≡ name → IsCatalogue cat → Some number ≡ number_named cat bytes → schema_version cat number v ≡ version_named cat name v
read_named cat name bytes v number same lawful e = numbered_version cat name number v lawful (e ∙ ap (number_named cat) same)

-- the output failed within the rows: a front of the answer was written
pub answered_cut : {T E : Type 0} {start m : Moment} {c : Command} {d d' : DiskState} {f f' : FeedState} {replica replica' : Replica} {kept : List ℕ} (x : E) (v : code_version.SchemaVersion) (o p : BytesState) (before left : List ℕ) (fault : Bool) → is_built c ≡ true
    → version_read (cat_of m.session.state) c ≡ Some (view_version v) → is_some o.told ≡ true → LeadsOut o p fault → IsNow d f start m → StandsIn d m replica → FeedGoes f f' → IfSome f'.told AreShort
    → LeadsFrom d d' f f' (rows_state v o before) (rows_state v p left) c (Err out_fault) replica replica' → HasAnswered {T = T} start m c d' f' replica' o.told p.told before kept (Err x)
answered_cut {T} {E} {start} {m} {c} {d} {d'} {f} {f'} {replica} {replica'} x v o p before left fault built reads told w now stands goes short stepped =
    let a = cut_leads d d' f f' (rows_state v o before) (rows_state v p left) start m c replica replica' (view_version v) built reads refl now stands goes short stepped in
    answered before a.1 w.more left a.2 a.0 w.appends a.4 (rows_written o.told p.told before left a.1 w.more told w.appends a.3) tt

-- what is answered where no fault of the row sink is
view_no_fault : (e : Refusal) → falls e ≡ false → view_refusal e ≡ out_fault → ⊥
view_no_fault refusals.NeedsReopen h e = absurd cc
view_no_fault (refusals.NoPartition part) h e = absurd cc
view_no_fault (refusals.NoSuchDelta id) h e = absurd cc
view_no_fault (refusals.TooOld min) h e = absurd cc
view_no_fault (refusals.AboveDurable durable) h e = absurd cc
view_no_fault (refusals.BelowMin min) h e = absurd cc
view_no_fault refusals.TooManyDeltas h e = absurd cc
view_no_fault refusals.JobOpen h e = absurd cc
view_no_fault refusals.NoJob h e = absurd cc
view_no_fault refusals.NotDone h e = absurd cc
view_no_fault (refusals.StoreFull need room) h e = absurd cc
view_no_fault refusals.DiskFault h e = absurd cc
view_no_fault (refusals.Damaged place len) h e = absurd cc
view_no_fault (refusals.FeedMismatch stream) h e = absurd cc
view_no_fault refusals.Worn h e = absurd cc
view_no_fault (refusals.UnknownTable name) h e = absurd cc
view_no_fault (refusals.UnknownVersion version) h e = absurd cc
view_no_fault (refusals.Retired version) h e = absurd cc
view_no_fault (refusals.LastVersion version) h e = absurd cc
view_no_fault (refusals.BadSchema cause) h e = absurd cc
view_no_fault (refusals.NoStream stream) h e = absurd cc
view_no_fault (refusals.NotSafe part checkpoint) h e = absurd cc
view_no_fault (refusals.BadColumn name) h e = absurd cc
view_no_fault (refusals.WrongType name) h e = absurd cc
view_no_fault (refusals.KeyTooLong len) h e = absurd cc
view_no_fault (refusals.AtEdge part) h e = absurd cc
view_no_fault refusals.TooManyParts h e = absurd cc
view_no_fault refusals.OutFault h e = absurd (false≢true (sym h))
view_no_fault refusals.FeedFault h e = absurd cc
view_no_fault refusals.Memory h e = absurd cc

pub no_fault_answered : (r : Result Reply Refusal) → fell r ≡ false → answer_of r ≡ Err out_fault → ⊥
no_fault_answered (Ok x) h e = absurd cc
no_fault_answered (Err x) h e = view_no_fault x h (err_same (view_refusal x) out_fault e)

is_fault_answered : (e : Refusal) → falls e ≡ true → view_refusal e ≡ out_fault
is_fault_answered refusals.NeedsReopen h = absurd (false≢true h)
is_fault_answered (refusals.NoPartition part) h = absurd (false≢true h)
is_fault_answered (refusals.NoSuchDelta id) h = absurd (false≢true h)
is_fault_answered (refusals.TooOld min) h = absurd (false≢true h)
is_fault_answered (refusals.AboveDurable durable) h = absurd (false≢true h)
is_fault_answered (refusals.BelowMin min) h = absurd (false≢true h)
is_fault_answered refusals.TooManyDeltas h = absurd (false≢true h)
is_fault_answered refusals.JobOpen h = absurd (false≢true h)
is_fault_answered refusals.NoJob h = absurd (false≢true h)
is_fault_answered refusals.NotDone h = absurd (false≢true h)
is_fault_answered (refusals.StoreFull need room) h = absurd (false≢true h)
is_fault_answered refusals.DiskFault h = absurd (false≢true h)
is_fault_answered (refusals.Damaged place len) h = absurd (false≢true h)
is_fault_answered (refusals.FeedMismatch stream) h = absurd (false≢true h)
is_fault_answered refusals.Worn h = absurd (false≢true h)
is_fault_answered (refusals.UnknownTable name) h = absurd (false≢true h)
is_fault_answered (refusals.UnknownVersion version) h = absurd (false≢true h)
is_fault_answered (refusals.Retired version) h = absurd (false≢true h)
is_fault_answered (refusals.LastVersion version) h = absurd (false≢true h)
is_fault_answered (refusals.BadSchema cause) h = absurd (false≢true h)
is_fault_answered (refusals.NoStream stream) h = absurd (false≢true h)
is_fault_answered (refusals.NotSafe part checkpoint) h = absurd (false≢true h)
is_fault_answered (refusals.BadColumn name) h = absurd (false≢true h)
is_fault_answered (refusals.WrongType name) h = absurd (false≢true h)
is_fault_answered (refusals.KeyTooLong len) h = absurd (false≢true h)
is_fault_answered (refusals.AtEdge part) h = absurd (false≢true h)
is_fault_answered refusals.TooManyParts h = absurd (false≢true h)
is_fault_answered refusals.OutFault h = refl
is_fault_answered refusals.FeedFault h = absurd (false≢true h)
is_fault_answered refusals.Memory h = absurd (false≢true h)

pub fault_answered : (r : Result Reply Refusal) → fell r ≡ true → answer_of r ≡ Err out_fault
fault_answered (Ok x) h = absurd (false≢true h)
fault_answered (Err x) h = ap lost (is_fault_answered x h)

-- out of memory is answered, where nothing was done
pub answered_lack : {T E : Type 0} {kept : List ℕ} {held : Option (List ℕ)} {out : Result T E} (d : DiskState) (f : FeedState) (start m : Moment) (c : Command) (replica : Replica) (before : List ℕ) → IsNow d f start m → StandsIn d m replica
    → OnOk out (kept ≡ before ++ refusal_text out_of_memory) → HasAnswered start m c d f replica held held before kept out
answered_lack {held = held} d f start m c replica before now stands ok =
    let a = lacks_memory d f start m c replica now stands in
    answered before [] [] before (refusal_text out_of_memory) a.0 (appends_nothing held) a.1 (append-nil before) ok

-- the same answer, by another result
pub alone_fault : {T E U V : Type 0} {start m : Moment} {c : Command} {d : DiskState} {f : FeedState} {replica : Replica} {held held' : Option (List ℕ)} {before kept : List ℕ} {old : Result T E} {out : Result U V} (a : HasAnswered start m c d f replica held held' before kept old)
    → OnOk out (kept ≡ a.rest) → HasAnswered start m c d f replica held held' before kept out
alone_fault a ok = record { leads = a.leads; more = a.more; rest = a.rest; appends = a.appends; text = a.text; left = ok }

pub alone_done : {T E U V : Type 0} {start m : Moment} {c : Command} {d : DiskState} {f : FeedState} {replica : Replica} {held held' : Option (List ℕ)} {before kept : List ℕ} {x : T} {y : U} (a : HasAnswered {T = T} {E = E} start m c d f replica held held' before kept (Ok x))
    → HasAnswered {T = U} {E = V} start m c d f replica held held' before kept (Ok y)
alone_done a = alone_fault a a.left
