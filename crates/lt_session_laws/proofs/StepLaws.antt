-- Steps keep a good session, command by command: the reads, and those that change no durable part.
use Rattle.std.proofs.Common.{Bool, List, [], ap, ap₂, arith, cond, false, inl, inr, length, lt-ltb, ltb-true, refl, subst, sym, true, ℕ, ◌+◌, ◌<◌, ◌∙◌, ◌∷◌, ◌≡◌}
use Rattle.std.specs.Prelude.{Contains, IfSome, IsTrue, None, Option, Some, is_none, is_some, map, nat_lt, ◌&&◌, ◌-◌, ◌==◌, ◌^◌, ◌≢◌, ◌⊎◌}
use Rattle.std.proofs.lemmas.Bool.{and_from, and_parts, eqb-false, or_parts}
use Rattle.lt_terms.specs.Log.{Change, Header, Item}
use Rattle.lt_terms.specs.Key.{Range, ranges_from}
use Rattle.lt_world.specs.Feed.{Feed}
use Rattle.lt_tables.specs.Pump.{Part, StreamAt}
use Rattle.lt_tables.specs.Schema.{Catalogue, when}
use Rattle.lt_tables.specs.Query.{Command, Query, do_compact, do_deltas, do_flush, do_job_begin, do_job_drop, do_job_finish, do_job_step, do_page, do_pump, do_reopen, do_retain, do_retire, do_scan, do_schema, do_split, do_status}
use Rattle.lt_tables.specs.Version.{RowVersion, seen}
use Rattle.lt_words.specs.Reply.{Refusal, job_open, needs_reopen, no_job, worn}
use Rattle.lt_storage.specs.Store.{Durable, IsLawfulPart, stored}
use Rattle.lt_machine.specs.Machine.{Answer, Does, State, StepBy, asks_for_job, bad_column_asked, cat_of, compaction_asked, delta_limit, initial_headers, is_broken, is_worn, is_write, last_version_retired, long_key, not_done_yet, not_safe_asked, opened, refused, retain_fault, retired_asked, schema_refused, split_fault, too_old_asked, unknown_delta, unknown_part, unknown_stream, unknown_table_asked, unknown_version_asked, wrong_literal_asked}
use Rattle.lt_machine.specs.Sound.{AreAtPlaces, FailedIsSound, Fronts, FrontsFrom, IsGood, IsSoundFor, KeepsGood, PendingOf, PendingOfAll, SoundPartOf, low_bounds, source_of}
use Rattle.lt_codecs.proofs.LogLaws.{frames_prefix_free}
use Rattle.lt_lemmas.proofs.ListFacts.{all_none, when_none}
use Rattle.lt_laws.proofs.FrontLaws.{header_unique}
use Rattle.lt_laws.proofs.SoundLaws.{opening_is_good}

-- ---- the reads leave the session as it is

as_it_was : (feed : Feed) (fs : List (Header × List Item)) (s s' : State) → IsGood feed s fs → s' ≡ s → IsGood feed s' fs
as_it_was feed fs s s' good e = subst (λ (x : State). IsGood feed x fs) (sym e) good

-- ---- a job that is dropped

without_job : (feed : Feed) (fs : List (Header × List Item)) (s : State) → IsGood feed s fs → IsGood feed (record s { job = None }) fs
without_job feed fs s good = record {
  short = good.short;
  lawful = good.lawful;
  fronts = good.fronts;
  sound = good.sound;
  ready = record { places = good.ready.places; pending = good.ready.pending; job = tt };
}

-- ---- a reopening

either_way : (b : Bool) (hs : List Header) → cond b hs hs ≡ hs
either_way true hs = refl
either_way false hs = refl

first_range : (r q : Range) (rs qs : List Range) → r ∷ rs ≡ q ∷ qs → (r ≡ q) × (rs ≡ qs)
first_range r q rs qs e = (cc, cc)

-- of headers that tile the keys only the last has no high bound
all_initial : (hs : List Header) → map (λ h. h.range) hs ≡ ranges_from (low_bounds hs) → initial_headers hs ≡ hs
all_initial [] e = refl
all_initial (h ∷ []) e = either_way (is_some h.range.high) (h ∷ [])
all_initial (h ∷ g ∷ hs) e =
    let p = first_range h.range (record { low = h.range.low; high = Some g.range.low }) (map (λ h. h.range) (g ∷ hs)) (ranges_from (low_bounds (g ∷ hs))) e in
    ap (λ (o : Option (List ℕ)). cond (is_some o) (h ∷ initial_headers (g ∷ hs)) (h ∷ [])) (ap (λ (r : Range). r.high) p.0) ∙ ap (λ (l : List Header). h ∷ l) (all_initial (g ∷ hs) p.1)

-- the session's streams have the fronts' headers
pub headers_are : (fs : List (Header × List Item)) (ss : List StreamAt) → AreAtPlaces fs ss → map (λ x. x.header) ss ≡ map (λ f. f.0) fs
headers_are [] [] a = refl
headers_are [] (s ∷ ss) a = absurd a
headers_are (f ∷ fs) [] a = absurd a
headers_are (f ∷ fs) (s ∷ ss) a = ap₂ (λ (h : Header) (l : List Header). h ∷ l) a.0 (headers_are fs ss a.2)

-- the fronts of a feed have the same headers under all catalogues
same_headers : (feed : Feed) (cat wide : Catalogue) (n : ℕ) (fs gs : List (Header × List Item)) → length fs ≡ length gs → FrontsFrom feed cat n fs → FrontsFrom feed wide n gs → map (λ f. f.0) fs ≡ map (λ f. f.0) gs
same_headers feed cat wide n [] [] l a b = refl
same_headers feed cat wide n [] (g ∷ gs) l a b = absurd (omega (arith, l))
same_headers feed cat wide n (f ∷ fs) [] l a b = absurd (omega (arith, l))
same_headers feed cat wide n (f ∷ fs) (g ∷ gs) l a b =
    ap₂ (λ (h : Header) (hs : List Header). h ∷ hs) (header_unique frames_prefix_free feed n f.0 g.0 a.0 b.0) (same_headers feed cat wide (n + 1) fs gs (omega (arith, l)) a.3 b.3)

-- what a reopening may read is sound: the session's durable part, or what a failed command would have left
pub good_sound : (feed : Feed) (fs : List (Header × List Item)) (s : State) → IsGood feed s fs → IsSoundFor feed s.durable
good_sound feed fs s good = (good.lawful, (fs, good.fronts, good.sound))

read_sound : (feed : Feed) (fs : List (Header × List Item)) (s : State) (d : Durable) → IsGood feed s fs → FailedIsSound feed s → (d ≡ s.durable) ⊎ (s.broken ≡ Some d) → IsSoundFor feed d
read_sound feed fs s d good failed (inl e) = subst (IsSoundFor feed) (sym e) (good_sound feed fs s good)
read_sound feed fs s d good failed (inr e) = subst (λ (o : Option Durable). IfSome o (IsSoundFor feed)) e failed

reopened : (feed : Feed) (fs gs : List (Header × List Item)) (s : State) (d : Durable) → IsGood feed s fs → IsLawfulPart d → Fronts feed d.catalogue gs → SoundPartOf d gs → IsGood feed (opened d (initial_headers (map (λ x. x.header) s.streams))) gs
reopened feed fs gs s d good lawful fronts sound =
    let h : initial_headers (map (λ x. x.header) s.streams) ≡ map (λ (f : Header × List Item). f.0) gs = ap initial_headers (headers_are fs s.streams good.ready.places)
    ∙ all_initial (map (λ (f : Header × List Item). f.0) fs) good.fronts.tiling.1 ∙ same_headers feed (cat_of s) d.catalogue 0 fs gs (good.fronts.all ∙ sym fronts.all) good.fronts.each fronts.each in
    subst (λ (x : List Header). IsGood feed (opened d x) gs) (sym h) (opening_is_good feed gs d good.short lawful fronts sound)

-- ---- the rows of the table

-- A command keeps what is good where it does so when the state does not refuse it.
abbrev pub KeepsDoing : Command → Type 0
KeepsDoing c = (feed : Feed) (fs : List (Header × List Item)) (s s' : State) (a : Answer) → IsGood feed s fs → refused s c ≡ None → Does feed (source_of fs) s c a s' → (gs : List (Header × List Item)) × IsGood feed s' gs

by_refusal : (c : Command) (feed : Feed) (fs : List (Header × List Item)) (s s' : State) (a : Answer) (o : Option Refusal) → IsGood feed s fs → refused s c ≡ o → StepBy o feed (source_of fs) s c a s'
    → (refused s c ≡ None → Does feed (source_of fs) s c a s' → (gs : List (Header × List Item)) × IsGood feed s' gs) → (gs : List (Header × List Item)) × IsGood feed s' gs
by_refusal c feed fs s s' a (Some r) good e step f = (fs, as_it_was feed fs s s' good step.1)
by_refusal c feed fs s s' a None good e step f = f e step

-- only a reopening changes what a failed command would have left
stays_broken : (c : Command) (feed : Feed) (source : List Change) (s s' : State) (a : Answer) → Does feed source s c a s' → (s'.broken ≡ s.broken) ⊎ (s'.broken ≡ None)
stays_broken (do_schema t) feed source s s' a d = inl (ap (λ (x : State). x.broken) d.3)
stays_broken (do_retire t v) feed source s s' a d = inl (ap (λ (x : State). x.broken) d.3)
stays_broken (do_pump n k) feed source s s' a d = inl (ap (λ (x : State). x.broken) d.6)
stays_broken (do_flush p) feed source s s' a d = inl (ap (λ (x : State). x.broken) d.1)
stays_broken (do_compact p m) feed source s s' a d = inl (ap (λ (x : State). x.broken) d.3)
stays_broken (do_job_begin p m) feed source s s' a d = inl (ap (λ (x : State). x.broken) d.3)
stays_broken (do_job_step n) feed source s s' a d = inl (ap (λ (x : State). x.broken) d.3)
stays_broken do_job_finish feed source s s' a d = inl (ap (λ (x : State). x.broken) d.3)
stays_broken do_job_drop feed source s s' a d = inl (ap (λ (x : State). x.broken) d.1)
stays_broken (do_split t k) feed source s s' a d = inl (ap (λ (x : State). x.broken) d.3)
stays_broken (do_retain t) feed source s s' a d = inl (ap (λ (x : State). x.broken) d.1)
stays_broken (do_scan q) feed source s s' a d = inl (ap (λ (x : State). x.broken) d.2)
stays_broken (do_page q) feed source s s' a d = inl (ap (λ (x : State). x.broken) d.2)
stays_broken do_status feed source s s' a d = inl (ap (λ (x : State). x.broken) d.1)
stays_broken (do_deltas p) feed source s s' a d = inl (ap (λ (x : State). x.broken) d.1)
stays_broken do_reopen feed source s s' a d = inr (ap (λ (x : State). x.broken) d.3)

pub failed_as : (feed : Feed) (s s' : State) → s'.broken ≡ s.broken → FailedIsSound feed s → FailedIsSound feed s'
failed_as feed s s' e failed = subst (λ (o : Option Durable). IfSome o (IsSoundFor feed)) (sym e) failed

failed_stays : (feed : Feed) (s s' : State) → (s'.broken ≡ s.broken) ⊎ (s'.broken ≡ None) → FailedIsSound feed s → FailedIsSound feed s'
failed_stays feed s s' (inl e) failed = failed_as feed s s' e failed
failed_stays feed s s' (inr e) failed = subst (λ (o : Option Durable). IfSome o (IsSoundFor feed)) (sym e) tt

failed_by : (c : Command) (feed : Feed) (source : List Change) (s s' : State) (a : Answer) (o : Option Refusal) → FailedIsSound feed s → StepBy o feed source s c a s' → FailedIsSound feed s'
failed_by c feed source s s' a (Some r) failed step = failed_as feed s s' (ap (λ (x : State). x.broken) step.1) failed
failed_by c feed source s s' a None failed step = failed_stays feed s s' (stays_broken c feed source s s' a step) failed

pub by_doing : (c : Command) → KeepsDoing c → KeepsGood c
by_doing c k feed fs s s' a good failed step = (
  by_refusal c feed fs s s' a (refused s c) good refl step (λ e d. k feed fs s s' a good e d),
  failed_by c feed (source_of fs) s s' a (refused s c) failed step,
)

pub scan_keeps : (q : Query) → KeepsDoing (do_scan q)
scan_keeps q feed fs s s' a good e d = (fs, as_it_was feed fs s s' good d.2)

pub page_keeps : (q : Query) → KeepsDoing (do_page q)
page_keeps q feed fs s s' a good e d = (fs, as_it_was feed fs s s' good d.2)

pub status_keeps : KeepsDoing do_status
status_keeps feed fs s s' a good e d = (fs, as_it_was feed fs s s' good d.1)

pub deltas_keep : (p : ℕ) → KeepsDoing (do_deltas p)
deltas_keep p feed fs s s' a good e d = (fs, as_it_was feed fs s s' good d.1)

pub job_drop_keeps : KeepsDoing do_job_drop
job_drop_keeps feed fs s s' a good e d = (fs, subst (λ (x : State). IsGood feed x fs) (sym d.1) (without_job feed fs s good))

pub reopen_keeps : KeepsGood do_reopen
reopen_keeps feed fs s s' a good failed step = (
  by_refusal do_reopen feed fs s s' a (refused s do_reopen) good refl step (λ e d. let read = read_sound feed fs s d.0 good failed d.1 in
      (read.1.0, subst (λ (x : State). IsGood feed x read.1.0) (sym d.3) (reopened feed fs read.1.0 s d.0 good read.0 read.1.1 read.1.2))),
  failed_by do_reopen feed (source_of fs) s s' a (refused s do_reopen) failed step,
)

-- ---- what holds where the state does not refuse a command

abbrev pub refusals : State → Command → List (Option Refusal)
refusals s c =
    when (is_broken s && is_write c) needs_reopen
    ∷ when (is_worn s.durable && is_write c) worn
    ∷ unknown_table_asked s c ∷ unknown_version_asked s c ∷ retired_asked s c ∷ last_version_retired s c
    ∷ schema_refused s c ∷ unknown_stream s c ∷ unknown_part s c ∷ unknown_delta s c
    ∷ bad_column_asked s c ∷ wrong_literal_asked s c ∷ long_key s c ∷ too_old_asked s c ∷ not_safe_asked s c
    ∷ retain_fault s c ∷ split_fault s c ∷ delta_limit s c
    ∷ when (is_some (compaction_asked c) && is_some s.job) job_open
    ∷ when (asks_for_job c && is_none s.job) no_job
    ∷ not_done_yet s c ∷ []

pub record Unrefused (s : State) (c : Command) : Type 0 where
  pub whole : when (is_broken s && is_write c) needs_reopen ≡ None
  pub unworn : when (is_worn s.durable && is_write c) worn ≡ None
  pub table : unknown_table_asked s c ≡ None
  pub version : unknown_version_asked s c ≡ None
  pub live : retired_asked s c ≡ None
  pub latest : last_version_retired s c ≡ None
  pub schema : schema_refused s c ≡ None
  pub part : unknown_part s c ≡ None
  pub delta : unknown_delta s c ≡ None
  pub short_key : long_key s c ≡ None
  pub recent : too_old_asked s c ≡ None
  pub safe : not_safe_asked s c ≡ None
  pub retain : retain_fault s c ≡ None
  pub split : split_fault s c ≡ None
  pub limit : delta_limit s c ≡ None
  pub alone : when (is_some (compaction_asked c) && is_some s.job) job_open ≡ None

pub unrefused : (s : State) (c : Command) → refused s c ≡ None → Unrefused s c
unfolding refused
unrefused s c e = let a = all_none (refusals s c) e in record {
  whole = a.0;
  unworn = a.1.0;
  table = a.1.1.0;
  version = a.1.1.1.0;
  live = a.1.1.1.1.0;
  latest = a.1.1.1.1.1.0;
  schema = a.1.1.1.1.1.1.0;
  part = a.1.1.1.1.1.1.1.1.0;
  delta = a.1.1.1.1.1.1.1.1.1.0;
  short_key = a.1.1.1.1.1.1.1.1.1.1.1.1.0;
  recent = a.1.1.1.1.1.1.1.1.1.1.1.1.1.0;
  safe = a.1.1.1.1.1.1.1.1.1.1.1.1.1.1.0;
  retain = a.1.1.1.1.1.1.1.1.1.1.1.1.1.1.1.0;
  split = a.1.1.1.1.1.1.1.1.1.1.1.1.1.1.1.1.0;
  limit = a.1.1.1.1.1.1.1.1.1.1.1.1.1.1.1.1.1.0;
  alone = a.1.1.1.1.1.1.1.1.1.1.1.1.1.1.1.1.1.1.0;
}

-- ---- a commit raises the generation

unworn_by : (d : Durable) → is_worn d && true ≡ false → (d.generation == 2 ^ 64 - 1) ≡ false
unworn_by d e = (or_parts (d.generation == 2 ^ 64 - 1) (d.next_id == 2 ^ 64 - 1) (and_true (is_worn d) e)).0
  where
    and_true : (b : Bool) → b && true ≡ false → b ≡ false
    and_true true h = h
    and_true false h = h

-- a lawful durable part stays so with the next generation
pub next_generation : (d : Durable) → IsLawfulPart d → when (is_worn d && true) worn ≡ None → IsTrue (nat_lt 0 (d.generation + 1) && nat_lt (d.generation + 1) (2 ^ 64))
next_generation d l e =
    let w : (d.generation == 2 ^ 64 - 1) ≡ false = unworn_by d (when_none (is_worn d && true) worn e) in
    let b : d.generation < 2 ^ 64 = ltb-true d.generation (2 ^ 64) (and_parts (nat_lt 0 d.generation) (nat_lt d.generation (2 ^ 64)) l.generation).1 in
    let n : d.generation ≢ 2 ^ 64 - 1 = eqb-false d.generation (2 ^ 64 - 1) w in
    and_from _ _ (lt-ltb 0 (d.generation + 1) (omega arith)) (lt-ltb (d.generation + 1) (2 ^ 64) (omega (arith, b, n)))

-- ---- what a session keeps under another durable part

pub if_some : {A : Type 0} (P Q : A → Type 0) (o : Option A) → ((x : A) → P x → Q x) → IfSome o P → IfSome o Q
if_some P Q None f h = tt
if_some P Q (Some x) f h = f x h

-- two durable parts that store the same in each partition
abbrev pub StoreSame : Durable → Durable → Type 0
StoreSame d e = (p : Part) (r : Range) (table : ℕ) → stored d p r table ≡ stored e p r table

pub pending_as : (cat : Catalogue) (d e : Durable) (cs : List Change) (p : Part) (r : Range) (names : List (List ℕ × ℕ)) → StoreSame d e → PendingOf cat d cs p r names → PendingOf cat e cs p r names
pending_as cat d e cs p r names same h = record {
  are_changes = h.are_changes;
  none_lost = λ c k w l. elim (h.none_lost c k w l) [ inl n ↦ inl n | inr x ↦ inr (subst (λ (vs : List RowVersion). Contains vs (seen cat c)) (same p r c.table) x) ];
  ordered = h.ordered;
}

pub all_pending_as : (cat : Catalogue) (d e : Durable) (cs : List Change) (ps : List Part) (rs : List Range) (rest : List (List (List ℕ × ℕ))) → StoreSame d e → PendingOfAll cat d cs ps rs rest → PendingOfAll cat e cs ps rs rest
all_pending_as cat d e cs [] rs [] same h = tt
all_pending_as cat d e cs [] rs (ns ∷ rest) same h = absurd h
all_pending_as cat d e cs (p ∷ ps) [] rest same h = absurd h
all_pending_as cat d e cs (p ∷ ps) (r ∷ rs) [] same h = absurd h
all_pending_as cat d e cs (p ∷ ps) (r ∷ rs) (ns ∷ rest) same h = (pending_as cat d e cs p r ns same h.0, all_pending_as cat d e cs ps rs rest same h.1)
