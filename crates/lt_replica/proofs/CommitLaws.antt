-- What a command that commits needs, and what it leaves.
use Rattle.std.proofs.Common.{Bool, List, [], ap, ap₂, arith, eq-eqb, eqb-true, false, inl, inr, length, ne_eqb, refl, subst, sym, true, ℕ, ◌∙◌, ◌∷◌, ◌≡◌}
use Rattle.std.proofs.lemmas.Bool.{and_parts, false≢true}
use Rattle.std.proofs.lemmas.Option.{slice_get-map}
use Rattle.std.proofs.lemmas.List.Sorted.{IsPermutation-cons, IsPermutation-middle, IsPermutation-refl, IsPermutation-sym, IsPermutation-trans, list_any-IsPermutation}
use Rattle.std.specs.Prelude.{Err, IfErr, IsTrue, None, Ok, OnOk, Option, Result, Some, is_none, is_some, map, nat_le, option_map, slice_get, ◌&&◌, ◌-◌, ◌==◌, ◌^◌, ◌||◌, ◌⊎◌}
use Rattle.std.specs.List.{list_all, list_any}
use Rattle.std.specs.List.Sorted.{IsPermutation}
use Rattle.lt_terms.specs.declared.Extent.{Extent}
use Rattle.lt_disk.proofs.Moments.{Device, begins}
use Rattle.lt_terms.specs.Value.{rises_strictly}
use Rattle.lt_tables.specs.Query.{Command}
use Rattle.lt_tables.specs.Pump.{StreamAt}
use Rattle.lt_tables.specs.Schema.{Catalogue, IsCatalogue, first_of, when}
use Rattle.lt_words.specs.Reply.{Refusal, job_open, needs_reopen, no_job, worn}
use Rattle.lt_storage.specs.Store.{Durable, IsLawfulManifest, Manifest, bare_manifest, is_delta_entry, manifest_bytes, root_extent}
use Rattle.lt_machine.specs.Machine.{State, asks_for_job, bad_column_asked, compaction_asked, delta_limit, is_worn, is_write, last_version_retired, long_key, not_done_yet, not_safe_asked, refused, retain_fault, retired_asked, schema_refused, split_fault, too_old_asked, unknown_delta, unknown_part, unknown_stream, unknown_table_asked, unknown_version_asked, wrong_literal_asked}
use Rattle.lt_reply.specs.declared.refusal.Refusal.TheVariants as refusals
use Rattle.lt_store.proofs.Keeping.{kept_taken}
use Rattle.lt_store.specs.Commits.{HasKept, HasTaken, IsNextRoot, LeadsTo, RefusesCommit, fault_if, of_disk}
use Rattle.lt_store.specs.declared.committing.CommitRefusal.{CommitRefusal}
use Rattle.lt_store.specs.declared.committing.CommitRefusal.TheVariants as commits
use Rattle.lt_store.specs.declared.store.Store.{Store}
use Rattle.lt_world.specs.Disk.{CountsOne, DiskGoes, DiskState, HasCause}
use Rattle.lt_manifest.specs.View.{view_delta, view_manifest, view_part, view_stream}
use Rattle.lt_manifest.specs.declared.stored.DeltaStored.{DeltaStored}
use Rattle.lt_manifest.specs.declared.stored.PartStored.{PartStored}
use Rattle.lt_manifest.specs.declared.stored.StreamEntry.{StreamEntry}
use Rattle.lt_pump.specs.Positions.{low_of}
use Rattle.lt_store.specs.Making.{bare_stream}
use Rattle.lt_reply.specs.declared.refusal.Refusal as code
use Rattle.lt_replica.specs.Committing.{HasRun, IsQuiet, MayWrite, WritesNothing, answer_for}
use Rattle.lt_replica.specs.Settling.{part_of_entry}
use Rattle.lt_replica.specs.Numbers.{HasLawfulShape, Numbers, durable_with, has_manifest, is_worn_at, numbers_of}
use Rattle.lt_parts.specs.declared.entry.PartEntry.{PartEntry}
use Rattle.lt_replica.specs.State.{IsIn, state_in}
use Rattle.lt_replica.specs.declared.replica.Replica.{Replica}

-- ---- whether a command may write

first_when : (b : Bool) (r : Refusal) (rest : List (Option Refusal)) → b ≡ true → first_of (when b r ∷ rest) ≡ Some r
first_when true r rest e = refl
first_when false r rest e = absurd (false≢true e)

both : (a b : Bool) → a ≡ true → b ≡ true → a && b ≡ true
both true b d e = e
both false b d e = d

-- what comes behind the tests of a write
abbrev rest_refused : State → Command → List (Option Refusal)
rest_refused s c = unknown_table_asked s c ∷ unknown_version_asked s c ∷ retired_asked s c ∷ last_version_retired s c ∷ schema_refused s c ∷ unknown_stream s c ∷ unknown_part s c ∷ unknown_delta s c
    ∷ bad_column_asked s c ∷ wrong_literal_asked s c ∷ long_key s c ∷ too_old_asked s c ∷ not_safe_asked s c ∷ retain_fault s c ∷ split_fault s c ∷ delta_limit s c
    ∷ when (is_some (compaction_asked c) && is_some s.job) job_open ∷ when (asks_for_job c && is_none s.job) no_job ∷ not_done_yet s c ∷ []

broken_refused : (r : Replica) (d : Durable) (c : Command) → is_write c ≡ true → refused (state_in r (Some d)) c ≡ Some needs_reopen
unfolding refused
broken_refused r d c w = let s = state_in r (Some d) in first_when (is_write c) needs_reopen (when (is_worn s.durable && is_write c) worn ∷ rest_refused s c) w

worn_refused : (r : Replica) (c : Command) → is_write c ≡ true → is_worn_at (numbers_of r.store r.next_id) ≡ true → refused (state_in r None) c ≡ Some worn
unfolding refused
worn_refused r c w e = first_when (is_worn_at (numbers_of r.store r.next_id) && is_write c) worn (rest_refused (state_in r None) c) (both (is_worn_at (numbers_of r.store r.next_id)) (is_write c) e w)

pub none_broken : (r : Replica) (d : Durable) → IsIn r (Some d) → r.store.broken ≡ false → ⊥
none_broken r d is whole = false≢true (sym (is ∙ whole))

pub writes_broken : (r : Replica) → true ≡ r.store.broken → WritesNothing r refusals.NeedsReopen
writes_broken r e = record { spoken = tt; refuses = by }
  where
    by : (broken : Option Durable) (c : Command) → IsIn r broken → is_write c ≡ true → refused (state_in r broken) c ≡ Some needs_reopen
    by None c is w = absurd (false≢true (is ∙ sym e))
    by (Some d) c is w = broken_refused r d c w

pub writes_worn : (r : Replica) → r.store.broken ≡ false → is_worn_at (numbers_of r.store r.next_id) ≡ true → WritesNothing r refusals.Worn
writes_worn r whole e = record { spoken = tt; refuses = by }
  where
    by : (broken : Option Durable) (c : Command) → IsIn r broken → is_write c ≡ true → refused (state_in r broken) c ≡ Some worn
    by None c is w = worn_refused r c w e
    by (Some d) c is w = absurd (none_broken r d is whole)

or_true : (b : Bool) → b || true ≡ true
or_true true = refl
or_true false = refl

pub worn_first : (n : Numbers) → n.generation ≡ 2 ^ 64 - 1 → is_worn_at n ≡ true
worn_first n e = ap (λ b. b || n.next_id == 2 ^ 64 - 1) (eq-eqb n.generation (2 ^ 64 - 1) e)

pub worn_second : (n : Numbers) → n.next_id ≡ 2 ^ 64 - 1 → is_worn_at n ≡ true
worn_second n e = ap (λ b. n.generation == 2 ^ 64 - 1 || b) (eq-eqb n.next_id (2 ^ 64 - 1) e) ∙ or_true (n.generation == 2 ^ 64 - 1)

pub not_worn : (r : Replica) → MayWrite r → is_worn_at (numbers_of r.store r.next_id) ≡ false
not_worn r may = ap₂ (λ a b. a || b) (ne_eqb r.store.root.generation (2 ^ 64 - 1) (λ e. omega (arith, may.generation, e))) (ne_eqb r.next_id (2 ^ 64 - 1) (λ e. omega (arith, may.next_id, e)))

-- ---- a manifest that is lawful

pub lawful_manifest : (m : Manifest) → m.deltas ≡ [] → IsCatalogue m.catalogue → HasLawfulShape m → IsLawfulManifest m
lawful_manifest m none is h = record {
  limit = h.limit;
  numbers = h.numbers;
  catalogue = is;
  streams = h.streams;
  parts = h.parts;
  deltas = subst (λ ds. IsTrue (rises_strictly (map (λ d. d.0) ds) && nat_le (length ds) 4096 && list_all (is_delta_entry m) ds)) (sym none) refl;
}

pub its_shape : (m : Manifest) → IsLawfulManifest m → HasLawfulShape m
its_shape m h = record { limit = h.limit; numbers = h.numbers; streams = h.streams; parts = h.parts }

-- of another catalogue too
pub shape_of : (cat now : Catalogue) (n : Numbers) (es : List PartEntry) (ss : List StreamAt) → HasLawfulShape (bare_manifest (durable_with cat n es ss)) → HasLawfulShape (bare_manifest (durable_with now n es ss))
shape_of cat now n es ss h = record { limit = h.limit; numbers = h.numbers; streams = h.streams; parts = h.parts }

-- ---- what is taken of the file

is_it : (a b : Extent) → a.place == b.place && a.length == b.length ≡ true → a ≡ b
is_it a b e = let both = and_parts _ _ e in ap₂ (λ place len. record { place = place; length = len }) (eqb-true a.place b.place both.0) (eqb-true a.length b.length both.1)

found_at : (e : Extent) (xs : List Extent) → list_any (λ x. x.place == e.place && x.length == e.length) xs ≡ true → (rest : List Extent) × IsPermutation (e ∷ rest) xs
found_at e [] h = absurd (false≢true h)
found_at e (x ∷ xs) h = by (found_at e xs) (x.place == e.place && x.length == e.length) refl h
  where
    by : (list_any (λ y. y.place == e.place && y.length == e.length) xs ≡ true → (rest : List Extent) × IsPermutation (e ∷ rest) xs) → (b : Bool) → x.place == e.place && x.length == e.length ≡ b → b || list_any (λ x. x.place == e.place && x.length == e.length) xs ≡ true → (rest : List Extent) × IsPermutation (e ∷ rest) (x ∷ xs)
    by more true is h = (xs, subst (λ y. IsPermutation (y ∷ xs) (x ∷ xs)) (is_it x e is) (IsPermutation-refl (x ∷ xs)))
    by more false is h =
        let found = more h in
        (x ∷ found.0, IsPermutation-trans (e ∷ x ∷ found.0) (x ∷ e ∷ found.0) (x ∷ xs) (IsPermutation-sym (x ∷ e ∷ found.0) (e ∷ x ∷ found.0) (IsPermutation-middle (x ∷ []) e found.0)) (IsPermutation-cons x (e ∷ found.0) xs found.1))

pub taken_by : (s : Store) → IsTrue (has_manifest s) → HasTaken s []
taken_by s h = let found = found_at (root_extent s.root) s.space.taken h in record { rest = found.0; all = found.1 }

pub manifest_by : (s : Store) → HasTaken s [] → IsTrue (has_manifest s)
manifest_by s h =
    let test : Extent → Bool = λ x. x.place == s.root.place && x.length == s.root.length in
    sym (list_any-IsPermutation test (root_extent s.root ∷ h.rest) s.space.taken h.all) ∙ ap₂ (λ a b. a && b || list_any test h.rest) (eq-eqb s.root.place s.root.place refl) (eq-eqb s.root.length s.root.length refl)

-- ---- a call of the store's commit

pub quiet_itself : {D : Type 0} (v : Device D) (d : D) → IsQuiet (v.state d) (v.state d)
quiet_itself v d = record { told = refl; images = begins v d (v.state d).leaves (λ image h. h); faults = refl; write_faults = refl }

pub quiet : {D : Type 0} (v : Device D) (old new : D) → new ≡ old → IsQuiet (v.state old) (v.state new)
quiet v old new e = subst (λ d. IsQuiet (v.state old) (v.state d)) (sym e) (quiet_itself v old)

pub untouched : {D : Type 0} (v : Device D) (old new : D) (r : Result (Unit {0}) CommitRefusal) → IfErr r (λ e. (e ≡ commits.Disk) ⊎ (new ≡ old)) → IfErr r (λ e. (e ≡ commits.Disk) ⊎ IsQuiet (v.state old) (v.state new))
untouched v old new (Ok x) h = tt
untouched v old new (Err e) h = elim h [ inl is ↦ inl is | inr same ↦ inr (quiet v old new same) ]

pub has_run : {D : Type 0} (v : Device D) (old new : D) (s s' : Store) (m : Manifest) (r : Result (Unit {0}) CommitRefusal) (a : Result (Unit {0}) code.Refusal) → LeadsTo (v.state old) (v.state new) s s' m [] r
    → OnOk r (IsNextRoot s.root s'.root (length (manifest_bytes m))) → HasKept s s' [] r → IfErr r (RefusesCommit s m) → IfErr r (λ e. (e ≡ commits.Disk) ⊎ (new ≡ old)) → DiskGoes (v.state old) (v.state new)
    → HasCause (v.state old).faults (v.state new).faults (of_disk r) → HasCause (v.state old).write_faults (v.state new).write_faults (fault_if s'.broken) → CountsOne (v.state old).reads (v.state new).reads
    → a ≡ answer_for r → HasRun (v.state old) (v.state new) s s' m a
has_run v old new s s' m r a leads ok kept refused same goes cause breaks read answer = record {
  result = r;
  call = record { leads = leads; ok = ok; kept = kept; refused = refused; untouched = untouched v old new r same; goes = goes; cause = cause; breaks = breaks; read = read };
  answer = answer;
}

-- ---- the manifest that is committed

at_map : {A B : Type 0} (f : A → B) (xs : List A) (i : ℕ) (x : A) → slice_get xs i ≡ Some x → slice_get (map f xs) i ≡ Some (f x)
at_map f xs i x e = slice_get-map f xs i ∙ ap (option_map f) e

pub bare_part : (es : List PartEntry) (i : ℕ) (e : PartEntry) (low ids : List ℕ) → slice_get es i ≡ Some e → low ≡ e.low → ids ≡ [] → slice_get (map part_of_entry es) i ≡ Some (record { low = low; resume = e.resume; ids = ids })
bare_part es i e low ids here l none = at_map part_of_entry es i e here ∙ ap₂ (λ x xs. Some (record { low = x; resume = e.resume; ids = xs })) (sym l) (sym none)

pub lows_behind : (ss : List StreamAt) → map bare_stream (map low_of ss) ≡ map (λ a. record { low = a.header.range.low; points = [] }) ss
lows_behind [] = refl
lows_behind (a ∷ ss) = ap (λ xs. record { low = a.header.range.low; points = [] } ∷ xs) (lows_behind ss)

pub manifest_is : (limit id : ℕ) (cat : Catalogue) (streams : List StreamEntry) (parts : List PartStored) (deltas : List DeltaStored) (n : Numbers) (es : List PartEntry) (ss : List StreamAt) → limit ≡ n.limit → map view_stream streams ≡ map bare_stream (map low_of ss) → map view_part parts ≡ map part_of_entry es
    → deltas ≡ [] → id ≡ n.next_id → view_manifest (record { limit = limit; minimum = 0; next_id = id; catalogue = cat; streams = streams; parts = parts; deltas = deltas }) ≡ bare_manifest (durable_with cat n es ss)
manifest_is limit id cat streams parts deltas n es ss l s p d i =
    ap₂ (λ x xs. record { limit = x; minimum = 0; next_id = id; catalogue = cat; streams = xs; parts = map view_part parts; deltas = map view_delta deltas }) l (s ∙ lows_behind ss)
    ∙ ap₂ (λ xs ys. record { limit = n.limit; minimum = 0; next_id = id; catalogue = cat; streams = map (λ a. record { low = a.header.range.low; points = [] }) ss; parts = xs; deltas = map view_delta ys }) p d
    ∙ ap (λ x. record { limit = n.limit; minimum = 0; next_id = x; catalogue = cat; streams = map (λ a. record { low = a.header.range.low; points = [] }) ss; parts = map part_of_entry es; deltas = [] }) i

pub goes_nowhere : (d : DiskState) → DiskGoes d d
goes_nowhere d = record { stays = ((λ there. there), (λ there. there)); faults = omega arith; write_faults = omega arith; reads = omega arith; clock = omega arith; past = λ t image le left. left }

-- ---- what stays through a call

kept_limit : (old new : Store) (r : Result (Unit {0}) CommitRefusal) → HasKept old new [] r → new.space.limit ≡ old.space.limit
kept_limit old new (Ok x) kept = kept.limit
kept_limit old new (Err e) kept = elim kept [ inl same ↦ ap (λ s. s.limit) same.space | inr broken ↦ broken.1.limit ]

pub shape_kept : (cat now : Catalogue) (old new : Store) (id : ℕ) (es : List PartEntry) (ss : List StreamAt) (r : Result (Unit {0}) CommitRefusal) → HasKept old new [] r
    → HasLawfulShape (bare_manifest (durable_with cat (numbers_of old id) es ss)) → HasLawfulShape (bare_manifest (durable_with now (numbers_of new id) es ss))
shape_kept cat now old new id es ss r kept h =
    let shape : (n : ℕ) → Type 0 = λ n. HasLawfulShape (bare_manifest (durable_with now (record { limit = n; generation = 0; next_id = id }) es ss)) in
    let there : shape new.space.limit = subst shape (sym (kept_limit old new r kept)) (record { limit = h.limit; numbers = h.numbers; streams = h.streams; parts = h.parts }) in
    record { limit = there.limit; numbers = there.numbers; streams = there.streams; parts = there.parts }

pub still_taken : (old new : Store) (r : Result (Unit {0}) CommitRefusal) → HasKept old new [] r → IsTrue (has_manifest old) → IsTrue (has_manifest new)
still_taken old new r kept h = manifest_by new (kept_taken old new r (taken_by old h) kept)

pub lawful_next : (m next : Manifest) → next ≡ m → m.deltas ≡ [] → IsCatalogue next.catalogue → HasLawfulShape m → IsLawfulManifest next
lawful_next m next e none is h = lawful_manifest next (ap (λ x. x.deltas) e ∙ none) is (subst HasLawfulShape (sym e) h)

-- the shape is told by the partitions and by the low bounds of the streams
pub shape_same : (cat : Catalogue) (n : Numbers) (es now : List PartEntry) (ss after : List StreamAt) → map part_of_entry now ≡ map part_of_entry es → map low_of after ≡ map low_of ss
    → HasLawfulShape (bare_manifest (durable_with cat n es ss)) → HasLawfulShape (bare_manifest (durable_with cat n now after))
shape_same cat n es now ss after parts lows h =
    let same : bare_manifest (durable_with cat n now after) ≡ bare_manifest (durable_with cat n es ss) =
    ap₂ (λ xs ps. record { limit = n.limit; minimum = 0; next_id = n.next_id; catalogue = cat; streams = xs; parts = ps; deltas = [] }) (sym (lows_behind after) ∙ ap (map bare_stream) lows ∙ lows_behind ss) parts in
    subst HasLawfulShape (sym same) h
