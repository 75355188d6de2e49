-- What commands are answered with: results, the version that a command names, retirements.
use Rattle.lt_replica.specs.Numbers.{Numbers, is_worn_at}
use Rattle.std.proofs.Common.{Bool, List, [], ap, false, not, refl, subst, sym, true, ℕ, ◌∙◌, ◌∷◌, ◌≡◌}
use Rattle.std.specs.Prelude.{Err, IfErr, IfOk, None, Ok, Option, Result, Some, is_none, option_and_then, option_map}
use Rattle.std.specs.Option.{option_map_or}
use Rattle.std.specs.Result.{IsErrAnd}
use Rattle.lt_tables.specs.Pump.{StreamAt}
use Rattle.lt_machine.specs.Machine.{refused}
use Rattle.lt_machine.specs.Sound.{Memory}
use Rattle.lt_words.specs.Reply as model
use Rattle.lt_words.specs.Reply.{no_such_version, out_of_memory, version_retired}
use Rattle.lt_tables.specs.Schema.{Catalogue, IsCatalogue, Registered, RetireFault, SchemaVersion, Table, first_of, is_live, registered, retire_fault, retired, schema_version, table_named, table_numbered, when, whole_version}
use Rattle.lt_tables.specs.Query.{do_retire}
use Rattle.lt_laws.proofs.AnswerLaws.{named_is_numbered}
use Rattle.lt_parts.specs.declared.entry.PartEntry.{PartEntry}
use Rattle.lt_reply.specs.View.{IsSpoken, view_refusal}
use Rattle.lt_reply.specs.declared.refusal.Refusal.{Refusal}
use Rattle.lt_reply.specs.declared.refusal.Refusal.TheVariants as refusals
use Rattle.lt_schema.specs.Faults.{view_retire}
use Rattle.lt_schema.specs.declared.refusal.RetireRefusal.{RetireRefusal}
use Rattle.lt_replica.specs.Answers as fault
use Rattle.lt_replica.specs.Answers.{IsLive, named_fault}
use Rattle.lt_replica.specs.State.{state_with}
use Rattle.lt_replica.specs.Steps.{Refuses}
use Rattle.lt_replica.proofs.CatalogueChanges.{retired_err}
use Rattle.lt_replica.proofs.Refusals.{named_refusal, retire_is, retire_refusal}

-- ---- results

-- what holds of a text holds of what is answered with it
pub answers_with : {A E : Type 0} (r : Result A E) (a : A) (P : A → Type 0) → IfOk r (λ b. b ≡ a) → P a → IfOk r P
answers_with (Ok b) a P h p = subst P (sym h) p
answers_with (Err e) a P h p = tt

-- what holds of an error holds of the result that hands it on
pub err_is : {A E : Type 0} (r : Result A E) (x : E) (P : E → Type 0) → IsErrAnd r (λ e. e ≡ x) → P x → IfErr r P
err_is (Ok a) x P h p = tt
err_is (Err e) x P h p = subst P (sym h) p

-- what is refused is decided by the state, or memory ran out
pub refusal_cases : (o : Option model.Refusal) (P : Refusal → Type 0) → ((e : Refusal) → IsSpoken e → o ≡ Some (view_refusal e) → P e) → P refusals.Memory → (e : Refusal) → Refuses o e → P e
refusal_cases o P decided lacks refusals.NeedsReopen h = decided refusals.NeedsReopen h.0 h.1
refusal_cases o P decided lacks (refusals.NoPartition part) h = decided (refusals.NoPartition part) h.0 h.1
refusal_cases o P decided lacks (refusals.NoSuchDelta id) h = decided (refusals.NoSuchDelta id) h.0 h.1
refusal_cases o P decided lacks (refusals.TooOld min) h = decided (refusals.TooOld min) h.0 h.1
refusal_cases o P decided lacks (refusals.AboveDurable durable) h = decided (refusals.AboveDurable durable) h.0 h.1
refusal_cases o P decided lacks (refusals.BelowMin min) h = decided (refusals.BelowMin min) h.0 h.1
refusal_cases o P decided lacks refusals.TooManyDeltas h = decided refusals.TooManyDeltas h.0 h.1
refusal_cases o P decided lacks refusals.JobOpen h = decided refusals.JobOpen h.0 h.1
refusal_cases o P decided lacks refusals.NoJob h = decided refusals.NoJob h.0 h.1
refusal_cases o P decided lacks refusals.NotDone h = decided refusals.NotDone h.0 h.1
refusal_cases o P decided lacks (refusals.StoreFull need room) h = decided (refusals.StoreFull need room) h.0 h.1
refusal_cases o P decided lacks refusals.DiskFault h = decided refusals.DiskFault h.0 h.1
refusal_cases o P decided lacks (refusals.Damaged place len) h = decided (refusals.Damaged place len) h.0 h.1
refusal_cases o P decided lacks (refusals.FeedMismatch stream) h = decided (refusals.FeedMismatch stream) h.0 h.1
refusal_cases o P decided lacks refusals.Worn h = decided refusals.Worn h.0 h.1
refusal_cases o P decided lacks (refusals.UnknownTable name) h = decided (refusals.UnknownTable name) h.0 h.1
refusal_cases o P decided lacks (refusals.UnknownVersion version) h = decided (refusals.UnknownVersion version) h.0 h.1
refusal_cases o P decided lacks (refusals.Retired version) h = decided (refusals.Retired version) h.0 h.1
refusal_cases o P decided lacks (refusals.LastVersion version) h = decided (refusals.LastVersion version) h.0 h.1
refusal_cases o P decided lacks (refusals.BadSchema cause) h = decided (refusals.BadSchema cause) h.0 h.1
refusal_cases o P decided lacks (refusals.NoStream stream) h = decided (refusals.NoStream stream) h.0 h.1
refusal_cases o P decided lacks (refusals.NotSafe part checkpoint) h = decided (refusals.NotSafe part checkpoint) h.0 h.1
refusal_cases o P decided lacks (refusals.BadColumn name) h = decided (refusals.BadColumn name) h.0 h.1
refusal_cases o P decided lacks (refusals.WrongType name) h = decided (refusals.WrongType name) h.0 h.1
refusal_cases o P decided lacks (refusals.KeyTooLong len) h = decided (refusals.KeyTooLong len) h.0 h.1
refusal_cases o P decided lacks (refusals.AtEdge part) h = decided (refusals.AtEdge part) h.0 h.1
refusal_cases o P decided lacks refusals.TooManyParts h = decided refusals.TooManyParts h.0 h.1
refusal_cases o P decided lacks refusals.OutFault h = absurd h
refusal_cases o P decided lacks refusals.FeedFault h = absurd h
refusal_cases o P decided lacks refusals.Memory h = lacks

-- a refusal for one reason is one for another that is the same
pub refuses_to : (o p : Option model.Refusal) → ((r : model.Refusal) → o ≡ Some r → p ≡ Some r) → (e : Refusal) → Refuses o e → Refuses p e
refuses_to o p f refusals.NeedsReopen h = (h.0, f _ h.1)
refuses_to o p f (refusals.NoPartition part) h = (h.0, f _ h.1)
refuses_to o p f (refusals.NoSuchDelta id) h = (h.0, f _ h.1)
refuses_to o p f (refusals.TooOld min) h = (h.0, f _ h.1)
refuses_to o p f (refusals.AboveDurable durable) h = (h.0, f _ h.1)
refuses_to o p f (refusals.BelowMin min) h = (h.0, f _ h.1)
refuses_to o p f refusals.TooManyDeltas h = (h.0, f _ h.1)
refuses_to o p f refusals.JobOpen h = (h.0, f _ h.1)
refuses_to o p f refusals.NoJob h = (h.0, f _ h.1)
refuses_to o p f refusals.NotDone h = (h.0, f _ h.1)
refuses_to o p f (refusals.StoreFull need room) h = (h.0, f _ h.1)
refuses_to o p f refusals.DiskFault h = (h.0, f _ h.1)
refuses_to o p f (refusals.Damaged place len) h = (h.0, f _ h.1)
refuses_to o p f (refusals.FeedMismatch stream) h = (h.0, f _ h.1)
refuses_to o p f refusals.Worn h = (h.0, f _ h.1)
refuses_to o p f (refusals.UnknownTable name) h = (h.0, f _ h.1)
refuses_to o p f (refusals.UnknownVersion version) h = (h.0, f _ h.1)
refuses_to o p f (refusals.Retired version) h = (h.0, f _ h.1)
refuses_to o p f (refusals.LastVersion version) h = (h.0, f _ h.1)
refuses_to o p f (refusals.BadSchema cause) h = (h.0, f _ h.1)
refuses_to o p f (refusals.NoStream stream) h = (h.0, f _ h.1)
refuses_to o p f (refusals.NotSafe part checkpoint) h = (h.0, f _ h.1)
refuses_to o p f (refusals.BadColumn name) h = (h.0, f _ h.1)
refuses_to o p f (refusals.WrongType name) h = (h.0, f _ h.1)
refuses_to o p f (refusals.KeyTooLong len) h = (h.0, f _ h.1)
refuses_to o p f (refusals.AtEdge part) h = (h.0, f _ h.1)
refuses_to o p f refusals.TooManyParts h = (h.0, f _ h.1)
refuses_to o p f refusals.OutFault h = h
refuses_to o p f refusals.FeedFault h = h
refuses_to o p f refusals.Memory h = tt

pub refuses_spoken : (o : Option model.Refusal) (e : Refusal) → Refuses o e → IsSpoken e
refuses_spoken o e h = refusal_cases o IsSpoken (λ e spoken d. spoken) tt e h

-- memory alone is free
pub refused_or_lacks : (P : model.Refusal → Type 0) (o : Option model.Refusal) → ((e : Refusal) → o ≡ Some (view_refusal e) → P (view_refusal e)) → P out_of_memory → (e : Refusal) → Refuses o e → P (view_refusal e)
refused_or_lacks P o f m e h = refusal_cases o (λ e. P (view_refusal e)) (λ e spoken d. f e d) m e h

-- ---- the version that a command names

-- the table that has the name
pub some_named : (cat : Catalogue) (name : List ℕ) (number : ℕ) → Some number ≡ option_map (λ (t : Table). t.number) (table_named cat name) → (t : Table) × (table_named cat name ≡ Some t) × (t.number ≡ number)
some_named cat name number e = by (table_named cat name) refl e
  where
    by : (o : Option Table) → table_named cat name ≡ o → Some number ≡ option_map (λ (t : Table). t.number) o → (t : Table) × (table_named cat name ≡ Some t) × (t.number ≡ number)
    by None d e = absurd cc
    by (Some t) d e = (t, d, cc)

pub none_named : (cat : Catalogue) (name : List ℕ) → None ≡ option_map (λ (t : Table). t.number) (table_named cat name) → table_named cat name ≡ None
none_named cat name e = by (table_named cat name) refl e
  where
    by : (o : Option Table) → table_named cat name ≡ o → None ≡ option_map (λ (t : Table). t.number) o → table_named cat name ≡ None
    by None d e = d
    by (Some t) d e = absurd cc

abbrev pub entry_fault : ℕ → Option Registered → Option model.Refusal
entry_fault v x = first_of (when (is_none x) (no_such_version v) ∷ when (option_map_or (λ r. not r.live) x false) (version_retired v) ∷ [])

-- of a table that is named, the fault lies in the version
named_entry : (cat : Catalogue) (name : List ℕ) (v : ℕ) (t : Table) → table_named cat name ≡ Some t → named_fault cat name v ≡ entry_fault v (registered t v)
named_entry cat name v t e = ap (λ (o : Option Table). first_of (when (is_none o) (model.no_such_table name) ∷ when (is_none (option_and_then (λ x. registered x v) o)) (no_such_version v)
    ∷ when (option_map_or (λ r. not r.live) (option_and_then (λ x. registered x v) o) false) (version_retired v) ∷ [])) e

version_at : (cat : Catalogue) (t : Table) (v : ℕ) → table_numbered cat t.number ≡ Some t → schema_version cat t.number v ≡ option_map (whole_version t v) (registered t v)
version_at cat t v e = ap (option_and_then (λ t. option_map (whole_version t v) (registered t v))) e

live_at : (cat : Catalogue) (t : Table) (v : ℕ) → table_numbered cat t.number ≡ Some t → is_live cat t.number v ≡ option_map_or (λ r. r.live) (registered t v) false
live_at cat t v e = ap (λ (o : Option Table). option_map_or (λ r. r.live) (option_and_then (λ t. registered t v) o) false) e

pub no_version : (cat : Catalogue) (name : List ℕ) (number v : ℕ) → IsCatalogue cat → Some number ≡ option_map (λ (t : Table). t.number) (table_named cat name) → None ≡ schema_version cat number v → named_fault cat name v ≡ Some (no_such_version v)
no_version cat name number v is e d =
    let n = some_named cat name number e in
    let t = n.0 in
    named_entry cat name v t n.1 ∙ by t (registered t v) (d ∙ ap (λ (m : ℕ). schema_version cat m v) (sym n.2) ∙ version_at cat t v (named_is_numbered cat name t is n.1))
  where
    by : (t : Table) (x : Option Registered) → None ≡ option_map (whole_version t v) x → entry_fault v x ≡ Some (no_such_version v)
    by t None h = refl
    by t (Some r) h = absurd cc

pub not_live : (cat : Catalogue) (name : List ℕ) (number v : ℕ) (version : SchemaVersion) → IsCatalogue cat → Some number ≡ option_map (λ (t : Table). t.number) (table_named cat name) → Some version ≡ schema_version cat number v
    → false ≡ is_live cat number v → named_fault cat name v ≡ Some (version_retired v)
not_live cat name number v version is e d l =
    let n = some_named cat name number e in
    let t = n.0 in
    let i = named_is_numbered cat name t is n.1 in
    named_entry cat name v t n.1 ∙ by t (registered t v) (d ∙ ap (λ (m : ℕ). schema_version cat m v) (sym n.2) ∙ version_at cat t v i) (l ∙ ap (λ (m : ℕ). is_live cat m v) (sym n.2) ∙ live_at cat t v i)
  where
    by : (t : Table) (x : Option Registered) → Some version ≡ option_map (whole_version t v) x → false ≡ option_map_or (λ r. r.live) x false → entry_fault v x ≡ Some (version_retired v)
    by t None h k = absurd cc
    by t (Some r) h k = ap (λ (b : Bool). first_of (when (not b) (version_retired v) ∷ [])) (sym k)

pub is_found : (cat : Catalogue) (name : List ℕ) (number v : ℕ) (version : SchemaVersion) → IsCatalogue cat → Some number ≡ option_map (λ (t : Table). t.number) (table_named cat name) → Some version ≡ schema_version cat number v
    → true ≡ is_live cat number v → IsLive cat name v version
is_found cat name number v version is e d l =
    let n = some_named cat name number e in
    let t = n.0 in
    let i = named_is_numbered cat name t is n.1 in
    by t n.1 i (registered t v) refl (d ∙ ap (λ (m : ℕ). schema_version cat m v) (sym n.2) ∙ version_at cat t v i) (l ∙ ap (λ (m : ℕ). is_live cat m v) (sym n.2) ∙ live_at cat t v i)
  where
    by : (t : Table) → table_named cat name ≡ Some t → table_numbered cat t.number ≡ Some t → (x : Option Registered) → registered t v ≡ x → Some version ≡ option_map (whole_version t v) x → true ≡ option_map_or (λ r. r.live) x false → IsLive cat name v version
    by t n i None f h k = absurd cc
    by t n i (Some r) f h k = record { lawful = is; table = t; named = n; numbered = i; entry = r; found = f; live = sym k; is = cc }

-- ---- retirements

abbrev pub numbers : Catalogue → List ℕ → ℕ → Type 0
numbers cat name number = Some number ≡ option_map (λ (t : Table). t.number) (table_named cat name)

pub retire_told : (cat : Catalogue) (n : Numbers) (es : List PartEntry) (ss : List StreamAt) (mem : Memory) (name : List ℕ) (number v : ℕ) (fault : RetireFault) → is_worn_at n ≡ false → IsCatalogue cat → numbers cat name number → retire_fault cat number v ≡ Some fault
    → refused (state_with cat n es ss mem) (do_retire name v) ≡ Some (retire_refusal name v fault)
retire_told cat n es ss mem name number v fault e is d f =
    let t = some_named cat name number d in
    retire_is cat n es ss mem name v t.0 e is t.1 ∙ ap (λ (m : ℕ). option_map (retire_refusal name v) (retire_fault cat m v)) t.2 ∙ ap (option_map (retire_refusal name v)) f

pub retire_lets : (cat : Catalogue) (n : Numbers) (es : List PartEntry) (ss : List StreamAt) (mem : Memory) (name : List ℕ) (number v : ℕ) → is_worn_at n ≡ false → IsCatalogue cat → numbers cat name number → retire_fault cat number v ≡ None
    → refused (state_with cat n es ss mem) (do_retire name v) ≡ None
retire_lets cat n es ss mem name number v e is d f =
    let t = some_named cat name number d in
    retire_is cat n es ss mem name v t.0 e is t.1 ∙ ap (λ (m : ℕ). option_map (retire_refusal name v) (retire_fault cat m v)) t.2 ∙ ap (option_map (retire_refusal name v)) f

pub numbered_by : {name bytes : List ℕ} {number : ℕ} (cat : Catalogue) → Some number ≡ option_map (λ (t : Table). t.number) (table_named cat bytes) → bytes ≡ name → numbers cat name number
numbered_by {name} {bytes} {number} cat e b = e ∙ ap (λ x. option_map (λ (t : Table). t.number) (table_named cat x)) b

pub named_told : (cat next : Catalogue) (name : List ℕ) (number v : ℕ) (e f : RetireRefusal) → next ≡ cat → IsCatalogue cat → numbers cat name number → retired next number v ≡ Err (view_retire e) → e ≡ f → fault.retire_refusal cat name v ≡ Some (retire_refusal name v (view_retire f))
named_told cat next name number v e f same is d answer kind =
    let t = some_named cat name number d in
    named_refusal cat name v t.0 is t.1
    ∙ ap (λ (m : ℕ). option_map (retire_refusal name v) (retire_fault cat m v)) t.2
    ∙ ap (λ (c : Catalogue). option_map (retire_refusal name v) (retire_fault c number v)) (sym same)
    ∙ ap (option_map (retire_refusal name v)) (retired_err next number v (view_retire e) answer)
    ∙ ap (λ x. Some (retire_refusal name v (view_retire x))) kind
