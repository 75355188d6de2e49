-- A version that is added or retired leaves what is held: under the longer catalogue the source has what it had.
use Rattle.std.proofs.Common.{List, [], ap, false, length, refl, subst, sym, true, ℕ, ◌∙◌, ◌≡◌}
use Rattle.std.specs.Prelude.{Contains, Err, None, Ok, Option, Result, Some, if◌then◌else◌, is_none, not, option_and_then, ◌==◌}
use Rattle.std.specs.List.{AllByRecursion}
use Rattle.std.specs.Option.{option_map_or}
use Rattle.std.proofs.lemmas.Bool.{false≢true, not-false}
use Rattle.lt_world.specs.Feed.{Feed}
use Rattle.lt_terms.specs.Log.{Change, Header, Item}
use Rattle.lt_machine.specs.Machine.{Answer, State, StepBy, added_read, cat_of, refused, registered_named, with_catalogue, with_cause}
use Rattle.lt_machine.specs.Outside.{BelongsTo}
use Rattle.lt_machine.specs.Sound.{Memory}
use Rattle.lt_words.specs.Reply.{Refusal, is_last_version, no_such_version, version_retired}
use Rattle.lt_tables.specs.Schema.{Became, Catalogue, IsCatalogue, Registered, SchemaFault, SchemaVersion, Table, already_retired, as_it_was, err_or, last_version, registered, schema_fault, table_named, table_numbered, then_added, then_retired, unknown_table, unknown_version, when, with_version, without_version}
use Rattle.lt_words.specs.SchemaText.{JsonFault, version_of_text}
use Rattle.lt_tables.specs.Query.{do_retire, do_schema}
use Rattle.lt_machine.specs.Sound.{IsGood, source_of}
use Rattle.lt_codecs.proofs.ListFacts.{all_map}
use Rattle.lt_lemmas.proofs.ListFacts.{when_none}
use Rattle.lt_codecs.proofs.LogLaws.{frames_prefix_free}
use Rattle.lt_laws.proofs.AnswerLaws.{named_is_numbered}
use Rattle.lt_session_laws.proofs.CatalogueSteps.{none_refuses, retire_keeps, schema_keeps}
use Rattle.lt_lemmas.proofs.FrontLaws.{grows_itself}
use Rattle.lt_laws.proofs.FrontLaws.{fronts_stay}
use Rattle.lt_laws.proofs.ListFacts.{all_at}
use Rattle.lt_laws.proofs.SoundLaws.{longer-by, source-more}
use Rattle.lt_session_laws.proofs.StepLaws.{unrefused}
use Rattle.lt_steps.specs.Memory.{MemoryStays}

-- ---- what the catalogue becomes

added_by : (cat wide : Catalogue) (v : SchemaVersion) (o : Option SchemaFault) → schema_fault cat v ≡ o → with_cause (err_or o (with_version cat v)) ≡ Ok wide → Became cat wide
added_by cat wide v None e h = let d : with_version cat v ≡ wide = cc in subst (Became cat) d (then_added cat v as_it_was e)
added_by cat wide v (Some f) e h = cc

became_added : (cat wide : Catalogue) (r : Result SchemaVersion JsonFault) → added_read cat r ≡ Ok wide → Became cat wide
became_added cat wide (Ok v) h = added_by cat wide v (schema_fault cat v) refl h
became_added cat wide (Err e) h = cc

live_version : (q : Option Registered) → is_none q ≡ false → option_map_or (λ r. not r.live) q false ≡ false → option_map_or (λ r. r.live) q false ≡ true
live_version None i j = absurd (false≢true (sym i))
live_version (Some r) i j = not-false r.live j

fault_by : (x : Table) (v : ℕ) (o : Option Table) → o ≡ Some x → is_none (registered x v) ≡ false → option_map_or (λ r. not r.live) (registered x v) false ≡ false → (v == length x.versions) ≡ false
    → (if is_none o then Some unknown_table else (if is_none (option_and_then (λ t. registered t v) o) then Some unknown_version
    else (if not (option_map_or (λ r. r.live) (option_and_then (λ t. registered t v) o) false) then Some already_retired else when (v == length (option_map_or (λ t. t.versions) o [])) last_version))) ≡ None
fault_by x v None k i j l = cc
fault_by x v (Some y) k i j l =
    let d : y ≡ x = cc in
    none_refuses (is_none (registered y v)) (option_map_or (λ r. r.live) (registered y v) false) (v == length y.versions) (ap (λ (z : Table). is_none (registered z v)) d ∙ i)
    (ap (λ (z : Table). option_map_or (λ r. r.live) (registered z v) false) d ∙ live_version (registered x v) i j) (ap (λ (z : Table). v == length z.versions) d ∙ l)

-- a version that the state does not refuse to retire can be retired
became_retired : (cat : Catalogue) (name : List ℕ) (v : ℕ) (x : Table) → IsCatalogue cat → table_named cat name ≡ Some x → when (is_none (registered_named cat name v)) (no_such_version v) ≡ None
    → when (option_map_or (λ r. not r.live) (registered_named cat name v) false) (version_retired v) ≡ None → option_and_then (λ x. when (v == length x.versions) (is_last_version v)) (table_named cat name) ≡ None → Became cat (without_version cat x.number v)
became_retired cat name v x is e f g h =
    let known = named_is_numbered cat name x is e in
    let some : is_none (registered x v) ≡ false = ap (λ (o : Option Table). is_none (option_and_then (λ y. registered y v) o)) (sym e) ∙ when_none (is_none (registered_named cat name v)) (no_such_version v) f in
    let live : option_map_or (λ r. not r.live) (registered x v) false ≡ false
    = ap (λ (o : Option Table). option_map_or (λ r. not r.live) (option_and_then (λ y. registered y v) o) false) (sym e) ∙ when_none (option_map_or (λ r. not r.live) (registered_named cat name v) false) (version_retired v) g in
    let last : (v == length x.versions) ≡ false = when_none (v == length x.versions) (is_last_version v) (ap (λ (o : Option Table). option_and_then (λ x. when (v == length x.versions) (is_last_version v)) o) (sym e) ∙ h) in
    then_retired cat x.number v as_it_was (fault_by x v (table_numbered cat x.number) known some live last)

-- ---- under a longer catalogue the source has what it had

held_more : (source all : List Change) (mem : Memory) → AllByRecursion (Contains all) source → AllByRecursion (λ cs. AllByRecursion (Contains source) cs) mem → AllByRecursion (λ cs. AllByRecursion (Contains all) cs) mem
held_more source all mem within a = all_map (AllByRecursion (Contains source)) (AllByRecursion (Contains all)) mem (λ cs h. all_map (Contains source) (Contains all) cs (λ c k. all_at (Contains all) source c within k) h) a

stays_under : (f : Feed) (s : State) (mem : Memory) (wide : Catalogue) → BelongsTo f s mem → Became (cat_of s) wide → (gs : List (Header × List Item)) × IsGood f (with_catalogue s wide) gs → BelongsTo f (with_catalogue s wide) mem
stays_under f s mem wide b became g =
    let stay = fronts_stay frames_prefix_free f f (cat_of s) wide b.0 g.0 (grows_itself f) b.1.lawful.manifest.catalogue became b.1.fronts g.1.fronts in
    let longer = longer-by f wide 0 b.0 g.0 (b.1.fronts.all ∙ sym g.1.fronts.all) stay g.1.fronts.each in
    (g.0, g.1, b.2, held_more (source_of b.0) (source_of g.0) mem (source-more wide b.0 g.0 longer) b.3)

changed : (f : Feed) (s s' : State) (mem : Memory) (wide : Catalogue) → BelongsTo f s mem → s' ≡ with_catalogue s wide → Became (cat_of s) wide → (gs : List (Header × List Item)) × IsGood f s' gs → BelongsTo f s' mem
changed f s s' mem wide b left became g =
    subst (λ (x : State). BelongsTo f x mem) (sym left) (stays_under f s mem wide b became (g.0, subst (λ (x : State). IsGood f x g.0) left g.1))

stays_added : (f : Feed) (s s' : State) (mem : Memory) (text : List ℕ) (a : Answer) (b : BelongsTo f s mem) (o : Option Refusal) → refused s (do_schema text) ≡ o → StepBy o f (source_of b.0) s (do_schema text) a s' → BelongsTo f s' mem
stays_added f s s' mem text a b (Some r) e step = subst (λ (x : State). BelongsTo f x mem) (sym step.1) b
stays_added f s s' mem text a b None e d = changed f s s' mem d.0 b d.3 (became_added (cat_of s) d.0 (version_of_text text) d.1) (schema_keeps text f b.0 s s' a b.1 e d)

stays_retired : (f : Feed) (s s' : State) (mem : Memory) (name : List ℕ) (v : ℕ) (a : Answer) (b : BelongsTo f s mem) (o : Option Refusal) → refused s (do_retire name v) ≡ o → StepBy o f (source_of b.0) s (do_retire name v) a s' → BelongsTo f s' mem
stays_retired f s s' mem name v a b (Some r) e step = subst (λ (x : State). BelongsTo f x mem) (sym step.1) b
stays_retired f s s' mem name v a b None e d =
    let u = unrefused s (do_retire name v) e in
    changed f s s' mem (without_version (cat_of s) d.0.number v) b d.3 (became_retired (cat_of s) name v d.0 b.1.lawful.manifest.catalogue d.1 u.version u.live u.latest) (retire_keeps name v f b.0 s s' a b.1 e d)

pub memory_stays : MemoryStays
memory_stays = record {
  added = λ f s s' mem text a b step. stays_added f s s' mem text a b (refused s (do_schema text)) refl step;
  retired = λ f s s' mem name v a b step. stays_retired f s s' mem name v a b (refused s (do_retire name v)) refl step;
}
