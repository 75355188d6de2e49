-- What the machine refuses, of a state without a job or deltas that is not broken.
use Rattle.lt_replica.specs.Numbers.{Numbers, is_worn_at}
use Rattle.std.proofs.Common.{Bool, List, [], ap, arith, false, length, ltb-true, not, refl, sym, true, ℕ, ◌∙◌, ◌∷◌, ◌≡◌}
use Rattle.std.specs.Prelude.{Err, None, Ok, Option, Result, Some, if◌then◌else◌, is_none, nat_lt, option_and_then, option_map, ◌&&◌, ◌==◌}
use Rattle.std.specs.Option.{option_map_or, option_or}
use Rattle.lt_terms.specs.Key.{Range}
use Rattle.lt_tables.specs.Pump.{StreamAt}
use Rattle.lt_machine.specs.Machine.{State, added_read, added_text, bad_column_asked, columns_fault, error_of, first_below, is_worn, literals_fault, name_and_version, names_version, not_safe_asked, part_misfit, query_interval, refused, registered_named, schema_refused, too_old_asked, unknown_stream, with_cause, wrong_literal_asked}
use Rattle.lt_machine.specs.Sound.{Memory}
use Rattle.lt_tables.specs.Query.{Query}
use Rattle.lt_words.specs.Reply.{Refusal, bad_column, bad_schema, is_last_version, no_such_table, no_such_version, not_safe, of_text, of_version, too_old, version_retired, worn, wrong_literal}
use Rattle.lt_tables.specs.Schema.{Catalogue, Column, IsCatalogue, KeyColumn, Registered, RetireFault, SchemaFault, SchemaVersion, Table, already_retired, err_or, first_of, last_version, registered, retire_fault, schema_fault, table_named, unknown_table, unknown_version, when, with_version}
use Rattle.lt_words.specs.SchemaText.{JsonFault, version_of_text}
use Rattle.lt_tables.specs.Query.{do_pump, do_retire, do_scan, do_schema, do_status}
use Rattle.lt_words.specs.Script.{plain_query}
use Rattle.lt_laws.proofs.AnswerLaws.{named_is_numbered}
use Rattle.lt_parts.specs.declared.entry.PartEntry.{PartEntry}
use Rattle.lt_replica.specs.Answers as fault
use Rattle.lt_replica.specs.Answers.{IsLive, named_fault, text_refusal, version_refusal}
use Rattle.lt_replica.specs.State.{state_with}

pub no_write : (b : Bool) (r : Refusal) → when (b && false) r ≡ None
no_write true r = refl
no_write false r = refl

-- ---- refusals, by their parts

pub or_none : {A : Type 0} (o : Option A) → option_or o None ≡ o
or_none None = refl
or_none (Some r) = refl

-- a store is worn by its numbers
pub worn_at : (cat : Catalogue) (n : Numbers) (es : List PartEntry) (ss : List StreamAt) (mem : Memory) → is_worn (state_with cat n es ss mem).durable ≡ is_worn_at n
worn_at cat n es ss mem = refl

-- a schema is refused for its text or its version, if the store is not worn
pub schema_refused_by : (cat : Catalogue) (n : Numbers) (es : List PartEntry) (ss : List StreamAt) (mem : Memory) (t : List ℕ)
    → refused (state_with cat n es ss mem) (do_schema t) ≡ option_or (when (is_worn (state_with cat n es ss mem).durable && true) worn) (option_or (schema_refused (state_with cat n es ss mem) (do_schema t)) None)
unfolding refused
schema_refused_by cat n es ss mem t = refl

-- why a schema text is not added
abbrev pub schema_fault_text : Catalogue → List ℕ → Option Refusal
schema_fault_text cat t = option_map bad_schema (error_of (added_text cat t))

pub schema_is : (cat : Catalogue) (n : Numbers) (es : List PartEntry) (ss : List StreamAt) (mem : Memory) (t : List ℕ) → is_worn_at n ≡ false → refused (state_with cat n es ss mem) (do_schema t) ≡ schema_fault_text cat t
schema_is cat n es ss mem t e = schema_refused_by cat n es ss mem t ∙ ap (λ (b : Bool). option_or (when (b && true) worn) (option_or (schema_fault_text cat t) None)) (worn_at cat n es ss mem ∙ e) ∙ or_none (schema_fault_text cat t)

pub schema_worn : (cat : Catalogue) (n : Numbers) (es : List PartEntry) (ss : List StreamAt) (mem : Memory) (t : List ℕ) → is_worn_at n ≡ true → refused (state_with cat n es ss mem) (do_schema t) ≡ Some worn
schema_worn cat n es ss mem t e = schema_refused_by cat n es ss mem t ∙ ap (λ (b : Bool). option_or (when (b && true) worn) (option_or (schema_fault_text cat t) None)) (worn_at cat n es ss mem ∙ e)

text_refused_by : (cat : Catalogue) (o : Result SchemaVersion JsonFault) (r : Refusal) → option_map (λ f. bad_schema (of_text f)) (error_of o) ≡ Some r → option_map bad_schema (error_of (added_read cat o)) ≡ Some r
text_refused_by cat (Ok v) r e = absurd cc
text_refused_by cat (Err f) r e = e

pub text_refused : (cat : Catalogue) (t : List ℕ) (r : Refusal) → text_refusal t ≡ Some r → schema_fault_text cat t ≡ Some r
text_refused cat t r e = text_refused_by cat (version_of_text t) r e

version_refused_by : (o : Option SchemaFault) (new : Catalogue) (r : Refusal) → option_map (λ f. bad_schema (of_version f)) o ≡ Some r → option_map bad_schema (error_of (with_cause (err_or o new))) ≡ Some r
version_refused_by None new r e = absurd cc
version_refused_by (Some f) new r e = e

pub version_refused : (cat : Catalogue) (t : List ℕ) (v : SchemaVersion) (r : Refusal) → version_of_text t ≡ Ok v → version_refusal cat v ≡ Some r → schema_fault_text cat t ≡ Some r
version_refused cat t v r ok e = ap (λ (o : Result SchemaVersion JsonFault). option_map bad_schema (error_of (added_read cat o))) ok ∙ version_refused_by (schema_fault cat v) (with_version cat v) r e

pub accepted : (cat : Catalogue) (t : List ℕ) (v : SchemaVersion) → version_of_text t ≡ Ok v → schema_fault cat v ≡ None → added_text cat t ≡ Ok (with_version cat v)
accepted cat t v ok none = ap (added_read cat) ok ∙ ap (λ (o : Option SchemaFault). with_cause (err_or o (with_version cat v))) none

pub schema_accepted : (cat : Catalogue) (n : Numbers) (es : List PartEntry) (ss : List StreamAt) (mem : Memory) (t : List ℕ) (v : SchemaVersion) → is_worn_at n ≡ false → version_of_text t ≡ Ok v → schema_fault cat v ≡ None → refused (state_with cat n es ss mem) (do_schema t) ≡ None
schema_accepted cat n es ss mem t v e ok none = schema_is cat n es ss mem t e ∙ ap (λ o. option_map bad_schema (error_of o)) (accepted cat t v ok none)

pub names_are : (t : List ℕ) (v : SchemaVersion) → version_of_text t ≡ Ok v → names_version t ≡ (v.table, v.version)
names_are t v ok = ap name_and_version ok

-- ---- retirements

abbrev pub retire_refusal : List ℕ → ℕ → RetireFault → Refusal
retire_refusal name v unknown_table = no_such_table name
retire_refusal name v unknown_version = no_such_version v
retire_refusal name v already_retired = version_retired v
retire_refusal name v last_version = is_last_version v

-- what a retirement is refused for, by the table that the name names
abbrev retire_parts : List ℕ → ℕ → Option Table → Option Refusal
retire_parts name v o = option_or (when (is_none o) (no_such_table name)) (option_or (when (is_none (option_and_then (λ x. registered x v) o)) (no_such_version v))
    (option_or (when (option_map_or (λ r. not r.live) (option_and_then (λ x. registered x v) o) false) (version_retired v)) (option_or (option_and_then (λ x. when (v == length x.versions) (is_last_version v)) o) None)))

retire_by : (cat : Catalogue) (n : Numbers) (es : List PartEntry) (ss : List StreamAt) (mem : Memory) (name : List ℕ) (v : ℕ)
    → refused (state_with cat n es ss mem) (do_retire name v) ≡ option_or (when (is_worn (state_with cat n es ss mem).durable && true) worn) (retire_parts name v (table_named cat name))
unfolding refused
retire_by cat n es ss mem name v = refl

pub retire_at : (cat : Catalogue) (n : Numbers) (es : List PartEntry) (ss : List StreamAt) (mem : Memory) (name : List ℕ) (v : ℕ) → is_worn_at n ≡ false → refused (state_with cat n es ss mem) (do_retire name v) ≡ fault.retire_refusal cat name v
retire_at cat n es ss mem name v e = retire_by cat n es ss mem name v ∙ ap (λ (b : Bool). option_or (when (b && true) worn) (retire_parts name v (table_named cat name))) (worn_at cat n es ss mem ∙ e)

pub retire_worn : (cat : Catalogue) (n : Numbers) (es : List PartEntry) (ss : List StreamAt) (mem : Memory) (name : List ℕ) (v : ℕ) → is_worn_at n ≡ true → refused (state_with cat n es ss mem) (do_retire name v) ≡ Some worn
retire_worn cat n es ss mem name v e = retire_by cat n es ss mem name v ∙ ap (λ (b : Bool). option_or (when (b && true) worn) (retire_parts name v (table_named cat name))) (worn_at cat n es ss mem ∙ e)

pub retire_unknown : (cat : Catalogue) (n : Numbers) (es : List PartEntry) (ss : List StreamAt) (mem : Memory) (name : List ℕ) (v : ℕ) → is_worn_at n ≡ false → table_named cat name ≡ None → refused (state_with cat n es ss mem) (do_retire name v) ≡ Some (no_such_table name)
retire_unknown cat n es ss mem name v e none = retire_at cat n es ss mem name v e ∙ ap (retire_parts name v) none

live_parts : (name : List ℕ) (v : ℕ) (live l : Bool) → option_or (when (not live) (version_retired v)) (option_or (when l (is_last_version v)) None)
    ≡ option_map (retire_refusal name v) (if not live then Some already_retired else when l last_version)
live_parts name v true true = refl
live_parts name v true false = refl
live_parts name v false l = refl

entry_parts : (name : List ℕ) (v : ℕ) (x : Option Registered) (l : Bool)
    → option_or (when (is_none x) (no_such_version v)) (option_or (when (option_map_or (λ r. not r.live) x false) (version_retired v)) (option_or (when l (is_last_version v)) None))
    ≡ option_map (retire_refusal name v) (if is_none x then Some unknown_version else (if not (option_map_or (λ r. r.live) x false) then Some already_retired else when l last_version))
entry_parts name v None l = refl
entry_parts name v (Some r) l = live_parts name v r.live l

-- the fault by the table that has the number
abbrev fault_of : ℕ → Option Table → Option RetireFault
fault_of v o = if is_none o then Some unknown_table else (if is_none (option_and_then (λ t. registered t v) o) then Some unknown_version
    else (if not (option_map_or (λ r. r.live) (option_and_then (λ t. registered t v) o) false) then Some already_retired else when (v == length (option_map_or (λ t. t.versions) o [])) last_version))

-- the same by the name
pub named_refusal : (cat : Catalogue) (name : List ℕ) (v : ℕ) (t : Table) → IsCatalogue cat → table_named cat name ≡ Some t → fault.retire_refusal cat name v ≡ option_map (retire_refusal name v) (retire_fault cat t.number v)
named_refusal cat name v t is named =
    ap (retire_parts name v) named ∙ entry_parts name v (registered t v) (v == length t.versions)
    ∙ ap (λ (o : Option Table). option_map (retire_refusal name v) (fault_of v o)) (sym (named_is_numbered cat name t is named))

pub none_refusal : (cat : Catalogue) (name : List ℕ) (v : ℕ) → table_named cat name ≡ None → fault.retire_refusal cat name v ≡ Some (no_such_table name)
none_refusal cat name v none = ap (retire_parts name v) none

pub retire_is : (cat : Catalogue) (n : Numbers) (es : List PartEntry) (ss : List StreamAt) (mem : Memory) (name : List ℕ) (v : ℕ) (t : Table) → is_worn_at n ≡ false → IsCatalogue cat → table_named cat name ≡ Some t
    → refused (state_with cat n es ss mem) (do_retire name v) ≡ option_map (retire_refusal name v) (retire_fault cat t.number v)
retire_is cat n es ss mem name v t e is named = retire_at cat n es ss mem name v e ∙ named_refusal cat name v t is named

-- ---- scans

abbrev pub asked : List ℕ → ℕ → ℕ → Query
asked name v at = plain_query name v at None

scan_by : (cat : Catalogue) (n : Numbers) (es : List PartEntry) (ss : List StreamAt) (mem : Memory) (name : List ℕ) (v at : ℕ) → let s = state_with cat n es ss mem in let c = do_scan (asked name v at) in
    refused s c ≡ option_or (when (is_worn s.durable && false) worn) (option_or (when (is_none (table_named cat name)) (no_such_table name)) (option_or (when (is_none (registered_named cat name v)) (no_such_version v))
    (option_or (when (option_map_or (λ r. not r.live) (registered_named cat name v) false) (version_retired v)) (option_or (bad_column_asked s c) (option_or (wrong_literal_asked s c) (option_or (too_old_asked s c) (option_or (not_safe_asked s c) None)))))))
unfolding refused
scan_by cat n es ss mem name v at = refl

pub or_three : {A : Type 0} (a b c rest : Option A) → option_or a (option_or b (option_or c rest)) ≡ option_or (option_or a (option_or b (option_or c None))) rest
or_three None None None rest = refl
or_three None None (Some z) rest = refl
or_three None (Some y) c rest = refl
or_three (Some x) b c rest = refl

-- of a query for all of a table, no column and no literal is bad, and none is too old
of_all : {A : Type 0} (o : Option Table) (v : ℕ) (F : Table → List Column → Option A) → ((t : Table) (cs : List Column) → F t cs ≡ None) → option_and_then (λ t. option_and_then (λ r. F t r.columns) (registered t v)) o ≡ None
of_all None v F h = refl
of_all {A} (Some t) v F h = by (registered t v)
  where
    by : (x : Option Registered) → option_and_then (λ r. F t r.columns) x ≡ None
    by None = refl
    by (Some r) = h t r.columns

misfit_none : (ks : List KeyColumn) → part_misfit ks [] ≡ None
misfit_none [] = refl
misfit_none (k ∷ ks) = refl

literals_none : (name : List ℕ) (v at : ℕ) (t : Table) (cs : List Column) → literals_fault t cs (asked name v at) ≡ None
literals_none name v at t cs = ap (λ (o : Option (List ℕ)). first_of (o ∷ o ∷ o ∷ None ∷ [])) (misfit_none t.key)

never_old : (at : ℕ) → nat_lt at 0 ≡ false
never_old at = by (nat_lt at 0) refl
  where
    by : (b : Bool) → nat_lt at 0 ≡ b → nat_lt at 0 ≡ false
    by true h = absurd (omega (arith, ltb-true at 0 h))
    by false h = h

no_column : (cat : Catalogue) (n : Numbers) (es : List PartEntry) (ss : List StreamAt) (mem : Memory) (name : List ℕ) (v at : ℕ) → bad_column_asked (state_with cat n es ss mem) (do_scan (asked name v at)) ≡ None
no_column cat n es ss mem name v at = ap (λ (o : Option (List ℕ)). option_map bad_column (option_or o None)) (of_all (table_named cat name) v (λ t cs. columns_fault t cs (asked name v at)) (λ t cs. refl))

no_literal : (cat : Catalogue) (n : Numbers) (es : List PartEntry) (ss : List StreamAt) (mem : Memory) (name : List ℕ) (v at : ℕ) → wrong_literal_asked (state_with cat n es ss mem) (do_scan (asked name v at)) ≡ None
no_literal cat n es ss mem name v at = ap (λ (o : Option (List ℕ)). option_map wrong_literal (option_or o None)) (of_all (table_named cat name) v (λ t cs. literals_fault t cs (asked name v at)) (literals_none name v at))

not_old : (cat : Catalogue) (n : Numbers) (es : List PartEntry) (ss : List StreamAt) (mem : Memory) (name : List ℕ) (v at : ℕ) → too_old_asked (state_with cat n es ss mem) (do_scan (asked name v at)) ≡ None
not_old cat n es ss mem name v at = of_all (table_named cat name) v (λ t cs. when (nat_lt at 0) (too_old 0)) (λ t cs. ap (λ (b : Bool). when b (too_old 0)) (never_old at))

-- so a scan is refused for what it names, or because it is not safe
scan_is : (cat : Catalogue) (n : Numbers) (es : List PartEntry) (ss : List StreamAt) (mem : Memory) (name : List ℕ) (v at : ℕ)
    → refused (state_with cat n es ss mem) (do_scan (asked name v at)) ≡ option_or (named_fault cat name v) (option_or (not_safe_asked (state_with cat n es ss mem) (do_scan (asked name v at))) None)
scan_is cat n es ss mem name v at =
    let s = state_with cat n es ss mem in
    let c = do_scan (asked name v at) in
    let a = when (is_none (table_named cat name)) (no_such_table name) in
    let b = when (is_none (registered_named cat name v)) (no_such_version v) in
    let d = when (option_map_or (λ r. not r.live) (registered_named cat name v) false) (version_retired v) in
    let last = option_or (not_safe_asked s c) None in
    scan_by cat n es ss mem name v at
    ∙ ap (λ (o : Option Refusal). option_or o (option_or a (option_or b (option_or d (option_or (bad_column_asked s c) (option_or (wrong_literal_asked s c) (option_or (too_old_asked s c) last))))))) (no_write (is_worn s.durable) worn)
    ∙ ap (λ (o : Option Refusal). option_or a (option_or b (option_or d (option_or o (option_or (wrong_literal_asked s c) (option_or (too_old_asked s c) last)))))) (no_column cat n es ss mem name v at)
    ∙ ap (λ (o : Option Refusal). option_or a (option_or b (option_or d (option_or o (option_or (too_old_asked s c) last))))) (no_literal cat n es ss mem name v at)
    ∙ ap (λ (o : Option Refusal). option_or a (option_or b (option_or d (option_or o last)))) (not_old cat n es ss mem name v at)
    ∙ or_three a b d last

pub scan_unnamed : (cat : Catalogue) (n : Numbers) (es : List PartEntry) (ss : List StreamAt) (mem : Memory) (name : List ℕ) (v at : ℕ) (r : Refusal) → named_fault cat name v ≡ Some r → refused (state_with cat n es ss mem) (do_scan (asked name v at)) ≡ Some r
scan_unnamed cat n es ss mem name v at r e = scan_is cat n es ss mem name v at ∙ ap (λ (o : Option Refusal). option_or o (option_or (not_safe_asked (state_with cat n es ss mem) (do_scan (asked name v at))) None)) e

-- a live version is named well
abbrev named_by : List ℕ → ℕ → Option Table → Option Refusal
named_by name v o = first_of (when (is_none o) (no_such_table name) ∷ when (is_none (option_and_then (λ x. registered x v) o)) (no_such_version v) ∷ when (option_map_or (λ r. not r.live) (option_and_then (λ x. registered x v) o) false) (version_retired v) ∷ [])

abbrev entry_by : ℕ → Option Registered → Option Refusal
entry_by v x = first_of (when (is_none x) (no_such_version v) ∷ when (option_map_or (λ r. not r.live) x false) (version_retired v) ∷ [])

pub live_named : (cat : Catalogue) (name : List ℕ) (v : ℕ) (version : SchemaVersion) → IsLive cat name v version → named_fault cat name v ≡ None
live_named cat name v version l = ap (named_by name v) l.named ∙ ap (entry_by v) l.found ∙ ap (λ (b : Bool). first_of (when (not b) (version_retired v) ∷ [])) l.live

abbrev pub asks_at : State → Range → ℕ → Option Refusal
asks_at s r at = option_map (λ (x : ℕ × ℕ). not_safe x.0 x.1) (first_below s r at)

pub at_named : {A : Type 0} (o : Option Table) (v : ℕ) (F : Table → List Column → Option A) (t : Table) (r : Registered) → o ≡ Some t → registered t v ≡ Some r → option_and_then (λ t. option_and_then (λ r. F t r.columns) (registered t v)) o ≡ F t r.columns
at_named o v F t r e d = ap (option_and_then (λ t. option_and_then (λ r. F t r.columns) (registered t v))) e ∙ ap (option_and_then (λ (r : Registered). F t r.columns)) d

-- a scan by a live version is refused exactly where a partition that meets its interval is not safe
pub scan_refused : (cat : Catalogue) (n : Numbers) (es : List PartEntry) (ss : List StreamAt) (mem : Memory) (name : List ℕ) (v at : ℕ) (version : SchemaVersion) (l : IsLive cat name v version)
    → refused (state_with cat n es ss mem) (do_scan (asked name v at)) ≡ asks_at (state_with cat n es ss mem) (query_interval l.table (asked name v at)) at
scan_refused cat n es ss mem name v at version l =
    let s = state_with cat n es ss mem in
    let q = asked name v at in
    scan_is cat n es ss mem name v at
    ∙ ap (λ (o : Option Refusal). option_or o (option_or (not_safe_asked s (do_scan q)) None)) (live_named cat name v version l)
    ∙ or_none (not_safe_asked s (do_scan q))
    ∙ at_named (table_named cat name) v (λ t cs. asks_at s (query_interval t q) at) l.table l.entry l.named l.found

-- a pump is refused where no stream has the number, and a status never
pub pump_refused : (cat : Catalogue) (n : Numbers) (es : List PartEntry) (ss : List StreamAt) (mem : Memory) (stream count : ℕ) → refused (state_with cat n es ss mem) (do_pump stream count) ≡ unknown_stream (state_with cat n es ss mem) (do_pump stream count)
unfolding refused
pump_refused cat n es ss mem stream count =
    let s = state_with cat n es ss mem in
    ap (λ (o : Option Refusal). option_or o (option_or (unknown_stream s (do_pump stream count)) None)) (no_write (is_worn s.durable) worn) ∙ or_none (unknown_stream s (do_pump stream count))

pub status_free : (cat : Catalogue) (n : Numbers) (es : List PartEntry) (ss : List StreamAt) (mem : Memory) → refused (state_with cat n es ss mem) do_status ≡ None
unfolding refused
status_free cat n es ss mem = ap (λ (o : Option Refusal). option_or o None) (no_write (is_worn (state_with cat n es ss mem).durable) worn)
