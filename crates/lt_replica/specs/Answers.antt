-- Which version a command names, and why a text or a version is not added.
use Rattle.std.specs.Prelude.{Err, List, None, Ok, Option, Result, Some, [], false, is_none, length, not, option_and_then, option_map, true, ℕ, ◌+◌, ◌==◌, ◌∷◌, ◌≡◌}
use Rattle.std.specs.Option.{option_map_or}
use Rattle.std.specs.Borrow.{Bor}
use Rattle.lt_machine.specs.Machine.{error_of, registered_named}
use Rattle.lt_words.specs.Reply as model
use Rattle.lt_words.specs.Reply.{is_last_version, no_such_table, no_such_version, version_retired}
use Rattle.lt_tables.specs.Schema as schema
use Rattle.lt_tables.specs.Schema.{Catalogue, IsCatalogue, Registered, Table, first_of, registered, retire_fault, schema_fault, table_named, table_numbered, when, whole_version}
use Rattle.lt_words.specs.SchemaText.{version_of_text}
use Rattle.lt_schema.specs.View.{view_version}
use Rattle.lt_schema.specs.declared.version.SchemaVersion.{SchemaVersion}
use Rattle.lt_pump.specs.Pumps.{streams_of}
use Rattle.lt_replica.specs.State.{memory_of}
use Rattle.lt_replica.specs.Steps.{Refuses}
use Rattle.lt_replica.specs.declared.replica.Replica.{Replica}
use Rattle.lt_reply.specs.declared.refusal.Refusal.{Refusal}

-- a live version of the table with a name
pub record IsLive (cat : Catalogue) (name : List ℕ) (v : ℕ) (version : schema.SchemaVersion) : Type 0 where
  pub lawful : IsCatalogue cat
  pub table : Table
  pub named : table_named cat name ≡ Some table
  pub numbered : table_numbered cat table.number ≡ Some table
  pub entry : Registered
  pub found : registered table v ≡ Some entry
  pub live : entry.live ≡ true
  pub is : version ≡ whole_version table v entry

-- why a name and a number name no live version
abbrev pub named_fault : Catalogue → List ℕ → ℕ → Option model.Refusal
named_fault cat name v = first_of
    (when (is_none (table_named cat name)) (no_such_table name)
    ∷ when (is_none (registered_named cat name v)) (no_such_version v)
    ∷ when (option_map_or (λ r. not r.live) (registered_named cat name v) false) (version_retired v)
    ∷ [])

abbrev pub Finds : Catalogue → List ℕ → ℕ → Result (Bor SchemaVersion) Refusal → Type 0
Finds cat name v (Ok version) = IsLive cat name v (view_version version.now)
Finds cat name v (Err e) = Refuses (named_fault cat name v) e

abbrev pub text_refusal : List ℕ → Option model.Refusal
text_refusal t = option_map (λ f. model.bad_schema (model.of_text f)) (error_of (version_of_text t))

abbrev pub version_refusal : Catalogue → schema.SchemaVersion → Option model.Refusal
version_refusal cat v = option_map (λ f. model.bad_schema (model.of_version f)) (schema_fault cat v)

-- the replica has another catalogue, and its generation is one more
pub record Commits (old new : Replica) (cat : Catalogue) : Type 0 where
  pub catalogue : new.catalogue ≡ cat
  pub generation : new.store.root.generation ≡ old.store.root.generation + 1
  pub limit : new.store.space.limit ≡ old.store.space.limit
  pub next_id : new.next_id ≡ old.next_id
  pub map : new.map ≡ old.map
  pub streams : streams_of new.pump ≡ streams_of old.pump
  pub memory : memory_of new ≡ memory_of old

-- why a version of the table with a name is not retired
abbrev pub retire_refusal : Catalogue → List ℕ → ℕ → Option model.Refusal
retire_refusal cat name v = first_of
    (when (is_none (table_named cat name)) (no_such_table name)
    ∷ when (is_none (registered_named cat name v)) (no_such_version v)
    ∷ when (option_map_or (λ r. not r.live) (registered_named cat name v) false) (version_retired v)
    ∷ option_and_then (λ t. when (v == length t.versions) (is_last_version v)) (table_named cat name)
    ∷ [])

-- the catalogue without a version of the table with a name
pub record IsWithout (cat : Catalogue) (name : List ℕ) (v : ℕ) (next : Catalogue) : Type 0 where
  pub lawful : IsCatalogue cat
  pub number : ℕ
  pub named : Some number ≡ option_map (λ t. t.number) (table_named cat name)
  pub free : retire_fault cat number v ≡ None
  pub is : next ≡ schema.without_version cat number v
