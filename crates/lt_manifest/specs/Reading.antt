-- What the reader answers.
use Rattle.std.specs.Prelude.{Bool, List, None, Option, Some, false, length, map, nat_lt, true, ℕ, ◌<◌, ◌^◌, ◌≡◌}
use Rattle.std.specs.List.{AllByRecursion, list_all}
use Rattle.std.specs.declared.result.Result.{Result}
use Rattle.std.specs.declared.result.Result.TheVariants.{Err, Ok}
use Rattle.lt_tables.specs.Schema as schema
use Rattle.lt_storage.specs.Store as store
use Rattle.lt_storage.specs.Store.{IsManifest}
use Rattle.lt_terms.specs.Value.{rises_strictly}
use Rattle.lt_schema.specs.View.{view_columns, view_key}
use Rattle.lt_schema.specs.declared.version.KeyColumn.{KeyColumn}
use Rattle.lt_manifest.specs.View.{view_manifest, view_read}
use Rattle.lt_manifest.specs.declared.refusal.ReadRefusal.{ReadRefusal}
use Rattle.lt_manifest.specs.declared.refusal.ReadRefusal.TheVariants as refusals
use Rattle.lt_manifest.specs.declared.reading.fault.Stop.{Stop}
use Rattle.lt_manifest.specs.declared.reading.fault.Stop.TheVariants as stops
use Rattle.lt_manifest.specs.declared.reading.tables.TableRead.{TableRead}
use Rattle.lt_manifest.specs.declared.reading.tables.VersionRead.{VersionRead}
use Rattle.lt_manifest.specs.declared.stored.Manifest.{Manifest}

-- where reading stopped, it gives nothing, unless memory ran out
abbrev pub Stops : {A : Type 0} → Option A → Stop → Type 0
Stops read stops.Memory = Unit {0}
Stops read stops.Unlike = read ≡ None

-- a reader answered what reading gives, as its callers see it, and left the rest
abbrev pub Gives : {X A : Type 0} → (X → A) → Option (A × List ℕ) → Result X Stop → List ℕ → Type 0
Gives view read (Ok x) left = read ≡ Some (view x, left)
Gives view read (Err e) left = Stops read e

-- the same of a whole text
abbrev pub GivesWhole : {X A : Type 0} → (X → A) → Option A → Result X Stop → Type 0
GivesWhole view read (Ok x) = read ≡ Some (view x)
GivesWhole view read (Err e) = Stops read e

-- no lawful manifest has these bytes
abbrev pub HasNoManifest : List ℕ → Type 0
HasNoManifest bytes = (m : store.Manifest) → IsManifest m bytes → ⊥

-- no other manifest has these bytes
abbrev pub NothingElse : List ℕ → store.Manifest → Type 0
NothingElse bytes m = (other : store.Manifest) → IsManifest other bytes → other ≡ m

-- the manifest of these bytes; out of memory is always allowed
abbrev pub GivesManifest : List ℕ → Result Manifest Stop → Type 0
GivesManifest bytes (Ok m) = IsManifest (view_manifest m) bytes
GivesManifest bytes (Err stops.Unlike) = HasNoManifest bytes
GivesManifest bytes (Err stops.Memory) = Unit {0}

-- what a caller is told
abbrev pub refusal_of : Stop → ReadRefusal
refusal_of stops.Unlike = refusals.NotAManifest
refusal_of stops.Memory = refusals.Memory

-- no manifest; out of memory is always allowed
abbrev pub ReadRefused : List ℕ → ReadRefusal → Type 0
ReadRefused bytes refusals.NotAManifest = HasNoManifest bytes
ReadRefused bytes refusals.Memory = Unit {0}

-- ---- the catalogue

-- each table has so few versions that they can be counted
abbrev pub HasRoom : List TableRead → Type 0
HasRoom ts = AllByRecursion (λ t. length t.versions < 2 ^ 16) ts

abbrev pub numbers_rise : List schema.Table → Bool
numbers_rise ts = rises_strictly (map (λ t. t.number) ts)

abbrev pub have_versions : List schema.Table → Bool
have_versions ts = list_all (λ t. nat_lt 0 (length t.versions)) ts

-- the lawful catalogue that has these tables
abbrev pub Rebuilds : List schema.Table → Result schema.Catalogue Stop → Type 0
Rebuilds ts (Ok cat) = (cat ≡ ts) × schema.IsCatalogue ts
Rebuilds ts (Err stops.Unlike) = schema.IsCatalogue ts → ⊥
Rebuilds ts (Err stops.Memory) = Unit {0}

abbrev pub table_read : ℕ → List ℕ → List KeyColumn → List VersionRead → schema.Table
table_read number name key versions = record { number = number; name = name; key = view_key key; versions = map view_read versions }

-- the catalogue that was made, or none
abbrev pub Makes : Bool → schema.Catalogue → Option schema.Catalogue → Type 0
Makes true c o = o ≡ Some c
Makes false c o = o ≡ None

abbrev pub one_read : ℕ → List ℕ → List KeyColumn → ℕ → VersionRead → schema.SchemaVersion
one_read number name key version v = record { table = name; number = number; version = version; key = view_key key; columns = view_columns v.columns }

-- a version was added, or refused
abbrev pub AddsOne : Bool → schema.Catalogue → schema.Catalogue → schema.SchemaVersion → Type 0
AddsOne true old new v = schema.added old v ≡ Ok new
AddsOne false old new v = (e : schema.SchemaFault) × (schema.added old v ≡ Err e)

-- a version that lives was left, and a dead one retired, or refused
abbrev pub RetiresOne : Bool → Bool → schema.Catalogue → schema.Catalogue → ℕ → ℕ → Type 0
RetiresOne b true old new number version = (b ≡ true) × (new ≡ old)
RetiresOne true false old new number version = schema.retired old number version ≡ Ok new
RetiresOne false false old new number version = (e : schema.RetireFault) × (schema.retired old number version ≡ Err e)
