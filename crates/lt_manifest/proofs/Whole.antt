-- From what the readers give to the manifest that the bytes spell.
use Rattle.std.proofs.Common.{Bool, List, None, Option, Some, ap, arith, false, length, map, subst, sym, true, ℕ, ◌<◌, ◌^◌, ◌∙◌, ◌≡◌}
use Rattle.std.specs.Prelude.{IsTrue, if◌then◌else◌, ◌==◌}
use Rattle.std.specs.List.{AllByRecursion}
use Rattle.std.specs.declared.result.Result.TheVariants.{Err, Ok}
use Rattle.std.proofs.lemmas.List.{length-map}
use Rattle.lt_tables.specs.Schema as schema
use Rattle.lt_tables.specs.Schema.{IsCatalogue}
use Rattle.lt_storage.specs.Store as store
use Rattle.lt_storage.specs.Store.{IsManifest, manifest_bytes}
use Rattle.lt_codecs.specs.Codec.{IsBytes, ◌>>=◌, byte, bytes16, u16, u32, whole}
use Rattle.lt_store_codecs.specs.StoreCodec.{catalogue, manifest, table}
use Rattle.lt_codecs.proofs.Codecs.{some_is, whole_again, whole_takes}
use Rattle.lt_codecs.proofs.ListFacts.{all_map, all_of_map}
use Rattle.lt_store_codecs.proofs.ManifestCodecs.{manifest_is}
use Rattle.lt_store_codecs.proofs.ManifestLaws.{decides, manifest_spells}
use Rattle.lt_manifest.proofs.LawfulTexts.{catalogue_text}
use Rattle.lt_manifest.proofs.TextLaws.{keep, manifest_only, manifest_texts}
use Rattle.lt_manifest.specs.Reading.{GivesManifest, HasRoom, NothingElse, Rebuilds, Stops}
use Rattle.lt_manifest.specs.Texts as texts
use Rattle.lt_manifest.specs.View.{view_read, view_table, view_unbuilt}
use Rattle.lt_manifest.specs.declared.reading.Unbuilt.{Unbuilt}
use Rattle.lt_manifest.specs.declared.reading.fault.Stop.{Stop}
use Rattle.lt_manifest.specs.declared.reading.fault.Stop.TheVariants as stops
use Rattle.lt_manifest.specs.declared.reading.tables.TableRead.{TableRead}

-- ---- the whole of some bytes

abbrev ends : {A : Type 0} → Option (A × List ℕ) → Option A
ends o = o >>= λ x. if length x.1 == 0 then Some x.0 else None

kept_ends : {A : Type 0} (f : A → Bool) (o : Option (A × List ℕ)) (m : A) → ends (keep f o) ≡ Some m → ends o ≡ Some m
kept_ends f None m e = e
kept_ends {A} f (Some x) m e = by (f x.0) e
  where
    by : (b : Bool) → ends (if b then Some x else None) ≡ Some m → ends (Some x) ≡ Some m
    by true e = e
    by false e = cc

ends_kept : {A : Type 0} (f : A → Bool) (o : Option (A × List ℕ)) (m : A) → ends o ≡ Some m → IsTrue (f m) → ends (keep f o) ≡ Some m
ends_kept f None m e t = e
ends_kept {A} f (Some x) m e t = by (length x.1 == 0) e
  where
    by : (c : Bool) → (if c then Some x.0 else None) ≡ Some m → ends (if f x.0 then Some x else None) ≡ Some m
    by true d = ap (λ (b : Bool). ends (if b then Some x else None)) (ap f (some_is x.0 m d) ∙ t) ∙ e
    by false d = cc

-- what is read whole is spelled so
read_whole : (bytes : List ℕ) (m : store.Manifest) → IsBytes bytes → whole texts.manifest bytes ≡ Some m → (bytes ≡ manifest_bytes m) × manifest.Lawful m
read_whole bytes m fits e =
    let lenient : whole manifest bytes ≡ Some m = kept_ends manifest_texts (manifest.read bytes) m (sym (ap ends (manifest_only bytes)) ∙ e) in
    let taken = whole_takes manifest manifest_is bytes m fits lenient in
    (taken.0 ∙ manifest_spells m, taken.1)

-- a lawful manifest is read whole
whole_read : (bytes : List ℕ) (m : store.Manifest) → IsManifest m bytes → whole texts.manifest bytes ≡ Some m
whole_read bytes m is =
    let lawful = ((decides m).0 is.lawful).0 in
    let lenient : whole manifest bytes ≡ Some m = ap (whole manifest) (is.spells ∙ sym (manifest_spells m)) ∙ whole_again manifest manifest_is m lawful in
    ap ends (manifest_only bytes) ∙ ends_kept manifest_texts (manifest.read bytes) m lenient (catalogue_text m.catalogue is.lawful.catalogue)

-- ---- what the reader answers

pub unread : (bytes : List ℕ) (stop : Stop) → Stops (whole texts.manifest bytes) stop → GivesManifest bytes (Err stop)
unread bytes stops.Unlike none = λ m is. some_none m (sym (whole_read bytes m is) ∙ none)
  where
    some_none : (m : store.Manifest) → Some m ≡ None → ⊥
    some_none m e = cc
unread bytes stops.Memory none = tt

few_versions : (ts : schema.Catalogue) → AllByRecursion table.Lawful ts → AllByRecursion (λ t. length t.versions < 2 ^ 16) ts
unfolding table u32 bytes16 byte u16
few_versions ts a = all_map table.Lawful (λ t. length t.versions < 2 ^ 16) ts (λ t h. h.1.1.1.0) a

pub has_room : (bytes : List ℕ) (u : Unbuilt) → IsBytes bytes → whole texts.manifest bytes ≡ Some (view_unbuilt u) → HasRoom u.tables
unfolding manifest catalogue
has_room bytes u fits e =
    let lawful = (read_whole bytes (view_unbuilt u) fits e).1 in
    let few = all_of_map (λ (t : schema.Table). length t.versions < 2 ^ 16) view_table u.tables (few_versions (map view_table u.tables) lawful.0.1.1.1.1.0.1) in
    all_map (λ (t : TableRead). length (map view_read t.versions) < 2 ^ 16) (λ t. length t.versions < 2 ^ 16) u.tables (λ t h. omega (arith, h, length-map t.versions view_read)) few

pub unbuilt : (bytes : List ℕ) (u : Unbuilt) (stop : Stop) → whole texts.manifest bytes ≡ Some (view_unbuilt u) → Rebuilds (map view_table u.tables) (Err stop) → GivesManifest bytes (Err stop)
unbuilt bytes u stops.Unlike e none = λ m is.
    let same : m ≡ view_unbuilt u = some_is m (view_unbuilt u) (sym (whole_read bytes m is) ∙ e) in
    none (subst (λ (m : store.Manifest). IsCatalogue m.catalogue) same is.lawful.catalogue)
unbuilt bytes u stops.Memory e none = tt

abbrev with_catalogue : store.Manifest → schema.Catalogue → store.Manifest
with_catalogue m cat = record m { catalogue = cat }

pub built : (bytes : List ℕ) (u : Unbuilt) (cat : schema.Catalogue) → IsBytes bytes → whole texts.manifest bytes ≡ Some (view_unbuilt u) → Rebuilds (map view_table u.tables) (Ok cat) → IsManifest (with_catalogue (view_unbuilt u) cat) bytes
built bytes u cat fits e made =
    let read = read_whole bytes (view_unbuilt u) fits e in
    let is : IsManifest (view_unbuilt u) bytes = record { lawful = (decides (view_unbuilt u)).1 (read.1, made.1); spells = read.0 } in
    subst (λ (cat : schema.Catalogue). IsManifest (with_catalogue (view_unbuilt u) cat) bytes) (sym made.0) is

-- no other manifest has the bytes
pub nothing_else : (bytes : List ℕ) (m : store.Manifest) → IsManifest m bytes → NothingElse bytes m
nothing_else bytes m is other also = some_is other m (sym (whole_read bytes other also) ∙ whole_read bytes m is)
