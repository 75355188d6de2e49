-- The indexes of the deltas, one after the other.
use Rattle.std.proofs.Common.{List, Option, [], ap, drop, false, get_or, inr, refl, subst, sym, take, take-append-drop, true, ℕ, ◌+◌, ◌++◌, ◌<◌, ◌∙◌, ◌∷◌, ◌≡◌}
use Rattle.std.specs.Prelude.{Err, IfErr, IfSome, Ok, Result, length, map}
use Rattle.std.specs.Result.{IsErrAnd}
use Rattle.std.specs.List.{AllByRecursion}
use Rattle.std.proofs.lemmas.Bool.{false≢true}
use Rattle.std.proofs.lemmas.List.{drop_more, map-append, take_more}
use Rattle.lt_terms.specs.declared.Extent.{Extent}
use Rattle.lt_world.specs.Disk.{DiskState, bytes_in}
use Rattle.lt_tables.specs.Schema.{Catalogue}
use Rattle.lt_storage.specs.Store as store
use Rattle.lt_storage.specs.Store.{IsIndex}
use Rattle.lt_machine.specs.Program.{ReadsAll}
use Rattle.lt_machine.specs.Run.{is_known_index}
use Rattle.lt_codecs.proofs.ListFacts.{all_append}
use Rattle.lt_image_laws.proofs.OnePlacing.{one_index}
use Rattle.lt_disk.proofs.Moments.{told_at, where_told}
use Rattle.lt_delta.specs.Reading.{IsLawful}
use Rattle.lt_delta.specs.View.{view_index}
use Rattle.lt_delta.specs.declared.index.DeltaIndex.{DeltaIndex}
use Rattle.lt_manifest.specs.View.{view_delta, view_manifest}
use Rattle.lt_manifest.specs.declared.stored.DeltaStored.{DeltaStored}
use Rattle.lt_manifest.specs.declared.stored.Manifest.{Manifest}
use Rattle.lt_store.specs.Looking.{LooksOnly}
use Rattle.lt_store.specs.Opening.{HasBadIndex, HurtsIndex, HurtsIndexes, IsFirstBadIndex, RefusesStep}
use Rattle.lt_store.specs.declared.refusal.OpenRefusal.{OpenRefusal}
use Rattle.lt_store.specs.declared.refusal.OpenRefusal.TheVariants as refusals

-- ---- one index

-- an index that the catalogue does not know is the only one there
pub unknown : (told : Option (List ℕ)) (m : store.Manifest) (at : Extent) (i : List store.TableIndex) → IfSome told (λ image. IsIndex i (bytes_in image at)) → is_known_index m.catalogue i ≡ false → HurtsIndex told m at at
unknown told m at i is other = record {
  named = refl;
  bad = where_told told _ (λ image tells. inr (λ j also known.
      let same : i ≡ j = one_index (bytes_in image at) i j (told_at told image _ tells is) also in
      false≢true (sym other ∙ ap (is_known_index m.catalogue) same ∙ known)));
}

-- one damage in place of another
pub refuses_by : (P Q : Extent → Type 0) (e : OpenRefusal) → ((x : Extent) → P x → Q x) → RefusesStep P e → RefusesStep Q e
refuses_by P Q refusals.NoStore so r = r
refuses_by P Q (refusals.Damaged place len) so r = so (record { place = place; length = len }) r
refuses_by P Q refusals.Unsynced so r = r
refuses_by P Q refusals.Unread so r = r
refuses_by P Q refusals.Memory so r = r

pub at_error : {T E : Type 0} (P : E → Type 0) (r : Result T E) (e : E) → IsErrAnd r (λ x. x ≡ e) → P e → IfErr r P
at_error P (Ok x) e is p = tt
at_error P (Err x) e is p = subst P (sym is) p

-- ---- some, and one more

-- the indexes of the first deltas are read, and nothing failed
pub record HasRead (old now : DiskState) (m : Manifest) (n : ℕ) (is : List DeltaIndex) : Type 0 where
  pub looks : LooksOnly n old now
  pub faults : now.faults ≡ old.faults
  pub read : IfSome old.told (λ image. ReadsAll image m.catalogue (map view_delta (take n m.deltas)) (map view_index is))
  pub lawful : AllByRecursion IsLawful (map view_index is)
  pub many : length is ≡ n

reads_more : (image : List ℕ) (cat : Catalogue) (ds : List (ℕ × Extent)) (xs : List (List store.TableIndex)) (d : ℕ × Extent) (i : List store.TableIndex) → ReadsAll image cat ds xs → IsIndex i (bytes_in image d.1) → is_known_index cat i ≡ true
    → ReadsAll image cat (ds ++ d ∷ []) (xs ++ i ∷ [])
reads_more image cat [] [] d i reads is known = (is, known, tt)
reads_more image cat (x ∷ ds) (j ∷ xs) d i reads is known = (reads.0, reads.1, reads_more image cat ds xs d i reads.2 is known)
reads_more image cat (x ∷ ds) [] d i reads is known = absurd reads
reads_more image cat [] (j ∷ xs) d i reads is known = absurd reads

deltas_more : (ds : List DeltaStored) (n : ℕ) (d none : DeltaStored) → n < length ds → d ≡ get_or ds n none → map view_delta (take (n + 1) ds) ≡ map view_delta (take n ds) ++ view_delta d ∷ []
deltas_more ds n d none there is = ap (map view_delta) (take_more ds n none there ∙ ap (λ x. take n ds ++ x ∷ []) (sym is)) ∙ map-append view_delta (take n ds) (d ∷ [])

pub read_more : (told : Option (List ℕ)) (m : Manifest) (n : ℕ) (is : List DeltaIndex) (d none : DeltaStored) (i : DeltaIndex) → n < length m.deltas → d ≡ get_or m.deltas n none
    → IfSome told (λ image. ReadsAll image m.catalogue (map view_delta (take n m.deltas)) (map view_index is)) → IfSome told (λ image. IsIndex (view_index i) (bytes_in image d.index)) → is_known_index m.catalogue (view_index i) ≡ true
    → IfSome told (λ image. ReadsAll image m.catalogue (map view_delta (take (n + 1) m.deltas)) (map view_index (is ++ i ∷ [])))
read_more told m n is d none i there at reads index known = where_told told _ (λ image tells.
    subst (λ ds. ReadsAll image m.catalogue ds (map view_index (is ++ i ∷ []))) (sym (deltas_more m.deltas n d none there at))
    (subst (ReadsAll image m.catalogue (map view_delta (take n m.deltas) ++ view_delta d ∷ [])) (sym (map-append view_index is (i ∷ [])))
    (reads_more image m.catalogue (map view_delta (take n m.deltas)) (map view_index is) (view_delta d) (view_index i) (told_at told image _ tells reads) (told_at told image _ tells index) known)))

pub lawful_more : (is : List DeltaIndex) (i : DeltaIndex) → AllByRecursion IsLawful (map view_index is) → IsLawful (view_index i) → AllByRecursion IsLawful (map view_index (is ++ i ∷ []))
lawful_more is i all one = subst (AllByRecursion IsLawful) (sym (map-append view_index is (i ∷ []))) (all_append IsLawful (map view_index is) (view_index i ∷ []) all (one, tt))

-- the first one that is no good one
first_bad : (image : List ℕ) (m : Manifest) (n : ℕ) (is : List DeltaIndex) (d none : DeltaStored) → n < length m.deltas → d ≡ get_or m.deltas n none → ReadsAll image m.catalogue (map view_delta (take n m.deltas)) (map view_index is)
    → (e : Extent) → e ≡ d.index → HasBadIndex image (view_manifest m) d.index → IsFirstBadIndex image (view_manifest m) e
first_bad image m n is d none there at reads e named bad = record {
  before = map view_delta (take n m.deltas);
  id = d.id;
  after = map view_delta (drop (n + 1) m.deltas);
  deltas = ap (map view_delta) (sym (take-append-drop n m.deltas) ∙ ap (λ ds. take n m.deltas ++ ds) (drop_more m.deltas n none there ∙ ap (λ x. x ∷ drop (n + 1) m.deltas) (sym at)))
      ∙ map-append view_delta (take n m.deltas) (d ∷ drop (n + 1) m.deltas)
      ∙ ap (λ x. map view_delta (take n m.deltas) ++ (d.id, x) ∷ map view_delta (drop (n + 1) m.deltas)) (sym named);
  indexes = map view_index is;
  read_before = reads;
  bad = subst (HasBadIndex image (view_manifest m)) (sym named) bad;
}

pub hurts_first : (told now : Option (List ℕ)) (m : Manifest) (n : ℕ) (is : List DeltaIndex) (d none : DeltaStored) → now ≡ told → n < length m.deltas → d ≡ get_or m.deltas n none
    → IfSome told (λ image. ReadsAll image m.catalogue (map view_delta (take n m.deltas)) (map view_index is)) → (e : Extent) → HurtsIndex now (view_manifest m) d.index e → HurtsIndexes told (view_manifest m) e
hurts_first told now m n is d none same there at reads e hurts = where_told told _ (λ image tells.
    first_bad image m n is d none there at (told_at told image _ tells reads) e hurts.named (told_at now image _ (same ∙ tells) hurts.bad))
