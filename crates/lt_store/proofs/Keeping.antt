-- Where a store stands, from call to call, on any disk: its manifest's extent is taken, and a commit leads it from placing to placing.
use Rattle.std.proofs.Common.{Bool, List, [], ap, arith, false, inl, inr, refl, subst, sym, ℕ, ◌++◌, ◌∙◌, ◌∷◌, ◌≡◌}
use Rattle.std.specs.Prelude.{Err, Ok, Option, Result, filter, map, not}
use Rattle.std.specs.List.Sorted.{IsPermutation}
use Rattle.std.proofs.lemmas.Bool.{false≢true}
use Rattle.std.proofs.lemmas.List.{append_assoc}
use Rattle.std.proofs.lemmas.List.Sorted.{IsPermutation-append_left, IsPermutation-cons, IsPermutation-refl, IsPermutation-trans, sum_by-IsPermutation}
use Rattle.std.proofs.lemmas.List.Sums.{sum_by-append, sum_by-cons}
use Rattle.lt_terms.specs.declared.Extent.{Extent}
use Rattle.lt_terms.specs.declared.Root.{Root}
use Rattle.lt_storage.specs.Store.{Durable, Manifest, Placing, TableIndex, bundle_extents, extents_of, root_extent}
use Rattle.lt_image_laws.specs.Shelf.{Shelved, placing_for, shelf_extents}
use Rattle.lt_space.specs.Extents.{Extents}
use Rattle.lt_store.specs.Commits.{Added, HasKept, HasMoved, HasTaken, kept_with, pieces_of}
use Rattle.lt_store.specs.Standing.{StandsAt}
use Rattle.lt_store.specs.declared.committing.CommitRefusal.{CommitRefusal}
use Rattle.lt_store.specs.declared.store.Store.{Store}
use Rattle.lt_store.proofs.Counting.{from_counts, same}
use Rattle.lt_store.proofs.Shelves as shelves

-- what a placing names beside its manifest
abbrev pub named_by : Manifest → List (List TableIndex) → List Extent
named_by m is = map (λ d. d.1) m.deltas ++ bundle_extents is

-- ---- what is taken

-- what a placing names, or what else is live, may leave
pub leaving_taken : (s : Store) (l : Placing) (besides leaving rest : List Extent) → StandsAt s l besides → IsPermutation (leaving ++ rest) (named_by l.manifest l.indexes ++ besides) → HasTaken s leaving
leaving_taken s l besides leaving rest at p = record {
  rest = rest;
  all = IsPermutation-trans (root_extent s.root ∷ (leaving ++ rest)) (root_extent s.root ∷ (named_by l.manifest l.indexes ++ besides)) s.space.taken
      (IsPermutation-cons (root_extent s.root) (leaving ++ rest) (named_by l.manifest l.indexes ++ besides) p)
      (subst (λ (q : Root). IsPermutation (root_extent q ∷ (named_by l.manifest l.indexes ++ besides)) s.space.taken) at.root at.taken);
}

pub stands_taken : (s : Store) (l : Placing) (besides : List Extent) → StandsAt s l besides → HasTaken s []
stands_taken s l besides at = leaving_taken s l besides [] (named_by l.manifest l.indexes ++ besides) at (IsPermutation-refl (named_by l.manifest l.indexes ++ besides))

-- so is what the deltas name that leave a shelf
pub shelf_taken : (s : Store) (r : Root) (d : Durable) (ks : List Shelved) (stays : ℕ → Bool) (besides leaving : List Extent) → StandsAt s (placing_for r d ks) besides → IsPermutation (shelf_extents (filter (λ k. not (stays k.id)) ks)) leaving → HasTaken s leaving
shelf_taken s r d ks stays besides leaving at leaves =
    let rest = shelf_extents (filter (λ k. stays k.id) ks) ++ besides in
    record {
      rest = rest;
      all = from_counts (root_extent s.root ∷ (leaving ++ rest)) s.space.taken (λ x.
          omega (
            arith,
            sum_by-cons (same x) (root_extent s.root) (leaving ++ rest),
            sum_by-append (same x) leaving rest,
            sum_by-append (same x) (shelf_extents (filter (λ k. stays k.id) ks)) besides,
            shelves.parted x stays ks,
            sum_by-IsPermutation (same x) (shelf_extents (filter (λ k. not (stays k.id)) ks)) leaving leaves,
            sum_by-IsPermutation (same x) (extents_of (placing_for r d ks) ++ besides) s.space.taken at.taken,
            sum_by-append (same x) (extents_of (placing_for r d ks)) besides,
            shelves.placed x r d ks,
            ap (λ (q : Root). same x (root_extent q)) at.root,
          ));
    }

-- the manifest's extent stays taken through commits that free nothing else
pub kept_taken : (old new : Store) (r : Result (Unit {0}) CommitRefusal) → HasTaken old [] → HasKept old new [] r → HasTaken new []
kept_taken old new (Ok x) has moved = record { rest = has.rest; all = moved.taken has.rest has.all }
kept_taken old new (Err e) has kept = elim kept [
  | inl same ↦ record {
    rest = has.rest;
    all = subst (λ (q : Root). IsPermutation (root_extent q ∷ has.rest) new.space.taken) (sym same.root) (subst (λ x. IsPermutation (root_extent old.root ∷ has.rest) x.taken) (sym same.space) has.all);
  }
  | inr broken ↦ record {
    rest = has.rest ++ broken.1.extent ∷ [];
    all = subst (λ (q : Root). IsPermutation (root_extent q ∷ (has.rest ++ broken.1.extent ∷ [])) new.space.taken) (sym broken.1.root)
        (IsPermutation-trans ((root_extent old.root ∷ has.rest) ++ broken.1.extent ∷ []) (old.space.taken ++ broken.1.extent ∷ []) new.space.taken
        (IsPermutation-append_left (broken.1.extent ∷ []) (root_extent old.root ∷ has.rest) old.space.taken has.all) broken.1.taken);
  }
]

-- ---- after a refusal

-- the root and the space are as before, as they are also where a store is broken off
pub as_it_stood : (old new : Store) (l : Placing) (besides : List Extent) → StandsAt old l besides → new.root ≡ old.root → new.space ≡ old.space → StandsAt new l besides
as_it_stood old new l besides at root space = record {
  root = at.root ∙ sym root;
  limit = at.limit ∙ ap (λ (x : Extents). x.limit) (sym space);
  taken = subst (λ (x : Extents). IsPermutation (extents_of l ++ besides) x.taken) (sym space) at.taken;
}

-- a store that is not broken stands as before
pub refused_stands : (old new : Store) (l : Placing) (besides leaving : List Extent) (e : CommitRefusal) → StandsAt old l besides → HasKept old new leaving (Err e) → new.broken ≡ false → StandsAt new l besides
refused_stands old new l besides leaving e at kept whole = elim kept [
  | inl same ↦ as_it_stood old new l besides at same.root same.space
  | inr broken ↦ absurd (false≢true (sym whole ∙ broken.1.broken))
]

-- a broken one stands at the same placing, with what was taken beside it
pub broken_stands : (old new : Store) (l : Placing) (besides leaving : List Extent) (e : CommitRefusal) → StandsAt old l besides → HasKept old new leaving (Err e) → (after : List Extent) × StandsAt new l after
broken_stands old new l besides leaving e at kept = elim kept [
  | inl same ↦ (besides, as_it_stood old new l besides at same.root same.space)
  | inr broken ↦ (
    besides ++ broken.1.extent ∷ [],
    record {
      root = at.root ∙ sym broken.1.root;
      limit = at.limit ∙ sym broken.1.limit;
      taken = subst (λ xs. IsPermutation xs new.space.taken) (append_assoc (extents_of l) besides (broken.1.extent ∷ []))
          (IsPermutation-trans ((extents_of l ++ besides) ++ broken.1.extent ∷ []) (old.space.taken ++ broken.1.extent ∷ []) new.space.taken
          (IsPermutation-append_left (broken.1.extent ∷ []) (extents_of l ++ besides) old.space.taken at.taken) broken.1.taken);
    },
  )
]

-- ---- after Ok

-- The store stands behind the new root at the placing of any manifest of the same limit: all that was live but the manifest leaves, is named
-- there, or is still live.
pub moves_to : (old new : Store) (l : Placing) (besides leaving : List Extent) (m : Manifest) (is : List (List TableIndex)) (after : List Extent) → StandsAt old l besides → HasMoved old new leaving → m.limit ≡ l.manifest.limit
    → IsPermutation (leaving ++ (named_by m is ++ after)) (named_by l.manifest l.indexes ++ besides) → StandsAt new (record { root = new.root; manifest = m; indexes = is }) after
moves_to old new l besides leaving m is after at moved limit p = record {
  root = refl;
  limit = limit ∙ at.limit ∙ sym moved.limit;
  taken = moved.taken (named_by m is ++ after)
      (IsPermutation-trans (root_extent old.root ∷ (leaving ++ (named_by m is ++ after))) (root_extent old.root ∷ (named_by l.manifest l.indexes ++ besides)) old.space.taken
      (IsPermutation-cons (root_extent old.root) (leaving ++ (named_by m is ++ after)) (named_by l.manifest l.indexes ++ besides) p)
      (subst (λ (q : Root). IsPermutation (root_extent q ∷ (named_by l.manifest l.indexes ++ besides)) old.space.taken) at.root at.taken));
}

-- where the deltas stay as they are
pub moves_on : (old new : Store) (l : Placing) (besides : List Extent) (m : Manifest) → StandsAt old l besides → HasMoved old new [] → m.limit ≡ l.manifest.limit → m.deltas ≡ l.manifest.deltas
    → StandsAt new (record { root = new.root; manifest = m; indexes = l.indexes }) besides
moves_on old new l besides m at moved limit deltas =
    moves_to old new l besides [] m l.indexes besides at moved limit
    (subst (λ ds. IsPermutation ((map (λ d. d.1) ds ++ bundle_extents l.indexes) ++ besides) (named_by l.manifest l.indexes ++ besides)) (sym deltas) (IsPermutation-refl (named_by l.manifest l.indexes ++ besides)))

-- where there are none
pub moves_bare : (old new : Store) (l : Placing) (besides : List Extent) (m : Manifest) → StandsAt old l besides → HasMoved old new [] → m.limit ≡ l.manifest.limit → l.manifest.deltas ≡ [] → l.indexes ≡ [] → m.deltas ≡ []
    → StandsAt new (record { root = new.root; manifest = m; indexes = [] }) besides
moves_bare old new l besides m at moved limit before indexes none =
    subst (λ is. StandsAt new (record { root = new.root; manifest = m; indexes = is }) besides) indexes (moves_on old new l besides m at moved limit (none ∙ sym before))

-- where deltas stay, leave and come, as a session keeps them
pub moves_shelf : (old new : Store) (r : Root) (d d' : Durable) (ks : List Shelved) (stays : ℕ → Bool) (added : Option Added) (besides leaving after : List Extent) → StandsAt old (placing_for r d ks) besides → HasMoved old new leaving → d'.limit ≡ d.limit
    → IsPermutation besides (pieces_of added ++ after) → IsPermutation (shelf_extents (filter (λ k. not (stays k.id)) ks)) leaving → StandsAt new (placing_for new.root d' (kept_with (filter (λ k. stays k.id) ks) added)) after
moves_shelf old new r d d' ks stays added besides leaving after at moved limit pieces leaves =
    let keeps = kept_with (filter (λ k. stays k.id) ks) added in
    record {
      root = refl;
      limit = limit ∙ at.limit ∙ sym moved.limit;
      taken = IsPermutation-trans (extents_of (placing_for new.root d' keeps) ++ after) (root_extent new.root ∷ (shelf_extents keeps ++ after)) new.space.taken
          (from_counts (extents_of (placing_for new.root d' keeps) ++ after) (root_extent new.root ∷ (shelf_extents keeps ++ after)) (λ x.
          omega (
            arith,
            sum_by-append (same x) (extents_of (placing_for new.root d' keeps)) after,
            shelves.placed x new.root d' keeps,
            sum_by-cons (same x) (root_extent new.root) (shelf_extents keeps ++ after),
            sum_by-append (same x) (shelf_extents keeps) after,
          )))
          (moved.taken (shelf_extents keeps ++ after) (from_counts (root_extent old.root ∷ (leaving ++ (shelf_extents keeps ++ after))) old.space.taken (λ x.
          omega (
            arith,
            sum_by-cons (same x) (root_extent old.root) (leaving ++ (shelf_extents keeps ++ after)),
            sum_by-append (same x) leaving (shelf_extents keeps ++ after),
            sum_by-append (same x) (shelf_extents keeps) after,
            shelves.joined x (filter (λ k. stays k.id) ks) added,
            shelves.parted x stays ks,
            sum_by-IsPermutation (same x) (shelf_extents (filter (λ k. not (stays k.id)) ks)) leaving leaves,
            sum_by-IsPermutation (same x) besides (pieces_of added ++ after) pieces,
            sum_by-append (same x) (pieces_of added) after,
            sum_by-IsPermutation (same x) (extents_of (placing_for r d ks) ++ besides) old.space.taken at.taken,
            sum_by-append (same x) (extents_of (placing_for r d ks)) besides,
            shelves.placed x r d ks,
            ap (λ (q : Root). same x (root_extent q)) at.root,
          ))));
    }
