-- How often a shelf names an extent: deltas stay, leave and come.
use Rattle.std.proofs.Common.{Bool, List, None, Option, Some, [], ap, arith, cond, false, true, ℕ, ◌++◌, ◌+◌, ◌∙◌, ◌∷◌, ◌≡◌}
use Rattle.std.specs.Prelude.{filter, not}
use Rattle.std.proofs.lemmas.List.Sums.{sum_by-append, sum_by-cons}
use Rattle.lt_terms.specs.declared.Extent.{Extent}
use Rattle.lt_terms.specs.declared.Root.{Root}
use Rattle.lt_storage.specs.Store.{Durable, bundle_extents, extents_of, root_extent}
use Rattle.lt_image_laws.specs.Shelf.{Shelved, placing_for, shelf_extents}
use Rattle.lt_image_laws.proofs.Apart.{extents_are, index_extents, kept_bundles}
use Rattle.lt_image_laws.proofs.Bytes.{table_extents}
use Rattle.lt_store.specs.Commits.{Added, kept_with, pieces_behind, pieces_of}
use Rattle.lt_store.proofs.Counting.{count, same}

module _ (e : Extent) where
  -- of one delta
  abbrev own : Shelved → ℕ
  own k = same e k.extent + count e (table_extents k.index)

  cons : (k : Shelved) (ks : List Shelved) → count e (shelf_extents (k ∷ ks)) ≡ own k + count e (shelf_extents ks)
  cons k ks =
      omega (
        arith,
        sum_by-append (same e) (index_extents (k ∷ ks)) (kept_bundles (k ∷ ks)),
        sum_by-cons (same e) k.extent (index_extents ks),
        sum_by-append (same e) (table_extents k.index) (kept_bundles ks),
        sum_by-append (same e) (index_extents ks) (kept_bundles ks),
      )

  push : (ks : List Shelved) (k : Shelved) → count e (shelf_extents (ks ++ k ∷ [])) ≡ count e (shelf_extents ks) + own k
  push [] k = omega (arith, cons k [])
  push (x ∷ ks) k = omega (arith, cons x (ks ++ k ∷ []), push ks k, cons x ks)

  -- each delta stays or leaves
  pub parted : (p : ℕ → Bool) (ks : List Shelved) → count e (shelf_extents ks) ≡ count e (shelf_extents (filter (λ k. p k.id) ks)) + count e (shelf_extents (filter (λ k. not (p k.id)) ks))
  parted p [] = omega arith
  parted p (k ∷ ks) = by (p k.id) (parted p ks)
    where
      stay : List Shelved
      stay = filter (λ k. p k.id) ks

      leave : List Shelved
      leave = filter (λ k. not (p k.id)) ks

      by : (b : Bool) → count e (shelf_extents ks) ≡ count e (shelf_extents (filter (λ k. p k.id) ks)) + count e (shelf_extents (filter (λ k. not (p k.id)) ks))
          → count e (shelf_extents (k ∷ ks)) ≡ count e (shelf_extents (cond b (k ∷ filter (λ k. p k.id) ks) (filter (λ k. p k.id) ks))) + count e (shelf_extents (cond (not b) (k ∷ filter (λ k. not (p k.id)) ks) (filter (λ k. not (p k.id)) ks)))
      by true ih = omega (arith, ih, cons k ks, cons k (filter (λ k. p k.id) ks))
      by false ih = omega (arith, ih, cons k ks, cons k (filter (λ k. not (p k.id)) ks))

  -- one comes, or none
  pub joined : (ks : List Shelved) (a : Option Added) → count e (shelf_extents (kept_with ks a)) ≡ count e (shelf_extents ks) + count e (pieces_of a)
  joined ks None = omega arith
  joined ks (Some a) =
      omega (arith, push ks a.kept, sum_by-append (same e) (bundle_extents (a.kept.index ∷ [])) (a.kept.extent ∷ []), sum_by-append (same e) (table_extents a.kept.index) [], sum_by-cons (same e) a.kept.extent [])

  pub behind : (a : Option Added) (x : Extent) → count e (pieces_behind a x) ≡ count e (pieces_of a) + same e x
  behind None x = omega (arith, sum_by-cons (same e) x [])
  behind (Some a) x =
      omega (
        arith,
        sum_by-append (same e) (bundle_extents (a.kept.index ∷ [])) (a.kept.extent ∷ x ∷ []),
        sum_by-append (same e) (bundle_extents (a.kept.index ∷ [])) (a.kept.extent ∷ []),
        sum_by-cons (same e) a.kept.extent (x ∷ []),
        sum_by-cons (same e) a.kept.extent [],
        sum_by-cons (same e) x [],
      )

  -- of a placing
  pub placed : (r : Root) (d : Durable) (ks : List Shelved) → count e (extents_of (placing_for r d ks)) ≡ same e (root_extent r) + count e (shelf_extents ks)
  placed r d ks = ap (count e) (extents_are r d ks) ∙ sum_by-cons (same e) (root_extent r) (shelf_extents ks)
