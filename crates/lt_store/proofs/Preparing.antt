-- What was written for a commit stands once its manifest is written, too, and so the state after is prepared.
use Rattle.std.proofs.Common.{List, None, Option, Some, [], arith, inl, inr, length, refl, subst, suc, zero, ℕ, ◌++◌, ◌∙◌, ◌∷◌, ◌≡◌, ◌≤◌, Bool}
use Rattle.std.specs.Prelude.{Contains, IfSome, IsTrue, filter, nat_le, ◌&&◌}
use Rattle.std.specs.List.{list_all}
use Rattle.std.specs.List.Sorted.{IsPermutation}
use Rattle.std.proofs.lemmas.Bool.{and_from, and_parts, le-leb, leb-true}
use Rattle.std.proofs.lemmas.List.Sorted.{Contains-permutation, IsPermutation-sym}
use Rattle.std.proofs.lemmas.List.Sums.{sum_by-append, sum_by-cons}
use Rattle.lt_terms.specs.declared.Extent.{Extent}
use Rattle.lt_terms.specs.declared.Root.{Root}
use Rattle.lt_world.specs.Disk.{bytes_in, with_bytes}
use Rattle.lt_world.specs.Extents.{apart, are_apart, end_of, is_gap}
use Rattle.lt_world.specs.Feed.{Feed}
use Rattle.lt_storage.specs.Store.{Placing, are_within, bundle_extents, extents_of, manifest_bytes, root_extent}
use Rattle.lt_machine.specs.Machine.{State}
use Rattle.lt_codecs.proofs.ListFacts.{all_front, all_map, all_rest}
use Rattle.lt_laws.proofs.ListFacts.{contains_rest, held_either}
use Rattle.lt_laws.proofs.ReadLaws.{all_tests}
use Rattle.lt_image_laws.specs.Bytes.{AllRead, ReadsAs, extent_at}
use Rattle.lt_image_laws.specs.Commit.{IsPrepared}
use Rattle.lt_image_laws.specs.Next.{GoesOnTo, those}
use Rattle.lt_image_laws.specs.Shelf.{manifest_for, placing_for}
use Rattle.lt_image_laws.specs.Standing.{IsRooted}
use Rattle.lt_image_laws.proofs.Apart.{apart_laws}
use Rattle.lt_image_laws.proofs.Bytes.{bytes_stay, table_extents}
use Rattle.lt_image_laws.proofs.Next.{next_is_prepared}
use Rattle.lt_image_laws.proofs.Shelf.{tables_stay}
use Rattle.lt_store.specs.Commits.{Added, IsSealed, kept_with, pieces_behind, pieces_of, shelf_with}
use Rattle.lt_store.proofs.Counting.{from_counts, same}
use Rattle.lt_store.proofs.Shelves.{behind}

-- ---- within the file, extent by extent

within_at : (image : List ℕ) (xs : List Extent) (x : Extent) → IsTrue (are_within image xs) → Contains xs x → end_of x ≤ length image
within_at image [] x h (k, there, is) = absurd (omega (arith, there))
within_at image (y ∷ ys) x h (zero, there, is) = subst (λ (e : Extent). end_of e ≤ length image) is (leb-true (end_of y) (length image) (and_parts (nat_le (end_of y) (length image)) (are_within image ys) h).0)
within_at image (y ∷ ys) x h (suc k, there, is) = within_at image ys x (and_parts (nat_le (end_of y) (length image)) (are_within image ys) h).1 (k, omega (arith, there), is)

within_all : (image : List ℕ) (xs : List Extent) → ((x : Extent) → Contains xs x → end_of x ≤ length image) → IsTrue (are_within image xs)
within_all image [] h = refl
within_all image (x ∷ xs) h = and_from _ _ (le-leb _ _ (h x (0, omega arith, refl))) (within_all image xs (λ y there. h y (contains_rest (x ∷ []) xs y there)))

-- the order does not matter
within_permuted : (image : List ℕ) (xs ys : List Extent) → IsPermutation xs ys → IsTrue (are_within image xs) → IsTrue (are_within image ys)
within_permuted image xs ys p h = within_all image ys (λ y there. within_at image xs y h (Contains-permutation ys xs y (IsPermutation-sym xs ys p) there))

-- the new manifest, and what was written before it
pub all_within : (image : List ℕ) (made fresh made_after : List Extent) (added : Option Added) (e : Extent) → IsPermutation (made ++ fresh) (pieces_of added ++ made_after) → IsTrue (are_within image made) → IsTrue (are_within image fresh)
    → end_of e ≤ length image → IsTrue (are_within image (pieces_behind added e ++ made_after))
all_within image made fresh made_after added e p first second here =
    let both : IsTrue (are_within image (made ++ fresh)) = within_all image (made ++ fresh) (λ x there. elim (held_either made fresh x there) [
      | inl is ↦ within_at image made x first is
      | inr is ↦ within_at image fresh x second is
    ]) in
    within_permuted image (e ∷ (pieces_of added ++ made_after)) (pieces_behind added e ++ made_after)
    (from_counts (e ∷ (pieces_of added ++ made_after)) (pieces_behind added e ++ made_after) (λ x.
    omega (arith, sum_by-cons (same x) e (pieces_of added ++ made_after), sum_by-append (same x) (pieces_of added) made_after, sum_by-append (same x) (pieces_behind added e) made_after, behind x added e)))
    (and_from _ _ (le-leb _ _ here) (within_permuted image (made ++ fresh) (pieces_of added ++ made_after) p both))

-- ---- what was written stays

module _ (seen bytes : List ℕ) (e : Extent) (size : e.length ≡ length bytes) where
  -- a gap's write leaves what is among the live extents
  reads_on : (most : ℕ) (live xs : List Extent) → IsTrue (is_gap most live e) → ((x : Extent) → Contains xs x → Contains live x) → AllRead seen (with_bytes seen e.place bytes) xs
  reads_on most live xs gap among =
      let parts = and_parts (nat_le 1024 e.place && nat_le (end_of e) most) (list_all (apart e) xs) (apart_laws.gap_among most live xs e gap among) in
      all_map (λ (x : Extent). IsTrue (apart e x)) (ReadsAs seen (with_bytes seen e.place bytes)) xs
      (λ x beside. bytes_stay.written seen bytes e.place x (subst (λ n. IsTrue (apart (extent_at e.place n) x)) size beside)) (all_tests (apart e) xs parts.1)

  pub sealed_on : (most : ℕ) (live : List Extent) (added : Option Added) → IsTrue (is_gap most live e) → ((x : Extent) → Contains (pieces_of added) x → Contains live x) → IfSome added (IsSealed seen)
      → IfSome added (IsSealed (with_bytes seen e.place bytes))
  sealed_on most live None gap among sealed = tt
  sealed_on most live (Some a) gap among sealed =
      let i = a.kept.index in
      let reads = reads_on most live (pieces_of (Some a)) gap among in
      let bundles = all_front (ReadsAs seen (with_bytes seen e.place bytes)) (bundle_extents (i ∷ [])) (a.kept.extent ∷ []) reads in
      let index = all_rest (ReadsAs seen (with_bytes seen e.place bytes)) (bundle_extents (i ∷ [])) (a.kept.extent ∷ []) reads in
      record {
        id = sealed.id;
        tables = tables_stay seen (with_bytes seen e.place bytes) i a.delta.tables sealed.tables (all_front (ReadsAs seen (with_bytes seen e.place bytes)) (table_extents i) [] bundles);
        fits = sealed.fits;
        index = index.0 ∙ sealed.index;
      }

-- ---- and so the state after is prepared

pub prepared_from : (f : Feed) (s s' : State) (l : Placing) (made made' : List Extent) (r : Root) (p : ℕ → Bool) (added : Option Added) (seen : List ℕ) → IsRooted f s l made seen → GoesOnTo f s s' made' seen → r.generation ≡ s'.durable.generation
    → s'.durable.shelf ≡ shelf_with (filter (λ x. p x.id) s.durable.shelf) added → IfSome added (IsSealed seen) → IsTrue (are_apart s.durable.limit ((extents_of l ++ pieces_behind added (root_extent r)) ++ made'))
    → IsTrue (are_within seen (pieces_behind added (root_extent r) ++ made')) → bytes_in seen (root_extent r) ≡ manifest_bytes (manifest_for s'.durable (kept_with (those p l) added))
    → IsPrepared f s' (placing_for r s'.durable (kept_with (those p l) added)) made' seen
prepared_from f s s' l made made' r p None seen rooted goes generation shelf sealed apart within bytes =
    next_is_prepared.manifest f s s' l made made' r p seen rooted goes (record { generation = generation; shelf = shelf; apart = apart; within = within; bytes = bytes })
prepared_from f s s' l made made' r p (Some a) seen rooted goes generation shelf sealed apart within bytes =
    next_is_prepared.delta f s s' l made made' r p a.kept a.delta seen rooted goes
    (record { generation = generation; shelf = shelf; id = sealed.id; tables = sealed.tables; fits = sealed.fits; index = sealed.index; apart = apart; within = within; bytes = bytes })
