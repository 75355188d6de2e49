-- What is taken of a file, as the order of the extents does not matter.
use Rattle.std.proofs.Common.{List, [], inl, inr, subst, sym, ℕ, ◌++◌, ◌∷◌}
use Rattle.std.specs.Prelude.{Contains, IsTrue}
use Rattle.std.specs.List.Sorted.{IsPermutation}
use Rattle.std.proofs.lemmas.List.Sorted.{IsPermutation-refl, IsPermutation-sym}
use Rattle.lt_terms.specs.declared.Extent.{Extent}
use Rattle.lt_world.specs.Extents.{are_apart}
use Rattle.lt_space.proofs.Overlaps.{apart_from_placed}
use Rattle.lt_space.proofs.Permuted.{misplaced_permuted}
use Rattle.lt_laws.proofs.ListFacts.{contains_front, contains_rest, held_either}
use Rattle.lt_space.specs.Extents.{Extents, Takes}
use Rattle.lt_image_laws.proofs.Damage.{none_misplaced}
use Rattle.lt_image_laws.proofs.Room.{room_laws}

pub apart_permuted : (limit : ℕ) (xs ys : List Extent) → IsPermutation xs ys → IsTrue (are_apart limit xs) → IsTrue (are_apart limit ys)
apart_permuted limit xs ys p h = apart_from_placed limit ys (λ e is. none_misplaced limit xs e h (misplaced_permuted limit ys xs e (IsPermutation-sym xs ys p) is))

pub more_there : (before after : Extents) (e x : Extent) → Takes e before after → Contains before.taken x → Contains after.taken x
more_there before after e x t there = elim (held_either t.before t.after x (subst (λ (l : List Extent). Contains l x) t.were there)) [
  | inl first ↦ subst (λ (l : List Extent). Contains l x) (sym t.are) (contains_front t.before (e ∷ t.after) x first)
  | inr rest ↦ subst (λ (l : List Extent). Contains l x) (sym t.are) (contains_rest t.before (e ∷ t.after) x (contains_rest (e ∷ []) t.after x rest))
]

-- one more is taken
pub grown : (before after : Extents) (e : Extent) → Takes e before after → IsPermutation (before.taken ++ e ∷ []) after.taken
grown before after e t =
    subst (IsPermutation (before.taken ++ e ∷ [])) (sym t.are) (room_laws.one_more before.taken t.before t.after e (subst (IsPermutation before.taken) t.were (IsPermutation-refl before.taken)))
