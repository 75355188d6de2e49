-- What a session stands on while its durable part stays.
use Rattle.std.proofs.Common.{List, [], inl, inr, le-leb, length, refl, subst, sym, ℕ, ◌++◌, ◌∷◌, ◌≡◌, ◌≤◌}
use Rattle.std.specs.Prelude.{IsTrue, None, Option, Some, nat_le, slice_get}
use Rattle.std.proofs.lemmas.Bool.{and_from, and_parts}
use Rattle.lt_terms.specs.declared.Extent.{Extent}
use Rattle.lt_world.specs.Disk.{bytes_in}
use Rattle.lt_world.specs.Feed.{Feed, Grows}
use Rattle.lt_terms.specs.Layout.{Leaf}
use Rattle.lt_machine.specs.Machine.{Job, State}
use Rattle.lt_machine.specs.Outside.{HoldsEither, IsHonest, MadeStand, bytes_of_bundle, job_bundles}
use Rattle.lt_world.specs.Extents.{end_of}
use Rattle.lt_storage.specs.Store.{Durable, HasPlaced, Holds, Placing, are_within, extents_of}
use Rattle.lt_tables.specs.Version.{RowVersion}
use Rattle.lt_lemmas.proofs.FrontLaws.{grows_itself}
use Rattle.lt_laws.proofs.FrontStands.{sound_grows}
use Rattle.lt_image_laws.specs.Commit.{broken_by}
use Rattle.lt_image_laws.specs.Moves.{MoveLaws, SamePart}
use Rattle.lt_image_laws.specs.Standing.{IsRooted, placed_at}
use Rattle.lt_image_laws.proofs.Commit.{job_as}
use Rattle.lt_image_laws.proofs.Made.{made_laws}
use Rattle.lt_image_laws.proofs.Standing.{held, within_parts}

within_both : (image : List ℕ) (xs ys : List Extent) → IsTrue (are_within image xs) → IsTrue (are_within image ys) → IsTrue (are_within image (xs ++ ys))
within_both image [] ys h k = k
within_both image (x ∷ xs) ys h k = let p = and_parts (nat_le (end_of x) (length image)) (are_within image xs) h in and_from _ _ p.0 (within_both image xs ys p.1 k)

within_rest : (image : List ℕ) (xs ys : List Extent) → IsTrue (are_within image (xs ++ ys)) → IsTrue (are_within image ys)
within_rest image [] ys h = h
within_rest image (x ∷ xs) ys h = within_rest image xs ys (and_parts (nat_le (end_of x) (length image)) (are_within image (xs ++ ys)) h).1

part_as : (s s' : State) (l : Placing) (made made' : List Extent) (image : List ℕ) → s'.durable ≡ s.durable → HoldsEither (placed_at s l made) image → HoldsEither (placed_at s' l made') image
part_as s s' l made made' image e (inl h) = inl (subst (Holds image) (sym e) h)
part_as s s' l made made' image e (inr h) = let z : None ≡ Some h.1 = h.3 in absurd cc

honest : (f g : Feed) (s s' : State) (l : Placing) (made made' : List Extent) (image : List ℕ) → Grows f g → SamePart s s' → MadeStand s'.job s' made' image → IsTrue (are_within image made') → IsHonest f (placed_at s l made) image → IsHonest g (placed_at s' l made') image
honest f g s s' l made made' image grows same job within h = record {
  part = part_as s s' l made made' image same.durable h.part;
  sound = sound_grows image f g grows h.sound;
  placed = subst (λ (d : Durable). HasPlaced d l image) (sym same.durable) h.placed;
  failed = tt;
  job = job;
  within = within_both image (extents_of l) made' (within_parts image (extents_of l) made h.within) within;
}

stands : (f g : Feed) (s s' : State) (l : Placing) (made made' : List Extent) (image : List ℕ) → Grows f g → SamePart s s' → MadeStand s'.job s' made' image → IsTrue (are_within image made') → IsRooted f s l made image → IsRooted g s' l made' image
stands f g s s' l made made' image grows same job within h = record { root = h.root; honest = honest f g s s' l made made' image grows same job within h.honest }

one_made : (f : Feed) (s : State) (j : Job) (l : Placing) (made : List Extent) (e : Extent) (b : List Leaf × List RowVersion) (image : List ℕ) → IsRooted f s l made image → s.job ≡ Some j → slice_get (job_bundles s j) (length made) ≡ Some b
    → bytes_in image e ≡ bytes_of_bundle b → end_of e ≤ length image → IsRooted f s l (made ++ e ∷ []) image
one_made f s j l made e b image h is next bytes end =
    let before : MadeStand (Some j) s made image = subst (λ (o : Option Job). MadeStand o s made image) is h.honest.job in
    let after = made_laws.one_made j s made e b image before next bytes in
    stands f f s s l made (made ++ e ∷ []) image (grows_itself f) (record { durable = refl; broken = refl }) (subst (λ (o : Option Job). MadeStand o s (made ++ e ∷ []) image) (sym is) after)
    (within_both image made (e ∷ []) (within_rest image (extents_of l) made h.honest.within) (and_from _ _ (le-leb (end_of e) (length image) end) refl)) h

breaks : (f : Feed) (s s' : State) (l : Placing) (made : List Extent) (image : List ℕ) → IsRooted f s l made image → IsHonest f (placed_at (broken_by s' s) l made) image
breaks f s s' l made image h = record { part = inl (l, held f s l made image h); sound = h.honest.sound; placed = h.honest.placed; failed = tt; job = job_as s s' made image h.honest.job; within = h.honest.within }

pub move_laws : MoveLaws
move_laws = record { honest = honest; stands = stands; one_made = one_made; breaks = breaks }
