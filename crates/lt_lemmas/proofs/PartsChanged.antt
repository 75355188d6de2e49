-- A list of which one element is changed in its place.
use Rattle.std.proofs.Common.{List, [], ap, length, refl, suc, zero, ℕ, ◌∷◌, ◌≡◌}
use Rattle.std.specs.Prelude.{Some, slice_get}
use Rattle.lt_tables.specs.Schema.{change_at}

pub change_twice : {A : Type 0} (f g : A → A) (n : ℕ) (xs : List A) → change_at f n (change_at g n xs) ≡ change_at (λ x. f (g x)) n xs
change_twice f g n [] = refl
change_twice f g zero (x ∷ xs) = refl
change_twice f g (suc n) (x ∷ xs) = ap (λ l. x ∷ l) (change_twice f g n xs)

pub length_changed : {A : Type 0} (f : A → A) (n : ℕ) (xs : List A) → length (change_at f n xs) ≡ length xs
length_changed f n [] = refl
length_changed f zero (x ∷ xs) = refl
length_changed f (suc n) (x ∷ xs) = ap suc (length_changed f n xs)

pub changed_there : {A : Type 0} (f : A → A) (n : ℕ) (xs : List A) (x : A) → slice_get xs n ≡ Some x → slice_get (change_at f n xs) n ≡ Some (f x)
changed_there f n [] x e = cc
changed_there f zero (y ∷ xs) x e = let d : y ≡ x = cc in ap (λ z. Some (f z)) d
changed_there f (suc n) (y ∷ xs) x e = changed_there f n xs x e
