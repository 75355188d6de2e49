-- Facts about lists, options and tests that proofs here and above need.
use Rattle.std.proofs.Common.{Bool, List, [], cond, false, refl, true, ◌++◌, ◌∷◌, ◌≡◌}
use Rattle.std.specs.Prelude.{IsTrue, None, Option, Some, find, flat_map, map, option_map, ⊤, ◌&&◌}
use Rattle.std.proofs.lemmas.Bool.{and_from, and_parts, or_parts}
use Rattle.std.specs.List.{AllByRecursion, list_all, list_any}
use Rattle.std.specs.Option.{option_or}

-- ---- two tests, and two lists

pub first : (a b : Bool) → IsTrue (a && b) → IsTrue a
first a b h = (and_parts a b h).0

pub second : (a b : Bool) → IsTrue (a && b) → IsTrue b
second a b h = (and_parts a b h).1

pub heads : {A : Type 0} (a b : A) (x y : List A) → a ∷ x ≡ b ∷ y → a ≡ b
heads a b x y e = cc

pub tails : {A : Type 0} (a b : A) (x y : List A) → a ∷ x ≡ b ∷ y → x ≡ y
tails a b x y e = cc

-- ---- what holds of each

pub all_append : {A : Type 0} (P : A → Type 0) (xs ys : List A) → AllByRecursion P xs → AllByRecursion P ys → AllByRecursion P (xs ++ ys)
all_append P [] ys a b = b
all_append P (x ∷ xs) ys a b = (a.0, all_append P xs ys a.1 b)

pub all_front : {A : Type 0} (P : A → Type 0) (xs ys : List A) → AllByRecursion P (xs ++ ys) → AllByRecursion P xs
all_front P [] ys a = tt
all_front P (x ∷ xs) ys a = (a.0, all_front P xs ys a.1)

pub all_rest : {A : Type 0} (P : A → Type 0) (xs ys : List A) → AllByRecursion P (xs ++ ys) → AllByRecursion P ys
all_rest P [] ys a = a
all_rest P (x ∷ xs) ys a = all_rest P xs ys a.1

pub all_flat : {A B : Type 0} (P : B → Type 0) (f : A → List B) (xs : List A) → AllByRecursion P (flat_map f xs) → AllByRecursion (λ x. AllByRecursion P (f x)) xs
all_flat P f [] a = tt
all_flat P f (x ∷ xs) a = (all_front P (f x) (flat_map f xs) a, all_flat P f xs (all_rest P (f x) (flat_map f xs) a))

pub all_of_map : {A B : Type 0} (P : B → Type 0) (f : A → B) (xs : List A) → AllByRecursion P (map f xs) → AllByRecursion (λ x. P (f x)) xs
all_of_map P f [] a = tt
all_of_map P f (x ∷ xs) a = (a.0, all_of_map P f xs a.1)

pub all_to_map : {A B : Type 0} (P : B → Type 0) (f : A → B) (xs : List A) → AllByRecursion (λ x. P (f x)) xs → AllByRecursion P (map f xs)
all_to_map P f [] a = tt
all_to_map P f (x ∷ xs) a = (a.0, all_to_map P f xs a.1)

pub all_true : {A : Type 0} (xs : List A) → AllByRecursion (λ x. ⊤) xs
all_true [] = tt
all_true (x ∷ xs) = (tt, all_true xs)

pub all_map : {A : Type 0} (P Q : A → Type 0) (xs : List A) → ((x : A) → P x → Q x) → AllByRecursion P xs → AllByRecursion Q xs
all_map P Q [] f a = tt
all_map P Q (x ∷ xs) f a = (f x a.0, all_map P Q xs f a.1)

pub all_both : {A : Type 0} (P Q R : A → Type 0) (xs : List A) → ((x : A) → P x → Q x → R x) → AllByRecursion P xs → AllByRecursion Q xs → AllByRecursion R xs
all_both P Q R [] f a b = tt
all_both P Q R (x ∷ xs) f a b = (f x a.0 b.0, all_both P Q R xs f a.1 b.1)

-- a test of each, and what it says of each
pub all_pass : {A : Type 0} (test : A → Bool) (P : A → Type 0) → ((x : A) → P x → IsTrue (test x)) → (xs : List A) → AllByRecursion P xs → IsTrue (list_all test xs)
all_pass test P one [] h = refl
all_pass test P one (x ∷ xs) h = and_from _ _ (one x h.0) (all_pass test P one xs h.1)

pub all_hold : {A : Type 0} (test : A → Bool) (P : A → Type 0) → ((x : A) → IsTrue (test x) → P x) → (xs : List A) → IsTrue (list_all test xs) → AllByRecursion P xs
all_hold test P one [] h = tt
all_hold test P one (x ∷ xs) h = let p = and_parts (test x) (list_all test xs) h in (one x p.0, all_hold test P one xs p.1)

-- ---- what is not found

none_by : {A : Type 0} (test : A → Bool) (x : A) (o : Option A) (b : Bool) → test x ≡ b → cond b (Some x) o ≡ None → (test x ≡ false) × (o ≡ None)
none_by test x o true e h = cc
none_by test x o false e h = (e, h)

-- where nothing is found no element passes
pub find_none : {A : Type 0} (test : A → Bool) (xs : List A) → find test xs ≡ None → AllByRecursion (λ x. test x ≡ false) xs
find_none test [] h = tt
find_none test (x ∷ xs) h = let r = none_by test x (find test xs) (test x) refl h in (r.0, find_none test xs r.1)

pub any_none : {A : Type 0} (test : A → Bool) (xs : List A) → list_any test xs ≡ false → AllByRecursion (λ x. test x ≡ false) xs
any_none test [] h = tt
any_none test (x ∷ xs) h = let r = or_parts (test x) (list_any test xs) h in (r.0, any_none test xs r.1)

-- ---- options of which none is there

pub none_mapped : {A B : Type 0} (f : A → B) (o : Option A) → option_map f o ≡ None → o ≡ None
none_mapped f None e = refl
none_mapped f (Some x) e = cc

pub or_left : {A : Type 0} (o p : Option A) → option_or o p ≡ None → o ≡ None
or_left None p h = refl
or_left (Some a) p h = h

pub or_right : {A : Type 0} (o p : Option A) → option_or o p ≡ None → p ≡ None
or_right None p h = h
or_right (Some a) p h = cc
