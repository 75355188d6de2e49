-- Facts about lists, options and tests that proofs here and above need.
use Rattle.std.proofs.Common.{Bool, List, [], ap, arith, cond, false, refl, subst, suc, true, zero, ◌++◌, ◌∙◌, ◌∷◌, ◌≡◌}
use Rattle.std.specs.Prelude.{Contains, None, Option, Some, filter, filter_map, find, option_map}
use Rattle.std.specs.List.{AllByRecursion, cons_option}
use Rattle.lt_tables.specs.Schema.{first_of, when}
use Rattle.lt_codecs.proofs.ListFacts.{or_left, or_right}
pub use Rattle.lt_codecs.proofs.ListFacts.{all_append, all_both, all_front, all_map, all_rest, any_none, find_none, none_mapped}

-- ---- options of which none is there

pub when_none : {A : Type 0} (b : Bool) (a : A) → when b a ≡ None → b ≡ false
when_none true a h = cc
when_none false a h = refl

pub all_none : {A : Type 0} (os : List (Option A)) → first_of os ≡ None → AllByRecursion (λ o. o ≡ None) os
all_none [] e = tt
all_none (o ∷ os) e = (or_left o (first_of os) e, all_none os (or_right o (first_of os) e))

-- ---- what holds of each

pub all_from : {A : Type 0} (P : A → Type 0) (xs : List A) → ((x : A) → Contains xs x → P x) → AllByRecursion P xs
all_from P [] f = tt
all_from P (x ∷ xs) f = (f x (zero, omega arith, refl), all_from P xs (λ y (k, l, e). f y (suc k, omega (arith, l), e)))

pub all_contained : {A : Type 0} (xs : List A) → AllByRecursion (Contains xs) xs
all_contained xs = all_from (Contains xs) xs (λ x h. h)

filter_by : {A : Type 0} (P : A → Type 0) (x : A) (xs : List A) (b : Bool) → P x → AllByRecursion P xs → AllByRecursion P (cond b (x ∷ xs) xs)
filter_by P x xs true p a = (p, a)
filter_by P x xs false p a = a

pub all_filter : {A : Type 0} (P : A → Type 0) (test : A → Bool) (xs : List A) → AllByRecursion P xs → AllByRecursion P (filter test xs)
all_filter P test [] a = tt
all_filter P test (x ∷ xs) a = filter_by P x (filter test xs) (test x) a.0 (all_filter P test xs a.1)

-- ---- what is found

found_by : {A : Type 0} (P : A → Type 0) (test : A → Bool) (x y : A) (o : Option A) (b : Bool) → test x ≡ b → P x → (o ≡ Some y → P y × (test y ≡ true)) → cond b (Some x) o ≡ Some y → P y × (test y ≡ true)
found_by P test x y o true e p f h = let d : x ≡ y = cc in subst (λ z. P z × (test z ≡ true)) d (p, e)
found_by P test x y o false e p f h = f h

-- what is found passes the test, and has what all have
pub find_all : {A : Type 0} (P : A → Type 0) (test : A → Bool) (xs : List A) (y : A) → AllByRecursion P xs → find test xs ≡ Some y → P y × (test y ≡ true)
find_all P test [] y a h = cc
find_all P test (x ∷ xs) y a h = found_by P test x y (find test xs) (test x) refl a.0 (find_all P test xs y a.1) h

given_by : {B : Type 0} (o : Option B) (xs ys : List B) → cons_option o (xs ++ ys) ≡ cons_option o xs ++ ys
given_by None xs ys = refl
given_by (Some x) xs ys = refl

pub filter_map-append : {A B : Type 0} (f : A → Option B) (xs ys : List A) → filter_map f (xs ++ ys) ≡ filter_map f xs ++ filter_map f ys
filter_map-append f [] ys = refl
filter_map-append f (x ∷ xs) ys = ap (cons_option (f x)) (filter_map-append f xs ys) ∙ given_by (f x) (filter_map f xs) (filter_map f ys)

-- ---- what is in a filtered list

pub mapped_some : {A B : Type 0} (f : A → B) (o : Option A) (y : B) → option_map f o ≡ Some y → (x : A) × (o ≡ Some x) × (f x ≡ y)
mapped_some f None y e = cc
mapped_some f (Some x) y e = (x, refl, cc)

-- what is found is an element that passes
pub find_held : {A : Type 0} (test : A → Bool) (xs : List A) (x : A) → find test xs ≡ Some x → Contains xs x × (test x ≡ true)
find_held test xs x e = find_all (Contains xs) test xs x (all_contained xs) e
