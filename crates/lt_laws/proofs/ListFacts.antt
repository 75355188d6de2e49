-- Facts about lists that several proofs need: what holds of each element, and what is found.
use Rattle.std.proofs.Common.{Bool, List, [], ap, arith, false, inl, inr, refl, subst, suc, sym, true, zero, ◌++◌, ◌∙◌, ◌∷◌, ◌≡◌}
use Rattle.std.specs.Prelude.{Contains, None, Option, Some, filter_map, find, flat_map, map, ◌||◌, ◌⊎◌}
use Rattle.std.specs.List.{AllByRecursion, cons_option, list_any}
use Rattle.std.proofs.lemmas.Bool.{false≢true, or_cases}
pub use Rattle.lt_codecs.proofs.ListFacts.{all_append, all_both, all_front, all_map, all_rest, any_none, find_none, none_mapped}

-- ---- what holds of each

pub all_at : {A : Type 0} (P : A → Type 0) (xs : List A) (x : A) → AllByRecursion P xs → Contains xs x → P x
all_at P [] x a (k, l, e) = absurd (omega (arith, l))
all_at P (y ∷ ys) x a (zero, l, e) = subst P e a.0
all_at P (y ∷ ys) x a (suc k, l, e) = all_at P ys x a.1 (k, omega (arith, l), e)

pub contains_cons : {A : Type 0} (y : A) (xs : List A) (x : A) → Contains xs x → Contains (y ∷ xs) x
contains_cons y xs x (k, l, e) = (suc k, omega (arith, l), e)

pub contains_front : {A : Type 0} (xs ys : List A) (x : A) → Contains xs x → Contains (xs ++ ys) x
contains_front [] ys x (k, l, e) = absurd (omega (arith, l))
contains_front (y ∷ xs) ys x (zero, l, e) = (zero, omega arith, e)
contains_front (y ∷ xs) ys x (suc k, l, e) = contains_cons y (xs ++ ys) x (contains_front xs ys x (k, omega (arith, l), e))

pub contains_rest : {A : Type 0} (xs ys : List A) (x : A) → Contains ys x → Contains (xs ++ ys) x
contains_rest [] ys x k = k
contains_rest (y ∷ xs) ys x k = contains_cons y (xs ++ ys) x (contains_rest xs ys x k)

pub held_either : {A : Type 0} (xs ys : List A) (x : A) → Contains (xs ++ ys) x → Contains xs x ⊎ Contains ys x
held_either [] ys x h = inr h
held_either (y ∷ xs) ys x (zero, l, e) = inl (zero, omega arith, e)
held_either (y ∷ xs) ys x (suc k, l, e) = elim (held_either xs ys x (k, omega (arith, l), e)) [ inl i ↦ inl (contains_cons y xs x i) | inr i ↦ inr i ]

pub held_one : {A : Type 0} (x y : A) → Contains (x ∷ []) y → x ≡ y
held_one x y (zero, l, e) = e
held_one x y (suc k, l, e) = absurd (omega (arith, l))

pub all_flat : {A : Type 0} (P : A → Type 0) (xss : List (List A)) → AllByRecursion (AllByRecursion P) xss → AllByRecursion P (flat_map (λ xs. xs) xss)
all_flat P [] a = tt
all_flat P (xs ∷ xss) a = all_append P xs (flat_map (λ xs. xs) xss) a.0 (all_flat P xss a.1)

-- ---- what is found

pub any_mapped : {A B : Type 0} (test : B → Bool) (f : A → B) (xs : List A) → list_any (λ x. test (f x)) xs ≡ list_any test (map f xs)
any_mapped test f [] = refl
any_mapped test f (x ∷ xs) = ap (λ (b : Bool). test (f x) || b) (any_mapped test f xs)

-- ---- what is in a filtered list

given_cases : {B : Type 0} (o : Option B) (ys : List B) (y : B) → Contains (cons_option o ys) y → (o ≡ Some y) ⊎ Contains ys y
given_cases None ys y h = inr h
given_cases (Some x) ys y (zero, l, e) = inl (ap Some e)
given_cases (Some x) ys y (suc k, l, e) = inr (k, omega (arith, l), e)

given_in : {B : Type 0} (o : Option B) (ys : List B) (y : B) → (o ≡ Some y) ⊎ Contains ys y → Contains (cons_option o ys) y
given_in None ys y (inl e) = cc
given_in None ys y (inr h) = h
given_in (Some x) ys y (inl e) = let d : x ≡ y = cc in (zero, omega arith, d)
given_in (Some x) ys y (inr h) = contains_cons x ys y h

pub from_filter_map : {A B : Type 0} (f : A → Option B) (xs : List A) (y : B) → Contains (filter_map f xs) y → (x : A) × Contains xs x × (f x ≡ Some y)
from_filter_map f [] y h = absurd (omega (arith, h.1))
from_filter_map f (x ∷ xs) y h = elim (given_cases (f x) (filter_map f xs) y h) [
  | inl e ↦ (x, (zero, omega arith, refl), e)
  | inr i ↦ (let r = from_filter_map f xs y i in (r.0, contains_cons x xs r.0 r.1, r.2))
]

pub in_filter_map : {A B : Type 0} (f : A → Option B) (xs : List A) (x : A) (y : B) → Contains xs x → f x ≡ Some y → Contains (filter_map f xs) y
in_filter_map f [] x y h e = absurd (omega (arith, h.1))
in_filter_map f (z ∷ xs) x y (zero, l, d) e = given_in (f z) (filter_map f xs) y (inl (ap f d ∙ e))
in_filter_map f (z ∷ xs) x y (suc k, l, d) e = given_in (f z) (filter_map f xs) y (inr (in_filter_map f xs x y (k, omega (arith, l), d) e))

held_by : {A : Type 0} (test : A → Bool) (xs : List A) (x : A) (o : Option A) → find test xs ≡ o → Contains xs x → test x ≡ true → (y : A) × (find test xs ≡ Some y)
held_by test xs x (Some y) f h e = (y, f)
held_by test xs x None f h e = let d : test x ≡ false = all_at (λ z. test z ≡ false) xs x (find_none test xs f) h in absurd (false≢true (sym d ∙ e))

-- where an element passes one is found
pub held_is_found : {A : Type 0} (test : A → Bool) (xs : List A) (x : A) → Contains xs x → test x ≡ true → (y : A) × (find test xs ≡ Some y)
held_is_found test xs x h e = held_by test xs x (find test xs) refl h e

pub flat_held : {A B : Type 0} (f : A → List B) (xs : List A) (x : A) (y : B) → Contains xs x → Contains (f x) y → Contains (flat_map f xs) y
flat_held f [] x y h i = absurd (omega (arith, h.1))
flat_held f (z ∷ xs) x y (zero, l, e) i = contains_front (f z) (flat_map f xs) y (subst (λ u. Contains (f u) y) (sym e) i)
flat_held f (z ∷ xs) x y (suc k, l, e) i = contains_rest (f z) (flat_map f xs) y (flat_held f xs x y (k, omega (arith, l), e) i)

pub from_map : {A B : Type 0} (f : A → B) (xs : List A) (y : B) → Contains (map f xs) y → (x : A) × Contains xs x × (f x ≡ y)
from_map f [] y h = absurd (omega (arith, h.1))
from_map f (x ∷ xs) y (zero, l, e) = (x, (zero, omega arith, refl), e)
from_map f (x ∷ xs) y (suc k, l, e) = let r = from_map f xs y (k, omega (arith, l), e) in (r.0, (let h = r.1 in (suc h.0, omega (arith, h.1), h.2)), r.2)

pub any_held : {A : Type 0} (test : A → Bool) (xs : List A) → list_any test xs ≡ true → (x : A) × Contains xs x × (test x ≡ true)
any_held test [] h = absurd (false≢true h)
any_held test (x ∷ xs) h = elim (or_cases (test x) (list_any test xs) h) [
  | inl e ↦ (x, (0, omega arith, refl), e)
  | inr e ↦ (let r = any_held test xs e in (r.0, (let i = r.1 in (suc i.0, omega (arith, i.1), i.2)), r.2))
]

pub in_map : {A B : Type 0} (f : A → B) (xs : List A) (x : A) → Contains xs x → Contains (map f xs) (f x)
in_map f [] x h = absurd (omega (arith, h.1))
in_map f (y ∷ xs) x (zero, l, e) = (zero, omega arith, ap f e)
in_map f (y ∷ xs) x (suc k, l, e) = let r = in_map f xs x (k, omega (arith, l), e) in (suc r.0, omega (arith, r.1), r.2)
