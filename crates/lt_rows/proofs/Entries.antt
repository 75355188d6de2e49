-- Entries by rising key: what an insertion, a new value or a removal leaves, and what a look-up finds then.
use Rattle.std.proofs.Common.{Bool, List, [], ap, ap₂, cond, false, refl, subst, sym, true, ◌∙◌, ◌∷◌, ◌≡◌}
use Rattle.std.specs.Prelude.{None, Option, Some, ⊤}
use Rattle.std.specs.BTreeMap.{insert_entry, is_at}
use Rattle.std.specs.Cmp.{IsTotalOrder}
use Rattle.std.specs.List.{AllByRecursion}
use Rattle.std.specs.Map.{lookup, remove_entry, set_value}
use Rattle.std.specs.Ordering.{is_eq, match_ordering, ordering_reverse}
use Rattle.std.specs.declared.cmp.Ordering.{Ordering}
use Rattle.std.specs.declared.cmp.Ordering.TheVariants.{Equal, Greater, Less}
use Rattle.std.proofs.lemmas.Bool.{false≢true}
use Rattle.std.proofs.lemmas.Cmp.{tied_itself}

-- an order that tells all keys apart
pub record IsOrder {K : Type 0} (R : K → K → Ordering) : Type 0 where
  pub total : IsTotalOrder R
  pub exact : (x y : K) → R x y ≡ Equal → x ≡ y

abbrev pub Over : {K X : Type 0} → (K → K → Ordering) → K → List (K × X) → Type 0
Over R z es = AllByRecursion (λ e. R z e.0 ≡ Less) es

abbrev pub Rises : {K X : Type 0} → (K → K → Ordering) → List (K × X) → Type 0
Rises R [] = ⊤
Rises R (e ∷ es) = Over R e.0 es × Rises R es

over_trans : {K X : Type 0} (R : K → K → Ordering) (o : IsOrder R) (z y : K) → R z y ≡ Less → (es : List (K × X)) → Over R y es → Over R z es
over_trans R o z y h [] v = tt
over_trans R o z y h (e ∷ es) v = (o.total.trans z y e.0 h v.0, over_trans R o z y h es v.1)

flipped : {K : Type 0} (R : K → K → Ordering) (o : IsOrder R) (z y : K) → R z y ≡ Greater → R y z ≡ Less
flipped R o z y h = o.total.antisymm y z ∙ ap ordering_reverse h

pub is_equal : (o : Ordering) → is_eq o ≡ true → o ≡ Equal
is_equal Less h = cc
is_equal Equal h = refl
is_equal Greater h = cc

pub same_entry : {K : Type 0} (R : K → K → Ordering) (o : IsOrder R) (y z : K) → is_at (R y) z ≡ true → y ≡ z
same_entry R o y z h = o.exact y z (is_equal (R y z) h)

pub at_itself : {K : Type 0} (R : K → K → Ordering) (o : IsOrder R) (z : K) → is_at (R z) z ≡ true
at_itself R o z = ap is_eq (tied_itself o.total z)

-- ---- insertion

abbrev put_by : {K X : Type 0} → Ordering → K → X → K × X → List (K × X) → List (K × X) → List (K × X)
put_by r z c e es more = match_ordering r ((z, c) ∷ e ∷ es) ((e.0, c) ∷ es) (e ∷ more)

insert_over_by : {K X : Type 0} (R : K → K → Ordering) (y z : K) (c : X) (e : K × X) (es more : List (K × X)) (r : Ordering) → R y z ≡ Less → Over R y (e ∷ es) → Over R y more → Over R y (put_by r z c e es more)
insert_over_by R y z c e es more Less h v w = (h, v)
insert_over_by R y z c e es more Equal h v w = (v.0, v.1)
insert_over_by R y z c e es more Greater h v w = (v.0, w)

insert_over : {K X : Type 0} (R : K → K → Ordering) (y z : K) (c : X) (es : List (K × X)) → R y z ≡ Less → Over R y es → Over R y (insert_entry R es z c)
insert_over R y z c [] h v = (h, tt)
insert_over R y z c (e ∷ es) h v = insert_over_by R y z c e es (insert_entry R es z c) (R z e.0) h v (insert_over R y z c es h v.1)

insert_rises_by : {K X : Type 0} (R : K → K → Ordering) (o : IsOrder R) (z : K) (c : X) (e : K × X) (es more : List (K × X)) (r : Ordering) → R z e.0 ≡ r → Rises R (e ∷ es) → (R e.0 z ≡ Less → Over R e.0 more) → Rises R more
    → Rises R (put_by r z c e es more)
insert_rises_by R o z c e es more Less h r v w = ((h, over_trans R o z e.0 h es r.0), r)
insert_rises_by R o z c e es more Equal h r v w = (r.0, r.1)
insert_rises_by R o z c e es more Greater h r v w = (v (flipped R o z e.0 h), w)

pub insert_rises : {K X : Type 0} (R : K → K → Ordering) (o : IsOrder R) (z : K) (c : X) (es : List (K × X)) → Rises R es → Rises R (insert_entry R es z c)
insert_rises R o z c [] r = (tt, tt)
insert_rises R o z c (e ∷ es) r = insert_rises_by R o z c e es (insert_entry R es z c) (R z e.0) refl r (λ h. insert_over R e.0 z c es h r.0) (insert_rises R o z c es r.1)

insert_all_by : {K X : Type 0} (P : K × X → Type 0) (z : K) (c : X) (e : K × X) (es more : List (K × X)) (r : Ordering) → P (z, c) → (r ≡ Equal → P (e.0, c)) → AllByRecursion P (e ∷ es) → AllByRecursion P more
    → AllByRecursion P (put_by r z c e es more)
insert_all_by P z c e es more Less p q a m = (p, a)
insert_all_by P z c e es more Equal p q a m = (q refl, a.1)
insert_all_by P z c e es more Greater p q a m = (a.0, m)

pub insert_all : {K X : Type 0} (R : K → K → Ordering) (o : IsOrder R) (P : K × X → Type 0) (z : K) (c : X) → P (z, c) → (es : List (K × X)) → AllByRecursion P es → AllByRecursion P (insert_entry R es z c)
insert_all R o P z c p [] a = (p, tt)
insert_all {K} {X} R o P z c p (e ∷ es) a = insert_all_by P z c e es (insert_entry R es z c) (R z e.0) p (λ h. subst (λ (k : K). P (k, c)) (o.exact z e.0 h) p) a (insert_all R o P z c p es a.1)

-- two tests, of which not both say yes, in either order
swapped_tests : {X : Type 0} (a b : Bool) (x y w : Option X) → (a ≡ true → b ≡ true → x ≡ y) → cond a x (cond b y w) ≡ cond b y (cond a x w)
swapped_tests true true x y w h = h refl refl
swapped_tests true false x y w h = refl
swapped_tests false b x y w h = refl

same_test : {X : Type 0} (b : Bool) (x y w : Option X) → cond b x w ≡ cond b x (cond b y w)
same_test true x y w = refl
same_test false x y w = refl

not_greater : {A K : Type 0} (R : K → K → Ordering) (o : IsOrder R) (q z y : K) → R z y ≡ Greater → is_at (R q) y ≡ true → is_at (R q) z ≡ true → A
not_greater R o q z y h a b =
    let e : Equal ≡ Greater = sym (tied_itself o.total q) ∙ ap₂ R (same_entry R o q z b) (same_entry R o q y a) ∙ h in
    absurd cc

lookup_insert_by : {K X : Type 0} (R : K → K → Ordering) (o : IsOrder R) (q z : K) (c : X) (e : K × X) (es more : List (K × X)) (r : Ordering) → R z e.0 ≡ r
    → lookup (is_at (R q)) more ≡ cond (is_at (R q) z) (Some c) (lookup (is_at (R q)) es)
    → lookup (is_at (R q)) (put_by r z c e es more) ≡ cond (is_at (R q) z) (Some c) (lookup (is_at (R q)) (e ∷ es))
lookup_insert_by R o q z c e es more Less h ih = refl
lookup_insert_by {K} R o q z c e es more Equal h ih =
    same_test (is_at (R q) e.0) (Some c) (Some e.1) (lookup (is_at (R q)) es)
    ∙ ap (λ (k : K). cond (is_at (R q) k) (Some c) (lookup (is_at (R q)) (e ∷ es))) (sym (o.exact z e.0 h))
lookup_insert_by R o q z c e es more Greater h ih =
    ap (cond (is_at (R q) e.0) (Some e.1)) ih
    ∙ swapped_tests (is_at (R q) e.0) (is_at (R q) z) (Some e.1) (Some c) (lookup (is_at (R q)) es) (λ a b. not_greater R o q z e.0 h a b)

pub lookup_insert : {K X : Type 0} (R : K → K → Ordering) (o : IsOrder R) (q z : K) (c : X) (es : List (K × X)) → lookup (is_at (R q)) (insert_entry R es z c) ≡ cond (is_at (R q) z) (Some c) (lookup (is_at (R q)) es)
lookup_insert R o q z c [] = refl
lookup_insert R o q z c (e ∷ es) = lookup_insert_by R o q z c e es (insert_entry R es z c) (R z e.0) refl (lookup_insert R o q z c es)

-- ---- a new value at a key

set_all_by : {K X : Type 0} (P : K × X → Type 0) (c : X) (e : K × X) (es more : List (K × X)) (b : Bool) → (b ≡ true → P (e.0, c)) → AllByRecursion P (e ∷ es) → AllByRecursion P more → AllByRecursion P (cond b ((e.0, c) ∷ es) (e ∷ more))
set_all_by P c e es more true p a m = (p refl, a.1)
set_all_by P c e es more false p a m = (a.0, m)

pub set_all : {K X : Type 0} (R : K → K → Ordering) (o : IsOrder R) (P : K × X → Type 0) (z : K) (c : X) → P (z, c) → (es : List (K × X)) → AllByRecursion P es → AllByRecursion P (set_value (is_at (R z)) es c)
set_all R o P z c p [] a = tt
set_all {K} {X} R o P z c p (e ∷ es) a = set_all_by P c e es (set_value (is_at (R z)) es c) (is_at (R z) e.0) (λ h. subst (λ (k : K). P (k, c)) (same_entry R o z e.0 h) p) a (set_all R o P z c p es a.1)

set_over_by : {K X : Type 0} (R : K → K → Ordering) (y : K) (c : X) (e : K × X) (es more : List (K × X)) (b : Bool) → Over R y (e ∷ es) → Over R y more → Over R y (cond b ((e.0, c) ∷ es) (e ∷ more))
set_over_by R y c e es more true v w = (v.0, v.1)
set_over_by R y c e es more false v w = (v.0, w)

set_over : {K X : Type 0} (R : K → K → Ordering) (y : K) (test : K → Bool) (c : X) (es : List (K × X)) → Over R y es → Over R y (set_value test es c)
set_over R y test c [] v = tt
set_over R y test c (e ∷ es) v = set_over_by R y c e es (set_value test es c) (test e.0) v (set_over R y test c es v.1)

set_rises_by : {K X : Type 0} (R : K → K → Ordering) (c : X) (e : K × X) (es more : List (K × X)) (b : Bool) → Rises R (e ∷ es) → Over R e.0 more → Rises R more → Rises R (cond b ((e.0, c) ∷ es) (e ∷ more))
set_rises_by R c e es more true r v w = (r.0, r.1)
set_rises_by R c e es more false r v w = (v, w)

pub set_rises : {K X : Type 0} (R : K → K → Ordering) (test : K → Bool) (c : X) (es : List (K × X)) → Rises R es → Rises R (set_value test es c)
set_rises R test c [] r = tt
set_rises R test c (e ∷ es) r = set_rises_by R c e es (set_value test es c) (test e.0) r (set_over R e.0 test c es r.0) (set_rises R test c es r.1)

found_set_by : {K X : Type 0} (test : K → Bool) (c w : X) (e : K × X) (es more : List (K × X)) (b : Bool) → test e.0 ≡ b → cond b (Some e.1) (lookup test es) ≡ Some w → (lookup test es ≡ Some w → lookup test more ≡ Some c)
    → lookup test (cond b ((e.0, c) ∷ es) (e ∷ more)) ≡ Some c
found_set_by test c w e es more true h i m = ap (λ (b : Bool). cond b (Some c) (lookup test es)) h
found_set_by test c w e es more false h i m = ap (λ (b : Bool). cond b (Some e.1) (lookup test more)) h ∙ m i

pub lookup_set : {K X : Type 0} (test : K → Bool) (c w : X) (es : List (K × X)) → lookup test es ≡ Some w → lookup test (set_value test es c) ≡ Some c
lookup_set test c w [] h = cc
lookup_set test c w (e ∷ es) h = found_set_by test c w e es (set_value test es c) (test e.0) refl h (lookup_set test c w es)

set_apart_by : {K X : Type 0} (R : K → K → Ordering) (o : IsOrder R) (q z : K) (c : X) (e : K × X) (es more : List (K × X)) (b : Bool) → is_at (R z) e.0 ≡ b → is_at (R q) z ≡ false → lookup (is_at (R q)) more ≡ lookup (is_at (R q)) es
    → lookup (is_at (R q)) (cond b ((e.0, c) ∷ es) (e ∷ more)) ≡ lookup (is_at (R q)) (e ∷ es)
set_apart_by {K} R o q z c e es more true h a ih =
    let d : is_at (R q) e.0 ≡ false = ap (λ (k : K). is_at (R q) k) (sym (same_entry R o z e.0 h)) ∙ a in
    ap (λ (b : Bool). cond b (Some c) (lookup (is_at (R q)) es)) d ∙ sym (ap (λ (b : Bool). cond b (Some e.1) (lookup (is_at (R q)) es)) d)
set_apart_by R o q z c e es more false h a ih = ap (cond (is_at (R q) e.0) (Some e.1)) ih

pub set_apart : {K X : Type 0} (R : K → K → Ordering) (o : IsOrder R) (q z : K) (c : X) (es : List (K × X)) → is_at (R q) z ≡ false → lookup (is_at (R q)) (set_value (is_at (R z)) es c) ≡ lookup (is_at (R q)) es
set_apart R o q z c [] a = refl
set_apart R o q z c (e ∷ es) a = set_apart_by R o q z c e es (set_value (is_at (R z)) es c) (is_at (R z) e.0) refl a (set_apart R o q z c es a)

-- ---- removal

remove_all_by : {K X : Type 0} (P : K × X → Type 0) (e : K × X) (es more : List (K × X)) (b : Bool) → AllByRecursion P (e ∷ es) → AllByRecursion P more → AllByRecursion P (cond b es (e ∷ more))
remove_all_by P e es more true a m = a.1
remove_all_by P e es more false a m = (a.0, m)

pub remove_all : {K X : Type 0} (P : K × X → Type 0) (test : K → Bool) (es : List (K × X)) → AllByRecursion P es → AllByRecursion P (remove_entry test es)
remove_all P test [] a = tt
remove_all P test (e ∷ es) a = remove_all_by P e es (remove_entry test es) (test e.0) a (remove_all P test es a.1)

remove_rises_by : {K X : Type 0} (R : K → K → Ordering) (e : K × X) (es more : List (K × X)) (b : Bool) → Rises R (e ∷ es) → Over R e.0 more → Rises R more → Rises R (cond b es (e ∷ more))
remove_rises_by R e es more true r v w = r.1
remove_rises_by R e es more false r v w = (v, w)

pub remove_rises : {K X : Type 0} (R : K → K → Ordering) (test : K → Bool) (es : List (K × X)) → Rises R es → Rises R (remove_entry test es)
remove_rises R test [] r = tt
remove_rises R test (e ∷ es) r = remove_rises_by R e es (remove_entry test es) (test e.0) r (remove_all (λ x. R e.0 x.0 ≡ Less) test es r.0) (remove_rises R test es r.1)

-- a key that is below all is not found
none_over : {K X : Type 0} (R : K → K → Ordering) (z : K) (es : List (K × X)) → Over R z es → lookup (is_at (R z)) es ≡ None
none_over R z [] v = refl
none_over R z (e ∷ es) v = ap (λ (r : Ordering). cond (is_eq r) (Some e.1) (lookup (is_at (R z)) es)) v.0 ∙ none_over R z es v.1

none_at : {X : Type 0} (b : Bool) (x w : Option X) → (b ≡ true → w ≡ None) → w ≡ cond b None (cond b x w)
none_at true x w h = h refl
none_at false x w h = refl

lookup_remove_by : {K X : Type 0} (R : K → K → Ordering) (o : IsOrder R) (q z : K) (e : K × X) (es more : List (K × X)) (b : Bool) → is_at (R z) e.0 ≡ b → Rises R (e ∷ es)
    → lookup (is_at (R q)) more ≡ cond (is_at (R q) z) None (lookup (is_at (R q)) es)
    → lookup (is_at (R q)) (cond b es (e ∷ more)) ≡ cond (is_at (R q) z) None (lookup (is_at (R q)) (e ∷ es))
lookup_remove_by {K} R o q z e es more true h r ih =
    none_at (is_at (R q) e.0) (Some e.1) (lookup (is_at (R q)) es) (λ a. ap (λ (k : K). lookup (is_at (R k)) es) (same_entry R o q e.0 a) ∙ none_over R e.0 es r.0)
    ∙ ap (λ (k : K). cond (is_at (R q) k) None (lookup (is_at (R q)) (e ∷ es))) (sym (same_entry R o z e.0 h))
lookup_remove_by {K} R o q z e es more false h r ih =
    ap (cond (is_at (R q) e.0) (Some e.1)) ih
    ∙ swapped_tests (is_at (R q) e.0) (is_at (R q) z) (Some e.1) None (lookup (is_at (R q)) es)
    (λ a b. absurd (false≢true (sym h ∙ ap (λ (k : K). is_at (R k) e.0) (sym (same_entry R o q z b)) ∙ a)))

none_either : {X : Type 0} (b : Bool) → let n : Option X = None in n ≡ cond b n n
none_either true = refl
none_either false = refl

pub lookup_remove : {K X : Type 0} (R : K → K → Ordering) (o : IsOrder R) (q z : K) (es : List (K × X)) → Rises R es → lookup (is_at (R q)) (remove_entry (is_at (R z)) es) ≡ cond (is_at (R q) z) None (lookup (is_at (R q)) es)
lookup_remove {K} {X} R o q z [] r = none_either {X = X} (is_at (R q) z)
lookup_remove R o q z (e ∷ es) r = lookup_remove_by R o q z e es (remove_entry (is_at (R z)) es) (is_at (R z) e.0) refl r (lookup_remove R o q z es r.1)

-- ---- each entry is found at its key

not_below : {K : Type 0} (R : K → K → Ordering) (o : IsOrder R) (e x : K) → R e x ≡ Less → is_at (R x) e ≡ false
not_below R o e x h = ap is_eq (o.total.antisymm x e ∙ ap ordering_reverse h)

found_behind : {K X : Type 0} (R : K → K → Ordering) (o : IsOrder R) (e : K × X) (es xs : List (K × X)) → Over R e.0 xs → AllByRecursion (λ x. lookup (is_at (R x.0)) es ≡ Some x.1) xs → AllByRecursion (λ x. lookup (is_at (R x.0)) (e ∷ es) ≡ Some x.1) xs
found_behind R o e es [] v a = tt
found_behind R o e es (x ∷ xs) v a = (ap (λ (b : Bool). cond b (Some e.1) (lookup (is_at (R x.0)) es)) (not_below R o e.0 x.0 v.0) ∙ a.0, found_behind R o e es xs v.1 a.1)

pub all_found : {K X : Type 0} (R : K → K → Ordering) (o : IsOrder R) (es : List (K × X)) → Rises R es → AllByRecursion (λ x. lookup (is_at (R x.0)) es ≡ Some x.1) es
all_found R o [] r = tt
all_found R o (e ∷ es) r = (ap (λ (b : Bool). cond b (Some e.1) (lookup (is_at (R e.0)) es)) (at_itself R o e.0), found_behind R o e es es r.0 (all_found R o es r.1))

-- what holds of all entries holds of the one found
found_all_by : {K X : Type 0} (R : K → K → Ordering) (o : IsOrder R) (P : K × X → Type 0) (z : K) (w : X) (e : K × X) (f : Option X) (b : Bool) → is_at (R z) e.0 ≡ b → P e → (f ≡ Some w → P (z, w)) → cond b (Some e.1) f ≡ Some w → P (z, w)
found_all_by {K} {X} R o P z w e f true d p q h = let v : e.1 ≡ w = cc in subst (λ (x : X). P (z, x)) v (subst (λ (k : K). P (k, e.1)) (sym (same_entry R o z e.0 d)) p)
found_all_by R o P z w e f false d p q h = q h

pub found_all : {K X : Type 0} (R : K → K → Ordering) (o : IsOrder R) (P : K × X → Type 0) (z : K) (w : X) (es : List (K × X)) → lookup (is_at (R z)) es ≡ Some w → AllByRecursion P es → P (z, w)
found_all R o P z w [] h a = cc
found_all R o P z w (e ∷ es) h a = found_all_by R o P z w e (lookup (is_at (R z)) es) (is_at (R z) e.0) refl a.0 (λ i. found_all R o P z w es i a.1) h
