-- Items at a place of a list, and the subscription of a key.
use Rattle.std.proofs.Common.{Bool, List, [], ap, arith, false, refl, subst, sym, suc, true, zero, ℕ, ◌<◌, ◌≤◌, ◌∙◌, ◌∷◌, ◌≡◌, length, ltb-true, map, slice_index_or}
use Rattle.std.specs.Prelude.{IsTrue, Some, nat_lt, slice_get}
use Rattle.std.proofs.lemmas.Bool.{lt-ltb}
use Rattle.std.proofs.lemmas.List.{length-map}
use Rattle.lt_terms.specs.Key.{Range, in_range}
use Rattle.lt_terms.specs.Log.{Change, change_key}
use Rattle.lt_tables.specs.Pump.{put_change}
use Rattle.lt_tables.specs.Schema.{change_at}
use Rattle.lt_pump.proofs.GivenLaws.{given_low, given_none, given_one, known_there, there_below}
use Rattle.lt_pump.specs.Given.{AreDisjoint, HasKey, IsOutOfAll, all_given}
use Rattle.lt_pump.specs.View.{view_subscription}
use Rattle.lt_pump.specs.declared.subscription.Subscription.{Subscription}

pub here : {A : Type 0} (xs : List A) (i : ℕ) (x : A) → i < length xs → x ≡ slice_index_or xs i x → slice_get xs i ≡ Some x
here [] i x l e = absurd (omega (arith, l))
here (y ∷ xs) zero x l e = ap Some (sym e)
here (y ∷ xs) (suc i) x l e = here xs i x (omega (arith, l)) e

pub mapped_there : {A B : Type 0} (f : A → B) (xs : List A) (i : ℕ) (x : A) → slice_get xs i ≡ Some x → slice_get (map f xs) i ≡ Some (f x)
mapped_there f [] i x e = absurd cc
mapped_there f (y ∷ xs) zero x e = let d : y ≡ x = cc in ap (λ z. Some (f z)) d
mapped_there f (y ∷ xs) (suc i) x e = mapped_there f xs i x e

pub has_in : (key : List ℕ) (i : ℕ) (all subs : List Subscription) → all ≡ subs → HasKey key i (map view_subscription subs) → HasKey key i (map view_subscription all)
has_in key i all subs e k = subst (λ (xs : List Subscription). HasKey key i (map view_subscription xs)) (sym e) k

pub known_sub : (key : List ℕ) (i : ℕ) (subs : List Subscription) → HasKey key i (map view_subscription subs) → i < length subs
known_sub key i subs k = let l = there_below (map view_subscription subs) i k.sub k.here in omega (arith, l, length-map subs view_subscription)

known_as : (key : List ℕ) (i : ℕ) (subs : List Subscription) (x : Subscription) (k : HasKey key i (map view_subscription subs)) → x ≡ slice_index_or subs i x → k.sub ≡ view_subscription x
known_as key i subs x k is = let e : Some k.sub ≡ Some (view_subscription x) = sym k.here ∙ mapped_there view_subscription subs i x (here subs i x (known_sub key i subs k) is) in cc

-- ---- a change that is handed over

pub hand_none : (key : List ℕ) (c : Change) (all subs : List Subscription) (held : List (List Change)) → key ≡ change_key c → all ≡ subs → IsOutOfAll key (map view_subscription all) → held ≡ all_given (c ∷ []) (map view_subscription subs) held
hand_none key c all subs held e a out = subst (λ (x : List Subscription). held ≡ all_given (c ∷ []) (map view_subscription x) held) a
    (sym (given_none c (map view_subscription all) held (subst (λ (k : List ℕ). IsOutOfAll k (map view_subscription all)) e out)))

not_above : (a b : ℕ) → b ≤ a → nat_lt a b ≡ false
not_above a b l = none (nat_lt a b) refl
  where
    none : (t : Bool) → nat_lt a b ≡ t → t ≡ false
    none true e = let m = ltb-true a b e in absurd (omega (arith, l, m))
    none false e = refl

pub hand_low : (key : List ℕ) (c : Change) (i : ℕ) (all subs : List Subscription) (x : Subscription) (held : List (List Change)) → key ≡ change_key c → all ≡ subs → AreDisjoint (map view_subscription subs) → HasKey key i (map view_subscription all)
    → x ≡ slice_index_or all i x → c.ts ≤ (slice_index_or all i x).from → held ≡ all_given (c ∷ []) (map view_subscription subs) held
hand_low key c i all subs x held e a d k is l =
    let sub = known_as key i all x k is in
    subst (λ (y : List Subscription). AreDisjoint (map view_subscription y) → held ≡ all_given (c ∷ []) (map view_subscription y) held) a
    (λ apart. sym (given_low c (map view_subscription all) held i k.sub apart k.here (subst (λ (z : List ℕ). IsTrue (in_range z k.sub.0)) e k.within) (ap (λ (s : Range × ℕ). nat_lt s.1 c.ts) sub ∙ not_above x.from c.ts (subst (λ (y : Subscription). c.ts ≤ y.from) (sym is) l)))) d

pub hand_one : (key : List ℕ) (c : Change) (i : ℕ) (all subs : List Subscription) (x : Subscription) (held now : List (List Change)) → key ≡ change_key c → all ≡ subs → AreDisjoint (map view_subscription subs) → HasKey key i (map view_subscription all)
    → x ≡ slice_index_or all i x → (slice_index_or all i x).from < c.ts → now ≡ change_at (put_change c) i held → now ≡ all_given (c ∷ []) (map view_subscription subs) held
hand_one key c i all subs x held now e a d k is l n =
    let sub = known_as key i all x k is in
    subst (λ (y : List Subscription). AreDisjoint (map view_subscription y) → now ≡ all_given (c ∷ []) (map view_subscription y) held) a
    (λ apart. n ∙ sym (given_one c (map view_subscription all) held i k.sub apart k.here (subst (λ (z : List ℕ). IsTrue (in_range z k.sub.0)) e k.within) (ap (λ (s : Range × ℕ). nat_lt s.1 c.ts) sub ∙ lt-ltb x.from c.ts (subst (λ (y : Subscription). y.from < c.ts) (sym is) l)))) d

pub hand_known : (key : List ℕ) (i : ℕ) (all subs : List Subscription) (held : List (List Change)) → all ≡ subs → length (map view_subscription subs) ≡ length held → HasKey key i (map view_subscription all) → i < length held
hand_known key i all subs held a m k = known_there key i (map view_subscription all) held k (ap (λ (x : List Subscription). length (map view_subscription x)) a ∙ m)
