-- The two sides of a key.
use Rattle.std.proofs.Common.{◌≡◌, ℕ, List, [], ◌∷◌, ◌++◌, refl, sym, ap, subst, ◌∙◌, true, false, Ordering, Less, Equal, Greater, All, append_assoc, append-nil, arith, get_or, length, length-append, suc}
use Rattle.std.specs.Prelude.{Bool, IfSome, None, Option, Some, IsSome, cond, filter, is_some, not, slice_get, ◌+◌, ◌-◌, ◌&&◌, ◌≤◌}
use Rattle.std.specs.Map.{keys_of}
use Rattle.std.specs.Ordering.{is_le, is_lt, ordering_reverse}
use Rattle.std.specs.List.{count_by}
use Rattle.std.specs.List.Sorted.{IsStrictlySortedBy}
use Rattle.std.specs.BTreeMap.Range.{entries_between, range_contains}
use Rattle.std.specs.declared.ops.Bound.TheVariants.{Included, Unbounded}
use Rattle.std.proofs.Math.Seq.{get_or-append_seam}
use Rattle.std.proofs.lemmas.Cmp.{nat_list_cmp_total}
use Rattle.std.proofs.lemmas.List.{length-map}
use Rattle.std.proofs.lemmas.List.Elements.{filter-append}
use Rattle.std.proofs.lemmas.List.Kept.{IsStrictlySortedBy-filter}
use Rattle.std.proofs.lemmas.List.Sums.{count_by-le-length, length-filter}
use Rattle.std.proofs.lemmas.Option.{get_or_from_slice_get}
use Rattle.lt_terms.specs.Key.{below, bytes_cmp}
use Rattle.lt_terms.specs.Log.{Change, change_key}
use Rattle.lt_codecs.proofs.ListFacts.{all_front, all_rest}
use Rattle.lt_lemmas.proofs.ClipLaws.{key-trans}
use Rattle.lt_pending.specs.Stamps.{AreNamed, change_at, changes_at, changes_in}
use Rattle.lt_pending.proofs.Puts.{Held, Named, Stamped, key-equal}

-- ---- the changes of one list of keys behind another

pub in-append : (es fs : List Held) → changes_in (es ++ fs) ≡ changes_in es ++ changes_in fs
in-append [] fs = refl
in-append (e ∷ es) fs = ap (λ cs. changes_at e.1.entries ++ cs) (in-append es fs) ∙ sym (append_assoc (changes_at e.1.entries) (changes_in es) (changes_in fs))

-- ---- a test of the key

module _ (q : List ℕ → Bool) where
  abbrev pub tested : List Change → List Change
  tested cs = filter (λ c. q (change_key c)) cs

  test-own : (k : List ℕ) (ss : List Stamped) (cs : List Change) (b : Bool) → q k ≡ b → Named k ss → tested (changes_at ss ++ cs) ≡ cond b (changes_at ss ++ tested cs) (tested cs)
  test-own k [] cs true h n = refl
  test-own k [] cs false h n = refl
  test-own k (s ∷ ss) cs true h n = ap (λ b. cond b (change_at s ∷ tested (changes_at ss ++ cs)) (tested (changes_at ss ++ cs))) (ap q n.0.0 ∙ h) ∙ ap (λ r. change_at s ∷ r) (test-own k ss cs true h n.1)
  test-own k (s ∷ ss) cs false h n = ap (λ b. cond b (change_at s ∷ tested (changes_at ss ++ cs)) (tested (changes_at ss ++ cs))) (ap q n.0.0 ∙ h) ∙ test-own k ss cs false h n.1

  test-by : (e : Held) (es fs : List Held) (b : Bool) → q e.0 ≡ b → Named e.0 e.1.entries → changes_in fs ≡ tested (changes_in es) → changes_in (cond b (e ∷ fs) fs) ≡ tested (changes_in (e ∷ es))
  test-by e es fs true h n i = ap (λ cs. changes_at e.1.entries ++ cs) i ∙ sym (test-own e.0 e.1.entries (changes_in es) true h n)
  test-by e es fs false h n i = i ∙ sym (test-own e.0 e.1.entries (changes_in es) false h n)

  -- the changes of the keys that pass
  test-keys : (p : List ℕ → Bool) (es : List Held) → AreNamed es → ((k : List ℕ) → q k ≡ p k) → changes_in (filter (λ e. p e.0) es) ≡ tested (changes_in es)
  test-keys p [] n h = refl
  test-keys p (e ∷ es) n h = test-by e es (filter (λ e. p e.0) es) (p e.0) (h e.0) n.0 (test-keys p es n.1 h)

-- ---- the keys from one on

from-low : (o : Ordering) → not (is_lt o) ≡ is_le (ordering_reverse o)
from-low Less = refl
from-low Equal = refl
from-low Greater = refl

and-true : (b : Bool) → (b && true) ≡ b
and-true true = refl
and-true false = refl

low-is : (low k : List ℕ) → not (below k low) ≡ range_contains bytes_cmp (Included low) Unbounded k
low-is low k = from-low (bytes_cmp k low) ∙ ap is_le (sym (nat_list_cmp_total.antisymm low k)) ∙ sym (and-true (is_le (bytes_cmp low k)))

-- the keys from one on
abbrev pub from_on : List ℕ → List Held → List Held
from_on low es = entries_between bytes_cmp (Included low) Unbounded es

pub upper-is : (low : List ℕ) (es : List Held) → AreNamed es → changes_in (from_on low es) ≡ filter (λ c. not (below (change_key c) low)) (changes_in es)
upper-is low es n = test-keys (λ k. not (below k low)) (range_contains bytes_cmp (Included low) Unbounded) es n (low-is low)

module _ {K X : Type 0} (test : K → Bool) where
  kept-keys-by : (e : K × X) (es : List (K × X)) (b : Bool) (ks : List K) → keys_of es ≡ ks → keys_of (cond b (e ∷ es) es) ≡ cond b (e.0 ∷ ks) ks
  kept-keys-by e es true ks h = ap (λ l. e.0 ∷ l) h
  kept-keys-by e es false ks h = h

  kept-keys : (es : List (K × X)) → keys_of (filter (λ e. test e.0) es) ≡ filter test (keys_of es)
  kept-keys [] = refl
  kept-keys (e ∷ es) = kept-keys-by e (filter (λ e. test e.0) es) (test e.0) (filter test (keys_of es)) (kept-keys es)

pub upper-sorted : (low : List ℕ) (es : List Held) → IsStrictlySortedBy bytes_cmp (keys_of es) → IsStrictlySortedBy bytes_cmp (keys_of (from_on low es))
upper-sorted low es h =
    let test : List ℕ → Bool = range_contains bytes_cmp (Included low) Unbounded in
    let P : List (List ℕ) → Type 0 = λ ks. IsStrictlySortedBy bytes_cmp ks in
    subst P (sym (kept-keys test es)) (IsStrictlySortedBy-filter bytes_cmp test (keys_of es) h)

pub upper-length : (low : List ℕ) (cs : List Change) → length (filter (λ c. not (below (change_key c) low)) cs) ≤ length cs
upper-length low cs =
    let passes : Change → Bool = λ c. not (below (change_key c) low) in
    let counted : length (filter passes cs) ≡ count_by passes cs = length-filter passes cs in
    let few : count_by passes cs ≤ length cs = count_by-le-length passes cs in
    omega (arith, counted, few)

-- ---- the last key goes

below-by : (k last low : List ℕ) (o : Ordering) → bytes_cmp last k ≡ o → is_lt o ≡ false → below last low ≡ true → below k low ≡ true
below-by k last low Less h i b = cc
below-by k last low Equal h i b = ap (λ x. below x low) (sym (key-equal last k h)) ∙ b
below-by k last low Greater h i b = key-trans k last low (ap is_lt (nat_list_cmp_total.antisymm k last ∙ ap ordering_reverse h)) b

-- all are below, where the greatest is
pub all-below : (low last : List ℕ) (es : List Held) → AreNamed es → below last low ≡ true → All (λ q. is_lt (bytes_cmp last q) ≡ false) (keys_of es) → changes_in es ≡ filter (λ c. below (change_key c) low) (changes_in es)
all-below low last [] n h a = refl
all-below low last (e ∷ es) n h a =
    let b : below e.0 low ≡ true = below-by e.0 last low (bytes_cmp last e.0) refl (a 0 e.0 (omega arith)) h in
    ap (λ cs. changes_at e.1.entries ++ cs) (all-below low last es n.1 h (λ k d l. a (suc k) d (omega arith))) ∙ sym (test-own (λ k. below k low) e.0 e.1.entries (changes_in es) true b n.0)

last-is : (es : List Held) (p last : Held) (n : ℕ) → n ≡ length es → slice_get (es ++ p ∷ []) n ≡ Some last → p ≡ last
last-is es p last n h e = sym (get_or-append_seam es p [] p) ∙ ap (λ i. get_or (es ++ p ∷ []) i p) (sym h) ∙ get_or_from_slice_get (es ++ p ∷ []) n last p e

-- what is left without the last key
pub record IsPopped (low : List ℕ) (old new : List Held) (gone : ℕ) : Type 0 where
  pub below : filter (λ c. below (change_key c) low) (changes_in new) ≡ filter (λ c. below (change_key c) low) (changes_in old)
  pub count : length (changes_in new) + gone ≡ length (changes_in old)
  pub named : AreNamed new

popped-last : (low : List ℕ) (es : List Held) (p : Held) → AreNamed (es ++ p ∷ []) → below p.0 low ≡ false → filter (λ c. below (change_key c) low) (changes_in es) ≡ filter (λ c. below (change_key c) low) (changes_in (es ++ p ∷ []))
popped-last low es p n h =
    let test : List ℕ → Bool = λ k. below k low in
    let own : Named p.0 p.1.entries = (all_rest _ es (p ∷ []) n).0 in
    sym (append-nil (tested test (changes_in es)))
    ∙ ap (λ cs. tested test (changes_in es) ++ cs) (sym (test-own test p.0 p.1.entries [] false h own))
    ∙ sym (filter-append (λ c. test (change_key c)) (changes_in es) (changes_in (p ∷ [])))
    ∙ ap (tested test) (sym (in-append es (p ∷ [])))

pub popped : (low : List ℕ) (o : Option Held) (old new : List Held) (last : Held) (count : ℕ) → IfSome o (λ p. old ≡ new ++ p ∷ []) → length new + cond (is_some o) 1 0 ≡ length old → slice_get old (length old - 1) ≡ Some last
    → IsSome o → AreNamed old → below last.0 low ≡ false → count ≡ length last.1.entries → IsPopped low old new count
popped low None old new last count h i e s n b c = cc
popped low (Some p) old new last count h i e s n b c =
    let same : p ≡ last = last-is new p last (length old - 1) (omega (arith, i)) (ap (λ es. slice_get es (length old - 1)) (sym h) ∙ e) in
    let named : AreNamed (new ++ p ∷ []) = subst (λ (es : List Held). AreNamed es) h n in
    let own : length (changes_in (p ∷ [])) ≡ count = ap length (append-nil (changes_at p.1.entries)) ∙ length-map p.1.entries change_at ∙ ap (λ (x : Held). length x.1.entries) same ∙ sym c in
    let whole : length (changes_in new ++ changes_in (p ∷ [])) ≡ length (changes_in old) = ap length (sym (in-append new (p ∷ []))) ∙ ap (λ es. length (changes_in es)) (sym h) in
    record {
      below = popped-last low new p named (ap (λ (x : Held). below x.0 low) same ∙ b) ∙ ap (λ es. filter (λ c. below (change_key c) low) (changes_in es)) (sym h);
      count = omega (arith, own, whole, length-append (changes_in new) (changes_in (p ∷ [])));
      named = all_front _ new (p ∷ []) named;
    }
