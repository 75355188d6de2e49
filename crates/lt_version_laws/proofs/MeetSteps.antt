-- Entries that meet a range.
use Rattle.std.proofs.Common.{Bool, List, [], ap, ap₂, arith, cond, drop, false, get_or, length, refl, subst, suc, sym, take, true, zero, ℕ, ◌-◌, ◌<◌, ◌∙◌, ◌∷◌, ◌≡◌, ◌≤◌}
use Rattle.std.specs.Prelude.{None, Option, Some, filter, not, ⊤, ◌&&◌}
use Rattle.std.specs.List.{AllByRecursion, list_all}
use Rattle.std.specs.List.Sorted.{IsPartitionPoint, IsPartitionedBy}
use Rattle.std.proofs.lemmas.Bool.{and_parts}
use Rattle.lt_terms.specs.Key.{Range, below, is_below_high, is_empty_range}
use Rattle.lt_storage.specs.Store.{BundleEntry, entries_rise, entry_meets}
use Rattle.lt_lemmas.proofs.ClipLaws.{below-upto, key-trans}
use Rattle.lt_codecs.proofs.ListFacts.{all_both, all_map}
use Rattle.lt_version_laws.specs.Meets.{AreEntries, MeetSteps}
use Rattle.lt_version_laws.proofs.WindowLaws.{low_below}
use Rattle.lt_lemmas.proofs.SoundLaws.{not-true}
use Rattle.lt_laws.proofs.ClipLaws.{and-false}

-- ---- keys of entries

rest_of : (e : BundleEntry) (es : List BundleEntry) → AreEntries (e ∷ es) → AreEntries es
rest_of e [] a = record { rise = refl; each = refl }
rest_of e (f ∷ es) a = record { rise = (and_parts (below e.last f.first) (entries_rise (f ∷ es)) a.rise).1; each = (and_parts (not (below e.last e.first)) (list_all (λ e. not (below e.last e.first)) (f ∷ es)) a.each).1 }

own_order : (e : BundleEntry) (es : List BundleEntry) → AreEntries (e ∷ es) → below e.last e.first ≡ false
own_order e es a = not-true (below e.last e.first) (and_parts (not (below e.last e.first)) (list_all (λ e. not (below e.last e.first)) es) a.each).0

-- an entry ends below where each behind it begins
behind : (e : BundleEntry) (es : List BundleEntry) → AreEntries (e ∷ es) → AllByRecursion (λ (f : BundleEntry). below e.last f.first ≡ true) es
behind e [] a = tt
behind e (f ∷ es) a =
    let h : below e.last f.first ≡ true = (and_parts (below e.last f.first) (entries_rise (f ∷ es)) a.rise).0 in
    let b = rest_of e (f ∷ es) a in
    (h, all_map (λ (g : BundleEntry). below f.last g.first ≡ true) (λ g. below e.last g.first ≡ true) es (λ g i. key-trans e.last f.last g.first (below-upto e.last f.first f.last h (own_order f es b)) i) (behind f es b))

-- ---- tests that part a list

module _ {X : Type 0} (p : X → Bool) where
  at_index : (P : X → Type 0) (xs : List X) (j : ℕ) (d : X) → AllByRecursion P xs → j < length xs → P (get_or xs j d)
  at_index P [] j d a l = absurd (omega (arith, l))
  at_index P (x ∷ xs) zero d a l = a.0
  at_index P (x ∷ xs) (suc j) d a l = at_index P xs j d a.1 (omega (arith, l))

  -- not-true item that passes comes after one that fails
  Falls : List X → Type 0
  Falls [] = ⊤
  Falls (x ∷ xs) = AllByRecursion (λ y. p y ≡ true → p x ≡ true) xs × Falls xs

  falls_parted : (xs : List X) → Falls xs → IsPartitionedBy p xs
  unfolding Falls
  falls_parted [] f i j d l h e = absurd (omega (arith, h))
  falls_parted (x ∷ xs) f zero zero d l h e = e
  falls_parted (x ∷ xs) f zero (suc j) d l h e = at_index (λ y. p y ≡ true → p x ≡ true) xs j d f.0 (omega (arith, h)) e
  falls_parted (x ∷ xs) f (suc i) zero d l h e = absurd (omega (arith, l))
  falls_parted (x ∷ xs) f (suc i) (suc j) d l h e = falls_parted xs f.1 i j d (omega (arith, l)) (omega (arith, h)) e

  all_false : (xs : List X) → AllByRecursion (λ x. p x ≡ false) xs → filter p xs ≡ []
  all_false [] a = refl
  all_false (x ∷ xs) a = ap (λ (b : Bool). cond b (x ∷ filter p xs) (filter p xs)) a.0 ∙ all_false xs a.1

  abbrev nothing : List X
  nothing = []

  take_nothing : (n : ℕ) → take n nothing ≡ nothing
  take_nothing zero = refl
  take_nothing (suc n) = refl

  -- what fails before one place and from another on, and passes between, is what stands between
  run : (xs : List X) (i j : ℕ) → AllByRecursion (λ x. p x ≡ false) (take i xs) → AllByRecursion (λ x. p x ≡ false) (drop j xs) → AllByRecursion (λ x. p x ≡ true) (take (j - i) (drop i xs)) → filter p xs ≡ take (j - i) (drop i xs)
  run [] zero j a b c = sym (take_nothing (j - 0))
  run [] (suc i) j a b c = sym (take_nothing (j - suc i))
  run (x ∷ xs) zero zero a b c = all_false (x ∷ xs) b
  run (x ∷ xs) zero (suc j) a b c =
      let e : suc j - 0 ≡ suc j = omega arith in
      let f : j - 0 ≡ j = omega arith in
      let d = subst (λ (n : ℕ). AllByRecursion (λ x. p x ≡ true) (take n (x ∷ xs))) e c in
      ap (λ (q : Bool). cond q (x ∷ filter p xs) (filter p xs)) d.0 ∙ ap (λ (l : List X). x ∷ l) (run xs zero j tt b (subst (λ (n : ℕ). AllByRecursion (λ x. p x ≡ true) (take n xs)) (sym f) d.1) ∙ ap (λ (n : ℕ). take n xs) f) ∙ ap (λ (n : ℕ). take n (x ∷ xs)) (sym e)
  run (x ∷ xs) (suc i) zero a b c = let e : 0 - suc i ≡ 0 = omega arith in all_false (x ∷ xs) b ∙ ap (λ (n : ℕ). take n (drop i xs)) (sym e)
  run (x ∷ xs) (suc i) (suc j) a b c =
      let e : suc j - suc i ≡ j - i = omega arith in
      ap (λ (q : Bool). cond q (x ∷ filter p xs) (filter p xs)) a.0 ∙ run xs i j a.1 b (subst (λ (n : ℕ). AllByRecursion (λ x. p x ≡ true) (take n (drop i xs))) e c) ∙ ap (λ (n : ℕ). take n (drop i xs)) (sym e)

module _ {X : Type 0} (P : X → Type 0) where
  -- what is so of each place is so of each item
  from_places : (xs : List X) (i : ℕ) → ((k : ℕ) (d : X) → 0 ≤ k → k < i → P (get_or xs k d)) → AllByRecursion P (take i xs)
  from_places [] zero f = tt
  from_places [] (suc i) f = tt
  from_places (x ∷ xs) zero f = tt
  from_places (x ∷ xs) (suc i) f = (f 0 x (omega arith) (omega arith), from_places xs i (λ k d l h. f (suc k) d (omega arith) (omega (arith, h))))

  rest_places : (xs : List X) (i : ℕ) → ((k : ℕ) (d : X) → i ≤ k → k < length xs → P (get_or xs k d)) → AllByRecursion P (drop i xs)
  rest_places [] zero f = tt
  rest_places [] (suc i) f = tt
  rest_places (x ∷ xs) zero f = (f 0 x (omega arith) (omega arith), rest_places xs zero (λ k d l h. f (suc k) d (omega arith) (omega (arith, h))))
  rest_places (x ∷ xs) (suc i) f = rest_places xs i (λ k d l h. f (suc k) d (omega (arith, l)) (omega (arith, h)))

  some_taken : (n : ℕ) (xs : List X) → AllByRecursion P xs → AllByRecursion P (take n xs)
  some_taken zero [] a = tt
  some_taken zero (x ∷ xs) a = tt
  some_taken (suc n) [] a = tt
  some_taken (suc n) (x ∷ xs) a = (a.0, some_taken n xs a.1)

  taken_between : (xs : List X) (i j : ℕ) → AllByRecursion P (take j xs) → AllByRecursion P (take (j - i) (drop i xs))
  taken_between [] zero j a = some_taken (j - 0) [] tt
  taken_between [] (suc i) j a = some_taken (j - suc i) [] tt
  taken_between (x ∷ xs) zero j a = let e : j - 0 ≡ j = omega arith in subst (λ (n : ℕ). AllByRecursion P (take n (x ∷ xs))) (sym e) a
  taken_between (x ∷ xs) (suc i) zero a = let e : 0 - suc i ≡ 0 = omega arith in subst (λ (n : ℕ). AllByRecursion P (take n (drop i xs))) (sym e) (some_none (drop i xs))
    where
      some_none : (ys : List X) → AllByRecursion P (take 0 ys)
      some_none [] = tt
      some_none (y ∷ ys) = tt
  taken_between (x ∷ xs) (suc i) (suc j) a = let e : suc j - suc i ≡ j - i = omega arith in subst (λ (n : ℕ). AllByRecursion P (take n (drop i xs))) (sym e) (taken_between xs i j a.1)

-- ---- entries

orders : (es : List BundleEntry) → AreEntries es → AllByRecursion (λ (f : BundleEntry). below f.last f.first ≡ false) es
orders [] a = tt
orders (e ∷ es) a = (own_order e es a, orders es (rest_of e es a))

falls_ends : (low : List ℕ) (es : List BundleEntry) → AreEntries es → Falls (λ (e : BundleEntry). below e.last low) es
unfolding Falls
falls_ends low [] a = tt
falls_ends low (e ∷ es) a = (
  all_both (λ (f : BundleEntry). below e.last f.first ≡ true) (λ f. below f.last f.first ≡ false) (λ f. below f.last low ≡ true → below e.last low ≡ true) es
      (λ f h n i. key-trans e.last f.last low (below-upto e.last f.first f.last h n) i) (behind e es a) (orders es (rest_of e es a)),
  falls_ends low es (rest_of e es a),
)

under_too : (e f : BundleEntry) (high : Option (List ℕ)) → below e.last e.first ≡ false → below e.last f.first ≡ true → is_below_high f.first high ≡ true → is_below_high e.first high ≡ true
under_too e f None n h i = refl
under_too e f (Some b) n h i = key-trans e.first f.first b (low_below e.first e.last f.first n h) i

falls_begins : (high : Option (List ℕ)) (es : List BundleEntry) → AreEntries es → Falls (λ (e : BundleEntry). is_below_high e.first high) es
unfolding Falls
falls_begins high [] a = tt
falls_begins high (e ∷ es) a = (
  all_map (λ (f : BundleEntry). below e.last f.first ≡ true) (λ f. is_below_high f.first high ≡ true → is_below_high e.first high ≡ true) es (λ f h i. under_too e f high (own_order e es a) h i) (behind e es a),
  falls_begins high es (rest_of e es a),
)

ended : (r : Range) (e : BundleEntry) → below e.last r.low ≡ true → entry_meets r e ≡ false
ended r e h = ap (λ (x : Bool). x && is_below_high e.first r.high) (and-false (not (is_empty_range r)) (not (below e.last r.low)) (ap not h))

not_begun : (r : Range) (e : BundleEntry) → is_below_high e.first r.high ≡ false → entry_meets r e ≡ false
not_begun r e h = and-false (not (is_empty_range r) && not (below e.last r.low)) (is_below_high e.first r.high) h

meets_so : (r : Range) (e : BundleEntry) → is_empty_range r ≡ false → below e.last r.low ≡ false → is_below_high e.first r.high ≡ true → entry_meets r e ≡ true
meets_so r e n h i = ap₂ (λ (x y : Bool). not x && not y && is_below_high e.first r.high) n h ∙ i

pub entries_met : (r : Range) (es : List BundleEntry) (i j : ℕ) → is_empty_range r ≡ false → IsPartitionPoint (λ e. below e.last r.low ≡ true) (λ e. below e.last r.low ≡ false) es i
    → IsPartitionPoint (λ e. is_below_high e.first r.high ≡ true) (λ e. is_below_high e.first r.high ≡ false) es j → filter (entry_meets r) es ≡ take (j - i) (drop i es)
entries_met r es i j n a b = run (entry_meets r) es i j
    (all_map (λ (e : BundleEntry). below e.last r.low ≡ true) (λ e. entry_meets r e ≡ false) (take i es) (ended r) (from_places (λ (e : BundleEntry). below e.last r.low ≡ true) es i a.0))
    (all_map (λ (e : BundleEntry). is_below_high e.first r.high ≡ false) (λ e. entry_meets r e ≡ false) (drop j es) (not_begun r) (rest_places (λ (e : BundleEntry). is_below_high e.first r.high ≡ false) es j b.1))
    (all_both (λ (e : BundleEntry). below e.last r.low ≡ false) (λ e. is_below_high e.first r.high ≡ true) (λ e. entry_meets r e ≡ true) (take (j - i) (drop i es)) (λ e h k. meets_so r e n h k)
    (some_taken (λ (e : BundleEntry). below e.last r.low ≡ false) (j - i) (drop i es) (rest_places (λ (e : BundleEntry). below e.last r.low ≡ false) es i a.1))
    (taken_between (λ (e : BundleEntry). is_below_high e.first r.high ≡ true) es i j (from_places (λ (e : BundleEntry). is_below_high e.first r.high ≡ true) es j b.0)))

pub meet_steps : MeetSteps
meet_steps = record {
  ends_parted = λ low es a. falls_parted (λ (e : BundleEntry). below e.last low) es (falls_ends low es a);
  begins_parted = λ high es a. falls_parted (λ (e : BundleEntry). is_below_high e.first high) es (falls_begins high es a);
  met = entries_met;
}
