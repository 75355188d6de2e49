-- Extents that are taken for pieces one after another, each at the lowest gap; one that finds none is out of room.
use Rattle.std.proofs.Common.{Bool, List, [], ap, ap₂, append-nil, append_assoc, arith, length, refl, subst, suc, sym, take, true, zero, ℕ, ◌+◌, ◌++◌, ◌∙◌, ◌∷◌, ◌≡◌}
use Rattle.std.specs.Prelude.{IsTrue, None, Some, nat_le, slice_get, ◌&&◌}
use Rattle.std.specs.List.{AllByRecursion, list_all}
use Rattle.std.proofs.lemmas.Bool.{and_from, and_parts}
use Rattle.std.proofs.lemmas.List.{length-append, map-append}
use Rattle.lt_terms.specs.declared.Extent.{Extent}
use Rattle.lt_machine.specs.Machine.{is_write, refused}
use Rattle.lt_machine.specs.Sound.{Session}
use Rattle.lt_machine.specs.Outside.{AreBesides, AreTaken}
use Rattle.lt_world.specs.Extents.{IsFull, IsLowestGap, apart, end_of, is_gap}
use Rattle.lt_laws.proofs.ListFacts.{all_at}
use Rattle.lt_tables.specs.Query.{Command}
use Rattle.lt_steps.proofs.RisingLaws.{unbroken}
use Rattle.lt_steps.specs.Rooms.{AreFor, HasAll, RoomIsTaken}
use Rattle.lt_steps.proofs.ImageLaws.{none_placed}

-- ---- one more

taken_more : (most : ℕ) (live taken : List Extent) (e : Extent) → AreTaken most live taken → IsLowestGap most (live ++ taken) e.length e → AreTaken most live (taken ++ e ∷ [])
taken_more most live [] e a g = (subst (λ (l : List Extent). IsLowestGap most l e.length e) (append-nil live) g, tt)
taken_more most live (x ∷ taken) e a g = (a.0, taken_more most (live ++ x ∷ []) taken e a.1 (subst (λ (l : List Extent). IsLowestGap most l e.length e) (sym (append_assoc live (x ∷ []) taken)) g))

take_one : (ns : List ℕ) (k n : ℕ) → slice_get ns k ≡ Some n → take (k + 1) ns ≡ take k ns ++ n ∷ []
take_one [] k n e = cc
take_one (m ∷ ns) zero n e = let d : m ≡ n = cc in ap (λ (x : ℕ). x ∷ []) d
take_one (m ∷ ns) (suc k) n e = let j : suc k + 1 ≡ suc (k + 1) = omega arith in ap (λ (i : ℕ). take i (m ∷ ns)) j ∙ ap (λ (l : List ℕ). m ∷ l) (take_one ns k n e)

for_more : (lengths : List ℕ) (taken : List Extent) (need : ℕ) (e : Extent) → AreFor lengths taken → slice_get lengths (length taken) ≡ Some need → e.length ≡ need → AreFor lengths (taken ++ e ∷ [])
for_more lengths taken need e a g l =
    map-append (λ (e : Extent). e.length) taken (e ∷ []) ∙ ap₂ (λ (xs : List ℕ) (n : ℕ). xs ++ n ∷ []) a l ∙ sym (take_one lengths (length taken) need g) ∙ ap (λ (n : ℕ). take n lengths) (sym (length-append taken (e ∷ [])))

goes_on : (most : ℕ) (live taken : List Extent) (lengths : List ℕ) (need : ℕ) (e : Extent) → AreTaken most live taken → AreFor lengths taken → slice_get lengths (length taken) ≡ Some need → IsLowestGap most (live ++ taken) need e
    → AreTaken most live (taken ++ e ∷ []) × AreFor lengths (taken ++ e ∷ [])
goes_on most live taken lengths need e a b g h = (taken_more most live taken e a (subst (λ (n : ℕ). IsLowestGap most (live ++ taken) n e) (sym h.size) h), for_more lengths taken need e b g h.size)

-- ---- the order of live extents does not matter

all_true : (test : Extent → Bool) (xs : List Extent) → IsTrue (list_all test xs) → AllByRecursion (λ x. test x ≡ true) xs
all_true test [] h = tt
all_true test (x ∷ xs) h = let p = and_parts (test x) (list_all test xs) h in (p.0, all_true test xs p.1)

true_all : (test : Extent → Bool) (xs ys : List Extent) → AllByRecursion (λ x. test x ≡ true) xs → HasAll xs ys → IsTrue (list_all test ys)
true_all test xs [] a h = refl
true_all test xs (y ∷ ys) a h = and_from _ _ (all_at (λ x. test x ≡ true) xs y a h.0) (true_all test xs ys a h.1)

apart_as : (test : Extent → Bool) (xs ys : List Extent) → HasAll xs ys → IsTrue (list_all test xs) → IsTrue (list_all test ys)
apart_as test xs ys h t = true_all test xs ys (all_true test xs t) h

gap_as : (most : ℕ) (xs ys : List Extent) (e : Extent) → HasAll xs ys → IsTrue (is_gap most xs e) → IsTrue (is_gap most ys e)
gap_as most xs ys e h g = let p = and_parts (nat_le 1024 e.place && nat_le (end_of e) most) (list_all (apart e) xs) g in and_from _ _ p.0 (apart_as (apart e) xs ys h p.1)

lowest_as : (most : ℕ) (xs ys : List Extent) (len : ℕ) (e : Extent) → HasAll xs ys → HasAll ys xs → IsLowestGap most xs len e → IsLowestGap most ys len e
lowest_as most xs ys len e h i g = record { size = g.size; free = gap_as most xs ys e h g.free; lowest = λ place f. g.lowest place (gap_as most ys xs (record { place = place; length = len }) i f) }

full_as : (most : ℕ) (xs ys : List Extent) (need room : ℕ) → HasAll xs ys → HasAll ys xs → IsFull most xs need room → IsFull most ys need room
full_as most xs ys need room h i g = record { short = g.short; longest = λ e f. g.longest e (gap_as most ys xs e i f); reached = λ some. let r = g.reached some in (r.0, r.1, gap_as most xs ys r.0 h r.2) }

-- ---- nothing of a failed command

none_failed : (x : Session) (c : Command) → is_write c ≡ true → refused x.state c ≡ None → AreBesides x → x.failed ≡ None
none_failed x c w e h = none_placed x.failed x.state.broken (unbroken x.state c w e) h.of_failed

pub room_is_taken : RoomIsTaken
room_is_taken = record {
  begins = λ most live lengths. (tt, refl);
  goes_on = goes_on;
  out_of_room = λ most live taken lengths need room a b g h. (taken, a, (b, g), h);
  lacks = λ f fs x s' c a taken need room fronts d t b g h. (fs, a, s', fronts, d, (taken, t, (b, g), h));
  none_failed = none_failed;
  lowest = lowest_as;
  full = full_as;
}
