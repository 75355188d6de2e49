-- What is left in order where an extent is taken or given back.
use Rattle.std.proofs.Common.{List, ap, ap₂, arith, drop, get_or, inl, inr, length, length-append, refl, subst, sym, take, true, ℕ, ◌+◌, ◌++◌, ◌<◌, ◌∙◌, ◌∷◌, ◌≡◌, ◌≤◌, ◌⊎◌}
use Rattle.std.specs.Prelude.{Contains, IsTrue}
use Rattle.std.proofs.lemmas.Bool.{cases_lt, cases_order}
use Rattle.std.proofs.lemmas.List.{drop_at, get_or_at, get_or_default, take_at}
use Rattle.std.proofs.lemmas.List.Elements.{Contains-append_cases, Contains-append_left, Contains-append_right}
use Rattle.lt_terms.specs.declared.Extent.{Extent}
use Rattle.lt_world.specs.Extents.{apart, end_of, is_gap}
use Rattle.lt_space.specs.declared.gaps.Passed.{Passed}
use Rattle.lt_space.specs.Extents.{Extents, Takes}
use Rattle.lt_space.specs.Order.{AreInOrder, end_after}
use Rattle.lt_space.specs.Taken.{Adds}
use Rattle.lt_space.specs.Gaps.{HasPassed, IsBackTo, IsFirstGap, IsKept}
use Rattle.lt_space.proofs.Orders.{free_gap, gap_free, gap_sides, order_behind, order_joined, order_pair, order_parts}
use Rattle.lt_space.proofs.Overlaps.{apart_by}
use Rattle.lt_space.proofs.Passing.{all_by, has_cases, has_later, of_all, stands}
use Rattle.lt_space.proofs.Spots.{adds_has}

-- ---- what a list with one more has

adds_keeps : (e : Extent) (old new : List Extent) (x : Extent) → Adds e old new → Contains old x → Contains new x
adds_keeps e old new x a has = subst (λ l. Contains l x) (sym a.are) (elim (Contains-append_cases a.before a.after x (subst (λ l. Contains l x) a.were has)) [
  | inl before ↦ Contains-append_left a.before (e ∷ a.after) x before
  | inr after ↦ Contains-append_right a.before (e ∷ a.after) x (has_later e a.after x after)
])

adds_cases : (e : Extent) (old new : List Extent) (x : Extent) → Adds e old new → Contains new x → (e ≡ x) ⊎ Contains old x
adds_cases e old new x a has = elim (Contains-append_cases a.before (e ∷ a.after) x (subst (λ l. Contains l x) a.are has)) [
  | inl before ↦ inr (subst (λ l. Contains l x) (sym a.were) (Contains-append_left a.before a.after x before))
  | inr after ↦ elim (has_cases e a.after x after) [ inl same ↦ inl same | inr later ↦ inr (subst (λ l. Contains l x) (sym a.were) (Contains-append_right a.before a.after x later)) ]
]

-- a gap beside one extent more is one without it, and is apart from that extent
module _ (limit : ℕ) (e : Extent) (old new : List Extent) (adds : Adds e old new) (g : Extent) where
  gap_before : IsTrue (is_gap limit new g) → IsTrue (is_gap limit old g)
  gap_before gap =
      let free = free_gap limit new g gap in
      gap_free limit old g (record { behind_slots = free.behind_slots; below_limit = free.below_limit; apart_from = all_by (apart g) old (λ x has. of_all (apart g) new x free.apart_from (adds_keeps e old new x adds has)) })

  gap_apart : IsTrue (is_gap limit new g) → apart g e ≡ true
  gap_apart gap = of_all (apart g) new e (free_gap limit new g gap).apart_from (adds_has e old new adds)

  gap_after : IsTrue (is_gap limit old g) → apart g e ≡ true → IsTrue (is_gap limit new g)
  gap_after gap is =
      let free = free_gap limit old g gap in
      gap_free limit new g (record {
        behind_slots = free.behind_slots;
        below_limit = free.below_limit;
        apart_from = all_by (apart g) new (λ x has. elim (adds_cases e old new x adds has) [ inl same ↦ subst (λ y. apart g y ≡ true) same is | inr among ↦ of_all (apart g) old x free.apart_from among ]);
      })

-- ---- one extent more

pub kept_taken : (limit : ℕ) (old new : List Extent) (p : Passed) (len : ℕ) → IsKept limit old p → IsFirstGap limit old len p.end → 0 < len → Adds (record { place = p.end; length = len }) old new → AreInOrder 1024 limit new
    → IsKept limit new (record { end = p.end + len; longest = p.longest })
kept_taken limit old new p len kept first some adds order =
    let g : Extent = record { place = p.end; length = len } in
    let free = free_gap limit old g first.free in record {
      order = order;
      passed = record {
        behind_slots = omega (arith, free.behind_slots);
        sides = λ e has. elim (adds_cases g old new e adds has) [
          | inl same ↦ inl (omega (arith, ap end_of same))
          | inr among ↦ elim (gap_sides limit old g e free (of_all (apart g) old e free.apart_from among)) [ inl ends ↦ inr ends | inr behind ↦ inl (omega (arith, behind)) ]
        ];
        gaps = λ e gap before.
            let was = gap_before limit g old new adds e gap in
            elim (cases_lt e.place p.end) [
              | inl sooner ↦ kept.passed.gaps e was sooner
              | inr later ↦ elim (gap_sides limit old e g (free_gap limit old e was) (gap_apart limit g old new adds e gap)) [ inl ends ↦ omega (arith, ends, later) | inr begins ↦ absurd (omega (arith, begins, before)) ]
            ];
      };
    }

-- ---- one extent less

pub order_given : (limit : ℕ) (e : Extent) (new old : List Extent) → Adds e new old → AreInOrder 1024 limit old → AreInOrder 1024 limit new
order_given limit e new old adds order =
    let parts = order_parts 1024 limit adds.before (e ∷ adds.after) (subst (AreInOrder 1024 limit) adds.are order) in
    let begins : end_after 1024 adds.before ≤ e.place = parts.1.0 in
    subst (AreInOrder 1024 limit) (sym adds.were) (order_joined 1024 limit adds.before adds.after parts.0 (order_behind (end_of e) (end_after 1024 adds.before) limit adds.after (omega (arith, begins)) parts.1.2))

-- one of two ends before the other begins, or where it ends
sides_of : (limit : ℕ) (xs : List Extent) (x y : Extent) → AreInOrder 1024 limit xs → Contains xs x → Contains xs y → (end_of y ≤ end_of x) ⊎ (end_of x ≤ y.place)
sides_of limit xs x y order (i, i_within, at_x) (j, j_within, at_y) =
    let here : get_or xs i x ≡ x = at_x in
    let there : get_or xs j x ≡ y = get_or_default xs j x y j_within ∙ at_y in
    elim (cases_order i j) [
      | inl same ↦ inl (omega (arith, ap end_of (sym there ∙ ap (λ n. get_or xs n x) (sym same) ∙ here)))
      | inr (inl less) ↦ inr (omega (arith, order_pair 1024 limit xs i j x order less j_within, ap end_of here, ap (λ (e : Extent). e.place) there))
      | inr (inr more) ↦ inl (omega (arith, order_pair 1024 limit xs j i x order more i_within, ap end_of there, ap (λ (e : Extent). e.place) here))
    ]

passed_given : (limit : ℕ) (e : Extent) (new old : List Extent) (p q : Passed) → AreInOrder 1024 limit new → HasPassed limit old p → Adds e new old → q.longest ≡ p.longest
    → (q.end ≡ 1024) ⊎ ((x : Extent) × Contains new x × (x.place < e.place) × (x.place < p.end) × (q.end ≡ end_of x)) → HasPassed limit new q
passed_given limit e new old p q order passed adds longest (inl first) = record {
  behind_slots = omega (arith, first);
  sides = λ x has. inr (omega (arith, first, (stands 1024 limit new x order has).behind));
  gaps = λ g gap before. absurd (omega (arith, first, (free_gap limit new g gap).behind_slots, before));
}
passed_given limit e new old p q order passed adds longest (inr (x, has_x, before_e, before_end, ends)) = record {
  behind_slots = omega (arith, ends, (stands 1024 limit new x order has_x).behind);
  sides = λ y has. elim (sides_of limit new x y order has_x has) [ inl before ↦ inl (omega (arith, before, ends)) | inr behind ↦ inr (omega (arith, behind, ends)) ];
  gaps = λ g gap before.
      let free = free_gap limit new g gap in
      elim (gap_sides limit new g x free (of_all (apart g) new x free.apart_from has_x)) [
        | inl sooner ↦ omega (arith, longest, passed.gaps g (gap_after limit e new old adds g gap (apart_by g e (inl (omega (arith, sooner, before_e))))) (omega (arith, sooner, before_end)))
        | inr later ↦ absurd (omega (arith, later, before, ends))
      ];
}

pub kept_given : (limit : ℕ) (e : Extent) (new old : List Extent) (p q : Passed) → IsKept limit old p → Adds e new old → IsBackTo new e.place p q → IsKept limit new q
kept_given limit e new old p q kept adds back =
    let order = order_given limit e new old adds kept.order in
    record { order = order; passed = passed_given limit e new old p q order kept.passed adds back.longest back.end }

pub given_takes : (limit : ℕ) (e : Extent) (new old : List Extent) → Adds e new old → Takes e (record { limit = limit; taken = new }) (record { limit = limit; taken = old })
given_takes limit e new old adds = record { before = adds.before; after = adds.after; were = adds.were; are = adds.are; limit = refl }

-- an extent of some bytes stands once
stands_once : (limit : ℕ) (b a b' a' : List Extent) (e : Extent) → 0 < e.length → AreInOrder 1024 limit (b ++ e ∷ a) → b ++ e ∷ a ≡ b' ++ e ∷ a' → length b ≡ length b'
stands_once limit b a b' a' e some order same =
    let all = b ++ e ∷ a in
    let size = length-append b (e ∷ a) in
    let size' = ap length same ∙ length-append b' (e ∷ a') in
    let here : get_or all (length b) e ≡ e = get_or_at b e a e (length b) refl in
    let there : get_or all (length b') e ≡ e = ap (λ l. get_or l (length b') e) same ∙ get_or_at b' e a' e (length b') refl in
    elim (cases_order (length b) (length b')) [
      | inl is ↦ is
      | inr (inl less) ↦ absurd (behind_itself e some (subst (λ x. end_of x ≤ e.place) here (subst (λ y. end_of (get_or all (length b) e) ≤ y.place) there (order_pair 1024 limit all (length b) (length b') e order less (omega (arith, size, size'))))))
      | inr (inr more) ↦ absurd (behind_itself e some (subst (λ x. end_of x ≤ e.place) there (subst (λ y. end_of (get_or all (length b') e) ≤ y.place) here (order_pair 1024 limit all (length b') (length b) e order more (omega (arith, size, size'))))))
    ]
  where
    behind_itself : (e : Extent) → 0 < e.length → end_of e ≤ e.place → ⊥
    behind_itself e some ends = omega (arith, some, ends)

-- so what is left without it is what there was before it was taken
pub given_back : (e : Extent) (before old new : Extents) → 0 < e.length → AreInOrder 1024 old.limit old.taken → Takes e before old → Takes e new old → new ≡ before
given_back e before old new some order taken given =
    let n = length taken.before in
    let same : taken.before ++ e ∷ taken.after ≡ given.before ++ e ∷ given.after = sym taken.are ∙ given.are in
    let at : length given.before ≡ n = sym (stands_once old.limit taken.before taken.after given.before given.after e some (subst (AreInOrder 1024 old.limit) taken.are order) same) in
    let fronts : given.before ≡ taken.before = sym (take_at given.before (e ∷ given.after) n at) ∙ ap (λ l. take n l) (sym same) ∙ take_at taken.before (e ∷ taken.after) n refl in
    let rests : e ∷ given.after ≡ e ∷ taken.after = sym (drop_at given.before (e ∷ given.after) n at) ∙ ap (λ l. drop n l) (sym same) ∙ drop_at taken.before (e ∷ taken.after) n refl in
    ap₂ (λ most all. record { limit = most; taken = all }) (sym given.limit ∙ taken.limit) (given.were ∙ ap₂ (λ (xs ys : List Extent). xs ++ ys) fronts (ap (λ l. drop 1 l) rests) ∙ sym taken.were)
