-- How a list is parted into bundles: none is empty, and no two share a key.
use Rattle.std.proofs.Common.{Bool, List, [], ap, arith, cond, false, length, lt-ltb, refl, subst, sym, true, ℕ, ◌++◌, ◌+◌, ◌<◌, ◌∙◌, ◌∷◌, ◌≡◌}
use Rattle.std.specs.Prelude.{IsTrue, flat_map, map, nat_le, nat_lt, ⊤, ◌&&◌, ◌==◌, ◌||◌}
use Rattle.std.proofs.lemmas.List.Sums.{fold-append}
use Rattle.std.proofs.lemmas.Bool.{and_from, and_parts}
use Rattle.std.proofs.lemmas.List.{length-append}
use Rattle.std.specs.List.{list_all}
use Rattle.lt_terms.specs.Key.{below, same_key}
use Rattle.lt_terms.specs.Layout.{Leaf}
use Rattle.lt_tables.specs.Version.{RowVersion, is_ordered, stands_before}
use Rattle.lt_storage.specs.Store.{bare_entry, entries_rise, first_key, last_key}
use Rattle.lt_storage.specs.Bundle.{bundle_bytes, cut, cut_groups, full_size, grouped, with_group}
use Rattle.lt_laws.proofs.ListLaws.{cut-whole}

-- ---- lists of lists whose keys rise from each to the next

abbrev StartsOver : List ℕ → List (List RowVersion) → Type 0
StartsOver k [] = ⊤
StartsOver k (g ∷ gs) = below k (first_key g) ≡ true

abbrev GroupsRise : List (List RowVersion) → Type 0
GroupsRise [] = ⊤
GroupsRise (g ∷ gs) = (0 < length g) × StartsOver (last_key g) gs × GroupsRise gs

last_of_both : (xs : List RowVersion) (y : RowVersion) (ys : List RowVersion) → last_key (xs ++ y ∷ ys) ≡ last_key (y ∷ ys)
last_of_both xs y ys = fold-append (λ k v. v.key) [] xs (y ∷ ys)

last_of_group : (xs g : List RowVersion) → 0 < length g → last_key (xs ++ g) ≡ last_key g
last_of_group xs [] h = absurd (omega (arith, h))
last_of_group xs (y ∷ ys) h = last_of_both xs y ys

-- ---- the versions of each key together

heads : (v : RowVersion) (vs : List RowVersion) → (ws : List RowVersion) × (rest : List (List RowVersion)) × (grouped (v ∷ vs) ≡ (v ∷ ws) ∷ rest)
heads v vs = by_group v (grouped vs)
  where
    by_same : (v w : RowVersion) (ws : List RowVersion) (gs : List (List RowVersion)) (b : Bool) → (us : List RowVersion) × (rest : List (List RowVersion)) × (cond b ((v ∷ w ∷ ws) ∷ gs) ((v ∷ []) ∷ ((w ∷ ws) ∷ gs)) ≡ (v ∷ us) ∷ rest)
    by_same v w ws gs true = (w ∷ ws, gs, refl)
    by_same v w ws gs false = ([], (w ∷ ws) ∷ gs, refl)

    by_group : (v : RowVersion) (gs : List (List RowVersion)) → (ws : List RowVersion) × (rest : List (List RowVersion)) × (with_group v gs ≡ (v ∷ ws) ∷ rest)
    by_group v [] = ([], [], refl)
    by_group v ([] ∷ gs) = ([], gs, refl)
    by_group v ((w ∷ ws) ∷ gs) = by_same v w ws gs (same_key v.key w.key)

put_group : (v w : RowVersion) (ws : List RowVersion) (gs : List (List RowVersion)) (b : Bool) → same_key v.key w.key ≡ b → stands_before v w ≡ true → GroupsRise ((w ∷ ws) ∷ gs) → GroupsRise (cond b ((v ∷ w ∷ ws) ∷ gs) ((v ∷ []) ∷ ((w ∷ ws) ∷ gs)))
put_group v w ws gs true e h r = (omega arith, r.1, r.2)
put_group v w ws gs false e h r = (omega arith, lower (below v.key w.key) refl, r)
  where
    lower : (b : Bool) → below v.key w.key ≡ b → below v.key w.key ≡ true
    lower true f = f
    lower false f = f ∙ sym (ap (λ (x : Bool). x || (same_key v.key w.key && nat_lt w.ts v.ts)) f ∙ ap (λ (x : Bool). x && nat_lt w.ts v.ts) e) ∙ h

groups_rise : (vs : List RowVersion) → IsTrue (is_ordered vs) → GroupsRise (grouped vs)
groups_rise [] h = tt
groups_rise (v ∷ []) h = (omega arith, tt, tt)
groups_rise (v ∷ w ∷ vs) h =
    let p = and_parts (stands_before v w) (is_ordered (w ∷ vs)) h in
    let g = heads w vs in
    subst (λ (gs : List (List RowVersion)). GroupsRise (with_group v gs)) (sym g.2) (put_group v w g.0 g.1 (same_key v.key w.key) refl p.0 (subst GroupsRise g.2 (groups_rise (w ∷ vs) p.1)))

-- ---- bundles

over_end : (k : List ℕ) (begun : List RowVersion) (b : Bool) → (length begun == 0) ≡ b → (0 < length begun → below k (first_key begun) ≡ true) → StartsOver k (cond b [] (begun ∷ []))
over_end k begun true e f = tt
over_end k [] false e f = cc
over_end k (v ∷ vs) false e f = f (omega arith)

first_of_both : (k : List ℕ) (begun g : List RowVersion) → (0 < length begun → below k (first_key begun) ≡ true) → (length begun ≡ 0 → below k (first_key g) ≡ true) → below k (first_key (begun ++ g)) ≡ true
first_of_both k [] g f h = h refl
first_of_both k (v ∷ vs) g f h = f (omega arith)

over_by : (k : List ℕ) (b : Bool) (x : List RowVersion) (xs ys : List (List RowVersion)) → below k (first_key x) ≡ true → StartsOver k ys → StartsOver k (cond b (x ∷ xs) ys)
over_by k true x xs ys h i = h
over_by k false x xs ys h i = i

over_cut : (layout : List Leaf) (k : List ℕ) (begun : List RowVersion) (gs : List (List RowVersion)) → (0 < length begun → below k (first_key begun) ≡ true) → (length begun ≡ 0 → StartsOver k gs) → GroupsRise gs → StartsOver k (cut_groups layout begun gs)
over_cut layout k begun [] f h r = over_end k begun (length begun == 0) refl f
over_cut layout k begun (g ∷ gs) f h r =
    let l : length (begun ++ g) ≡ length begun + length g = length-append begun g in
    let first : below k (first_key (begun ++ g)) ≡ true = first_of_both k begun g f h in
    over_by k (nat_le full_size (length (bundle_bytes layout (begun ++ g)))) (begun ++ g) (cut_groups layout [] gs) (cut_groups layout (begun ++ g) gs) first
    (over_cut layout k (begun ++ g) gs (λ n. first) (λ z. absurd (omega (arith, z, l, r.0))) r.2)

rise_end : (begun : List RowVersion) (b : Bool) → (length begun == 0) ≡ b → GroupsRise (cond b [] (begun ∷ []))
rise_end begun true e = tt
rise_end [] false e = cc
rise_end (v ∷ vs) false e = (omega arith, tt, tt)

rise_by : (b : Bool) (x : List RowVersion) (xs ys : List (List RowVersion)) → 0 < length x → StartsOver (last_key x) xs → GroupsRise xs → GroupsRise ys → GroupsRise (cond b (x ∷ xs) ys)
rise_by true x xs ys h o r s = (h, o, r)
rise_by false x xs ys h o r s = s

rise_cut : (layout : List Leaf) (begun : List RowVersion) (gs : List (List RowVersion)) → (0 < length begun → StartsOver (last_key begun) gs) → GroupsRise gs → GroupsRise (cut_groups layout begun gs)
rise_cut layout begun [] f r = rise_end begun (length begun == 0) refl
rise_cut layout begun (g ∷ gs) f r =
    let l : length (begun ++ g) ≡ length begun + length g = length-append begun g in
    let last : last_key (begun ++ g) ≡ last_key g = last_of_group begun g r.0 in
    let over : StartsOver (last_key (begun ++ g)) gs = subst (λ (k : List ℕ). StartsOver k gs) (sym last) r.1 in
    rise_by (nat_le full_size (length (bundle_bytes layout (begun ++ g)))) (begun ++ g) (cut_groups layout [] gs) (cut_groups layout (begun ++ g) gs) (omega (arith, l, r.0))
    (over_cut layout (last_key (begun ++ g)) [] gs (λ n. absurd (omega (arith, n))) (λ z. over) r.2)
    (rise_cut layout [] gs (λ n. absurd (omega (arith, n))) r.2) (rise_cut layout (begun ++ g) gs (λ n. over) r.2)

none_empty : (gs : List (List RowVersion)) → GroupsRise gs → IsTrue (list_all (λ b. nat_lt 0 (length b)) gs)
none_empty [] r = refl
none_empty (g ∷ gs) r = and_from _ _ (lt-ltb 0 (length g) r.0) (none_empty gs r.2)

entries_over : (gs : List (List RowVersion)) → GroupsRise gs → IsTrue (entries_rise (map bare_entry gs))
entries_over [] r = refl
entries_over (g ∷ []) r = refl
entries_over (g ∷ h ∷ gs) r = and_from _ _ r.1 (entries_over (h ∷ gs) r.2)

some_bundle : (vs : List RowVersion) (bs : List (List RowVersion)) → flat_map (λ b. b) bs ≡ vs → 0 < length vs → 0 < length bs
some_bundle vs [] e h = let z : [] ≡ vs = e in absurd (omega (arith, h, ap length z))
some_bundle vs (b ∷ bs) e h = omega arith

-- none of an ordered list's bundles is empty, and their keys rise
pub cut_parts : (layout : List Leaf) (vs : List RowVersion) → IsTrue (is_ordered vs) → IsTrue (list_all (λ b. nat_lt 0 (length b)) (cut layout vs)) × IsTrue (entries_rise (map bare_entry (cut layout vs)))
unfolding cut
cut_parts layout vs o = let r = rise_cut layout [] (grouped vs) (λ n. absurd (omega (arith, n))) (groups_rise vs o) in (none_empty (cut layout vs) r, entries_over (cut layout vs) r)

-- the bundles of an ordered list that is not empty
pub cut_lawful : (layout : List Leaf) (vs : List RowVersion) → IsTrue (is_ordered vs) → 0 < length vs → IsTrue (nat_lt 0 (length (cut layout vs)) && list_all (λ b. nat_lt 0 (length b)) (cut layout vs) && entries_rise (map bare_entry (cut layout vs)))
cut_lawful layout vs o h = let p = cut_parts layout vs o in and_from _ _ (and_from _ _ (lt-ltb 0 (length (cut layout vs)) (some_bundle vs (cut layout vs) (cut-whole layout vs) h)) p.0) p.1
