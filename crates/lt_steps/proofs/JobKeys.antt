-- A job goes on key by key: the open bundle is what stands behind those that are closed.
use Rattle.std.proofs.Common.{Bool, List, [], ap, append-nil, arith, cond, drop, eqb-true, false, length, refl, subst, suc, sym, take, true, zero, ℕ, ◌+◌, ◌++◌, ◌∙◌, ◌∷◌, ◌≡◌}
use Rattle.std.specs.Prelude.{Some, nat_le, slice_get, ◌==◌}
use Rattle.std.specs.List.{AllByRecursion}
use Rattle.std.proofs.lemmas.Bool.{false≢true}
use Rattle.lt_machine.specs.Outside.{full_bundles, input_keys, made_of}
use Rattle.lt_storage.specs.Bundle.{bundle_bytes, cut_groups, full_size, grouped, with_group}
use Rattle.lt_terms.specs.Key.{same_key}
use Rattle.lt_terms.specs.Layout.{Leaf}
use Rattle.lt_machine.specs.Machine.{Job}
use Rattle.lt_storage.specs.Store.{Delta, merged_in}
use Rattle.lt_tables.specs.Version.{RowVersion}
use Rattle.lt_laws.proofs.ListLaws.{grouped-flat}
use Rattle.lt_laws.proofs.DurableFacts.{got_is_held}
use Rattle.lt_laws.proofs.ListFacts.{all_at}
use Rattle.lt_lemmas.proofs.MergeLaws.{same-itself, same-key}
use Rattle.lt_lemmas.proofs.SoundLaws.{pick}
use Rattle.lt_steps.proofs.JobMade.{is_merged, keyless_front, taken_parts}
use Rattle.lt_steps.proofs.JobPieces.{AreKeyless, flat, parted_at, settled_all}
use Rattle.lt_steps.specs.Jobs.{JobGoesOn, as_group, open_left}

-- ---- bundles go on

abbrev Groups : Type 0
Groups = List (List RowVersion)

goes_by : (o : List RowVersion) (a b c d : Groups) (x y : List RowVersion) (f : List RowVersion → Groups) (t : Bool) → a ≡ c ++ f x → b ≡ d ++ f y → cond t (o ∷ a) b ≡ cond t (o ∷ c) d ++ f (cond t x y)
goes_by o a b c d x y f true e g = ap (λ (l : Groups). o ∷ l) e
goes_by o a b c d x y f false e g = g

abbrev is_full : List Leaf → List RowVersion → Bool
is_full layout vs = nat_le full_size (length (bundle_bytes layout vs))

full_goes : (layout : List Leaf) (open_one : List RowVersion) (gs hs : Groups) → full_bundles layout open_one (gs ++ hs) ≡ full_bundles layout open_one gs ++ full_bundles layout (open_left layout open_one gs) hs
full_goes layout open_one [] hs = refl
full_goes layout open_one (g ∷ gs) hs = goes_by (open_one ++ g) (full_bundles layout [] (gs ++ hs)) (full_bundles layout (open_one ++ g) (gs ++ hs)) (full_bundles layout [] gs) (full_bundles layout (open_one ++ g) gs)
    (open_left layout [] gs) (open_left layout (open_one ++ g) gs) (λ o. full_bundles layout o hs) (is_full layout (open_one ++ g)) (full_goes layout [] gs hs) (full_goes layout (open_one ++ g) gs hs)

whole_goes : (layout : List Leaf) (open_one : List RowVersion) (gs hs : Groups) → cut_groups layout open_one (gs ++ hs) ≡ full_bundles layout open_one gs ++ cut_groups layout (open_left layout open_one gs) hs
whole_goes layout open_one [] hs = refl
whole_goes layout open_one (g ∷ gs) hs = goes_by (open_one ++ g) (cut_groups layout [] (gs ++ hs)) (cut_groups layout (open_one ++ g) (gs ++ hs)) (full_bundles layout [] gs) (full_bundles layout (open_one ++ g) gs)
    (open_left layout [] gs) (open_left layout (open_one ++ g) gs) (λ o. cut_groups layout o hs) (is_full layout (open_one ++ g)) (whole_goes layout [] gs hs) (whole_goes layout (open_one ++ g) gs hs)

left_by : (a b c d : List RowVersion) (f : List RowVersion → List RowVersion) (t : Bool) → a ≡ f c → b ≡ f d → cond t a b ≡ f (cond t c d)
left_by a b c d f true e g = e
left_by a b c d f false e g = g

left_goes : (layout : List Leaf) (open_one : List RowVersion) (gs hs : Groups) → open_left layout open_one (gs ++ hs) ≡ open_left layout (open_left layout open_one gs) hs
left_goes layout open_one [] hs = refl
left_goes layout open_one (g ∷ gs) hs = left_by (open_left layout [] (gs ++ hs)) (open_left layout (open_one ++ g) (gs ++ hs)) (open_left layout [] gs) (open_left layout (open_one ++ g) gs) (λ o. open_left layout o hs) (is_full layout (open_one ++ g))
    (left_goes layout [] gs hs) (left_goes layout (open_one ++ g) gs hs)

-- ---- one key's versions

abbrev AreOf : List ℕ → List RowVersion → Type 0
AreOf key vs = AllByRecursion (λ v. v.key ≡ key) vs

abbrev IsOneKey : List RowVersion → Type 0
IsOneKey g = (key : List ℕ) × AreOf key g

one_by : (v w : RowVersion) (ws : List RowVersion) (gs : Groups) (b : Bool) → same_key v.key w.key ≡ b → AllByRecursion IsOneKey ((w ∷ ws) ∷ gs) → AllByRecursion IsOneKey (cond b ((v ∷ w ∷ ws) ∷ gs) ((v ∷ []) ∷ ((w ∷ ws) ∷ gs)))
one_by v w ws gs true e a = ((a.0.0, (same-key v.key w.key e ∙ a.0.1.0, a.0.1)), a.1)
one_by v w ws gs false e a = ((v.key, (refl, tt)), a)

one_more : (v : RowVersion) (gs : Groups) → AllByRecursion IsOneKey gs → AllByRecursion IsOneKey (with_group v gs)
one_more v [] a = ((v.key, (refl, tt)), tt)
one_more v ([] ∷ gs) a = ((v.key, (refl, tt)), a.1)
one_more v ((w ∷ ws) ∷ gs) a = one_by v w ws gs (same_key v.key w.key) refl a

groups_one : (vs : List RowVersion) → AllByRecursion IsOneKey (grouped vs)
groups_one [] = tt
groups_one (v ∷ vs) = one_more v (grouped vs) (groups_one vs)

some_by : (vs : List RowVersion) (b : Bool) → b ≡ false → cond b [] (vs ∷ []) ≡ vs ∷ []
some_by vs true e = absurd (false≢true (sym e))
some_by vs false e = refl

some_group : (v : RowVersion) (vs : List RowVersion) → as_group (v ∷ vs) ≡ (v ∷ vs) ∷ []
some_group v vs = some_by (v ∷ vs) (length (v ∷ vs) == 0) (pick (length (v ∷ vs) == 0) (λ e. let z : length (v ∷ vs) ≡ 0 = eqb-true (length (v ∷ vs)) 0 e in absurd (omega (arith, z))) (λ e. e))

joins_by : (v w : RowVersion) (ws : List RowVersion) (b : Bool) → b ≡ true → cond b ((v ∷ w ∷ ws) ∷ []) ((v ∷ []) ∷ ((w ∷ ws) ∷ [])) ≡ (v ∷ w ∷ ws) ∷ []
joins_by v w ws true e = refl
joins_by v w ws false e = absurd (false≢true e)

one_group : (key : List ℕ) (vs : List RowVersion) → AreOf key vs → grouped vs ≡ as_group vs
one_group key [] a = refl
one_group key (v ∷ []) a = sym (some_group v [])
one_group key (v ∷ w ∷ vs) a =
    ap (with_group v) (one_group key (w ∷ vs) a.1 ∙ some_group w vs)
    ∙ joins_by v w vs (same_key v.key w.key) (ap (λ (k : List ℕ). same_key k w.key) (a.0 ∙ sym a.1.0) ∙ same-itself w.key) ∙ sym (some_group v (w ∷ vs))

made_one : (j : Job) (g : List RowVersion) → IsOneKey g → grouped (made_of j g) ≡ as_group (made_of j g)
made_one j g h = one_group h.0 (made_of j g) (settled_all (λ v. v.key ≡ h.0) j.is_major j.minimum g (λ v w e p. e ∙ p) h.1)

-- ---- the next key

take_next : (gs : Groups) (n : ℕ) (g : List RowVersion) → slice_get gs n ≡ Some g → take (n + 1) gs ≡ take n gs ++ g ∷ []
take_next [] n g e = cc
take_next (x ∷ gs) zero g e = let d : x ≡ g = cc in ap (λ (y : List RowVersion). y ∷ []) d
take_next (x ∷ gs) (suc n) g e = let j : suc n + 1 ≡ suc (n + 1) = omega arith in ap (λ (i : ℕ). take i (x ∷ gs)) j ∙ ap (λ (l : Groups). x ∷ l) (take_next gs n g e)

drop_next : (gs : Groups) (n : ℕ) (g : List RowVersion) → slice_get gs n ≡ Some g → drop n gs ≡ g ∷ drop (suc n) gs
drop_next [] n g e = cc
drop_next (x ∷ gs) zero g e = let d : x ≡ g = cc in ap (λ (y : List RowVersion). y ∷ gs) d
drop_next (x ∷ gs) (suc n) g e = drop_next gs n g e

next_key : (shelf : List Delta) (j : Job) (t n : ℕ) (g : List RowVersion) → slice_get (input_keys shelf j t) n ≡ Some g → grouped (made_of j (flat (take (n + 1) (input_keys shelf j t)))) ≡ grouped (made_of j (flat (take n (input_keys shelf j t)))) ++ as_group (made_of j g)
next_key shelf j t n g e =
    let vs = merged_in j.catalogue shelf j.inputs j.range t in
    let gs = grouped vs in
    let alone : flat (g ∷ []) ≡ g = append-nil g in
    let apart : AreKeyless (flat (take n gs)) g = keyless_front (flat (take n gs)) g (flat (drop (suc n) gs)) (subst (AreKeyless (flat (take n gs))) (ap flat (drop_next gs n g e)) (parted_at vs n (is_merged shelf j t))) in
    ap (λ (xs : Groups). grouped (made_of j (flat xs))) (take_next gs n g e) ∙ taken_parts j (take n gs) (g ∷ []) (subst (AreKeyless (flat (take n gs))) (sym alone) apart)
    ∙ ap (λ (xs : Groups). grouped (made_of j (flat (take n gs))) ++ xs) (ap (λ (l : List RowVersion). grouped (made_of j l)) alone ∙ made_one j g (all_at IsOneKey gs g (groups_one vs) (got_is_held gs n g e)))

pub job_goes_on : JobGoesOn
job_goes_on = record {
  full = full_goes;
  whole = whole_goes;
  left = left_goes;
  next_key = next_key;
  all_keys = λ shelf j t. ap (λ (l : List RowVersion). grouped (made_of j l)) (grouped-flat (merged_in j.catalogue shelf j.inputs j.range t));
}
