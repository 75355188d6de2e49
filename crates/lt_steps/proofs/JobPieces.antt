-- What a job has made after some keys is a front of its output: its keys are parted where no key stands on both sides.
use Rattle.std.proofs.Common.{Bool, List, [], ap, cond, drop, false, inl, inr, length, refl, subst, suc, sym, take, true, zero, ℕ, ◌++◌, ◌∙◌, ◌∷◌, ◌≡◌}
use Rattle.std.specs.Prelude.{IsTrue, filter, flat_map, nat_le, nat_lt, ⊤, ◌&&◌, ◌||◌}
use Rattle.std.specs.List.{AllByRecursion}
use Rattle.std.proofs.lemmas.Bool.{and_parts, false≢true, or_cases}
use Rattle.std.proofs.lemmas.List.Elements.{filter-append}
use Rattle.lt_machine.specs.Outside.{full_bundles}
use Rattle.lt_storage.specs.Bundle.{bundle_bytes, cut_groups, full_size, grouped, with_group}
use Rattle.lt_terms.specs.Key.{below, same_key}
use Rattle.lt_terms.specs.Layout.{Leaf}
use Rattle.lt_tables.specs.Version.{RowVersion, collapse, compose, is_insert, is_ordered, onto, rolled_up, stands_before}
use Rattle.lt_laws.proofs.ListLaws.{grouped-flat}
use Rattle.lt_session_laws.proofs.JobOutput.{composed_key}
use Rattle.lt_lemmas.proofs.SnapshotLaws.{apart}
use Rattle.lt_lemmas.proofs.ClipLaws.{key-trans}
use Rattle.lt_codecs.proofs.ListFacts.{all_map}
use Rattle.lt_lemmas.proofs.ListFacts.{all_filter}
use Rattle.lt_lemmas.proofs.MergeLaws.{same-key}

-- ---- lists that share no key

abbrev IsKeyless : List ℕ → List RowVersion → Type 0
IsKeyless key vs = AllByRecursion (λ v. same_key key v.key ≡ false) vs

abbrev pub AreKeyless : List RowVersion → List RowVersion → Type 0
AreKeyless xs ys = AllByRecursion (λ x. IsKeyless x.key ys) xs

-- ---- grouping

group_front_by : (v w : RowVersion) (ws : List RowVersion) (gs hs : List (List RowVersion)) (b : Bool) → cond b ((v ∷ w ∷ ws) ∷ (gs ++ hs)) ((v ∷ []) ∷ ((w ∷ ws) ∷ (gs ++ hs))) ≡ cond b ((v ∷ w ∷ ws) ∷ gs) ((v ∷ []) ∷ ((w ∷ ws) ∷ gs)) ++ hs
group_front_by v w ws gs hs true = refl
group_front_by v w ws gs hs false = refl

-- a version goes to the front of a grouped list
group_front : (v : RowVersion) (g : List RowVersion) (gs hs : List (List RowVersion)) → with_group v ((g ∷ gs) ++ hs) ≡ with_group v (g ∷ gs) ++ hs
group_front v [] gs hs = refl
group_front v (w ∷ ws) gs hs = group_front_by v w ws gs hs (same_key v.key w.key)

-- a grouped list begins with a group of its first version's key
record HasFirst (v : RowVersion) (gs : List (List RowVersion)) : Type 0 where
  others : List RowVersion
  rest : List (List RowVersion)
  is : gs ≡ (v ∷ others) ∷ rest

first_by : (v w : RowVersion) (ws : List RowVersion) (gs : List (List RowVersion)) (b : Bool) → HasFirst v (cond b ((v ∷ w ∷ ws) ∷ gs) ((v ∷ []) ∷ ((w ∷ ws) ∷ gs)))
first_by v w ws gs true = record { others = w ∷ ws; rest = gs; is = refl }
first_by v w ws gs false = record { others = []; rest = (w ∷ ws) ∷ gs; is = refl }

has_first : (v : RowVersion) (gs : List (List RowVersion)) → HasFirst v (with_group v gs)
has_first v [] = record { others = []; rest = []; is = refl }
has_first v ([] ∷ gs) = record { others = []; rest = gs; is = refl }
has_first v ((w ∷ ws) ∷ gs) = first_by v w ws gs (same_key v.key w.key)

alone_by : (v w : RowVersion) (ws : List RowVersion) (gs : List (List RowVersion)) (b : Bool) → b ≡ false → cond b ((v ∷ w ∷ ws) ∷ gs) ((v ∷ []) ∷ ((w ∷ ws) ∷ gs)) ≡ (v ∷ []) ∷ ((w ∷ ws) ∷ gs)
alone_by v w ws gs true e = absurd (false≢true (sym e))
alone_by v w ws gs false e = refl

-- before a list without its key a version stands alone
stands_alone : (v : RowVersion) (ys : List RowVersion) → IsKeyless v.key ys → with_group v (grouped ys) ≡ (v ∷ []) ∷ grouped ys
stands_alone v [] a = refl
stands_alone v (y ∷ ys) a =
    let f = has_first y (grouped ys) in
    ap (with_group v) f.is ∙ alone_by v y f.others f.rest (same_key v.key y.key) a.0 ∙ ap (λ (gs : List (List RowVersion)). (v ∷ []) ∷ gs) (sym f.is)

pub grouped_parts : (xs ys : List RowVersion) → AreKeyless xs ys → grouped (xs ++ ys) ≡ grouped xs ++ grouped ys
grouped_parts [] ys a = refl
grouped_parts (x ∷ []) ys a = stands_alone x ys a.0
grouped_parts (x ∷ z ∷ xs) ys a =
    let f = has_first z (grouped xs) in
    ap (with_group x) (grouped_parts (z ∷ xs) ys a.1 ∙ ap (λ (gs : List (List RowVersion)). gs ++ grouped ys) f.is) ∙ group_front x (z ∷ f.others) f.rest (grouped ys) ∙ ap (λ (gs : List (List RowVersion)). with_group x gs ++ grouped ys) (sym f.is)

-- ---- rolling up

-- the first version has another key
abbrev StartsOther : List ℕ → List RowVersion → Type 0
StartsOther key [] = ⊤
StartsOther key (w ∷ ws) = same_key key w.key ≡ false

onto_other : (v : RowVersion) (ws : List RowVersion) → StartsOther v.key ws → onto v ws ≡ v ∷ ws
onto_other v [] o = refl
onto_other v (w ∷ ws) o = ap (λ (b : Bool). cond b (compose w v ∷ ws) (v ∷ w ∷ ws)) o

onto_front_by : (v w : RowVersion) (ws ys : List RowVersion) (b : Bool) → cond b (compose w v ∷ (ws ++ ys)) (v ∷ w ∷ (ws ++ ys)) ≡ cond b (compose w v ∷ ws) (v ∷ w ∷ ws) ++ ys
onto_front_by v w ws ys true = refl
onto_front_by v w ws ys false = refl

onto_parts : (v : RowVersion) (ws ys : List RowVersion) → StartsOther v.key ys → onto v (ws ++ ys) ≡ onto v ws ++ ys
onto_parts v [] ys o = onto_other v ys o
onto_parts v (w ∷ ws) ys o = onto_front_by v w ws ys (same_key v.key w.key)

-- what is rolled up begins with a version of the same key
onto_starts_by : (key : List ℕ) (v w : RowVersion) (ws : List RowVersion) (b : Bool) → same_key key v.key ≡ false → StartsOther key (cond b (compose w v ∷ ws) (v ∷ w ∷ ws))
onto_starts_by key v w ws true o = ap (same_key key) (composed_key w v) ∙ o
onto_starts_by key v w ws false o = o

onto_starts : (key : List ℕ) (v : RowVersion) (ws : List RowVersion) → same_key key v.key ≡ false → StartsOther key (onto v ws)
onto_starts key v [] o = o
onto_starts key v (w ∷ ws) o = onto_starts_by key v w ws (same_key v.key w.key) o

rolled_starts_by : (key : List ℕ) (v : RowVersion) (ws : List RowVersion) (b : Bool) → same_key key v.key ≡ false → StartsOther key (cond b (v ∷ ws) (onto v ws))
rolled_starts_by key v ws true o = o
rolled_starts_by key v ws false o = onto_starts key v ws o

rolled_starts : (key : List ℕ) (t : ℕ) (ys : List RowVersion) → IsKeyless key ys → StartsOther key (rolled_up t ys)
rolled_starts key t [] a = tt
rolled_starts key t (y ∷ ys) a = rolled_starts_by key y (rolled_up t ys) (nat_lt t y.ts) a.0

rolled_by : (v : RowVersion) (ws ys : List RowVersion) (b : Bool) → StartsOther v.key ys → cond b (v ∷ (ws ++ ys)) (onto v (ws ++ ys)) ≡ cond b (v ∷ ws) (onto v ws) ++ ys
rolled_by v ws ys true o = refl
rolled_by v ws ys false o = onto_parts v ws ys o

rolled_parts : (t : ℕ) (xs ys : List RowVersion) → AreKeyless xs ys → rolled_up t (xs ++ ys) ≡ rolled_up t xs ++ rolled_up t ys
rolled_parts t [] ys a = refl
rolled_parts t (x ∷ xs) ys a =
    ap (λ (vs : List RowVersion). cond (nat_lt t x.ts) (x ∷ vs) (onto x vs)) (rolled_parts t xs ys a.1) ∙ rolled_by x (rolled_up t xs) (rolled_up t ys) (nat_lt t x.ts) (rolled_starts x.key t ys a.0)

-- what goes by keys alone passes over to what is rolled up
abbrev GoesByKey : (RowVersion → Type 0) → Type 0
GoesByKey P = (v w : RowVersion) → w.key ≡ v.key → P v → P w

onto_all_by : (P : RowVersion → Type 0) (v w : RowVersion) (ws : List RowVersion) (b : Bool) → GoesByKey P → P v → AllByRecursion P (w ∷ ws) → AllByRecursion P (cond b (compose w v ∷ ws) (v ∷ w ∷ ws))
onto_all_by P v w ws true g p a = (g v (compose w v) (composed_key w v) p, a.1)
onto_all_by P v w ws false g p a = (p, a)

onto_all : (P : RowVersion → Type 0) (v : RowVersion) (ws : List RowVersion) → GoesByKey P → P v → AllByRecursion P ws → AllByRecursion P (onto v ws)
onto_all P v [] g p a = (p, tt)
onto_all P v (w ∷ ws) g p a = onto_all_by P v w ws (same_key v.key w.key) g p a

rolled_all_by : (P : RowVersion → Type 0) (v : RowVersion) (ws : List RowVersion) (b : Bool) → GoesByKey P → P v → AllByRecursion P ws → AllByRecursion P (cond b (v ∷ ws) (onto v ws))
rolled_all_by P v ws true g p a = (p, a)
rolled_all_by P v ws false g p a = onto_all P v ws g p a

rolled_all : (P : RowVersion → Type 0) (t : ℕ) (vs : List RowVersion) → GoesByKey P → AllByRecursion P vs → AllByRecursion P (rolled_up t vs)
rolled_all P t [] g a = tt
rolled_all P t (v ∷ vs) g a = rolled_all_by P v (rolled_up t vs) (nat_lt t v.ts) g a.0 (rolled_all P t vs g a.1)

-- ---- what a job makes

abbrev pub settled : Bool → ℕ → List RowVersion → List RowVersion
settled b m vs = cond b (collapse m vs) vs

collapse_all : (P : RowVersion → Type 0) (m : ℕ) (vs : List RowVersion) → GoesByKey P → AllByRecursion P vs → AllByRecursion P (collapse m vs)
unfolding collapse
collapse_all P m vs g a = all_filter P (λ v. nat_lt m v.ts || is_insert v.op) (rolled_up m vs) (rolled_all P m vs g a)

pub settled_all : (P : RowVersion → Type 0) (b : Bool) (m : ℕ) (vs : List RowVersion) → GoesByKey P → AllByRecursion P vs → AllByRecursion P (settled b m vs)
settled_all P true m vs g a = collapse_all P m vs g a
settled_all P false m vs g a = a

collapse_parts : (m : ℕ) (xs ys : List RowVersion) → AreKeyless xs ys → collapse m (xs ++ ys) ≡ collapse m xs ++ collapse m ys
unfolding collapse
collapse_parts m xs ys a = ap (filter (λ v. nat_lt m v.ts || is_insert v.op)) (rolled_parts m xs ys a) ∙ filter-append (λ v. nat_lt m v.ts || is_insert v.op) (rolled_up m xs) (rolled_up m ys)

settled_parts : (b : Bool) (m : ℕ) (xs ys : List RowVersion) → AreKeyless xs ys → settled b m (xs ++ ys) ≡ settled b m xs ++ settled b m ys
settled_parts true m xs ys a = collapse_parts m xs ys a
settled_parts false m xs ys a = refl

settled_keyless : (b : Bool) (m : ℕ) (xs ys : List RowVersion) → AreKeyless xs ys → AreKeyless (settled b m xs) (settled b m ys)
settled_keyless b m xs ys a =
    settled_all (λ x. IsKeyless x.key (settled b m ys)) b m xs (λ v w e h. subst (λ (k : List ℕ). IsKeyless k (settled b m ys)) (sym e) h)
    (all_map (λ x. IsKeyless x.key ys) (λ x. IsKeyless x.key (settled b m ys)) xs (λ x h. settled_all (λ y. same_key x.key y.key ≡ false) b m ys (λ v w e i. ap (same_key x.key) e ∙ i) h) a)

-- grouped by key, what is made of the first keys comes first
pub groups_settled : (b : Bool) (m : ℕ) (xs ys : List RowVersion) → AreKeyless xs ys → grouped (settled b m (xs ++ ys)) ≡ grouped (settled b m xs) ++ grouped (settled b m ys)
groups_settled b m xs ys a = ap grouped (settled_parts b m xs ys a) ∙ grouped_parts (settled b m xs) (settled b m ys) (settled_keyless b m xs ys a)

-- ---- fronts

abbrev pub IsFront : {A : Type 0} → List A → List A → Type 0
IsFront {A} xs ys = (rest : List A) × (ys ≡ xs ++ rest)

full_by : (open_one g : List RowVersion) (full more cutting : List (List RowVersion)) (rest : List (List RowVersion)) (b : Bool) → IsFront full more → IsFront rest cutting → IsFront (cond b ((open_one ++ g) ∷ full) rest) (cond b ((open_one ++ g) ∷ more) cutting)
full_by open_one g full more cutting rest true h i = (h.0, ap (λ (l : List (List RowVersion)). (open_one ++ g) ∷ l) h.1)
full_by open_one g full more cutting rest false h i = i

-- the bundles that are closed by size are a front of those of more groups, and of the cut
pub full_front : (layout : List Leaf) (open_one : List RowVersion) (gs hs : List (List RowVersion)) → IsFront (full_bundles layout open_one gs) (full_bundles layout open_one (gs ++ hs))
full_front layout open_one [] hs = (full_bundles layout open_one hs, refl)
full_front layout open_one (g ∷ gs) hs = full_by open_one g (full_bundles layout [] gs) (full_bundles layout [] (gs ++ hs)) (full_bundles layout (open_one ++ g) (gs ++ hs)) (full_bundles layout (open_one ++ g) gs)
    (nat_le full_size (length (bundle_bytes layout (open_one ++ g)))) (full_front layout [] gs hs) (full_front layout (open_one ++ g) gs hs)

pub cut_front : (layout : List Leaf) (open_one : List RowVersion) (gs hs : List (List RowVersion)) → IsFront (full_bundles layout open_one gs) (cut_groups layout open_one (gs ++ hs))
cut_front layout open_one [] hs = (cut_groups layout open_one hs, refl)
cut_front layout open_one (g ∷ gs) hs = full_by open_one g (full_bundles layout [] gs) (cut_groups layout [] (gs ++ hs)) (cut_groups layout (open_one ++ g) (gs ++ hs)) (full_bundles layout (open_one ++ g) gs)
    (nat_le full_size (length (bundle_bytes layout (open_one ++ g)))) (cut_front layout [] gs hs) (cut_front layout (open_one ++ g) gs hs)

-- ---- an ordered list is parted by its groups where no key stands on both sides

abbrev pub flat : List (List RowVersion) → List RowVersion
flat gs = flat_map (λ g. g) gs

with_group_by : (v w : RowVersion) (ws : List RowVersion) (gs : List (List RowVersion)) (b : Bool) → flat (cond b ((v ∷ w ∷ ws) ∷ gs) ((v ∷ []) ∷ ((w ∷ ws) ∷ gs))) ≡ v ∷ flat ((w ∷ ws) ∷ gs)
with_group_by v w ws gs true = refl
with_group_by v w ws gs false = refl

with_group_flat : (v : RowVersion) (gs : List (List RowVersion)) → flat (with_group v gs) ≡ v ∷ flat gs
with_group_flat v [] = refl
with_group_flat v ([] ∷ gs) = refl
with_group_flat v ((w ∷ ws) ∷ gs) = with_group_by v w ws gs (same_key v.key w.key)

-- a key below the first of an ordered list is below all
below_next : (key : List ℕ) (v w : RowVersion) → below key v.key ≡ true → stands_before v w ≡ true → below key w.key ≡ true
below_next key v w h s = elim (or_cases (below v.key w.key) (same_key v.key w.key && nat_lt w.ts v.ts) s) [
  | inl b ↦ key-trans key v.key w.key h b
  | inr q ↦ subst (λ (k : List ℕ). below key k ≡ true) (same-key v.key w.key (and_parts (same_key v.key w.key) (nat_lt w.ts v.ts) q).0) h
]

below_all : (key : List ℕ) (v : RowVersion) (vs : List RowVersion) → below key v.key ≡ true → IsTrue (is_ordered (v ∷ vs)) → IsKeyless key (v ∷ vs)
below_all key v [] h o = (apart key v.key h, tt)
below_all key v (w ∷ vs) h o = let p = and_parts (stands_before v w) (is_ordered (w ∷ vs)) o in (apart key v.key h, below_all key w vs (below_next key v w h p.0) p.1)

first_below : (v w : RowVersion) → stands_before v w ≡ true → same_key v.key w.key ≡ false → below v.key w.key ≡ true
first_below v w s n = elim (or_cases (below v.key w.key) (same_key v.key w.key && nat_lt w.ts v.ts) s) [ inl b ↦ b | inr q ↦ absurd (false≢true (sym n ∙ (and_parts (same_key v.key w.key) (nat_lt w.ts v.ts) q).0)) ]

keyless_as : (a b : List ℕ) (ys : List RowVersion) → same_key a b ≡ true → IsKeyless b ys → IsKeyless a ys
keyless_as a b ys e h = subst (λ (k : List ℕ). IsKeyless k ys) (sym (same-key a b e)) h

-- parts of a list
some_of_flat : (P : RowVersion → Type 0) (n : ℕ) (gs : List (List RowVersion)) → AllByRecursion P (flat gs) → AllByRecursion P (flat (drop n gs))
some_of_flat P zero gs a = a
some_of_flat P (suc n) [] a = a
some_of_flat P (suc n) (g ∷ gs) a = some_of_flat P n gs (rest_of g (flat gs) a)
  where
    rest_of : (xs ys : List RowVersion) → AllByRecursion P (xs ++ ys) → AllByRecursion P ys
    rest_of [] ys a = a
    rest_of (x ∷ xs) ys a = rest_of xs ys a.1

abbrev ArePartedAt : ℕ → List (List RowVersion) → Type 0
ArePartedAt n gs = AreKeyless (flat (take n gs)) (flat (drop n gs))

parted_by : (v w : RowVersion) (ws : List RowVersion) (gs : List (List RowVersion)) (vs : List RowVersion) (n : ℕ) (b : Bool) → same_key v.key w.key ≡ b → (b ≡ false → IsKeyless v.key vs) → flat ((w ∷ ws) ∷ gs) ≡ vs
    → ((m : ℕ) → ArePartedAt m ((w ∷ ws) ∷ gs)) → ArePartedAt n (cond b ((v ∷ w ∷ ws) ∷ gs) ((v ∷ []) ∷ ((w ∷ ws) ∷ gs)))
parted_by v w ws gs vs zero true e f g h = tt
parted_by v w ws gs vs zero false e f g h = tt
parted_by v w ws gs vs (suc n) true e f g h = let i = h (suc n) in (keyless_as v.key w.key (flat (drop n gs)) e i.0, i)
parted_by v w ws gs vs (suc n) false e f g h = (some_of_flat (λ y. same_key v.key y.key ≡ false) n ((w ∷ ws) ∷ gs) (subst (IsKeyless v.key) (sym g) (f refl)), h n)

pub parted_at : (vs : List RowVersion) (n : ℕ) → IsTrue (is_ordered vs) → ArePartedAt n (grouped vs)
parted_at [] zero o = tt
parted_at [] (suc n) o = tt
parted_at (v ∷ []) zero o = tt
parted_at (v ∷ []) (suc zero) o = (tt, tt)
parted_at (v ∷ []) (suc (suc n)) o = (tt, tt)
parted_at (v ∷ w ∷ vs) n o =
    let p = and_parts (stands_before v w) (is_ordered (w ∷ vs)) o in
    let f = has_first w (grouped vs) in
    subst (λ (gs : List (List RowVersion)). ArePartedAt n (with_group v gs)) (sym f.is)
    (parted_by v w f.others f.rest (w ∷ vs) n (same_key v.key w.key) refl (λ e. below_all v.key w vs (first_below v w p.0 e) p.1) (ap flat (sym f.is) ∙ grouped-flat (w ∷ vs))
    (λ m. subst (ArePartedAt m) f.is (parted_at (w ∷ vs) m p.1)))
