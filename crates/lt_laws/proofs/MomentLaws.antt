-- Reading a list of row versions at a moment, and collapsing it up to one.
use Rattle.std.proofs.Common.{Equal, Greater, Less, List, Ordering, [], ap, arith, eqb-true, false, inl, inr, le-leb, le-ltb, lt-ltb, ltb-false, ltb-true, refl, subst, sym, true, ℕ, ◌∙◌, ◌∷◌, ◌≡◌}
use Rattle.std.specs.Prelude.{Bool, IsTrue, cond, filter, if◌then◌else◌, map, nat_le, nat_lt, not, ⊤, ◌&&◌, ◌<◌, ◌==◌, ◌||◌, ◌≤◌}
use Rattle.std.specs.Ordering.{is_eq, is_lt}
use Rattle.std.specs.List.{AllByRecursion}
use Rattle.std.proofs.lemmas.Bool.{and_parts, lt-leb, or_cases}
use Rattle.lt_terms.specs.Key.{Range, below, bytes_cmp, in_range, same_key}
use Rattle.lt_terms.specs.declared.Op.{Op}
use Rattle.lt_terms.specs.Layout.{Cell}
use Rattle.lt_tables.specs.Version.{RowVersion, asof, clip, collapse, compose, is_insert, is_ordered, merge, onto, overlay, put_version, put_versions, rolled_up, same_name, stands_before}
use Rattle.lt_lemmas.proofs.MergeLaws.{Above, above-before, above-same, before-not, before-other, filter-above, filter-ordered, ordered-above, ordered-cons, ordered-tail, same-back, same-itself, same-key, same-not-before}
use Rattle.lt_lemmas.proofs.ClipLaws.{key-less, key-trans}
use Rattle.lt_laws.proofs.ComposeLemmas.{overlay-assoc}
use Rattle.lt_laws.proofs.ClipLaws.{filter-swap}
use Rattle.lt_laws.proofs.MergeLaws.{merge-alone, merge-ordered, puts-ordered}
use Rattle.lt_terms.specs.declared.Op.TheVariants as ops

-- ---- reading at a moment keeps order

onto-above-by : (u v w : RowVersion) (ws : List RowVersion) (b : Bool) → IsTrue (stands_before u v) → Above u (w ∷ ws) → Above u (cond b (compose w v ∷ ws) (v ∷ w ∷ ws))
unfolding compose
onto-above-by u v w ws true h a = (h, a.1)
onto-above-by u v w ws false h a = (h, a)

onto-above : (u v : RowVersion) (ws : List RowVersion) → IsTrue (stands_before u v) → Above u ws → Above u (onto v ws)
onto-above u v [] h a = (h, tt)
onto-above u v (w ∷ ws) h a = onto-above-by u v w ws (same_key v.key w.key) h a

onto-ordered-by : (v w : RowVersion) (ws : List RowVersion) (b : Bool) → Above v (w ∷ ws) → IsTrue (is_ordered (w ∷ ws)) → IsTrue (is_ordered (cond b (compose w v ∷ ws) (v ∷ w ∷ ws)))
unfolding compose
onto-ordered-by v w ws true a h = ordered-cons (compose w v) ws a.1 (ordered-tail w ws h)
onto-ordered-by v w ws false a h = ordered-cons v (w ∷ ws) a h

onto-ordered : (v : RowVersion) (ws : List RowVersion) → Above v ws → IsTrue (is_ordered ws) → IsTrue (is_ordered (onto v ws))
onto-ordered v [] a h = refl
onto-ordered v (w ∷ ws) a h = onto-ordered-by v w ws (same_key v.key w.key) a h

rolled-above-by : (u v : RowVersion) (ws : List RowVersion) (b : Bool) → IsTrue (stands_before u v) → Above u ws → Above u (cond b (v ∷ ws) (onto v ws))
rolled-above-by u v ws true h a = (h, a)
rolled-above-by u v ws false h a = onto-above u v ws h a

pub rolled-above : (t : ℕ) (u : RowVersion) (vs : List RowVersion) → Above u vs → Above u (rolled_up t vs)
rolled-above t u [] a = tt
rolled-above t u (v ∷ vs) a = rolled-above-by u v (rolled_up t vs) (nat_lt t v.ts) a.0 (rolled-above t u vs a.1)

rolled-ordered-by : (v : RowVersion) (ws : List RowVersion) (b : Bool) → Above v ws → IsTrue (is_ordered ws) → IsTrue (is_ordered (cond b (v ∷ ws) (onto v ws)))
rolled-ordered-by v ws true a h = ordered-cons v ws a h
rolled-ordered-by v ws false a h = onto-ordered v ws a h

pub rolled-ordered : (t : ℕ) (vs : List RowVersion) → IsTrue (is_ordered vs) → IsTrue (is_ordered (rolled_up t vs))
rolled-ordered t [] h = refl
rolled-ordered t (v ∷ vs) h = rolled-ordered-by v (rolled_up t vs) (nat_lt t v.ts) (rolled-above t v vs (ordered-above v vs h)) (rolled-ordered t vs (ordered-tail v vs h))

pub asof-ordered : (t : ℕ) (vs : List RowVersion) → IsTrue (is_ordered vs) → IsTrue (is_ordered (asof t vs))
unfolding asof
asof-ordered t vs h = filter-ordered (λ v. nat_le v.ts t && is_insert v.op) (rolled_up t vs) (rolled-ordered t vs h)

pub collapse-ordered : (m : ℕ) (vs : List RowVersion) → IsTrue (is_ordered vs) → IsTrue (is_ordered (collapse m vs))
unfolding collapse
collapse-ordered m vs h = filter-ordered (λ v. nat_lt m v.ts || is_insert v.op) (rolled_up m vs) (rolled-ordered m vs h)

-- ---- the rows at a moment, made version by version

unfoldable pub without : List ℕ → List RowVersion → List RowVersion
without key vs = filter (λ z. not (same_key key z.key)) vs

pub lay : RowVersion → RowVersion → RowVersion
lay v z = if same_key v.key z.key then record z { ts = v.ts; cells = overlay z.cells v.cells } else z

unfoldable pub laid_by : Op → RowVersion → List RowVersion → List RowVersion
laid_by ops.Insert v rows = v ∷ without v.key rows
laid_by ops.Update v rows = map (lay v) rows
laid_by ops.Delete v rows = without v.key rows

abbrev pub laid : RowVersion → List RowVersion → List RowVersion
laid v rows = laid_by v.op v rows

-- the versions above t, where they are kept, and the rows made of those up to t
abbrev lists_at : Bool → ℕ → List RowVersion → List RowVersion
lists_at keep t [] = []
lists_at keep t (v ∷ vs) = if nat_lt t v.ts then cond keep (v ∷ lists_at keep t vs) (lists_at keep t vs) else laid v (lists_at keep t vs)

abbrev pub rows_at : ℕ → List RowVersion → List RowVersion
rows_at t vs = lists_at false t vs

without-cons : (key : List ℕ) (z : RowVersion) (zs : List RowVersion) (b : Bool) → same_key key z.key ≡ b → without key (z ∷ zs) ≡ cond (not b) (z ∷ without key zs) (without key zs)
unfolding without
without-cons key z zs b e = ap (λ b. cond (not b) (z ∷ without key zs) (without key zs)) e

without-twice-by : (key : List ℕ) (z : RowVersion) (zs : List RowVersion) (b : Bool) → same_key key z.key ≡ b → without key (without key zs) ≡ without key zs → without key (cond (not b) (z ∷ without key zs) (without key zs)) ≡ cond (not b) (z ∷ without key zs) (without key zs)
without-twice-by key z zs true e h = h
without-twice-by key z zs false e h = without-cons key z (without key zs) false e ∙ ap (λ l. z ∷ l) h

without-twice : (key : List ℕ) (zs : List RowVersion) → without key (without key zs) ≡ without key zs
unfolding without
without-twice key [] = refl
without-twice key (z ∷ zs) = without-twice-by key z zs (same_key key z.key) refl (without-twice key zs)

pub lay-as : (v z : RowVersion) (b : Bool) → same_key v.key z.key ≡ b → lay v z ≡ cond b (record z { ts = v.ts; cells = overlay z.cells v.cells }) z
unfolding lay
lay-as v z b e = ap (λ b. cond b (record z { ts = v.ts; cells = overlay z.cells v.cells }) z) e

lay-key-by : (v z : RowVersion) (b : Bool) → same_key v.key z.key ≡ b → (lay v z).key ≡ z.key
lay-key-by v z true e = ap (λ (x : RowVersion). x.key) (lay-as v z true e)
lay-key-by v z false e = ap (λ (x : RowVersion). x.key) (lay-as v z false e)

pub lay-key : (v z : RowVersion) → (lay v z).key ≡ z.key
lay-key v z = lay-key-by v z (same_key v.key z.key) refl

-- laying versions of a key on, and then taking the key's away, is taking them away
without-lay-by : (v z : RowVersion) (zs : List RowVersion) (b : Bool) → same_key v.key z.key ≡ b → without v.key (map (lay v) zs) ≡ without v.key zs
    → without v.key (lay v z ∷ map (lay v) zs) ≡ cond (not b) (z ∷ without v.key zs) (without v.key zs)
without-lay-by v z zs true e h = without-cons v.key (lay v z) (map (lay v) zs) true (ap (same_key v.key) (lay-key v z) ∙ e) ∙ h
without-lay-by v z zs false e h = without-cons v.key (lay v z) (map (lay v) zs) false (ap (same_key v.key) (lay-key v z) ∙ e)
    ∙ ap (λ x. x ∷ without v.key (map (lay v) zs)) (lay-as v z false e) ∙ ap (λ l. z ∷ l) h

without-lay : (v : RowVersion) (zs : List RowVersion) → without v.key (map (lay v) zs) ≡ without v.key zs
unfolding without
without-lay v [] = refl
without-lay v (z ∷ zs) = without-lay-by v z zs (same_key v.key z.key) refl (without-lay v zs)

lay-without-by : (v z : RowVersion) (zs : List RowVersion) (b : Bool) → same_key v.key z.key ≡ b → map (lay v) (without v.key zs) ≡ without v.key zs
    → map (lay v) (cond (not b) (z ∷ without v.key zs) (without v.key zs)) ≡ cond (not b) (z ∷ without v.key zs) (without v.key zs)
lay-without-by v z zs true e h = h
lay-without-by v z zs false e h = ap (λ x. x ∷ map (lay v) (without v.key zs)) (lay-as v z false e) ∙ ap (λ l. z ∷ l) h

lay-without : (v : RowVersion) (zs : List RowVersion) → map (lay v) (without v.key zs) ≡ without v.key zs
unfolding without
lay-without v [] = refl
lay-without v (z ∷ zs) = lay-without-by v z zs (same_key v.key z.key) refl (lay-without v zs)

without-itself : (v : RowVersion) (zs : List RowVersion) → without v.key (v ∷ zs) ≡ without v.key zs
without-itself v zs = without-cons v.key v zs true (same-itself v.key)

without-laid : (o : Op) (v : RowVersion) (zs : List RowVersion) → without v.key (laid_by o v zs) ≡ without v.key zs
unfolding laid_by
without-laid ops.Insert v zs = without-itself v (without v.key zs) ∙ without-twice v.key zs
without-laid ops.Update v zs = without-lay v zs
without-laid ops.Delete v zs = without-twice v.key zs

abbrev made : List ℕ → ℕ → Op → List Cell → RowVersion
made k t o cells = record { key = k; ts = t; op = o; cells = cells }

lay-twice-by : (k : List ℕ) (t u : ℕ) (a b : List Cell) (z : RowVersion) (c : Bool) → same_key k z.key ≡ c → lay (made k u ops.Update b) (lay (made k t ops.Update a) z) ≡ lay (made k u ops.Update (overlay a b)) z
lay-twice-by k t u a b z true e = ap (lay (made k u ops.Update b)) (lay-as (made k t ops.Update a) z true e)
    ∙ lay-as (made k u ops.Update b) (record z { ts = t; cells = overlay z.cells a }) true e
    ∙ ap (λ cells. record z { ts = u; cells = cells }) (overlay-assoc z.cells a b)
    ∙ sym (lay-as (made k u ops.Update (overlay a b)) z true e)
lay-twice-by k t u a b z false e = ap (lay (made k u ops.Update b)) (lay-as (made k t ops.Update a) z false e) ∙ lay-as (made k u ops.Update b) z false e ∙ sym (lay-as (made k u ops.Update (overlay a b)) z false e)

lay-twice : (k : List ℕ) (t u : ℕ) (a b : List Cell) (zs : List RowVersion) → map (lay (made k u ops.Update b)) (map (lay (made k t ops.Update a)) zs) ≡ map (lay (made k u ops.Update (overlay a b))) zs
lay-twice k t u a b [] = refl
lay-twice k t u a b (z ∷ zs) = ap (λ x. x ∷ map (lay (made k u ops.Update b)) (map (lay (made k t ops.Update a)) zs)) (lay-twice-by k t u a b z (same_key k z.key) refl)
    ∙ ap (λ l. lay (made k u ops.Update (overlay a b)) z ∷ l) (lay-twice k t u a b zs)

laid-by-ops : (k : List ℕ) (t u : ℕ) (o p : Op) (a b : List Cell) (zs : List RowVersion) → laid (made k u p b) (laid (made k t o a) zs) ≡ laid (compose (made k t o a) (made k u p b)) zs
unfolding laid_by compose
laid-by-ops k t u o ops.Insert a b zs = ap (λ l. made k u ops.Insert b ∷ l) (without-laid o (made k t o a) zs)
laid-by-ops k t u o ops.Delete a b zs = without-laid o (made k t o a) zs
laid-by-ops k t u ops.Insert ops.Update a b zs = ap (λ x. x ∷ map (lay (made k u ops.Update b)) (without k zs)) (lay-as (made k u ops.Update b) (made k t ops.Insert a) true (same-itself k))
    ∙ ap (λ l. made k u ops.Insert (overlay a b) ∷ l) (lay-without (made k u ops.Update b) zs)
laid-by-ops k t u ops.Update ops.Update a b zs = lay-twice k t u a b zs
laid-by-ops k t u ops.Delete ops.Update a b zs = lay-without (made k u ops.Update b) zs

laid-compose : (v w : RowVersion) (zs : List RowVersion) → same_key v.key w.key ≡ true → laid v (laid w zs) ≡ laid (compose w v) zs
laid-compose v w zs h = subst (λ k. laid v (laid (made k w.ts w.op w.cells) zs) ≡ laid (compose (made k w.ts w.op w.cells) v) zs) (same-key v.key w.key h) (laid-by-ops v.key w.ts v.ts w.op v.op w.cells v.cells zs)

-- ---- rolling up changes no row

later-by : (o : Ordering) (x : Bool) → (is_lt o || (is_eq o && x)) ≡ true → is_eq o ≡ true → x ≡ true
later-by Less x h i = cc
later-by Equal x h i = h
later-by Greater x h i = cc

pub later : (v w : RowVersion) → stands_before v w ≡ true → same_key v.key w.key ≡ true → w.ts < v.ts
later v w h i = ltb-true w.ts v.ts (later-by (bytes_cmp v.key w.key) (nat_lt w.ts v.ts) h i)

rows-cons : (keep : Bool) → (t : ℕ) (v : RowVersion) (vs : List RowVersion) → v.ts ≤ t → lists_at keep t (v ∷ vs) ≡ laid v (lists_at keep t vs)
rows-cons keep t v vs h = ap (λ b. cond b (cond keep (v ∷ lists_at keep t vs) (lists_at keep t vs)) (laid v (lists_at keep t vs))) (le-ltb t v.ts h)

rows-onto-by : (keep : Bool) → (t : ℕ) (v w : RowVersion) (ws : List RowVersion) (b : Bool) → same_key v.key w.key ≡ b → v.ts ≤ t → stands_before v w ≡ true → lists_at keep t (cond b (compose w v ∷ ws) (v ∷ w ∷ ws)) ≡ laid v (lists_at keep t (w ∷ ws))
unfolding compose
rows-onto-by keep t v w ws true e h i = let l = later v w i e in rows-cons keep t (compose w v) ws h ∙ sym (laid-compose v w (lists_at keep t ws) e) ∙ ap (laid v) (sym (rows-cons keep t w ws (omega arith)))
rows-onto-by keep t v w ws false e h i = rows-cons keep t v (w ∷ ws) h

rows-onto : (keep : Bool) → (t : ℕ) (v : RowVersion) (ws : List RowVersion) → v.ts ≤ t → Above v ws → lists_at keep t (onto v ws) ≡ laid v (lists_at keep t ws)
rows-onto keep t v [] h a = rows-cons keep t v [] h
rows-onto keep t v (w ∷ ws) h a = rows-onto-by keep t v w ws (same_key v.key w.key) refl h a.0

rows-rolled-by : (keep : Bool) → (m t : ℕ) (v : RowVersion) (vs rolled : List RowVersion) (b : Bool) → nat_lt m v.ts ≡ b → m ≤ t → Above v rolled → lists_at keep t rolled ≡ lists_at keep t vs → lists_at keep t (cond b (v ∷ rolled) (onto v rolled)) ≡ lists_at keep t (v ∷ vs)
rows-rolled-by keep m t v vs rolled true e h a i = ap (λ l. cond (nat_lt t v.ts) (cond keep (v ∷ l) l) (laid v l)) i
rows-rolled-by keep m t v vs rolled false e h a i = let l = ltb-false m v.ts e in let k : v.ts ≤ t = omega arith in rows-onto keep t v rolled k a ∙ ap (laid v) i ∙ sym (rows-cons keep t v vs k)

rows-rolled : (keep : Bool) → (m t : ℕ) (vs : List RowVersion) → m ≤ t → IsTrue (is_ordered vs) → lists_at keep t (rolled_up m vs) ≡ lists_at keep t vs
rows-rolled keep m t [] h i = refl
rows-rolled keep m t (v ∷ vs) h i = rows-rolled-by keep m t v vs (rolled_up m vs) (nat_lt m v.ts) refl h (rolled-above m v vs (ordered-above v vs i)) (rows-rolled keep m t vs h (ordered-tail v vs i))

-- ---- of a list rolled up to m, each version up to m is its key's last

abbrev pub NoKey : List ℕ → List RowVersion → Type 0
NoKey key ws = AllByRecursion (λ w. same_key key w.key ≡ false) ws

abbrev pub Lone : ℕ → List RowVersion → Type 0
Lone m [] = ⊤
Lone m (w ∷ ws) = (w.ts ≤ m → NoKey w.key ws) × Lone m ws

no-key-as : (k l : List ℕ) (ws : List RowVersion) → k ≡ l → NoKey l ws → NoKey k ws
no-key-as k l ws e h = subst (λ k. NoKey k ws) (sym e) h

no-key-below-by : (k : List ℕ) (w x : RowVersion) → below k w.key ≡ true → stands_before w x ≡ true → same_key k x.key ≡ false
no-key-below-by k w x h i = let l : below k x.key ≡ true = elim (or_cases (below w.key x.key) (same_key w.key x.key && nat_lt x.ts w.ts) i) [
  | inl e ↦ key-trans k w.key x.key h e
  | inr e ↦ ap (below k) (sym (same-key w.key x.key (and_parts (same_key w.key x.key) (nat_lt x.ts w.ts) e).0)) ∙ h
] in
    ap is_eq (key-less k x.key l)

no-key-below : (k : List ℕ) (w : RowVersion) (ws : List RowVersion) → below k w.key ≡ true → Above w ws → NoKey k ws
no-key-below k w [] h a = tt
no-key-below k w (x ∷ ws) h a = (no-key-below-by k w x h a.0, no-key-below k w ws h a.1)

pub lower-by : (o : Ordering) (x : Bool) → (is_lt o || (is_eq o && x)) ≡ true → is_eq o ≡ false → is_lt o ≡ true
lower-by Less x h i = refl
lower-by Equal x h i = cc
lower-by Greater x h i = cc

onto-lone-by : (m : ℕ) (v w : RowVersion) (ws : List RowVersion) (b : Bool) → same_key v.key w.key ≡ b → v.ts ≤ m → stands_before v w ≡ true → Above w ws → Lone m (w ∷ ws) → Lone m (cond b (compose w v ∷ ws) (v ∷ w ∷ ws))
unfolding compose
onto-lone-by m v w ws true e h i a l = let t = later v w i e in (λ x. no-key-as v.key w.key ws (same-key v.key w.key e) (l.0 (omega arith)), l.1)
onto-lone-by m v w ws false e h i a l = (λ x. (e, no-key-below v.key w ws (lower-by (bytes_cmp v.key w.key) (nat_lt w.ts v.ts) i e) a), l)

onto-lone : (m : ℕ) (v : RowVersion) (ws : List RowVersion) → v.ts ≤ m → Above v ws → IsTrue (is_ordered ws) → Lone m ws → Lone m (onto v ws)
onto-lone m v [] h a o l = (λ x. tt, tt)
onto-lone m v (w ∷ ws) h a o l = onto-lone-by m v w ws (same_key v.key w.key) refl h a.0 (ordered-above w ws o) l

rolled-lone-by : (m : ℕ) (v : RowVersion) (ws : List RowVersion) (b : Bool) → nat_lt m v.ts ≡ b → Above v ws → IsTrue (is_ordered ws) → Lone m ws → Lone m (cond b (v ∷ ws) (onto v ws))
rolled-lone-by m v ws true e a o l = let t = ltb-true m v.ts e in (λ x. absurd (omega arith), l)
rolled-lone-by m v ws false e a o l = onto-lone m v ws (ltb-false m v.ts e) a o l

pub rolled-lone : (m : ℕ) (vs : List RowVersion) → IsTrue (is_ordered vs) → Lone m (rolled_up m vs)
rolled-lone m [] h = tt
rolled-lone m (v ∷ vs) h = rolled-lone-by m v (rolled_up m vs) (nat_lt m v.ts) refl (rolled-above m v vs (ordered-above v vs h)) (rolled-ordered m vs (ordered-tail v vs h)) (rolled-lone m vs (ordered-tail v vs h))

-- ---- a key that stands in no version stands in no row

no-key-cond : (k : List ℕ) (z : RowVersion) (zs : List RowVersion) (b : Bool) → same_key k z.key ≡ false → NoKey k zs → NoKey k (cond b (z ∷ zs) zs)
no-key-cond k z zs true h n = (h, n)
no-key-cond k z zs false h n = n

no-key-without : (k l : List ℕ) (zs : List RowVersion) → NoKey k zs → NoKey k (without l zs)
unfolding without
no-key-without k l [] n = tt
no-key-without k l (z ∷ zs) n = no-key-cond k z (without l zs) (not (same_key l z.key)) n.0 (no-key-without k l zs n.1)

no-key-lay : (k : List ℕ) (v : RowVersion) (zs : List RowVersion) → NoKey k zs → NoKey k (map (lay v) zs)
no-key-lay k v [] n = tt
no-key-lay k v (z ∷ zs) n = (ap (same_key k) (lay-key v z) ∙ n.0, no-key-lay k v zs n.1)

no-key-laid : (k : List ℕ) (o : Op) (v : RowVersion) (zs : List RowVersion) → same_key k v.key ≡ false → NoKey k zs → NoKey k (laid_by o v zs)
unfolding laid_by
no-key-laid k ops.Insert v zs h n = (h, no-key-without k v.key zs n)
no-key-laid k ops.Update v zs h n = no-key-lay k v zs n
no-key-laid k ops.Delete v zs h n = no-key-without k v.key zs n

no-key-rows-by : (keep : Bool) → (k : List ℕ) (v : RowVersion) (zs : List RowVersion) (b : Bool) → same_key k v.key ≡ false → NoKey k zs → NoKey k (cond b (cond keep (v ∷ zs) zs) (laid v zs))
no-key-rows-by keep k v zs true h n = no-key-cond k v zs keep h n
no-key-rows-by keep k v zs false h n = no-key-laid k v.op v zs h n

no-key-rows : (keep : Bool) → (k : List ℕ) (t : ℕ) (vs : List RowVersion) → NoKey k vs → NoKey k (lists_at keep t vs)
no-key-rows keep k t [] n = tt
no-key-rows keep k t (v ∷ vs) n = no-key-rows-by keep k v (lists_at keep t vs) (nat_lt t v.ts) n.0 (no-key-rows keep k t vs n.1)

without-none : (k : List ℕ) (zs : List RowVersion) → NoKey k zs → without k zs ≡ zs
unfolding without
without-none k [] n = refl
without-none k (z ∷ zs) n = without-cons k z zs false n.0 ∙ ap (λ l. z ∷ l) (without-none k zs n.1)

lay-none : (v : RowVersion) (zs : List RowVersion) → NoKey v.key zs → map (lay v) zs ≡ zs
lay-none v [] n = refl
lay-none v (z ∷ zs) n = ap (λ x. x ∷ map (lay v) zs) (lay-as v z false n.0) ∙ ap (λ l. z ∷ l) (lay-none v zs n.1)

laid-none : (o : Op) (v : RowVersion) (zs : List RowVersion) → NoKey v.key zs → laid_by o v zs ≡ cond (is_insert o) (v ∷ zs) zs
unfolding laid_by
laid-none ops.Insert v zs n = ap (λ l. v ∷ l) (without-none v.key zs n)
laid-none ops.Update v zs n = lay-none v zs n
laid-none ops.Delete v zs n = without-none v.key zs n

-- ---- reading at a moment

kept-rows-by : (t : ℕ) (w : RowVersion) (ws kept : List RowVersion) (b : Bool) → nat_lt t w.ts ≡ b → (w.ts ≤ t → NoKey w.key ws) → kept ≡ rows_at t ws
    → cond (nat_le w.ts t && is_insert w.op) (w ∷ kept) kept ≡ cond b (rows_at t ws) (laid w (rows_at t ws))
kept-rows-by t w ws kept true e n h = let l = ltb-true t w.ts e in ap (λ b. cond (b && is_insert w.op) (w ∷ kept) kept) (lt-leb w.ts t (omega arith)) ∙ h
kept-rows-by t w ws kept false e n h = let l = ltb-false t w.ts e in ap (λ b. cond (b && is_insert w.op) (w ∷ kept) kept) (le-leb w.ts t l)
    ∙ ap (λ l. cond (is_insert w.op) (w ∷ l) l) h ∙ sym (laid-none w.op w (rows_at t ws) (no-key-rows false w.key t ws (n l)))

kept-rows : (t : ℕ) (ws : List RowVersion) → Lone t ws → filter (λ v. nat_le v.ts t && is_insert v.op) ws ≡ rows_at t ws
kept-rows t [] l = refl
kept-rows t (w ∷ ws) l = kept-rows-by t w ws (filter (λ v. nat_le v.ts t && is_insert v.op) ws) (nat_lt t w.ts) refl l.0 (kept-rows t ws l.1)

pub asof-rows : (t : ℕ) (vs : List RowVersion) → IsTrue (is_ordered vs) → asof t vs ≡ rows_at t vs
unfolding asof
asof-rows t vs h = kept-rows t (rolled_up t vs) (rolled-lone t vs h) ∙ rows-rolled false t t vs (omega arith) h

collapsed-rows-by : (keep : Bool) → (m t : ℕ) (w : RowVersion) (ws left : List RowVersion) (b c : Bool) → nat_lt m w.ts ≡ b → is_insert w.op ≡ c → m ≤ t → (w.ts ≤ m → NoKey w.key ws) → lists_at keep t left ≡ lists_at keep t ws
    → lists_at keep t (cond (b || c) (w ∷ left) left) ≡ lists_at keep t (w ∷ ws)
collapsed-rows-by keep m t w ws left true c e f h n i = ap (λ l. cond (nat_lt t w.ts) (cond keep (w ∷ l) l) (laid w l)) i
collapsed-rows-by keep m t w ws left false true e f h n i = ap (λ l. cond (nat_lt t w.ts) (cond keep (w ∷ l) l) (laid w l)) i
collapsed-rows-by keep m t w ws left false false e f h n i = let l = ltb-false m w.ts e in let k : w.ts ≤ t = omega arith in
    i ∙ ap (λ c. cond c (w ∷ lists_at keep t ws) (lists_at keep t ws)) (sym f) ∙ sym (laid-none w.op w (lists_at keep t ws) (no-key-rows keep w.key t ws (n l))) ∙ sym (rows-cons keep t w ws k)

collapsed-rows : (keep : Bool) → (m t : ℕ) (ws : List RowVersion) → m ≤ t → Lone m ws → lists_at keep t (filter (λ v. nat_lt m v.ts || is_insert v.op) ws) ≡ lists_at keep t ws
collapsed-rows keep m t [] h l = refl
collapsed-rows keep m t (w ∷ ws) h l = collapsed-rows-by keep m t w ws (filter (λ v. nat_lt m v.ts || is_insert v.op) ws) (nat_lt m w.ts) (is_insert w.op) refl refl h l.0 (collapsed-rows keep m t ws h l.1)

collapse-rows : (keep : Bool) → (m t : ℕ) (vs : List RowVersion) → IsTrue (is_ordered vs) → m ≤ t → lists_at keep t (collapse m vs) ≡ lists_at keep t vs
unfolding collapse
collapse-rows keep m t vs o h = collapsed-rows keep m t (rolled_up m vs) h (rolled-lone m vs o) ∙ rows-rolled keep m t vs h o

-- collapsing changes no reading from its moment on, whatever the cells' lengths
pub asof-collapse : (m t : ℕ) (vs : List RowVersion) → IsTrue (is_ordered vs) → m ≤ t → asof t (collapse m vs) ≡ asof t vs
asof-collapse m t vs o h = asof-rows t (collapse m vs) (collapse-ordered m vs o) ∙ collapse-rows false m t vs o h ∙ sym (asof-rows t vs o)

left-rows-by : (t : ℕ) (w : RowVersion) (ws left : List RowVersion) (b : Bool) → nat_lt t w.ts ≡ b → (w.ts ≤ t → NoKey w.key ws) → left ≡ lists_at true t ws
    → cond (b || is_insert w.op) (w ∷ left) left ≡ cond b (w ∷ lists_at true t ws) (laid w (lists_at true t ws))
left-rows-by t w ws left true e n h = ap (λ l. w ∷ l) h
left-rows-by t w ws left false e n h = ap (λ l. cond (is_insert w.op) (w ∷ l) l) h ∙ sym (laid-none w.op w (lists_at true t ws) (no-key-rows true w.key t ws (n (ltb-false t w.ts e))))

left-rows : (t : ℕ) (ws : List RowVersion) → Lone t ws → filter (λ v. nat_lt t v.ts || is_insert v.op) ws ≡ lists_at true t ws
left-rows t [] l = refl
left-rows t (w ∷ ws) l = left-rows-by t w ws (filter (λ v. nat_lt t v.ts || is_insert v.op) ws) (nat_lt t w.ts) refl l.0 (left-rows t ws l.1)

collapse-lists : (t : ℕ) (vs : List RowVersion) → IsTrue (is_ordered vs) → collapse t vs ≡ lists_at true t vs
unfolding collapse
collapse-lists t vs h = left-rows t (rolled_up t vs) (rolled-lone t vs h) ∙ rows-rolled true t t vs (omega arith) h

-- to collapse up to a moment and then up to a later one is to collapse up to the later one
pub collapse-collapse : (m t : ℕ) (vs : List RowVersion) → IsTrue (is_ordered vs) → m ≤ t → collapse t (collapse m vs) ≡ collapse t vs
collapse-collapse m t vs o h = collapse-lists t (collapse m vs) (collapse-ordered m vs o) ∙ collapse-rows true m t vs o h ∙ sym (collapse-lists t vs o)

-- a reading before the moment may change
abbrev pub of_key : ℕ → ℕ → Op → List Cell → RowVersion
of_key k t o cells = record { key = k ∷ []; ts = t; op = o; cells = cells }

abbrev updated : List RowVersion
updated = of_key 1 2 ops.Update [] ∷ of_key 1 1 ops.Insert [] ∷ []

before_minimum : (asof 1 (collapse 2 updated) ≡ []) × (asof 1 updated ≡ of_key 1 1 ops.Insert [] ∷ [])
unfolding asof collapse compose
before_minimum = (refl, refl)

-- ---- reading in a range

no-key-filter : (k : List ℕ) (p : RowVersion → Bool) (zs : List RowVersion) → NoKey k zs → NoKey k (filter p zs)
no-key-filter k p [] n = tt
no-key-filter k p (z ∷ zs) n = no-key-cond k z (filter p zs) (p z) n.0 (no-key-filter k p zs n.1)

onto-none : (v : RowVersion) (ws : List RowVersion) → NoKey v.key ws → onto v ws ≡ v ∷ ws
onto-none v [] n = refl
onto-none v (w ∷ ws) n = ap (λ b. cond b (compose w v ∷ ws) (v ∷ w ∷ ws)) n.0

module _ (p : List ℕ → Bool) where
  abbrev those : List RowVersion → List RowVersion
  those vs = filter (λ v. p v.key) vs

  onto-same-by : (v w : RowVersion) (ws : List RowVersion) (a b : Bool) → a ≡ b → same_key v.key w.key ≡ true → cond b (compose w v ∷ ws) ws ≡ cond b (onto v (cond a (w ∷ ws) ws)) (cond a (w ∷ ws) ws)
  onto-same-by v w ws true true e h = ap (λ b. cond b (compose w v ∷ ws) (v ∷ w ∷ ws)) (sym h)
  onto-same-by v w ws true false e h = cc
  onto-same-by v w ws false true e h = cc
  onto-same-by v w ws false false e h = refl

  those-onto-by : (v w : RowVersion) (ws : List RowVersion) (b : Bool) → same_key v.key w.key ≡ b → stands_before v w ≡ true → Above w ws
      → those (cond b (compose w v ∷ ws) (v ∷ w ∷ ws)) ≡ cond (p v.key) (onto v (those (w ∷ ws))) (those (w ∷ ws))
  unfolding compose
  those-onto-by v w ws true e h a = onto-same-by v w (those ws) (p w.key) (p v.key) (ap p (sym (same-key v.key w.key e))) e
  those-onto-by v w ws false e h a = ap (λ l. cond (p v.key) l (those (w ∷ ws)))
      (sym (onto-none v (those (w ∷ ws)) (no-key-filter v.key (λ v. p v.key) (w ∷ ws) (e, no-key-below v.key w ws (lower-by (bytes_cmp v.key w.key) (nat_lt w.ts v.ts) h e) a))))

  those-onto : (v : RowVersion) (ws : List RowVersion) → Above v ws → IsTrue (is_ordered ws) → those (onto v ws) ≡ cond (p v.key) (onto v (those ws)) (those ws)
  those-onto v [] a h = refl
  those-onto v (w ∷ ws) a h = those-onto-by v w ws (same_key v.key w.key) refl a.0 (ordered-above w ws h)

  rolled-those-by : (t : ℕ) (v : RowVersion) (xs rolled : List RowVersion) (b c : Bool) → p v.key ≡ b → nat_lt t v.ts ≡ c → Above v rolled → IsTrue (is_ordered rolled) → rolled_up t xs ≡ those rolled
      → rolled_up t (cond b (v ∷ xs) xs) ≡ those (cond c (v ∷ rolled) (onto v rolled))
  rolled-those-by t v xs rolled true true e f a o h = ap (λ c. cond c (v ∷ rolled_up t xs) (onto v (rolled_up t xs))) f ∙ ap (λ l. v ∷ l) h ∙ ap (λ b. cond b (v ∷ those rolled) (those rolled)) (sym e)
  rolled-those-by t v xs rolled true false e f a o h = ap (λ c. cond c (v ∷ rolled_up t xs) (onto v (rolled_up t xs))) f ∙ ap (onto v) h ∙ ap (λ b. cond b (onto v (those rolled)) (those rolled)) (sym e) ∙ sym (those-onto v rolled a o)
  rolled-those-by t v xs rolled false true e f a o h = h ∙ ap (λ b. cond b (v ∷ those rolled) (those rolled)) (sym e)
  rolled-those-by t v xs rolled false false e f a o h = h ∙ ap (λ b. cond b (onto v (those rolled)) (those rolled)) (sym e) ∙ sym (those-onto v rolled a o)

  rolled-those : (t : ℕ) (vs : List RowVersion) → IsTrue (is_ordered vs) → rolled_up t (filter (λ v. p v.key) vs) ≡ filter (λ v. p v.key) (rolled_up t vs)
  rolled-those t [] h = refl
  rolled-those t (v ∷ vs) h = rolled-those-by t v (those vs) (rolled_up t vs) (p v.key) (nat_lt t v.ts) refl refl (rolled-above t v vs (ordered-above v vs h)) (rolled-ordered t vs (ordered-tail v vs h)) (rolled-those t vs (ordered-tail v vs h))

pub asof-clip : (t : ℕ) (r : Range) (vs : List RowVersion) → IsTrue (is_ordered vs) → asof t (clip r vs) ≡ clip r (asof t vs)
unfolding asof
asof-clip t r vs h = ap (filter (λ v. nat_le v.ts t && is_insert v.op)) (rolled-those (λ k. in_range k r) t vs h) ∙ filter-swap (λ v. nat_le v.ts t && is_insert v.op) (λ v. in_range v.key r) (rolled_up t vs)

pub collapse-clip : (m : ℕ) (r : Range) (vs : List RowVersion) → IsTrue (is_ordered vs) → collapse m (clip r vs) ≡ clip r (collapse m vs)
unfolding collapse
collapse-clip m r vs h = ap (filter (λ v. nat_lt m v.ts || is_insert v.op)) (rolled-those (λ k. in_range k r) m vs h) ∙ filter-swap (λ v. nat_lt m v.ts || is_insert v.op) (λ v. in_range v.key r) (rolled_up m vs)

-- ---- collapsing below newer versions

-- a version whose key is above another's stands neither before it nor with it
key-past : (n w : RowVersion) → below w.key n.key ≡ true → stands_before n w ≡ false
key-past n w h = before-not w n (ap (λ b. b || (same_key w.key n.key && nat_lt n.ts w.ts)) h)

key-apart : (n w : RowVersion) → below w.key n.key ≡ true → same_name n w ≡ false
key-apart n w h = ap (λ b. b && n.ts == w.ts) (same-back n.key w.key ∙ ap is_eq (key-less w.key n.key h))

not-later-by : (x n : RowVersion) (b : Bool) → same_key x.key n.key ≡ b → stands_before x n ≡ true → x.ts ≤ n.ts → b ≡ false
not-later-by x n true e h t = let l = later x n h e in absurd (omega arith)
not-later-by x n false e h t = refl

not-later : (x n : RowVersion) → stands_before x n ≡ true → x.ts ≤ n.ts → same_key x.key n.key ≡ false
not-later x n h t = not-later-by x n (same_key x.key n.key) refl h t

put-all-above : (n : RowVersion) (ws : List RowVersion) → Above n ws → put_version n ws ≡ n ∷ ws
put-all-above n [] a = refl
put-all-above n (w ∷ ws) a = ap (λ b. cond b (n ∷ w ∷ ws) (cond (same_name n w) (n ∷ ws) (w ∷ put_version n ws))) a.0

put-after : (n w : RowVersion) (ws : List RowVersion) → stands_before n w ≡ false → same_name n w ≡ false → put_version n (w ∷ ws) ≡ w ∷ put_version n ws
put-after n w ws e f = ap (λ b. cond b (n ∷ w ∷ ws) (cond (same_name n w) (n ∷ ws) (w ∷ put_version n ws))) e ∙ ap (λ c. cond c (n ∷ ws) (w ∷ put_version n ws)) f

put-instead : (n w : RowVersion) (ws : List RowVersion) → same_name n w ≡ true → put_version n (w ∷ ws) ≡ n ∷ ws
put-instead n w ws f = ap (λ b. cond b (n ∷ w ∷ ws) (cond (same_name n w) (n ∷ ws) (w ∷ put_version n ws))) (same-not-before n w f) ∙ ap (λ c. cond c (n ∷ ws) (w ∷ put_version n ws)) f

no-key-put-by : (k : List ℕ) (n w : RowVersion) (ws : List RowVersion) (b c : Bool) → same_key k n.key ≡ false → NoKey k (w ∷ ws) → NoKey k (put_version n ws) → NoKey k (cond b (n ∷ w ∷ ws) (cond c (n ∷ ws) (w ∷ put_version n ws)))
no-key-put-by k n w ws true c h a i = (h, a)
no-key-put-by k n w ws false true h a i = (h, a.1)
no-key-put-by k n w ws false false h a i = (a.0, i)

no-key-put : (k : List ℕ) (n : RowVersion) (ws : List RowVersion) → same_key k n.key ≡ false → NoKey k ws → NoKey k (put_version n ws)
no-key-put k n [] h a = (h, tt)
no-key-put k n (w ∷ ws) h a = no-key-put-by k n w ws (stands_before n w) (same_name n w) h a (no-key-put k n ws h a.1)

-- x stands before n by its key, and is rolled up; n goes past it
put-onto-by : (x n w : RowVersion) (ws : List RowVersion) (b : Bool) → same_key x.key w.key ≡ b → stands_before n x ≡ false → same_name n x ≡ false → same_key x.key n.key ≡ false → below x.key n.key ≡ true → stands_before x w ≡ true → Above w ws
    → onto x (put_version n (w ∷ ws)) ≡ put_version n (cond b (compose w x ∷ ws) (x ∷ w ∷ ws))
unfolding compose
put-onto-by x n w ws true e f g k l h a = let i = same-key x.key w.key e in let lower : below w.key n.key ≡ true = ap (λ z. below z n.key) (sym i) ∙ l in
    ap (onto x) (put-after n w ws (key-past n w lower) (key-apart n w lower)) ∙ ap (λ b. cond b (compose w x ∷ put_version n ws) (x ∷ w ∷ put_version n ws)) e
    ∙ sym (put-after n (compose w x) ws f g)
put-onto-by x n w ws false e f g k l h a =
    onto-none x (put_version n (w ∷ ws)) (no-key-put x.key n (w ∷ ws) k (e, no-key-below x.key w ws (lower-by (bytes_cmp x.key w.key) (nat_lt w.ts x.ts) h e) a))
    ∙ sym (put-after n x (w ∷ ws) f g)

put-onto : (x n : RowVersion) (ws : List RowVersion) → stands_before n x ≡ false → same_name n x ≡ false → same_key x.key n.key ≡ false → below x.key n.key ≡ true → Above x ws → IsTrue (is_ordered ws)
    → onto x (put_version n ws) ≡ put_version n (onto x ws)
put-onto x n [] f g k l a o = onto-none x (n ∷ []) (k, tt) ∙ sym (put-after n x [] f g)
put-onto x n (w ∷ ws) f g k l a o = put-onto-by x n w ws (same_key x.key w.key) refl f g k l a.0 (ordered-above w ws o)

rolled-put-by : (m : ℕ) (n x : RowVersion) (xs : List RowVersion) (b c d : Bool) → stands_before n x ≡ b → same_name n x ≡ c → nat_lt m x.ts ≡ d → m < n.ts → IsTrue (is_ordered (x ∷ xs))
    → rolled_up m (put_version n xs) ≡ put_version n (rolled_up m xs)
    → rolled_up m (cond b (n ∷ x ∷ xs) (cond c (n ∷ xs) (x ∷ put_version n xs))) ≡ put_version n (rolled_up m (x ∷ xs))
rolled-put-by m n x xs true c d e f g h o i = ap (λ b. cond b (n ∷ rolled_up m (x ∷ xs)) (onto n (rolled_up m (x ∷ xs)))) (lt-ltb m n.ts h)
    ∙ sym (put-all-above n (rolled_up m (x ∷ xs)) (rolled-above m n (x ∷ xs) (e, above-before n x xs e (ordered-above x xs o))))
rolled-put-by m n x xs false true d e f g h o i = let t = eqb-true n.ts x.ts (and_parts (same_key n.key x.key) (n.ts == x.ts) f).1 in
    ap (λ b. cond b (n ∷ rolled_up m xs) (onto n (rolled_up m xs))) (lt-ltb m n.ts h) ∙ sym (put-instead n x (rolled_up m xs) f)
    ∙ ap (put_version n) (ap (λ b. cond b (x ∷ rolled_up m xs) (onto x (rolled_up m xs))) (sym (lt-ltb m x.ts (omega arith))))
rolled-put-by m n x xs false false true e f g h o i = ap (λ b. cond b (x ∷ rolled_up m (put_version n xs)) (onto x (rolled_up m (put_version n xs)))) g
    ∙ ap (λ l. x ∷ l) i ∙ sym (put-after n x (rolled_up m xs) e f) ∙ ap (put_version n) (ap (λ b. cond b (x ∷ rolled_up m xs) (onto x (rolled_up m xs))) (sym g))
rolled-put-by m n x xs false false false e f g h o i = let t = ltb-false m x.ts g in let s = before-other n x e f in let k = not-later x n s (omega arith) in
    ap (λ b. cond b (x ∷ rolled_up m (put_version n xs)) (onto x (rolled_up m (put_version n xs)))) g ∙ ap (onto x) i
    ∙ put-onto x n (rolled_up m xs) e f k (lower-by (bytes_cmp x.key n.key) (nat_lt n.ts x.ts) s k) (rolled-above m x xs (ordered-above x xs o)) (rolled-ordered m xs (ordered-tail x xs o))
    ∙ ap (put_version n) (ap (λ b. cond b (x ∷ rolled_up m xs) (onto x (rolled_up m xs))) (sym g))

rolled-put : (m : ℕ) (n : RowVersion) (xs : List RowVersion) → m < n.ts → IsTrue (is_ordered xs) → rolled_up m (put_version n xs) ≡ put_version n (rolled_up m xs)
rolled-put m n [] h o = ap (λ b. cond b (n ∷ []) (onto n [])) (lt-ltb m n.ts h)
rolled-put m n (x ∷ xs) h o = rolled-put-by m n x xs (stands_before n x) (same_name n x) (nat_lt m x.ts) refl refl refl h o (rolled-put m n xs h (ordered-tail x xs o))

filter-put-same : (p : RowVersion → Bool) (n w : RowVersion) (ws : List RowVersion) (b : Bool) → same_name n w ≡ true → Above n ws → n ∷ ws ≡ put_version n (cond b (w ∷ ws) ws)
filter-put-same p n w ws true f a = sym (put-instead n w ws f)
filter-put-same p n w ws false f a = sym (put-all-above n ws a)

filter-put-after : (n w : RowVersion) (ws xs : List RowVersion) (b : Bool) → stands_before n w ≡ false → same_name n w ≡ false → xs ≡ put_version n ws → cond b (w ∷ xs) xs ≡ put_version n (cond b (w ∷ ws) ws)
filter-put-after n w ws xs true e f h = ap (λ l. w ∷ l) h ∙ sym (put-after n w ws e f)
filter-put-after n w ws xs false e f h = h

filter-put-by : (p : RowVersion → Bool) (n w : RowVersion) (ws : List RowVersion) (b c : Bool) → stands_before n w ≡ b → same_name n w ≡ c → p n ≡ true → IsTrue (is_ordered (w ∷ ws)) → filter p (put_version n ws) ≡ put_version n (filter p ws)
    → filter p (cond b (n ∷ w ∷ ws) (cond c (n ∷ ws) (w ∷ put_version n ws))) ≡ put_version n (filter p (w ∷ ws))
filter-put-by p n w ws true c e f h o i = ap (λ b. cond b (n ∷ filter p (w ∷ ws)) (filter p (w ∷ ws))) h ∙ sym (put-all-above n (filter p (w ∷ ws)) (filter-above p n (w ∷ ws) (e, above-before n w ws e (ordered-above w ws o))))
filter-put-by p n w ws false true e f h o i = ap (λ b. cond b (n ∷ filter p ws) (filter p ws)) h ∙ filter-put-same p n w (filter p ws) (p w) f (filter-above p n ws (above-same n w ws f (ordered-above w ws o)))
filter-put-by p n w ws false false e f h o i = filter-put-after n w (filter p ws) (filter p (put_version n ws)) (p w) e f i

filter-put : (p : RowVersion → Bool) (n : RowVersion) (ws : List RowVersion) → p n ≡ true → IsTrue (is_ordered ws) → filter p (put_version n ws) ≡ put_version n (filter p ws)
filter-put p n [] h o = ap (λ b. cond b (n ∷ []) []) h
filter-put p n (w ∷ ws) h o = filter-put-by p n w ws (stands_before n w) (same_name n w) refl refl h o (filter-put p n ws h (ordered-tail w ws o))

collapse-put : (m : ℕ) (n : RowVersion) (vs : List RowVersion) → m < n.ts → IsTrue (is_ordered vs) → collapse m (put_version n vs) ≡ put_version n (collapse m vs)
unfolding collapse
collapse-put m n vs h o = ap (filter (λ v. nat_lt m v.ts || is_insert v.op)) (rolled-put m n vs h o)
    ∙ filter-put (λ v. nat_lt m v.ts || is_insert v.op) n (rolled_up m vs) (ap (λ b. b || is_insert n.op) (lt-ltb m n.ts h)) (rolled-ordered m vs o)

collapse-puts : (m : ℕ) (ns vs : List RowVersion) → AllByRecursion (λ n. m < n.ts) ns → IsTrue (is_ordered vs) → collapse m (put_versions ns vs) ≡ put_versions ns (collapse m vs)
collapse-puts m [] vs a o = refl
collapse-puts m (n ∷ ns) vs a o = collapse-put m n (put_versions ns vs) a.0 (puts-ordered ns vs o) ∙ ap (put_version n) (collapse-puts m ns vs a.1 o)

-- versions above a moment may be merged in before or after the others are collapsed up to it
pub collapse-newer : (m : ℕ) (newer : List RowVersion) (lists : List (List RowVersion)) → AllByRecursion (λ n. m < n.ts) newer → collapse m (merge (newer ∷ lists)) ≡ merge (newer ∷ collapse m (merge lists) ∷ [])
unfolding merge
collapse-newer m newer lists a = collapse-puts m newer (merge lists) a (merge-ordered lists)
    ∙ ap (put_versions newer) (sym (merge-alone (collapse m (merge lists)) (collapse-ordered m (merge lists) (merge-ordered lists))))

-- and a reading from that moment on is as without the collapse
pub asof-newer : (m t : ℕ) (newer : List RowVersion) (lists : List (List RowVersion)) → AllByRecursion (λ n. m < n.ts) newer → m ≤ t → asof t (merge (newer ∷ collapse m (merge lists) ∷ [])) ≡ asof t (merge (newer ∷ lists))
asof-newer m t newer lists a h = ap (asof t) (sym (collapse-newer m newer lists a)) ∙ asof-collapse m t (merge (newer ∷ lists)) (merge-ordered (newer ∷ lists)) h
