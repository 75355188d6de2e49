-- What a compaction makes of versions: it is lawful under the carriers, goes over to wider ones, and holds what was above its minimum.
use Rattle.std.proofs.Common.{Bool, List, [], ap, ap₂, arith, cond, false, length, lt-ltb, ltb-false, refl, subst, suc, sym, true, zero, ℕ, ◌<◌, ◌∙◌, ◌∷◌, ◌≡◌, ◌≤◌}
use Rattle.std.specs.Prelude.{Contains, IsTrue, filter, map, nat_le, nat_lt, not, ◌&&◌, ◌==◌, ◌||◌}
use Rattle.std.specs.List.{AllByRecursion, list_all}
use Rattle.std.proofs.lemmas.Bool.{and_from, and_parts}
use Rattle.lt_terms.specs.Value.{is_timestamp}
use Rattle.lt_terms.specs.Key.{max_key, same_key}
use Rattle.lt_terms.specs.Layout.{Cell, Leaf, are_lawful, coerce, is_unset, layout_of, sets, with_cells}
use Rattle.lt_terms.specs.Kind.{Kind}
use Rattle.lt_terms.specs.declared.Op.{Op}
use Rattle.lt_tables.specs.Version.{RowVersion, asof, coerce_all, coerced, collapse, compose, is_delete, is_insert, is_ordered, is_version, onto, overlay, rolled_up, stands_before}
use Rattle.lt_lemmas.proofs.ListFacts.{all_filter}
use Rattle.lt_lemmas.proofs.MergeLaws.{Above, ordered-above, ordered-tail}
use Rattle.lt_laws.proofs.SeenLaws.{AreLaid, coerce_own, laid_lawful}
use Rattle.lt_laws.proofs.LeafLaws.{AreColumns, IsMarked}
use Rattle.lt_laws.proofs.CoerceLaws.{AreLong, IsServed, cell_for, coerce_overlay, over, overlay_length, overlay_maps, suits_rank}
use Rattle.lt_laws.proofs.LaidLaws.{goes_laid, over_laid, unset_as}
use Rattle.lt_laws.proofs.WidenedStore.{lawful_fit}
use Rattle.lt_laws.proofs.MomentLaws.{later, rolled-above}
use Rattle.lt_laws.proofs.ScanLemmas.{from-filter, in-filter}
use Rattle.lt_terms.specs.declared.Op.TheVariants as ops
use Rattle.lt_lemmas.proofs.PointLaws.{left, right}
use Rattle.lt_lemmas.proofs.SnapshotLaws.{or_left}

-- ---- versions with cells that lie lawfully under a layout

pub record IsMade (ls : List Leaf) (v : RowVersion) : Type 0 where
  pub cell : Leaf → Cell
  pub laid : AreLaid ls cell
  pub is : v.cells ≡ map cell ls
  pub name : IsTrue (nat_le 4 (length v.key) && nat_le (length v.key) max_key && is_timestamp v.ts)
  pub bare : IsTrue (not (is_delete v.op) || list_all is_unset v.cells)

pub made_version : (ls : List Leaf) (v : RowVersion) → IsMade ls v → IsTrue (is_version ls v)
made_version ls v h = and_from _ _ (and_from _ _ h.name (subst (λ (cells : List Cell). IsTrue (are_lawful ls cells)) (sym h.is) (laid_lawful ls h.cell h.laid))) h.bare

pub made_own : (cs : List (ℕ × Kind)) (v : RowVersion) → AreColumns cs → IsMade (layout_of cs) v → coerced (layout_of cs) (layout_of cs) v ≡ v
made_own cs v a h =
    let ls = layout_of cs in
    let own : coerce ls ls (map h.cell ls) ≡ map h.cell ls = coerce_own cs h.cell a (λ l i. suits_rank l.column l.path l.rank l.presence (h.cell l) (h.laid.fits l i)) in
    ap (λ (cells : List Cell). let w : RowVersion = record v { cells = cells } in w) (ap (coerce ls ls) h.is ∙ own ∙ sym h.is)

-- a lawful version under the carriers

none_by : (n : ℕ) (l : Leaf) (c : Cell) (r : Bool) → is_unset c ≡ true → r ≡ false → (((l.column == n) && not (is_unset c)) || r) ≡ false
none_by n l c r u e = ap (λ (t : Bool). ((l.column == n) && not t) || r) u ∙ by_test (l.column == n) ∙ e
  where
    by_test : (t : Bool) → ((t && false) || r) ≡ r
    by_test true = refl
    by_test false = refl

none_sets : (n : ℕ) (ls : List Leaf) (cells : List Cell) → IsTrue (list_all is_unset cells) → sets n (with_cells ls cells) ≡ false
none_sets n [] cells h = refl
none_sets n (l ∷ ls) [] h = refl
none_sets n (l ∷ ls) (c ∷ cells) h = let p = and_parts (is_unset c) (list_all is_unset cells) h in none_by n l c (sets n (with_cells ls cells)) p.0 (none_sets n ls cells p.1)

all_unset : (h : Leaf → Cell) (ls : List Leaf) → ((l : Leaf) → is_unset (h l) ≡ true) → IsTrue (list_all is_unset (map h ls))
all_unset h [] f = refl
all_unset h (l ∷ ls) f = and_from _ _ (f l) (all_unset h ls f)

pub goes_made : (cf cs : List (ℕ × Kind)) (v : RowVersion) → AreColumns cf → AreColumns cs → ((b : Leaf) → IsMarked cs b → IsServed (with_cells (layout_of cf) v.cells) cs b) → IsTrue (is_version (layout_of cf) v) → IsMade (layout_of cs) (coerced (layout_of cf) (layout_of cs) v)
unfolding coerce
goes_made cf cs v a c served h =
    let lawful : IsTrue (are_lawful (layout_of cf) v.cells) = right _ (are_lawful (layout_of cf) v.cells) (left _ _ h) in
    let xs = with_cells (layout_of cf) v.cells in record {
      cell = cell_for xs;
      laid = goes_laid cf cs v.cells (record { columns = a; lawful = lawful }) c served;
      is = refl;
      name = left _ _ (left _ _ h);
      bare = by_op (is_delete v.op) (right _ (not (is_delete v.op) || list_all is_unset v.cells) h) (lawful_unset lawful);
    }
  where
    lawful_unset : IsTrue (are_lawful (layout_of cf) v.cells) → IsTrue (list_all is_unset v.cells) → IsTrue (list_all is_unset (map (cell_for (with_cells (layout_of cf) v.cells)) (layout_of cs)))
    lawful_unset l u = all_unset (cell_for (with_cells (layout_of cf) v.cells)) (layout_of cs) (λ b. unset_as (with_cells (layout_of cf) v.cells) b (lawful_fit (layout_of cf) v.cells l) ∙ ap not (none_sets b.column (layout_of cf) v.cells u))

    by_op : (b : Bool) → (not b || list_all is_unset v.cells) ≡ true → (IsTrue (list_all is_unset v.cells) → IsTrue (list_all is_unset (map (cell_for (with_cells (layout_of cf) v.cells)) (layout_of cs)))) → (not b || list_all is_unset (map (cell_for (with_cells (layout_of cf) v.cells)) (layout_of cs))) ≡ true
    by_op true e f = f e
    by_op false e f = refl

-- ---- composed versions

made_with : (ls : List Leaf) (k : List ℕ) (t : ℕ) (o : Op) (cells : List Cell) (w : RowVersion) → IsMade ls w → cells ≡ w.cells → IsTrue (nat_le 4 (length k) && nat_le (length k) max_key && is_timestamp t) → IsTrue (not (is_delete o) || list_all is_unset cells)
    → IsMade ls (record { key = k; ts = t; op = o; cells = cells })
made_with ls k t o cells w h e n b = record { cell = h.cell; laid = h.laid; is = e ∙ h.is; name = n; bare = b }

made_over : (ls : List Leaf) (k : List ℕ) (t : ℕ) (o : Op) (w v : RowVersion) → IsMade ls w → IsMade ls v → is_delete o ≡ false → IsTrue (nat_le 4 (length k) && nat_le (length k) max_key && is_timestamp t)
    → IsMade ls (record { key = k; ts = t; op = o; cells = overlay w.cells v.cells })
made_over ls k t o w v h i d n = record {
  cell = λ l. over (h.cell l) (i.cell l);
  laid = over_laid ls h.cell i.cell h.laid i.laid;
  is = ap₂ overlay h.is i.is ∙ sym (overlay_maps h.cell i.cell ls);
  name = n;
  bare = ap (λ (b : Bool). not b || list_all is_unset (overlay w.cells v.cells)) d;
}

composed_by : (ls : List Leaf) (kw kv : List ℕ) (tw tv : ℕ) (cw cv : List Cell) (o p : Op) → IsMade ls (record { key = kw; ts = tw; op = o; cells = cw }) → IsMade ls (record { key = kv; ts = tv; op = p; cells = cv })
    → IsMade ls (compose (record { key = kw; ts = tw; op = o; cells = cw }) (record { key = kv; ts = tv; op = p; cells = cv }))
unfolding compose
composed_by ls kw kv tw tv cw cv o ops.Insert h i = made_with ls kv tv ops.Insert cv (record { key = kv; ts = tv; op = ops.Insert; cells = cv }) i refl i.name refl
composed_by ls kw kv tw tv cw cv o ops.Delete h i = made_with ls kv tv ops.Delete cv (record { key = kv; ts = tv; op = ops.Delete; cells = cv }) i refl i.name i.bare
composed_by ls kw kv tw tv cw cv ops.Delete ops.Update h i = made_with ls kv tv ops.Delete cw (record { key = kw; ts = tw; op = ops.Delete; cells = cw }) h refl i.name h.bare
composed_by ls kw kv tw tv cw cv ops.Insert ops.Update h i = made_over ls kv tv ops.Insert (record { key = kw; ts = tw; op = ops.Insert; cells = cw }) (record { key = kv; ts = tv; op = ops.Update; cells = cv }) h i refl i.name
composed_by ls kw kv tw tv cw cv ops.Update ops.Update h i = made_over ls kv tv ops.Update (record { key = kw; ts = tw; op = ops.Update; cells = cw }) (record { key = kv; ts = tv; op = ops.Update; cells = cv }) h i refl i.name

pub composed_made : (ls : List Leaf) (w v : RowVersion) → IsMade ls w → IsMade ls v → IsMade ls (compose w v)
composed_made ls w v h i = composed_by ls w.key v.key w.ts v.ts w.cells v.cells w.op v.op h i

-- what two versions have when composed all of a list have when rolled up
abbrev pub PassesOver : (RowVersion → Type 0) → Type 0
PassesOver P = (w v : RowVersion) → P w → P v → P (compose w v)

onto_by : (P : RowVersion → Type 0) (v w : RowVersion) (ws : List RowVersion) (b : Bool) → PassesOver P → P v → AllByRecursion P (w ∷ ws) → AllByRecursion P (cond b (compose w v ∷ ws) (v ∷ w ∷ ws))
onto_by P v w ws true f p a = (f w v a.0 p, a.1)
onto_by P v w ws false f p a = (p, a)

onto_all : (P : RowVersion → Type 0) (v : RowVersion) (ws : List RowVersion) → PassesOver P → P v → AllByRecursion P ws → AllByRecursion P (onto v ws)
onto_all P v [] f p a = (p, tt)
onto_all P v (w ∷ ws) f p a = onto_by P v w ws (same_key v.key w.key) f p a

rolled_by : (P : RowVersion → Type 0) (v : RowVersion) (ws : List RowVersion) (b : Bool) → PassesOver P → P v → AllByRecursion P ws → AllByRecursion P (cond b (v ∷ ws) (onto v ws))
rolled_by P v ws true f p a = (p, a)
rolled_by P v ws false f p a = onto_all P v ws f p a

pub rolled_all : (P : RowVersion → Type 0) (t : ℕ) (vs : List RowVersion) → PassesOver P → AllByRecursion P vs → AllByRecursion P (rolled_up t vs)
rolled_all P t [] f a = tt
rolled_all P t (v ∷ vs) f a = rolled_by P v (rolled_up t vs) (nat_lt t v.ts) f a.0 (rolled_all P t vs f a.1)

pub collapse_all : (P : RowVersion → Type 0) (m : ℕ) (vs : List RowVersion) → PassesOver P → AllByRecursion P vs → AllByRecursion P (collapse m vs)
unfolding collapse
collapse_all P m vs f a = all_filter P (λ v. nat_lt m v.ts || is_insert v.op) (rolled_up m vs) (rolled_all P m vs f a)

-- ---- and goes over to other carriers

long_by : (n : ℕ) (kw kv : List ℕ) (tw tv : ℕ) (cw cv : List Cell) (o p : Op) → length cw ≡ n → length cv ≡ n → length (compose (record { key = kw; ts = tw; op = o; cells = cw }) (record { key = kv; ts = tv; op = p; cells = cv })).cells ≡ n
unfolding compose
long_by n kw kv tw tv cw cv o ops.Insert h i = i
long_by n kw kv tw tv cw cv o ops.Delete h i = i
long_by n kw kv tw tv cw cv ops.Delete ops.Update h i = h
long_by n kw kv tw tv cw cv ops.Insert ops.Update h i = overlay_length cw cv (h ∙ sym i) ∙ h
long_by n kw kv tw tv cw cv ops.Update ops.Update h i = overlay_length cw cv (h ∙ sym i) ∙ h

long_over : (n : ℕ) → PassesOver (λ v. length v.cells ≡ n)
long_over n w v h i = long_by n w.key v.key w.ts v.ts w.cells v.cells w.op v.op h i

compose_by : (from to : List Leaf) (kw kv : List ℕ) (tw tv : ℕ) (cw cv : List Cell) (o p : Op) → length cw ≡ length from → length cv ≡ length from
    → coerced from to (compose (record { key = kw; ts = tw; op = o; cells = cw }) (record { key = kv; ts = tv; op = p; cells = cv })) ≡ compose (coerced from to (record { key = kw; ts = tw; op = o; cells = cw })) (coerced from to (record { key = kv; ts = tv; op = p; cells = cv }))
unfolding compose
compose_by from to kw kv tw tv cw cv o ops.Insert h i = refl
compose_by from to kw kv tw tv cw cv o ops.Delete h i = refl
compose_by from to kw kv tw tv cw cv ops.Delete ops.Update h i = refl
compose_by from to kw kv tw tv cw cv ops.Insert ops.Update h i = ap (λ (cells : List Cell). let v : RowVersion = record { key = kv; ts = tv; op = ops.Insert; cells = cells } in v) (coerce_overlay from to cw cv h i)
compose_by from to kw kv tw tv cw cv ops.Update ops.Update h i = ap (λ (cells : List Cell). let v : RowVersion = record { key = kv; ts = tv; op = ops.Update; cells = cells } in v) (coerce_overlay from to cw cv h i)

compose_goes : (from to : List Leaf) (w v : RowVersion) → length w.cells ≡ length from → length v.cells ≡ length from → coerced from to (compose w v) ≡ compose (coerced from to w) (coerced from to v)
compose_goes from to w v h i = compose_by from to w.key v.key w.ts v.ts w.cells v.cells w.op v.op h i

onto_goes_by : (from to : List Leaf) (v w : RowVersion) (ws : List RowVersion) (b : Bool) → length v.cells ≡ length from → length w.cells ≡ length from
    → coerce_all from to (cond b (compose w v ∷ ws) (v ∷ w ∷ ws)) ≡ cond b (compose (coerced from to w) (coerced from to v) ∷ coerce_all from to ws) (coerced from to v ∷ coerced from to w ∷ coerce_all from to ws)
onto_goes_by from to v w ws true h i = ap (λ (x : RowVersion). x ∷ coerce_all from to ws) (compose_goes from to w v i h)
onto_goes_by from to v w ws false h i = refl

onto_goes : (from to : List Leaf) (v : RowVersion) (ws : List RowVersion) → length v.cells ≡ length from → AreLong (length from) ws → coerce_all from to (onto v ws) ≡ onto (coerced from to v) (coerce_all from to ws)
onto_goes from to v [] h a = refl
onto_goes from to v (w ∷ ws) h a = onto_goes_by from to v w ws (same_key v.key w.key) h a.0

rolled_goes_by : (from to : List Leaf) (v : RowVersion) (ws us : List RowVersion) (b : Bool) → length v.cells ≡ length from → AreLong (length from) ws → coerce_all from to ws ≡ us
    → coerce_all from to (cond b (v ∷ ws) (onto v ws)) ≡ cond b (coerced from to v ∷ us) (onto (coerced from to v) us)
rolled_goes_by from to v ws us true h a e = ap (λ (l : List RowVersion). coerced from to v ∷ l) e
rolled_goes_by from to v ws us false h a e = onto_goes from to v ws h a ∙ ap (onto (coerced from to v)) e

rolled_goes : (from to : List Leaf) (t : ℕ) (vs : List RowVersion) → AreLong (length from) vs → coerce_all from to (rolled_up t vs) ≡ rolled_up t (coerce_all from to vs)
rolled_goes from to t [] a = refl
rolled_goes from to t (v ∷ vs) a = rolled_goes_by from to v (rolled_up t vs) (rolled_up t (coerce_all from to vs)) (nat_lt t v.ts) a.0 (rolled_all (λ v. length v.cells ≡ length from) t vs (long_over (length from)) a.1) (rolled_goes from to t vs a.1)

kept_goes_by : (from to : List Leaf) (v : RowVersion) (xs ys : List RowVersion) (b : Bool) → coerce_all from to xs ≡ ys → coerce_all from to (cond b (v ∷ xs) xs) ≡ cond b (coerced from to v ∷ ys) ys
kept_goes_by from to v xs ys true e = ap (λ (l : List RowVersion). coerced from to v ∷ l) e
kept_goes_by from to v xs ys false e = e

-- a test of timestamps and operations keeps the same
kept_goes : (test : ℕ → Op → Bool) (from to : List Leaf) (vs : List RowVersion) → coerce_all from to (filter (λ v. test v.ts v.op) vs) ≡ filter (λ v. test v.ts v.op) (coerce_all from to vs)
kept_goes test from to [] = refl
kept_goes test from to (v ∷ vs) = kept_goes_by from to v (filter (λ v. test v.ts v.op) vs) (filter (λ v. test v.ts v.op) (coerce_all from to vs)) (test v.ts v.op) (kept_goes test from to vs)

-- collapsing and going over to other carriers may change places
pub collapse_goes : (from to : List Leaf) (m : ℕ) (vs : List RowVersion) → AreLong (length from) vs → coerce_all from to (collapse m vs) ≡ collapse m (coerce_all from to vs)
unfolding collapse
collapse_goes from to m vs a = kept_goes (λ t o. nat_lt m t || is_insert o) from to (rolled_up m vs) ∙ ap (filter (λ v. nat_lt m v.ts || is_insert v.op)) (rolled_goes from to m vs a)

-- and so may reading at a moment
pub asof_goes : (from to : List Leaf) (t : ℕ) (vs : List RowVersion) → AreLong (length from) vs → coerce_all from to (asof t vs) ≡ asof t (coerce_all from to vs)
unfolding asof
asof_goes from to t vs a = kept_goes (λ u o. nat_le u t && is_insert o) from to (rolled_up t vs) ∙ ap (filter (λ v. nat_le v.ts t && is_insert v.op)) (rolled_goes from to t vs a)

-- ---- what stands above the minimum

pub composed_ts : (w v : RowVersion) → (compose w v).ts ≡ v.ts
unfolding compose
composed_ts w v = refl

onto_from_by : (m : ℕ) (u w : RowVersion) (ws : List RowVersion) (v : RowVersion) (b : Bool) → u.ts ≤ m → m < v.ts → Contains (cond b (compose w u ∷ ws) (u ∷ w ∷ ws)) v → Contains (w ∷ ws) v
onto_from_by m u w ws v true l h (zero, n, e) = let t : u.ts ≡ v.ts = sym (composed_ts w u) ∙ ap (λ (x : RowVersion). x.ts) e in absurd (omega (arith, l, h, t))
onto_from_by m u w ws v true l h (suc k, n, e) = (suc k, omega (arith, n), e)
onto_from_by m u w ws v false l h (zero, n, e) = let t : u.ts ≡ v.ts = ap (λ (x : RowVersion). x.ts) e in absurd (omega (arith, l, h, t))
onto_from_by m u w ws v false l h (suc k, n, e) = (k, omega (arith, n), e)

onto_from : (m : ℕ) (u : RowVersion) (ws : List RowVersion) (v : RowVersion) → u.ts ≤ m → m < v.ts → Contains (onto u ws) v → Contains ws v
onto_from m u [] v l h (zero, n, e) = let t : u.ts ≡ v.ts = ap (λ (x : RowVersion). x.ts) e in absurd (omega (arith, l, h, t))
onto_from m u [] v l h (suc k, n, e) = absurd (omega (arith, n))
onto_from m u (w ∷ ws) v l h i = onto_from_by m u w ws v (same_key u.key w.key) l h i

rolled_from_by : (m : ℕ) (u : RowVersion) (ws us : List RowVersion) (v : RowVersion) (b : Bool) → nat_lt m u.ts ≡ b → m < v.ts → (Contains ws v → Contains us v) → Contains (cond b (u ∷ ws) (onto u ws)) v → Contains (u ∷ us) v
rolled_from_by m u ws us v true e h f (zero, n, d) = (zero, omega arith, d)
rolled_from_by m u ws us v true e h f (suc k, n, d) = let r = f (k, omega (arith, n), d) in (suc r.0, omega (arith, r.1), r.2)
rolled_from_by m u ws us v false e h f i = let r = f (onto_from m u ws v (ltb-false m u.ts e) h i) in (suc r.0, omega (arith, r.1), r.2)

rolled_from : (m : ℕ) (vs : List RowVersion) (v : RowVersion) → m < v.ts → Contains (rolled_up m vs) v → Contains vs v
rolled_from m [] v h i = i
rolled_from m (u ∷ us) v h i = rolled_from_by m u (rolled_up m us) us v (nat_lt m u.ts) refl h (rolled_from m us v h) i

onto_in_by : (m : ℕ) (u w : RowVersion) (ws : List RowVersion) (v : RowVersion) (b : Bool) → same_key u.key w.key ≡ b → stands_before u w ≡ true → u.ts ≤ m → m < v.ts → Contains (w ∷ ws) v → Contains (cond b (compose w u ∷ ws) (u ∷ w ∷ ws)) v
onto_in_by m u w ws v true e s l h (zero, n, d) = let t : w.ts < u.ts = later u w s e in let x : w.ts ≡ v.ts = ap (λ (y : RowVersion). y.ts) d in absurd (omega (arith, t, x, l, h))
onto_in_by m u w ws v true e s l h (suc k, n, d) = (suc k, omega (arith, n), d)
onto_in_by m u w ws v false e s l h (k, n, d) = (suc k, omega (arith, n), d)

onto_in : (m : ℕ) (u : RowVersion) (ws : List RowVersion) (v : RowVersion) → Above u ws → u.ts ≤ m → m < v.ts → Contains ws v → Contains (onto u ws) v
onto_in m u [] v a l h i = absurd (omega (arith, i.1))
onto_in m u (w ∷ ws) v a l h i = onto_in_by m u w ws v (same_key u.key w.key) refl a.0 l h i

rolled_in_by : (m : ℕ) (u : RowVersion) (ws us : List RowVersion) (v : RowVersion) (b : Bool) → nat_lt m u.ts ≡ b → Above u ws → m < v.ts → (Contains us v → Contains ws v) → Contains (u ∷ us) v → Contains (cond b (u ∷ ws) (onto u ws)) v
rolled_in_by m u ws us v true e a h f (zero, n, d) = (zero, omega arith, d)
rolled_in_by m u ws us v true e a h f (suc k, n, d) = let r = f (k, omega (arith, n), d) in (suc r.0, omega (arith, r.1), r.2)
rolled_in_by m u ws us v false e a h f (zero, n, d) = let l : u.ts ≤ m = ltb-false m u.ts e in let t : u.ts ≡ v.ts = ap (λ (x : RowVersion). x.ts) d in absurd (omega (arith, l, h, t))
rolled_in_by m u ws us v false e a h f (suc k, n, d) = onto_in m u ws v a (ltb-false m u.ts e) h (f (k, omega (arith, n), d))

rolled_in : (m : ℕ) (vs : List RowVersion) (v : RowVersion) → IsTrue (is_ordered vs) → m < v.ts → Contains vs v → Contains (rolled_up m vs) v
rolled_in m [] v o h i = i
rolled_in m (u ∷ us) v o h i = rolled_in_by m u (rolled_up m us) us v (nat_lt m u.ts) refl (rolled-above m u us (ordered-above u us o)) h (rolled_in m us v (ordered-tail u us o) h) i

pub collapse_from : (m : ℕ) (vs : List RowVersion) (v : RowVersion) → m < v.ts → Contains (collapse m vs) v → Contains vs v
unfolding collapse
collapse_from m vs v h i = rolled_from m vs v h (from-filter (λ v. nat_lt m v.ts || is_insert v.op) (rolled_up m vs) v i).0

pub collapse_in : (m : ℕ) (vs : List RowVersion) (v : RowVersion) → IsTrue (is_ordered vs) → m < v.ts → Contains vs v → Contains (collapse m vs) v
unfolding collapse
collapse_in m vs v o h i = in-filter (λ v. nat_lt m v.ts || is_insert v.op) (rolled_up m vs) v (rolled_in m vs v o h i) (or_left (nat_lt m v.ts) (is_insert v.op) (lt-ltb m v.ts h))
