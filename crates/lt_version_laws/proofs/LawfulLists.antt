-- What merges, moments and collapses make of lawful versions is lawful, under any layout.
use Rattle.std.proofs.Common.{Bool, List, [], ap, arith, eq-eqb, eqb-true, length, refl, subst, sym, true, ℕ, ◌∙◌, ◌∷◌, ◌≡◌}
use Rattle.std.specs.Prelude.{IsTrue, map, nat_le, not, ◌&&◌, ◌==◌, ◌||◌}
use Rattle.std.specs.List.{AllByRecursion, list_all}
use Rattle.std.proofs.lemmas.Bool.{and_from, and_parts}
use Rattle.lt_terms.specs.declared.Op.{Op}
use Rattle.lt_terms.specs.Key.{max_key, same_key}
use Rattle.lt_terms.specs.Layout.{Cell, Leaf, agree, are_lawful, is_unset, suits, with_cells}
use Rattle.lt_terms.specs.Value.{is_timestamp}
use Rattle.lt_tables.specs.Version.{AreVersions, RowVersion, asof, collapse, compose, is_delete, is_insert, is_version, merge, overlay, rolled_up}
use Rattle.lt_laws.proofs.LaidLaws.{over_agrees, over_fits}
use Rattle.lt_laws.proofs.CoerceLaws.{over, overlay_length}
use Rattle.lt_laws.proofs.CollapseLaws.{collapse_all, rolled_all}
use Rattle.lt_laws.proofs.MergeLaws.{merge-ordered, merged_member}
use Rattle.lt_codecs.proofs.ListFacts.{all_both, all_map, all_of_map, all_to_map}
use Rattle.lt_lemmas.proofs.ListFacts.{all_filter, all_from}
use Rattle.lt_laws.proofs.ListFacts.{all_at}
use Rattle.lt_laws.proofs.MomentLaws.{asof-ordered, collapse-ordered}
use Rattle.lt_laws.proofs.NewDelta.{tests_hold}
use Rattle.lt_laws.proofs.ReadLaws.{all_tests}
use Rattle.lt_version_laws.specs.Steps.{LawfulSteps, MomentSteps}
use Rattle.lt_version_laws.proofs.MomentSteps.{asof_composes, asof_gives, asof_key, asof_passes, asof_skips, collapse_composes, collapse_gives, collapse_key, collapse_keeps, collapse_passes, composed_alone, composed_ordered, next_older}
use Rattle.lt_terms.specs.declared.Op.TheVariants as ops

-- ---- one list of cells laid over another

-- each leaf with a cell of both
abbrev Both : Type 0
Both = Leaf × (Cell × Cell)

both_cells : List Leaf → List Cell → List Cell → List Both
both_cells [] xs us = []
both_cells (l ∷ ls) [] us = []
both_cells (l ∷ ls) (x ∷ xs) [] = []
both_cells (l ∷ ls) (x ∷ xs) (u ∷ us) = (l, (x, u)) ∷ both_cells ls xs us

abbrev older_of : Both → Leaf × Cell
older_of t = (t.0, t.1.0)

abbrev newer_of : Both → Leaf × Cell
newer_of t = (t.0, t.1.1)

abbrev over_of : Both → Leaf × Cell
over_of t = (t.0, over t.1.0 t.1.1)

olders : (ls : List Leaf) (xs us : List Cell) → length ls ≡ length xs → length ls ≡ length us → map older_of (both_cells ls xs us) ≡ with_cells ls xs
unfolding both_cells
olders [] xs us e d = refl
olders (l ∷ ls) [] us e d = refl
olders (l ∷ ls) (x ∷ xs) [] e d = absurd (omega (arith, d))
olders (l ∷ ls) (x ∷ xs) (u ∷ us) e d = ap (λ (cs : List (Leaf × Cell)). (l, x) ∷ cs) (olders ls xs us (omega (arith, e)) (omega (arith, d)))

newers : (ls : List Leaf) (xs us : List Cell) → length ls ≡ length xs → length ls ≡ length us → map newer_of (both_cells ls xs us) ≡ with_cells ls us
unfolding both_cells
newers [] xs us e d = refl
newers (l ∷ ls) [] us e d = absurd (omega (arith, e))
newers (l ∷ ls) (x ∷ xs) [] e d = refl
newers (l ∷ ls) (x ∷ xs) (u ∷ us) e d = ap (λ (cs : List (Leaf × Cell)). (l, u) ∷ cs) (newers ls xs us (omega (arith, e)) (omega (arith, d)))

overs : (ls : List Leaf) (xs us : List Cell) → length ls ≡ length xs → length ls ≡ length us → map over_of (both_cells ls xs us) ≡ with_cells ls (overlay xs us)
unfolding both_cells
overs [] xs us e d = refl
overs (l ∷ ls) [] us e d = absurd (omega (arith, e))
overs (l ∷ ls) (x ∷ xs) [] e d = absurd (omega (arith, d))
overs (l ∷ ls) (x ∷ xs) (u ∷ us) e d = ap (λ (cs : List (Leaf × Cell)). (l, over x u) ∷ cs) (overs ls xs us (omega (arith, e)) (omega (arith, d)))

-- lawful cells, test by test
record LawfulBoth (f : Both → Leaf × Cell) (ts : List Both) : Type 0 where
  fits : AllByRecursion (λ t. IsTrue (suits (f t).0 (f t).1)) ts
  agrees : AllByRecursion (λ s. AllByRecursion (λ t. IsTrue (agree (f s) (f t))) ts) ts

tests_of : (f : Both → Leaf × Cell) (test : Leaf × Cell → Bool) (ts : List Both) → IsTrue (list_all test (map f ts)) → AllByRecursion (λ t. IsTrue (test (f t))) ts
tests_of f test ts h = all_of_map (λ c. IsTrue (test c)) f ts (all_tests test (map f ts) h)

tests_to : (f : Both → Leaf × Cell) (test : Leaf × Cell → Bool) (ts : List Both) → AllByRecursion (λ t. IsTrue (test (f t))) ts → IsTrue (list_all test (map f ts))
tests_to f test ts a = tests_hold test (map f ts) (all_to_map (λ c. IsTrue (test c)) f ts a)

lawful_of : (f : Both → Leaf × Cell) (ls : List Leaf) (cells : List Cell) (ts : List Both) → map f ts ≡ with_cells ls cells → IsTrue (are_lawful ls cells) → LawfulBoth f ts
lawful_of f ls cells ts e h =
    let cs = with_cells ls cells in
    let p = and_parts ((length ls == length cells) && list_all (λ c. suits c.0 c.1) cs) (list_all (λ a. list_all (agree a) cs) cs) h in
    let q = and_parts (length ls == length cells) (list_all (λ c. suits c.0 c.1) cs) p.0 in record {
      fits = tests_of f (λ c. suits c.0 c.1) ts (subst (λ (xs : List (Leaf × Cell)). IsTrue (list_all (λ c. suits c.0 c.1) xs)) (sym e) q.1);
      agrees = all_map (λ s. IsTrue (list_all (agree (f s)) (map f ts))) (λ s. AllByRecursion (λ t. IsTrue (agree (f s) (f t))) ts) ts (λ s i. tests_of f (agree (f s)) ts i)
          (tests_of f (λ a. list_all (agree a) (map f ts)) ts (subst (λ (xs : List (Leaf × Cell)). IsTrue (list_all (λ a. list_all (agree a) xs) xs)) (sym e) p.1));
    }

pub overlay_lawful : (ls : List Leaf) (xs us : List Cell) → IsTrue (are_lawful ls xs) → IsTrue (are_lawful ls us) → IsTrue (are_lawful ls (overlay xs us))
overlay_lawful ls xs us h i =
    let len : (cells : List Cell) → IsTrue (are_lawful ls cells) → length ls ≡ length cells = λ cells k. (let cs = with_cells ls cells in
    eqb-true (length ls) (length cells) (and_parts (length ls == length cells) (list_all (λ c. suits c.0 c.1) cs) (and_parts ((length ls == length cells) && list_all (λ c. suits c.0 c.1) cs) (list_all (λ a. list_all (agree a) cs) cs) k).0).0) in
    let e = len xs h in
    let d = len us i in
    let ts = both_cells ls xs us in
    let a = lawful_of older_of ls xs ts (olders ls xs us e d) h in
    let b = lawful_of newer_of ls us ts (newers ls xs us e d) i in
    let fits = all_both (λ t. IsTrue (suits t.0 t.1.0)) (λ t. IsTrue (suits t.0 t.1.1)) (λ t. IsTrue (suits t.0 (over t.1.0 t.1.1))) ts (λ t f g. over_fits t.0 t.1.0 t.1.1 f g) a.fits b.fits in
    let agrees = all_both (λ s. AllByRecursion (λ t. IsTrue (agree (older_of s) (older_of t))) ts) (λ s. AllByRecursion (λ t. IsTrue (agree (newer_of s) (newer_of t))) ts) (λ s. AllByRecursion (λ t. IsTrue (agree (over_of s) (over_of t))) ts) ts
    (λ s f g. all_both (λ t. IsTrue (agree (older_of s) (older_of t))) (λ t. IsTrue (agree (newer_of s) (newer_of t))) (λ t. IsTrue (agree (over_of s) (over_of t))) ts (λ t k l. over_agrees s.0 t.0 s.1.0 t.1.0 s.1.1 t.1.1 k l) f g) a.agrees b.agrees in
    subst (λ (cs : List (Leaf × Cell)). IsTrue ((length ls == length (overlay xs us)) && list_all (λ c. suits c.0 c.1) cs && list_all (λ a. list_all (agree a) cs) cs)) (overs ls xs us e d)
    (and_from _ _ (and_from _ _ (eq-eqb (length ls) (length (overlay xs us)) (e ∙ sym (overlay_length xs us (sym e ∙ d)))) (tests_to over_of (λ c. suits c.0 c.1) ts fits))
    (tests_to over_of (λ a. list_all (agree a) (map over_of ts)) ts (all_map (λ s. AllByRecursion (λ t. IsTrue (agree (over_of s) (over_of t))) ts) (λ s. IsTrue (list_all (agree (over_of s)) (map over_of ts))) ts (λ s k. tests_to over_of (agree (over_of s)) ts k) agrees)))

-- ---- composed versions

abbrev parts_lawful : List Leaf → List ℕ → ℕ → Op → List Cell → Type 0
parts_lawful ls k t o cells = IsTrue (nat_le 4 (length k) && nat_le (length k) max_key && is_timestamp t) × IsTrue (are_lawful ls cells) × IsTrue (not (is_delete o) || list_all is_unset cells)

parts_of : (ls : List Leaf) (v : RowVersion) → IsTrue (is_version ls v) → parts_lawful ls v.key v.ts v.op v.cells
parts_of ls v h =
    let p = and_parts (nat_le 4 (length v.key) && nat_le (length v.key) max_key && is_timestamp v.ts && are_lawful ls v.cells) (not (is_delete v.op) || list_all is_unset v.cells) h in
    let q = and_parts (nat_le 4 (length v.key) && nat_le (length v.key) max_key && is_timestamp v.ts) (are_lawful ls v.cells) p.0 in
    (q.0, q.1, p.1)

whole_of : (ls : List Leaf) (k : List ℕ) (t : ℕ) (o : Op) (cells : List Cell) → parts_lawful ls k t o cells → IsTrue (is_version ls (record { key = k; ts = t; op = o; cells = cells }))
whole_of ls k t o cells h = and_from _ _ (and_from _ _ h.0 h.1) h.2

composed_by : (ls : List Leaf) (kw kv : List ℕ) (tw tv : ℕ) (cw cv : List Cell) (o p : Op) → parts_lawful ls kw tw o cw → parts_lawful ls kv tv p cv
    → IsTrue (is_version ls (compose (record { key = kw; ts = tw; op = o; cells = cw }) (record { key = kv; ts = tv; op = p; cells = cv })))
unfolding compose
composed_by ls kw kv tw tv cw cv o ops.Insert h i = whole_of ls kv tv ops.Insert cv i
composed_by ls kw kv tw tv cw cv o ops.Delete h i = whole_of ls kv tv ops.Delete cv i
composed_by ls kw kv tw tv cw cv ops.Delete ops.Update h i = whole_of ls kv tv ops.Delete cw (i.0, h.1, h.2)
composed_by ls kw kv tw tv cw cv ops.Insert ops.Update h i = whole_of ls kv tv ops.Insert (overlay cw cv) (i.0, overlay_lawful ls cw cv h.1 i.1, refl)
composed_by ls kw kv tw tv cw cv ops.Update ops.Update h i = whole_of ls kv tv ops.Update (overlay cw cv) (i.0, overlay_lawful ls cw cv h.1 i.1, refl)

pub composed_lawful : (ls : List Leaf) (w v : RowVersion) → IsTrue (is_version ls w) → IsTrue (is_version ls v) → IsTrue (is_version ls (compose w v))
composed_lawful ls w v h i = composed_by ls w.key v.key w.ts v.ts w.cells v.cells w.op v.op (parts_of ls w h) (parts_of ls v i)

pub composed_versions : (ls : List Leaf) (v w : RowVersion) (ws : List RowVersion) → AreVersions ls (v ∷ w ∷ ws) → same_key v.key w.key ≡ true → AreVersions ls (compose w v ∷ ws)
composed_versions ls v w ws a h = record { ordered = composed_ordered v w ws a.ordered h; each = (composed_lawful ls w v a.each.1.0 a.each.0, a.each.1.1) }

-- ---- lists

pub asof_lawful : (ls : List Leaf) (t : ℕ) (vs : List RowVersion) → AreVersions ls vs → AreVersions ls (asof t vs)
unfolding asof
asof_lawful ls t vs a = record {
  ordered = asof-ordered t vs a.ordered;
  each = all_filter (λ v. IsTrue (is_version ls v)) (λ v. nat_le v.ts t && is_insert v.op) (rolled_up t vs) (rolled_all (λ v. IsTrue (is_version ls v)) t vs (λ w v h i. composed_lawful ls w v h i) a.each);
}

pub collapse_lawful : (ls : List Leaf) (m : ℕ) (vs : List RowVersion) → AreVersions ls vs → AreVersions ls (collapse m vs)
collapse_lawful ls m vs a = record { ordered = collapse-ordered m vs a.ordered; each = collapse_all (λ v. IsTrue (is_version ls v)) m vs (λ w v h i. composed_lawful ls w v h i) a.each }

pub merge_lawful : (ls : List Leaf) (lists : List (List RowVersion)) → AllByRecursion (AreVersions ls) lists → AreVersions ls (merge lists)
merge_lawful ls lists a = record {
  ordered = merge-ordered lists;
  each = all_from (λ v. IsTrue (is_version ls v)) (merge lists) (λ v h. let m = merged_member lists v h in all_at (λ v. IsTrue (is_version ls v)) m.0 v (all_at (AreVersions ls) lists m.0 a m.1).each m.2);
}

pub moment_steps : MomentSteps
moment_steps = record {
  older = next_older;
  ordered = composed_ordered;
  lawful = composed_versions;
  alone = composed_alone;
  skips = asof_skips;
  composes = asof_composes;
  passes = asof_passes;
  gives = asof_gives;
  key = asof_key;
  keeps = collapse_keeps;
  collapse_composes = collapse_composes;
  collapse_passes = collapse_passes;
  collapse_gives = collapse_gives;
  collapse_key = collapse_key;
}

pub lawful_steps : LawfulSteps
lawful_steps = record { merged = merge_lawful; at_moment = asof_lawful; collapsed = collapse_lawful }
