-- The merge of ordered lists, one version at a time.
use Rattle.std.proofs.Common.{Bool, List, [], ap, ap₂, cond, eq-eqb, false, length, refl, subst, suc, sym, take, true, zero, ℕ, ◌++◌, ◌∙◌, ◌∷◌, ◌≡◌}
use Rattle.std.specs.Prelude.{Contains, IsTrue, None, Option, Some, find, map, nat_lt, slice_get, ◌&&◌, ◌==◌, ◌||◌}
use Rattle.std.specs.List.{AllByRecursion}
use Rattle.std.proofs.lemmas.Bool.{and_from, false≢true}
use Rattle.lt_terms.specs.Key.{below, same_key}
use Rattle.lt_tables.specs.Version.{first_version}
use Rattle.lt_tables.specs.Schema.{first_of}
use Rattle.lt_tables.specs.Version.{RowVersion, is_ordered, merge, put_versions, same_name, stands_before}
use Rattle.lt_laws.proofs.MergeLaws.{merge-alone, merge-first, merge-only, merge-ordered, merged_member, named-itself, named-same, same_names}
use Rattle.lt_laws.proofs.CoerceLaws.{both_ways}
use Rattle.lt_codecs.proofs.ListFacts.{all_append, all_map}
use Rattle.lt_lemmas.proofs.ListFacts.{all_from}
use Rattle.lt_laws.proofs.ListFacts.{all_at, from_map}
use Rattle.lt_lemmas.proofs.MergeLaws.{Above, above-before, above-same, before-not, before-other, before-trans, named, named-key, named-ts, ordered-above, ordered-cons, ordered-tail, same-itself, same-not-before}
use Rattle.lt_version_laws.specs.Steps.{AreEmpty, AreOrdered, BeginsBehind, BeginsNotBefore, IsLeast, MergeSteps, past}

-- ---- names

name_turns : (v w : RowVersion) → same_name v w ≡ true → same_name w v ≡ true
name_turns v w h = let n = same_names v w h in and_from (same_key w.key v.key) (w.ts == v.ts) (ap (same_key w.key) n.0 ∙ same-itself w.key) (eq-eqb w.ts v.ts (sym n.1))

pub name_back : (v w : RowVersion) → same_name v w ≡ same_name w v
name_back v w = both_ways (same_name v w) (same_name w v) (name_turns v w) (name_turns w v)

pub name_itself : (v : RowVersion) → same_name v v ≡ true
name_itself v = and_from (same_key v.key v.key) (v.ts == v.ts) (same-itself v.key) (eq-eqb v.ts v.ts refl)

pub before_apart : (v w : RowVersion) → stands_before v w ≡ true → same_name v w ≡ false
before_apart v w h = by_name (same_name v w) refl
  where
    by_name : (b : Bool) → same_name v w ≡ b → same_name v w ≡ false
    by_name true e = absurd (false≢true (sym (same-not-before v w e) ∙ h))
    by_name false e = e

behind_other : (v w : RowVersion) → stands_before v w ≡ true → named v.key v.ts w ≡ false
behind_other v w h = by_name (named v.key v.ts w) refl
  where
    by_name : (b : Bool) → named v.key v.ts w ≡ b → named v.key v.ts w ≡ false
    by_name true e =
        let same : same_name v w ≡ true = and_from (same_key v.key w.key) (v.ts == w.ts) (ap (same_key v.key) (sym (named-key v.key v.ts w e)) ∙ same-itself v.key) (eq-eqb v.ts w.ts (sym (named-ts v.key v.ts w e))) in
        absurd (false≢true (sym (same-not-before v w same) ∙ h))
    by_name false e = e

-- a name is not found among those that stand behind it
none_behind : (v : RowVersion) (ws : List RowVersion) → Above v ws → find (named v.key v.ts) ws ≡ None
none_behind v [] a = refl
none_behind v (w ∷ ws) a = ap (λ (b : Bool). cond b (Some w) (find (named v.key v.ts) ws)) (behind_other v w a.0) ∙ none_behind v ws a.1

-- ---- the first that has the least name

all_behind : (v : RowVersion) (vs : List RowVersion) → IsTrue (is_ordered vs) → BeginsBehind v vs → Above v vs
all_behind v [] o h = tt
all_behind v (w ∷ ws) o h = (h, above-before v w ws h (ordered-above w ws o))

begins_found : (v : RowVersion) (vs : List RowVersion) → first_version vs ≡ Some v → find (named v.key v.ts) vs ≡ Some v
begins_found v [] e = cc
begins_found v (w ∷ ws) e = let d : w ≡ v = cc in
    ap (λ (b : Bool). cond b (Some w) (find (named v.key v.ts) ws)) (ap (named v.key v.ts) d ∙ named-itself v) ∙ ap Some d

least_found : (lists : List (List RowVersion)) (i : ℕ) (v : RowVersion) (list : List RowVersion) → AreOrdered lists → slice_get lists i ≡ Some list → first_version list ≡ Some v → AllByRecursion (BeginsBehind v) (take i lists)
    → first_of (map (find (named v.key v.ts)) lists) ≡ Some v
least_found [] i v list o e f a = cc
least_found (l ∷ lists) zero v list o e f a = let d : l ≡ list = cc in
    ap (λ (x : Option RowVersion). first_of (x ∷ map (find (named v.key v.ts)) lists)) (ap (find (named v.key v.ts)) d ∙ begins_found v list f)
least_found (l ∷ lists) (suc i) v list o e f a =
    ap (λ (x : Option RowVersion). first_of (x ∷ map (find (named v.key v.ts)) lists)) (none_behind v l (all_behind v l o.0 a.0)) ∙ least_found lists i v list o.1 e f a.1

-- ---- what is past a name

past_found : (key : List ℕ) (t : ℕ) (v : RowVersion) (vs : List RowVersion) → named key t v ≡ false → find (named key t) (past v vs) ≡ find (named key t) vs
past_found key t v [] h = refl
past_found key t v (w ∷ ws) h = by_name (same_name v w) refl
  where
    by_name : (b : Bool) → same_name v w ≡ b → find (named key t) (cond b ws (w ∷ ws)) ≡ find (named key t) (w ∷ ws)
    by_name true e = ap (λ (b : Bool). cond b (Some w) (find (named key t) ws)) (sym (sym (named-same key t v w e) ∙ h))
    by_name false e = refl

pasts_found : (key : List ℕ) (t : ℕ) (v : RowVersion) (lists : List (List RowVersion)) → named key t v ≡ false → map (find (named key t)) (map (past v) lists) ≡ map (find (named key t)) lists
pasts_found key t v [] h = refl
pasts_found key t v (l ∷ lists) h = ap₂ (λ (x : Option RowVersion) (xs : List (Option RowVersion)). x ∷ xs) (past_found key t v l h) (pasts_found key t v lists h)

behind_from : (v w : RowVersion) → stands_before w v ≡ false → same_name v w ≡ false → stands_before v w ≡ true
behind_from v w h n = before-other w v h (name_back w v ∙ n)

past_above : (v : RowVersion) (vs : List RowVersion) → IsTrue (is_ordered vs) → BeginsNotBefore v vs → Above v (past v vs)
past_above v [] o h = tt
past_above v (w ∷ ws) o h = by_name (same_name v w) refl
  where
    by_name : (b : Bool) → same_name v w ≡ b → Above v (cond b ws (w ∷ ws))
    by_name true e = above-same v w ws e (ordered-above w ws o)
    by_name false e = let b = behind_from v w h e in (b, above-before v w ws b (ordered-above w ws o))

pub past_ordered : (v : RowVersion) (vs : List RowVersion) → IsTrue (is_ordered vs) → IsTrue (is_ordered (past v vs))
past_ordered v [] o = refl
past_ordered v (w ∷ ws) o = by_name (same_name v w)
  where
    by_name : (b : Bool) → IsTrue (is_ordered (cond b ws (w ∷ ws)))
    by_name true = ordered-tail w ws o
    by_name false = o

-- ---- one step of a merge

module _ (lists : List (List RowVersion)) (i : ℕ) (v : RowVersion) (ordered : AreOrdered lists) (least : IsLeast lists i v) where
  rest_above : Above v (merge (map (past v) lists))
  rest_above = all_from (λ w. IsTrue (stands_before v w)) (merge (map (past v) lists)) above_one
    where
      above_one : (w : RowVersion) → Contains (merge (map (past v) lists)) w → IsTrue (stands_before v w)
      above_one w h =
          let m = merged_member (map (past v) lists) w h in
          let l = from_map (past v) lists m.0 m.1 in
          all_at (λ w. IsTrue (stands_before v w)) (past v l.0) w
          (past_above v l.0 (all_at (λ vs. IsTrue (is_ordered vs)) lists l.0 ordered l.1) (all_at (BeginsNotBefore v) lists l.0 least.all l.1)) (subst (λ (x : List RowVersion). Contains x w) (sym l.2) m.2)

  found : (key : List ℕ) (t : ℕ) (b : Bool) → named key t v ≡ b → cond b (Some v) (find (named key t) (merge (map (past v) lists))) ≡ first_of (map (find (named key t)) lists)
  found key t true e =
      let k = named-key key t v e in
      let u = named-ts key t v e in
      sym (ap₂ (λ (x : List ℕ) (y : ℕ). first_of (map (find (named x y)) lists)) k (sym u) ∙ least_found lists i v least.list ordered least.stands least.begins least.before)
  found key t false e = merge-first key t (map (past v) lists) ∙ ap first_of (pasts_found key t v lists e)

  pub merge_goes : merge lists ≡ v ∷ merge (map (past v) lists)
  merge_goes = sym (merge-only lists (v ∷ merge (map (past v) lists)) (record {
    ordered = ordered-cons v (merge (map (past v) lists)) rest_above (merge-ordered (map (past v) lists));
    first = λ key t. found key t (named key t v) refl;
  }))

pub merge_ends : (lists : List (List RowVersion)) → AreEmpty lists → merge lists ≡ []
unfolding merge
merge_ends [] a = refl
merge_ends (l ∷ lists) a = ap (λ (x : List RowVersion). put_versions x (merge lists)) a.0 ∙ merge_ends lists a.1

-- ---- the least place, list by list

got_front : {A : Type 0} (xs ys : List A) (i : ℕ) (x : A) → slice_get xs i ≡ Some x → slice_get (xs ++ ys) i ≡ Some x
got_front [] ys i x e = cc
got_front (y ∷ xs) ys zero x e = e
got_front (y ∷ xs) ys (suc i) x e = got_front xs ys i x e

got_last : {A : Type 0} (xs : List A) (x : A) → slice_get (xs ++ x ∷ []) (length xs) ≡ Some x
got_last [] x = refl
got_last (y ∷ xs) x = got_last xs x

take_front : {A : Type 0} (xs ys : List A) (i : ℕ) (x : A) → slice_get xs i ≡ Some x → take i (xs ++ ys) ≡ take i xs
take_front [] ys i x e = cc
take_front (y ∷ xs) ys zero x e = refl
take_front (y ∷ xs) ys (suc i) x e = ap (λ l. y ∷ l) (take_front xs ys i x e)

take_whole : {A : Type 0} (xs ys : List A) → take (length xs) (xs ++ ys) ≡ xs
take_whole [] ys = refl
take_whole (x ∷ xs) ys = ap (λ l. x ∷ l) (take_whole xs ys)

empty_behind : (v : RowVersion) (vs : List RowVersion) → vs ≡ [] → BeginsBehind v vs
empty_behind v vs e = subst (BeginsBehind v) (sym e) tt

empty_not : (v : RowVersion) (vs : List RowVersion) → vs ≡ [] → BeginsNotBefore v vs
empty_not v vs e = subst (BeginsNotBefore v) (sym e) tt

not_itself : (v : RowVersion) → stands_before v v ≡ false
not_itself v = same-not-before v v (name_itself v)

pub least_first : (v : RowVersion) (vs : List RowVersion) (lists : List (List RowVersion)) → AreEmpty lists → IsLeast (lists ++ (v ∷ vs) ∷ []) (length lists) v
least_first v vs lists a = record {
  list = v ∷ vs;
  stands = got_last lists (v ∷ vs);
  begins = refl;
  before = subst (AllByRecursion (BeginsBehind v)) (sym (take_whole lists ((v ∷ vs) ∷ []))) (all_map (λ vs. vs ≡ []) (BeginsBehind v) lists (empty_behind v) a);
  all = all_append (BeginsNotBefore v) lists ((v ∷ vs) ∷ []) (all_map (λ vs. vs ≡ []) (BeginsNotBefore v) lists (empty_not v) a) (not_itself v, tt);
}

pub least_stays : (lists : List (List RowVersion)) (i : ℕ) (v : RowVersion) (vs : List RowVersion) → IsLeast lists i v → BeginsNotBefore v vs → IsLeast (lists ++ vs ∷ []) i v
least_stays lists i v vs l h = record {
  list = l.list;
  stands = got_front lists (vs ∷ []) i l.list l.stands;
  begins = l.begins;
  before = subst (AllByRecursion (BeginsBehind v)) (sym (take_front lists (vs ∷ []) i l.list l.stands)) l.before;
  all = all_append (BeginsNotBefore v) lists (vs ∷ []) l.all (h, tt);
}

behind_less : (w v u : RowVersion) → stands_before w v ≡ true → stands_before u v ≡ false → stands_before w u ≡ true
behind_less w v u h n = by_name (same_name u v) refl
  where
    by_name : (b : Bool) → same_name u v ≡ b → stands_before w u ≡ true
    by_name true e = let m = same_names u v e in ap₂ (λ (k : List ℕ) (t : ℕ). below w.key k || (same_key w.key k && nat_lt t w.ts)) m.0 m.1 ∙ h
    by_name false e = before-trans w v u h (before-other u v n e)

less_behind : (w v : RowVersion) → stands_before w v ≡ true → (vs : List RowVersion) → BeginsNotBefore v vs → BeginsBehind w vs
less_behind w v h [] n = tt
less_behind w v h (u ∷ us) n = behind_less w v u h n

behind_not : (w : RowVersion) (vs : List RowVersion) → BeginsBehind w vs → BeginsNotBefore w vs
behind_not w [] h = tt
behind_not w (u ∷ us) h = before-not w u h

pub least_changes : (lists : List (List RowVersion)) (i : ℕ) (v w : RowVersion) (ws : List RowVersion) → IsLeast lists i v → stands_before w v ≡ true → IsLeast (lists ++ (w ∷ ws) ∷ []) (length lists) w
least_changes lists i v w ws l h =
    let behind = all_map (BeginsNotBefore v) (BeginsBehind w) lists (less_behind w v h) l.all in record {
      list = w ∷ ws;
      stands = got_last lists (w ∷ ws);
      begins = refl;
      before = subst (AllByRecursion (BeginsBehind w)) (sym (take_whole lists ((w ∷ ws) ∷ []))) behind;
      all = all_append (BeginsNotBefore w) lists ((w ∷ ws) ∷ []) (all_map (BeginsBehind w) (BeginsNotBefore w) lists (behind_not w) behind) (not_itself w, tt);
    }

-- ---- two lists

past_own : (v : RowVersion) (vs : List RowVersion) → past v (v ∷ vs) ≡ vs
past_own v vs = ap (λ (b : Bool). cond b vs (v ∷ vs)) (name_itself v)

past_one : (v w : RowVersion) (ws : List RowVersion) (b : Bool) → same_name v w ≡ b → past v (w ∷ ws) ≡ cond b ws (w ∷ ws)
past_one v w ws b e = ap (λ (b : Bool). cond b ws (w ∷ ws)) e

pub pair_left : (v w : RowVersion) (vs ws : List RowVersion) → IsTrue (is_ordered (v ∷ vs)) → IsTrue (is_ordered (w ∷ ws)) → stands_before v w ≡ true → merge ((v ∷ vs) ∷ (w ∷ ws) ∷ []) ≡ v ∷ merge (vs ∷ (w ∷ ws) ∷ [])
pair_left v w vs ws o p h = merge_goes ((v ∷ vs) ∷ (w ∷ ws) ∷ []) 0 v (o, (p, tt)) (record { list = v ∷ vs; stands = refl; begins = refl; before = tt; all = (not_itself v, (before-not v w h, tt)) })
    ∙ ap₂ (λ (x y : List RowVersion). v ∷ merge (x ∷ y ∷ [])) (past_own v vs) (past_one v w ws false (before_apart v w h))

pub pair_both : (v w : RowVersion) (vs ws : List RowVersion) → IsTrue (is_ordered (v ∷ vs)) → IsTrue (is_ordered (w ∷ ws)) → same_name v w ≡ true → merge ((v ∷ vs) ∷ (w ∷ ws) ∷ []) ≡ v ∷ merge (vs ∷ ws ∷ [])
pair_both v w vs ws o p h = merge_goes ((v ∷ vs) ∷ (w ∷ ws) ∷ []) 0 v (o, (p, tt)) (record { list = v ∷ vs; stands = refl; begins = refl; before = tt; all = (not_itself v, (same-not-before w v (name_turns v w h), tt)) })
    ∙ ap₂ (λ (x y : List RowVersion). v ∷ merge (x ∷ y ∷ [])) (past_own v vs) (past_one v w ws true h)

pub pair_right : (v w : RowVersion) (vs ws : List RowVersion) → IsTrue (is_ordered (v ∷ vs)) → IsTrue (is_ordered (w ∷ ws)) → stands_before w v ≡ true → merge ((v ∷ vs) ∷ (w ∷ ws) ∷ []) ≡ w ∷ merge ((v ∷ vs) ∷ ws ∷ [])
pair_right v w vs ws o p h = merge_goes ((v ∷ vs) ∷ (w ∷ ws) ∷ []) 1 w (o, (p, tt)) (record { list = w ∷ ws; stands = refl; begins = refl; before = (h, tt); all = (before-not w v h, (not_itself w, tt)) })
    ∙ ap₂ (λ (x y : List RowVersion). w ∷ merge (x ∷ y ∷ [])) (past_one w v vs false (before_apart w v h)) (past_own w ws)

pub left_alone : (vs : List RowVersion) → IsTrue (is_ordered vs) → merge (vs ∷ [] ∷ []) ≡ vs
unfolding merge
left_alone vs o = merge-alone vs o

pub right_alone : (ws : List RowVersion) → IsTrue (is_ordered ws) → merge ([] ∷ ws ∷ []) ≡ ws
unfolding merge
right_alone ws o = merge-alone ws o

pub merge_steps : MergeSteps
merge_steps = record {
  goes = merge_goes;
  ends = merge_ends;
  first = least_first;
  stays = least_stays;
  changes = least_changes;
  ordered = past_ordered;
  left = pair_left;
  both = pair_both;
  right = pair_right;
  left_alone = left_alone;
  right_alone = right_alone;
}
