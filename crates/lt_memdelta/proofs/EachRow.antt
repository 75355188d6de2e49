-- What is true of each row, after a call.
use Rattle.std.proofs.Common.{◌≡◌, ℕ, List, [], ◌∷◌, refl, sym, subst, true, false, length, arith}
use Rattle.std.specs.Prelude.{Bool, IsTrue, Some, cond, filter, not, option_map, ◌&&◌, ◌==◌, ◌<◌}
use Rattle.std.specs.List.{AllByRecursion, list_all}
use Rattle.std.proofs.lemmas.Bool.{and_from}
use Rattle.std.proofs.lemmas.Bool.Decides.{nat_tests}
use Rattle.lt_lemmas.proofs.ListFacts.{all_filter}
use Rattle.lt_tables.specs.Version.{first_version}
use Rattle.lt_terms.specs.Key.{same_key}
use Rattle.lt_tables.specs.Version.{RowVersion, put_version, same_name, stands_before}
use Rattle.lt_version.specs.View.{Name, name_of}
use Rattle.lt_memdelta.specs.Deltas.{EachRow, group_rows, is_group, is_kept, put_in, regrouped, with_rows}
use Rattle.lt_memdelta.specs.declared.group.Group.{Group}
use Rattle.lt_memdelta.proofs.Grouped.{rows-by}

module _ (P : RowVersion → Type 0) where
  put-by : (v w : RowVersion) (ws : List RowVersion) (b c : Bool) → P v → P w → AllByRecursion P ws → AllByRecursion P (put_version v ws)
      → AllByRecursion P (cond b (v ∷ w ∷ ws) (cond c (v ∷ ws) (w ∷ put_version v ws)))
  put-by v w ws true c p q r s = (p, (q, r))
  put-by v w ws false true p q r s = (p, r)
  put-by v w ws false false p q r s = (q, s)

  put-all : (v : RowVersion) (ws : List RowVersion) → P v → AllByRecursion P ws → AllByRecursion P (put_version v ws)
  put-all v [] p h = (p, tt)
  put-all v (w ∷ ws) p h = put-by v w ws (stands_before v w) (same_name v w) p h.0 h.1 (put-all v ws p h.1)

  put-in-by : (table version : ℕ) (v : RowVersion) (g : Group) (gs : List Group) (b : Bool) → P v → AllByRecursion P g.rows → EachRow P gs → EachRow P (put_in table version v gs)
      → EachRow P (cond b (record g { rows = put_version v g.rows } ∷ gs) (g ∷ put_in table version v gs))
  put-in-by table version v g gs true p q r s = (put-all v g.rows p q, r)
  put-in-by table version v g gs false p q r s = (q, s)

  pub each-put : (table version : ℕ) (v : RowVersion) (gs : List Group) → P v → EachRow P gs → EachRow P (put_in table version v gs)
  each-put table version v [] p h = ((p, tt), tt)
  each-put table version v (g ∷ gs) p h = put-in-by table version v g gs (is_group table version g) p h.0 h.1 (each-put table version v gs p h.1)

  one-by : (g : Group) (rows : List RowVersion) (b : Bool) → AllByRecursion P g.rows → AllByRecursion P rows → AllByRecursion P (cond b g.rows rows)
  one-by g rows true h i = h
  one-by g rows false h i = i

  pub each-group : (table version : ℕ) (gs : List Group) → EachRow P gs → AllByRecursion P (group_rows table version gs)
  each-group table version [] h = tt
  each-group table version (g ∷ gs) h =
      let All : List RowVersion → Type 0 = λ vs. AllByRecursion P vs in
      subst All (sym (rows-by table version g gs (is_group table version g) refl)) (one-by g (group_rows table version gs) (is_group table version g) h.0 (each-group table version gs h.1))

  kept-by : (g : Group) (gs : List Group) (b : Bool) → AllByRecursion P g.rows → EachRow P gs → EachRow P (cond b (g ∷ gs) gs)
  kept-by g gs true h i = (h, i)
  kept-by g gs false h i = i

  pub each-filtered : (test : RowVersion → Bool) (gs : List Group) → EachRow P gs → EachRow P (regrouped (filter test) gs)
  each-filtered test [] h = tt
  each-filtered test (g ∷ gs) h = kept-by (with_rows (filter test) g) (regrouped (filter test) gs) (is_kept (with_rows (filter test) g)) (all_filter P test g.rows h.0) (each-filtered test gs h.1)

module _ (P Q : RowVersion → Type 0) (f : (v : RowVersion) → P v → Q v) where
  all-then : (vs : List RowVersion) → AllByRecursion P vs → AllByRecursion Q vs
  all-then [] h = tt
  all-then (v ∷ vs) h = (f v h.0, all-then vs h.1)

  pub each-then : (gs : List Group) → EachRow P gs → EachRow Q gs
  each-then [] h = tt
  each-then (g ∷ gs) h = (all-then g.rows h.0, each-then gs h.1)

-- a version that is later than all others has a name of its own
unnamed : (a b : ℕ) (c : Bool) → a < b → not (c && b == a) ≡ true
unnamed a b true h = grind (arith, nat_tests)
unnamed a b false h = refl

pub later-fresh : (v : RowVersion) (ws : List RowVersion) → AllByRecursion (λ w. w.ts < v.ts) ws → IsTrue (list_all (λ w. not (same_name v w)) ws)
later-fresh v [] h = refl
later-fresh v (w ∷ ws) h = and_from (not (same_name v w)) (list_all (λ w. not (same_name v w)) ws) (unnamed w.ts v.ts (same_key v.key w.key) h.0) (later-fresh v ws h.1)

-- where there is a name, there is a version
pub some-name : (n : Name) (vs : List RowVersion) → Some n ≡ option_map name_of (first_version vs) → 0 < length vs
some-name n [] h = cc
some-name n (v ∷ vs) h = omega arith
