-- Each change stands under its key and its timestamp, also after a call.
use Rattle.std.proofs.Common.{◌≡◌, ℕ, List, [], ◌∷◌, refl, sym, subst, ◌∙◌, true, false, Ordering, Less, Equal, Greater}
use Rattle.std.specs.Prelude.{Bool, OnErr, OnOk, Result, Some, cond}
use Rattle.std.specs.List.{AllByRecursion}
use Rattle.std.specs.Map.{lookup, remove_entry, set_value}
use Rattle.std.specs.BTreeMap.{insert_entry}
use Rattle.std.specs.Ordering.{match_ordering, nat_cmp}
use Rattle.lt_terms.specs.Key.{bytes_cmp, same_key}
use Rattle.lt_terms.specs.Log.{change_key}
use Rattle.lt_lemmas.proofs.MergeLaws.{same-key}
use Rattle.lt_records.specs.View.{view_change}
use Rattle.lt_records.specs.declared.record.ChangeRecord.{ChangeRecord}
use Rattle.lt_pending.specs.Stamps.{AreNamed, IsNamed, Stamps, later, stamped}
use Rattle.lt_pending.proofs.Puts.{Held, Named, Stamped, key-equal, on-each, some-is, stamp-equal}

-- ---- of the changes of one key

inserted-by : (key : List ℕ) (r : ChangeRecord) (s : Stamped) (ss : List Stamped) (o : Ordering) → nat_cmp s.0.0 r.ts ≡ o → IsNamed key (stamped r.ts, r) → Named key (s ∷ ss)
    → Named key (insert_entry later ss (stamped r.ts) r) → Named key (match_ordering o ((stamped r.ts, r) ∷ s ∷ ss) ((s.0, r) ∷ ss) (s ∷ insert_entry later ss (stamped r.ts) r))
inserted-by key r s ss Less e n h i = (n, h)
inserted-by key r s ss Equal e n h i = ((n.0, stamp-equal s.0.0 r.ts e), h.1)
inserted-by key r s ss Greater e n h i = (h.0, i)

pub inserted-named : (key : List ℕ) (r : ChangeRecord) (ss : List Stamped) → key ≡ change_key (view_change r) → Named key ss → Named key (insert_entry later ss (stamped r.ts) r)
inserted-named key r [] e h = ((sym e, refl), tt)
inserted-named key r (s ∷ ss) e h = inserted-by key r s ss (nat_cmp s.0.0 r.ts) refl (sym e, refl) h (inserted-named key r ss e h.1)

-- after a put that may lack memory
pub put-named : {X E : Type 0} → (key k : List ℕ) (r : ChangeRecord) (s n : Stamps) (result : Result X E) → key ≡ change_key (view_change r) → same_key key k ≡ true
    → OnOk result (n.entries ≡ insert_entry later s.entries (stamped r.ts) r) → OnErr result (n.entries ≡ s.entries) → Named k s.entries → Named k n.entries
put-named key k r s n result p t ok err m =
    let P : List Stamped → Type 0 = λ ss. Named k ss in
    on-each result (λ e. subst P (sym e) (inserted-named k r s.entries (sym (same-key key k t) ∙ p) m)) (λ e. subst P (sym e) m) ok err

module _ {K X : Type 0} (P : K × X → Type 0) where
  removed-by : (test : K → Bool) (e : K × X) (es : List (K × X)) (b : Bool) → AllByRecursion P (e ∷ es) → AllByRecursion P (remove_entry test es) → AllByRecursion P (cond b es (e ∷ remove_entry test es))
  removed-by test e es true h i = h.1
  removed-by test e es false h i = (h.0, i)

  pub removed-all : (test : K → Bool) (es : List (K × X)) → AllByRecursion P es → AllByRecursion P (remove_entry test es)
  removed-all test [] h = tt
  removed-all test (e ∷ es) h = removed-by test e es (test e.0) h (removed-all test es h.1)

-- ---- of all keys

set-named-by : (test : List ℕ → Bool) (e : Held) (es : List Held) (s n : Stamps) (b : Bool) → test e.0 ≡ b → cond b (Some e.1) (lookup test es) ≡ Some s
    → ((k : List ℕ) → test k ≡ true → Named k s.entries → Named k n.entries) → AreNamed (e ∷ es) → (lookup test es ≡ Some s → AreNamed (set_value test es n))
    → AreNamed (cond b ((e.0, n) ∷ es) (e ∷ set_value test es n))
set-named-by test e es s n true h l f m rest =
    let P : Stamps → Type 0 = λ x. Named e.0 x.entries in
    (f e.0 h (subst P (some-is e.1 s l) m.0), m.1)
set-named-by test e es s n false h l f m rest = (m.0, rest l)

pub set-named : (test : List ℕ → Bool) (es : List Held) (s n : Stamps) → lookup test es ≡ Some s → ((k : List ℕ) → test k ≡ true → Named k s.entries → Named k n.entries)
    → AreNamed es → AreNamed (set_value test es n)
set-named test [] s n l f m = tt
set-named test (e ∷ es) s n l f m = set-named-by test e es s n (test e.0) refl l f m (λ g. set-named test es s n g f m.1)

new-named-by : (key : List ℕ) (n : Stamps) (e : Held) (es : List Held) (o : Ordering) → bytes_cmp key e.0 ≡ o → Named key n.entries → AreNamed (e ∷ es)
    → AreNamed (insert_entry bytes_cmp es key n) → AreNamed (match_ordering o ((key, n) ∷ e ∷ es) ((e.0, n) ∷ es) (e ∷ insert_entry bytes_cmp es key n))
new-named-by key n e es Less h i m rest = (i, m)
new-named-by key n e es Equal h i m rest =
    let P : List ℕ → Type 0 = λ k. Named k n.entries in
    (subst P (key-equal key e.0 h) i, m.1)
new-named-by key n e es Greater h i m rest = (m.0, rest)

pub new-named : (key : List ℕ) (n : Stamps) (es : List Held) → Named key n.entries → AreNamed es → AreNamed (insert_entry bytes_cmp es key n)
new-named key n [] i m = (i, tt)
new-named key n (e ∷ es) i m = new-named-by key n e es (bytes_cmp key e.0) refl i m (new-named key n es i m.1)
