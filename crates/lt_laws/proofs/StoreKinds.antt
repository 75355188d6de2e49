-- The kinds of carriers are those that a store's layouts have: no enum is left in them, and their field numbers are numbers that rise.
use Rattle.std.proofs.Common.{Bool, List, [], arith, cond, eqb-true, false, lt-ltb, ltb-false, ltb-true, refl, subst, sym, true, ℕ, ◌<◌, ◌∷◌, ◌≡◌}
use Rattle.std.specs.Prelude.{IsTrue, None, Option, Some, fold, nat_lt, ◌&&◌, ◌==◌}
use Rattle.std.proofs.lemmas.Bool.{and_from, and_parts, eqb-false}
use Rattle.std.specs.List.{AllByRecursion}
use Rattle.lt_terms.specs.Value.{is_number}
use Rattle.lt_terms.specs.Kind.{FieldKinds, Kind, enumeration, field_kind, kind_at, kinds_of, no_kinds, plain, structured}
use Rattle.lt_tables.specs.Schema.{bare, bare_fields, joined, joined_all, joined_fields, put_kind}
use Rattle.lt_storage.specs.Store.{are_store_kinds, is_store_kind}
use Rattle.lt_lemmas.proofs.StoreKinds.{are_numbered, is_numbered}
use Rattle.lt_laws.proofs.CarrierLaws.{found_one, onto_older}

-- ---- carriers

store_at : (ks : FieldKinds) (low n : ℕ) (k : Kind) → IsTrue (are_store_kinds low ks) → kind_at n ks ≡ Some k → IsTrue (is_store_kind k)
store_at no_kinds low n k up e = cc
store_at (field_kind m name a ks) low n k up e =
    let u = and_parts (is_number m && nat_lt low m && is_store_kind a) (are_store_kinds m ks) up in
    found_one (n == m) a k (kind_at n ks) (IsTrue (is_store_kind k)) e (λ b d. subst (λ (x : Kind). IsTrue (is_store_kind x)) d (and_parts (is_number m && nat_lt low m) (is_store_kind a) u.0).1) (store_at ks m n k u.1)

store_put_by : (low n m : ℕ) (name other : List ℕ) (k o : Kind) (ks : FieldKinds) (b d : Bool) → (n == m) ≡ b → nat_lt n m ≡ d → IsTrue (is_number n && nat_lt low n) → IsTrue (is_store_kind k) → IsTrue (are_store_kinds low (field_kind m other o ks))
    → (m < n → IsTrue (are_store_kinds m (put_kind n name k ks)))
    → IsTrue (are_store_kinds low (cond b (field_kind n name k ks) (cond d (field_kind n name k (field_kind m other o ks)) (field_kind m other o (put_kind n name k ks)))))
store_put_by low n m name other k o ks true d e f l r up ih = let u = and_parts (is_number m && nat_lt low m && is_store_kind o) (are_store_kinds m ks) up in
    and_from _ _ (and_from _ _ l r) (subst (λ (j : ℕ). IsTrue (are_store_kinds j ks)) (sym (eqb-true n m e)) u.1)
store_put_by low n m name other k o ks false true e f l r up ih =
    let u = and_parts (is_number m && nat_lt low m && is_store_kind o) (are_store_kinds m ks) up in
    let w = and_parts (is_number m && nat_lt low m) (is_store_kind o) u.0 in
    and_from _ _ (and_from _ _ l r) (and_from _ _ (and_from _ _ (and_from _ _ (and_parts (is_number m) (nat_lt low m) w.0).0 f) w.1) u.1)
store_put_by low n m name other k o ks false false e f l r up ih = let u = and_parts (is_number m && nat_lt low m && is_store_kind o) (are_store_kinds m ks) up in
    and_from _ _ u.0 (ih (omega (arith, eqb-false n m e, ltb-false n m f)))

store_put : (low n : ℕ) (name : List ℕ) (k : Kind) (ks : FieldKinds) → IsTrue (is_number n && nat_lt low n) → IsTrue (is_store_kind k) → IsTrue (are_store_kinds low ks) → IsTrue (are_store_kinds low (put_kind n name k ks))
store_put low n name k no_kinds l r up = and_from _ _ (and_from _ _ l r) refl
store_put low n name k (field_kind m other o ks) l r up = store_put_by low n m name other k o ks (n == m) (nat_lt n m) refl refl l r up
    (λ h. store_put m n name k ks (and_from _ _ (and_parts (is_number n) (nat_lt low n) l).0 (lt-ltb m n h)) r (and_parts (is_number m && nat_lt low m && is_store_kind o) (are_store_kinds m ks) up).1)

mutual
  store_bare : (k : Kind) → IsTrue (is_numbered k) → IsTrue (is_store_kind (bare k))
  store_bare (plain r) up = refl
  store_bare (enumeration names) up = refl
  store_bare (structured ks) up = store_bare_fields ks 0 up

  store_bare_fields : (ks : FieldKinds) (low : ℕ) → IsTrue (are_numbered low ks) → IsTrue (are_store_kinds low (bare_fields ks))
  store_bare_fields no_kinds low up = refl
  store_bare_fields (field_kind n name k ks) low up =
      let u = and_parts (is_number n && nat_lt low n && is_numbered k) (are_numbered n ks) up in
      let w = and_parts (is_number n && nat_lt low n) (is_numbered k) u.0 in
      and_from _ _ (and_from _ _ w.0 (store_bare k w.1)) (store_bare_fields ks n u.1)

store_kinds : (k : Kind) → IsTrue (is_store_kind k) → IsTrue (are_store_kinds 0 (kinds_of k))
store_kinds (plain r) up = refl
store_kinds (enumeration names) up = refl
store_kinds (structured ks) up = up

store_onto : (o : Option Kind) (k : Kind) → ((a : Kind) → IsTrue (is_store_kind a) → IsTrue (is_store_kind (joined a k))) → ((a : Kind) → o ≡ Some a → IsTrue (is_store_kind a)) → IsTrue (is_numbered k) → IsTrue (is_store_kind (onto_older o k))
store_onto None k g f up = store_bare k up
store_onto (Some a) k g f up = g a (f a refl)

mutual
  store_joined : (older k : Kind) → IsTrue (is_store_kind older) → IsTrue (is_numbered k) → IsTrue (is_store_kind (joined older k))
  store_joined older (plain r) o up = refl
  store_joined older (enumeration names) o up = refl
  store_joined older (structured ks) o up = store_joined_fields (kinds_of older) ks 0 (store_kinds older o) up

  store_joined_fields : (os ks : FieldKinds) (low : ℕ) → IsTrue (are_store_kinds 0 os) → IsTrue (are_numbered low ks) → IsTrue (are_store_kinds 0 (joined_fields os ks))
  store_joined_fields os no_kinds low o up = o
  store_joined_fields os (field_kind n name k ks) low o up =
      let u = and_parts (is_number n && nat_lt low n && is_numbered k) (are_numbered n ks) up in
      let w = and_parts (is_number n && nat_lt low n) (is_numbered k) u.0 in
      let v = and_parts (is_number n) (nat_lt low n) w.0 in
      let l : low < n = ltb-true low n v.1 in
      store_put 0 n name (onto_older (kind_at n os) k) (joined_fields os ks) (and_from _ _ v.0 (lt-ltb 0 n (omega (arith, l)))) (store_onto (kind_at n os) k (λ a h. store_joined a k h w.1) (λ a e. store_at os 0 n a o e) w.1) (store_joined_fields os ks n o u.1)

store_fold : (a : Kind) (ks : List Kind) → IsTrue (is_store_kind a) → AllByRecursion (λ k. IsTrue (is_numbered k)) ks → IsTrue (is_store_kind (fold joined a ks))
store_fold a [] h g = h
store_fold a (k ∷ ks) h g = store_fold (joined a k) ks (store_joined a k h g.0) g.1

-- the carrier of numbered kinds
pub store_all : (ks : List Kind) (c : Kind) → joined_all ks ≡ Some c → AllByRecursion (λ k. IsTrue (is_numbered k)) ks → IsTrue (is_store_kind c)
store_all [] c e g = cc
store_all (k ∷ ks) c e g = let d : fold joined (bare k) ks ≡ c = cc in subst (λ (x : Kind). IsTrue (is_store_kind x)) d (store_fold (bare k) ks (store_bare k g.0) g.1)
