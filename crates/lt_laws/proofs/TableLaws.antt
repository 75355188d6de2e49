-- Tables of a lawful catalogue: their columns' kinds do not clash, and their carriers take whatever a version lets a change set.
use Rattle.std.proofs.Common.{List, [], ap, arith, false, inl, inr, refl, subst, suc, sym, zero, ℕ, ◌∙◌, ◌∷◌, ◌≡◌, ◌≤◌}
use Rattle.std.specs.List.{AllByRecursion, cons_option}
use Rattle.std.specs.Prelude.{Contains, None, Option, Some, fold, option_map, slice_get, ◌==◌, ◌⊎◌}
use Rattle.lt_terms.specs.Kind.{Kind}
use Rattle.lt_tables.specs.Schema.{Column, Registered, Table, bare, carrier, clash, column_numbered, joined, joined_all, kinds_given, registered}
use Rattle.lt_codecs.proofs.ListFacts.{all_both, all_map}
use Rattle.lt_lemmas.proofs.TableLaws.{AreAlike, FineColumns, IsFineKind, IsFineTable}
use Rattle.lt_lemmas.proofs.ListFacts.{find_all}
use Rattle.lt_laws.proofs.CarrierLaws.{Within, clash_bare, clash_joined, clash_self, clash_swap, nest_bare, nest_joined, rising_bare, rising_joined, within_bare, within_new, within_old}
use Rattle.lt_laws.proofs.ListFacts.{all_at}
pub use Rattle.lt_lemmas.proofs.ListFacts.{all_none}

-- ---- the kinds that the versions give a column

joined_fine : (a k : Kind) → IsFineKind a → IsFineKind k → IsFineKind (joined a k)
joined_fine a k f g = (rising_joined a k f.0 g.0, nest_joined a k 4 f.1 g.1)

bare_fine : (k : Kind) → IsFineKind k → IsFineKind (bare k)
bare_fine k f = (rising_bare k f.0, subst (λ (n : ℕ). n ≤ 4) (sym (nest_bare k)) f.1)

pub record Carries (given : List Kind) (c : Kind) : Type 0 where
  pub fine : IsFineKind c
  pub covers : AllByRecursion (λ k. Within k c) given

fold_carries : (a : Kind) (ks : List Kind) → IsFineKind a → AllByRecursion IsFineKind ks → AllByRecursion (λ l. clash a l ≡ false) ks → AreAlike ks → Within a (fold joined a ks) × Carries ks (fold joined a ks)
fold_carries a [] f g c d = ((λ v h. h), record { fine = f; covers = tt })
fold_carries a (k ∷ ks) f g c d =
    let r = fold_carries (joined a k) ks (joined_fine a k f g.0) g.1 (all_both (λ l. clash a l ≡ false) (λ l. clash k l ≡ false) (λ l. clash (joined a k) l ≡ false) ks (clash_joined a k) c.1 d.0) d.1 in (
      (λ v h. r.0 v (within_old a k c.0 v h)),
      record { fine = r.1.fine; covers = ((λ v h. r.0 v (within_new a k c.0 v h)), r.1.covers) },
    )

pub fold_clash : (a : Kind) (ks : List Kind) (c : Kind) → clash a c ≡ false → AllByRecursion (λ k. clash k c ≡ false) ks → clash (fold joined a ks) c ≡ false
fold_clash a [] c e h = e
fold_clash a (k ∷ ks) c e h = fold_clash (joined a k) ks c (clash_joined a k c e h.0) h.1

-- of alike kinds no two clash, either way
all_pairs : (ks : List Kind) → AllByRecursion IsFineKind ks → AreAlike ks → AllByRecursion (λ c. AllByRecursion (λ k. clash k c ≡ false) ks) ks
all_pairs [] f a = tt
all_pairs (k ∷ ks) f a = (
  (clash_self k f.0.0, all_map (λ l. clash k l ≡ false) (λ l. clash l k ≡ false) ks (λ l e. clash_swap k l f.0.0 e) a.0),
  all_both (λ c. clash k c ≡ false) (λ c. AllByRecursion (λ k. clash k c ≡ false) ks) (λ c. AllByRecursion (λ k. clash k c ≡ false) (k ∷ ks)) ks (λ c e h. (e, h)) a.0 (all_pairs ks f.1 a.1),
)

pub joined_carries : (ks : List Kind) (c : Kind) → AllByRecursion IsFineKind ks → AreAlike ks → joined_all ks ≡ Some c → Carries ks c × AllByRecursion (λ k. clash c k ≡ false) ks
joined_carries [] c f a e = cc
joined_carries (k ∷ ks) c f a e =
    let d : fold joined (bare k) ks ≡ c = cc in
    let r = fold_carries (bare k) ks (bare_fine k f.0) f.1 (all_map (λ l. clash k l ≡ false) (λ l. clash (bare k) l ≡ false) ks (λ l h. clash_bare k l h) a.0) a.1 in
    subst (λ (x : Kind). Carries (k ∷ ks) x × AllByRecursion (λ l. clash x l ≡ false) (k ∷ ks)) d (
      record { fine = r.1.fine; covers = ((λ v h. r.0 v (within_bare k v h)), r.1.covers) },
      all_map (λ l. AllByRecursion (λ k. clash k l ≡ false) (k ∷ ks)) (λ l. clash (fold joined (bare k) ks) l ≡ false) (k ∷ ks) (λ l h. fold_clash (bare k) ks l (clash_bare k l h.0) h.1) (all_pairs (k ∷ ks) f a),
    )

-- ---- the columns of a version

kind_given : (o : Option Column) (ks : List Kind) → ((c : Column) → o ≡ Some c → IsFineKind c.kind) → AllByRecursion IsFineKind ks → AllByRecursion IsFineKind (cons_option (option_map (λ c. c.kind) o) ks)
kind_given None ks f a = a
kind_given (Some c) ks f a = (f c refl, a)

pub given_fine : (rs : List Registered) (n : ℕ) → AllByRecursion FineColumns rs → AllByRecursion IsFineKind (kinds_given rs n)
given_fine [] n a = tt
given_fine (r ∷ rs) n a = kind_given (column_numbered r.columns n) (kinds_given rs n) (λ c e. (find_all (λ c. IsFineKind c.kind) (λ c. c.number == n) r.columns c a.0.kinds e).0) (given_fine rs n a.1)

-- ---- carriers

-- a carrier covers the kinds that the versions give its column, and clashes with none of them
pub carrier_carries : (t : Table) (n : ℕ) (k : Kind) → IsFineTable t → carrier t n ≡ Some k → Carries (kinds_given t.versions n) k × AllByRecursion (λ l. clash k l ≡ false) (kinds_given t.versions n)
unfolding carrier
carrier_carries t n k f e = joined_carries (kinds_given t.versions n) k (given_fine t.versions n f.versions) (f.alike n) e

joined_some : (k : Kind) (ks : List Kind) → Contains ks k → (c : Kind) × (joined_all ks ≡ Some c)
joined_some k [] h = absurd (omega (arith, h.1))
joined_some k (l ∷ ks) h = (fold joined (bare l) ks, refl)

held_given_by : (o : Option Kind) (k : Kind) (ks : List Kind) → (o ≡ Some k) ⊎ Contains ks k → Contains (cons_option o ks) k
held_given_by None k ks (inl e) = cc
held_given_by None k ks (inr h) = h
held_given_by (Some l) k ks (inl e) = let d : l ≡ k = cc in (0, omega arith, d)
held_given_by (Some l) k ks (inr (i, h, e)) = (suc i, omega (arith, h), e)

-- the kind that a version gives a column is among those given
pub held_given : (rs : List Registered) (v n : ℕ) (r : Registered) (c : Column) → slice_get rs v ≡ Some r → column_numbered r.columns n ≡ Some c → Contains (kinds_given rs n) c.kind
held_given [] v n r c e d = cc
held_given (s ∷ rs) zero n r c e d = let f : s ≡ r = cc in
    held_given_by (option_map (λ c. c.kind) (column_numbered s.columns n)) c.kind (kinds_given rs n) (inl (ap (λ (x : Registered). option_map (λ c. c.kind) (column_numbered x.columns n)) f ∙ ap (option_map (λ c. c.kind)) d))
held_given (s ∷ rs) (suc v) n r c e d = held_given_by (option_map (λ c. c.kind) (column_numbered s.columns n)) c.kind (kinds_given rs n) (inr (held_given rs v n r c e d))

version_given : (t : Table) (v n : ℕ) (r : Registered) (c : Column) → registered t v ≡ Some r → column_numbered r.columns n ≡ Some c → Contains (kinds_given t.versions n) c.kind
version_given t zero n r c e d = cc
version_given t (suc v) n r c e d = held_given t.versions v n r c e d

-- a column of a version has a carrier
pub carrier_stands : (t : Table) (v n : ℕ) (r : Registered) (c : Column) → registered t v ≡ Some r → column_numbered r.columns n ≡ Some c → (k : Kind) × (carrier t n ≡ Some k)
unfolding carrier
carrier_stands t v n r c e d = joined_some c.kind (kinds_given t.versions n) (version_given t v n r c e d)

-- what lies within a kind that a version gives lies within the carrier, and the two do not clash
pub carrier_takes : (t : Table) (v n : ℕ) (r : Registered) (c : Column) (k : Kind) → IsFineTable t → registered t v ≡ Some r → column_numbered r.columns n ≡ Some c → carrier t n ≡ Some k → Within c.kind k × (clash k c.kind ≡ false)
carrier_takes t v n r c k f e d g =
    let a = carrier_carries t n k f g in
    let h = version_given t v n r c e d in
    (all_at (λ l. Within l k) (kinds_given t.versions n) c.kind a.0.covers h, all_at (λ l. clash k l ≡ false) (kinds_given t.versions n) c.kind a.1 h)
