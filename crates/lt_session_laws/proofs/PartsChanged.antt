-- Partitions of which one is changed in place: their ranges, and what holds of each.
use Rattle.std.proofs.Common.{Bool, List, [], ap, inl, inr, refl, subst, suc, true, zero, ℕ, ◌∙◌, ◌∷◌, ◌≡◌}
use Rattle.std.specs.Prelude.{Some, slice_get, unwrap_or}
use Rattle.std.specs.List.{AllByRecursion, list_any}
use Rattle.std.proofs.lemmas.Bool.{or_cases}
use Rattle.lt_terms.specs.Key.{Range, ranges_from}
use Rattle.lt_terms.specs.Log.{Change}
use Rattle.lt_tables.specs.Schema.{Catalogue, change_at}
use Rattle.lt_tables.specs.Pump.{Part}
use Rattle.lt_storage.specs.Store.{Durable, part_ranges}
use Rattle.lt_machine.specs.Sound.{PendingOf, PendingOfAll}
use Rattle.lt_codecs.proofs.ListFacts.{all_map}
use Rattle.lt_session_laws.proofs.SplitLaws.{Each, each_as, lows_of}
use Rattle.lt_lemmas.proofs.SnapshotLaws.{or_left, or_right}

pub change_none : {A : Type 0} (n : ℕ) (xs : List A) → change_at (λ x. x) n xs ≡ xs
change_none n [] = refl
change_none zero (x ∷ xs) = refl
change_none (suc n) (x ∷ xs) = ap (λ l. x ∷ l) (change_none n xs)

-- each has the low bound that it had
abbrev pub KeepsLow : (Part → Part) → Type 0
KeepsLow f = (p : Part) → (f p).low ≡ p.low

pub lows_changed : (f : Part → Part) (n : ℕ) (ps : List Part) → KeepsLow f → lows_of (change_at f n ps) ≡ lows_of ps
lows_changed f n [] k = refl
lows_changed f zero (p ∷ ps) k = ap (λ (l : List ℕ). l ∷ lows_of ps) (k p)
lows_changed f (suc n) (p ∷ ps) k = ap (λ (l : List (List ℕ)). p.low ∷ l) (lows_changed f n ps k)

pub ranges_changed : (f : Part → Part) (n : ℕ) (ps : List Part) → KeepsLow f → part_ranges (change_at f n ps) ≡ part_ranges ps
ranges_changed f n ps k = ap ranges_from (lows_changed f n ps k)

-- what holds of each goes over where it does for the changed one and for the others
pub each_changed : (P Q : Part → Range → Type 0) (f : Part → Part) (n : ℕ) (ps : List Part) (rs : List Range) → ((p : Part) (r : Range) → P p r → Q p r)
    → ((p : Part) (r : Range) → slice_get ps n ≡ Some p → slice_get rs n ≡ Some r → P p r → Q (f p) r) → Each P ps rs → Each Q (change_at f n ps) rs
each_changed P Q f n [] rs o h a = tt
each_changed P Q f zero (p ∷ ps) [] o h a = a
each_changed P Q f (suc n) (p ∷ ps) [] o h a = a
each_changed P Q f zero (p ∷ ps) (r ∷ rs) o h a = (h p r refl refl a.0, each_as P Q ps rs o a.1)
each_changed P Q f (suc n) (p ∷ ps) (r ∷ rs) o h a = (o p r a.0, each_changed P Q f n ps rs o h a.1)

pub all_changed : {A : Type 0} (P Q : A → Type 0) (f : A → A) (n : ℕ) (xs : List A) → ((x : A) → P x → Q x) → ((x : A) → slice_get xs n ≡ Some x → P x → Q (f x)) → AllByRecursion P xs → AllByRecursion Q (change_at f n xs)
all_changed P Q f n [] o h a = tt
all_changed P Q f zero (x ∷ xs) o h a = (h x refl a.0, all_map P Q xs o a.1)
all_changed P Q f (suc n) (x ∷ xs) o h a = (o x a.0, all_changed P Q f n xs o h a.1)

pub any_changed : {A : Type 0} (test : A → Bool) (f : A → A) (n : ℕ) (xs : List A) → ((x : A) → test x ≡ true → test (f x) ≡ true) → list_any test xs ≡ true → list_any test (change_at f n xs) ≡ true
any_changed test f n [] k h = h
any_changed test f zero (x ∷ xs) k h = elim (or_cases (test x) (list_any test xs) h) [ inl e ↦ or_left (test (f x)) (list_any test xs) (k x e) | inr e ↦ or_right (test (f x)) (list_any test xs) e ]
any_changed test f (suc n) (x ∷ xs) k h = elim (or_cases (test x) (list_any test xs) h) [
  | inl e ↦ or_left (test x) (list_any test (change_at f n xs)) e
  | inr e ↦ or_right (test x) (list_any test (change_at f n xs)) (any_changed test f n xs k e)
]

pub any_there : {A : Type 0} (test : A → Bool) (n : ℕ) (xs : List A) (x : A) → slice_get xs n ≡ Some x → test x ≡ true → list_any test xs ≡ true
any_there test n [] x e h = cc
any_there test zero (y ∷ xs) x e h = let d : y ≡ x = cc in or_left (test y) (list_any test xs) (ap test d ∙ h)
any_there test (suc n) (y ∷ xs) x e h = or_right (test y) (list_any test xs) (any_there test n xs x e h)

-- ---- pending names

pub pending_at : (cat : Catalogue) (d : Durable) (cs : List Change) (n : ℕ) (ps : List Part) (rs : List Range) (rest : List (List (List ℕ × ℕ))) (p : Part) (r : Range) → slice_get ps n ≡ Some p → slice_get rs n ≡ Some r → PendingOfAll cat d cs ps rs rest
    → PendingOf cat d cs p r (unwrap_or (slice_get rest n) [])
pending_at cat d cs n [] rs rest p r e f a = cc
pending_at cat d cs n (q ∷ ps) [] rest p r e f a = absurd a
pending_at cat d cs n (q ∷ ps) (t ∷ rs) [] p r e f a = absurd a
pending_at cat d cs zero (q ∷ ps) (t ∷ rs) (ns ∷ rest) p r e f a = let x : q ≡ p = cc in let y : t ≡ r = cc in subst (λ (z : Part). PendingOf cat d cs z r ns) x (subst (λ (z : Range). PendingOf cat d cs q z ns) y a.0)
pending_at cat d cs (suc n) (q ∷ ps) (t ∷ rs) (ns ∷ rest) p r e f a = pending_at cat d cs n ps rs rest p r e f a.1

abbrev PendingGoes : Catalogue → Durable → Durable → List Change → (Part → Range → Type 0) → Type 0
PendingGoes cat d e cs K = (p : Part) (r : Range) (ns : List (List ℕ × ℕ)) → K p r → PendingOf cat d cs p r ns → PendingOf cat e cs p r ns

pending_others : (cat : Catalogue) (d e : Durable) (cs : List Change) (K : Part → Range → Type 0) (ps : List Part) (rs : List Range) (rest : List (List (List ℕ × ℕ))) → Each K ps rs → PendingGoes cat d e cs K → PendingOfAll cat d cs ps rs rest → PendingOfAll cat e cs ps rs rest
pending_others cat d e cs K [] rs [] k o a = tt
pending_others cat d e cs K [] rs (ns ∷ rest) k o a = absurd a
pending_others cat d e cs K (p ∷ ps) [] rest k o a = absurd a
pending_others cat d e cs K (p ∷ ps) (r ∷ rs) [] k o a = absurd a
pending_others cat d e cs K (p ∷ ps) (r ∷ rs) (ns ∷ rest) k o a = (o p r ns k.0 a.0, pending_others cat d e cs K ps rs rest k.1 o a.1)

pub pending_changed : (cat : Catalogue) (d e : Durable) (cs : List Change) (K : Part → Range → Type 0) (f : Part → Part) (g : List (List ℕ × ℕ) → List (List ℕ × ℕ)) (n : ℕ) (ps : List Part) (rs : List Range) (rest : List (List (List ℕ × ℕ))) → Each K ps rs
    → PendingGoes cat d e cs K → ((p : Part) (r : Range) (ns : List (List ℕ × ℕ)) → slice_get ps n ≡ Some p → slice_get rs n ≡ Some r → slice_get rest n ≡ Some ns → K p r → PendingOf cat d cs p r ns → PendingOf cat e cs (f p) r (g ns))
    → PendingOfAll cat d cs ps rs rest → PendingOfAll cat e cs (change_at f n ps) rs (change_at g n rest)
pending_changed cat d e cs K f g n [] rs [] k o h a = tt
pending_changed cat d e cs K f g n [] rs (ns ∷ rest) k o h a = absurd a
pending_changed cat d e cs K f g n (p ∷ ps) [] rest k o h a = absurd a
pending_changed cat d e cs K f g n (p ∷ ps) (r ∷ rs) [] k o h a = absurd a
pending_changed cat d e cs K f g zero (p ∷ ps) (r ∷ rs) (ns ∷ rest) k o h a = (h p r ns refl refl refl k.0 a.0, pending_others cat d e cs K ps rs rest k.1 o a.1)
pending_changed cat d e cs K f g (suc n) (p ∷ ps) (r ∷ rs) (ns ∷ rest) k o h a = (o p r ns k.0 a.0, pending_changed cat d e cs K f g n ps rs rest k.1 o h a.1)
