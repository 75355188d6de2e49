-- A copy of entries in order, one by one.
use Rattle.std.proofs.Common.{◌≡◌, ℕ, List, [], ◌∷◌, ◌++◌, refl, sym, ap, subst, ◌∙◌, Ordering, Less, append_assoc, append-nil}
use Rattle.std.specs.Prelude.{filter, not}
use Rattle.std.specs.BTreeMap.{insert_entry}
use Rattle.std.specs.List.{AllByRecursion}
use Rattle.std.specs.List.Sorted.{IsStrictlySortedBy}
use Rattle.std.specs.Map.{keys_of}
use Rattle.std.specs.Ordering.{match_ordering, ordering_reverse}
use Rattle.std.proofs.lemmas.Cmp.{nat_cmp_total, nat_list_cmp_total}
use Rattle.std.proofs.lemmas.List.{map-append}
use Rattle.lt_codecs.proofs.ListFacts.{all_front, all_rest}
use Rattle.lt_lemmas.proofs.ListFacts.{all_filter}
use Rattle.lt_terms.specs.Key.{below, bytes_cmp}
use Rattle.lt_terms.specs.Log.{change_key}
use Rattle.lt_records.specs.declared.record.ChangeRecord.{ChangeRecord}
use Rattle.lt_pending.specs.Stamps.{AreNamed, Stamps, changes_at, changes_in, later}
use Rattle.lt_pending.proofs.Puts.{Held, Named, Stamped}
use Rattle.lt_pending.proofs.Splits.{from_on, upper-is, upper-sorted}

module _ {K : Type 0} (order : K → K → Ordering) where
  sorted-head : (k : K) (ks : List K) → IsStrictlySortedBy order (k ∷ ks) → AllByRecursion (λ b. order k b ≡ Less) ks
  unfolding IsStrictlySortedBy
  sorted-head k ks h = h.0

  sorted-rest : (k : K) (ks : List K) → IsStrictlySortedBy order (k ∷ ks) → IsStrictlySortedBy order ks
  unfolding IsStrictlySortedBy
  sorted-rest k ks h = h.1

module _ {K X : Type 0} (order : K → K → Ordering) (back : (a b : K) → order a b ≡ ordering_reverse (order b a)) where
  -- an entry behind all others is put last
  put-last : (es : List (K × X)) (k : K) (x : X) (ks : List K) → IsStrictlySortedBy order (keys_of es ++ k ∷ ks) → insert_entry order es k x ≡ es ++ (k, x) ∷ []
  put-last [] k x ks h = refl
  put-last (e ∷ es) k x ks h =
      let less : order e.0 k ≡ Less = (all_rest _ (keys_of es) (k ∷ ks) (sorted-head order e.0 (keys_of es ++ k ∷ ks) h)).0 in
      ap (λ o. match_ordering o ((k, x) ∷ e ∷ es) ((e.0, x) ∷ es) (e ∷ insert_entry order es k x)) (back k e.0 ∙ ap ordering_reverse less)
      ∙ ap (λ l. e ∷ l) (put-last es k x ks (sorted-rest order e.0 (keys_of es ++ k ∷ ks) h))

  -- one entry more is copied
  entry-next : (done done' left left' : List (K × X)) (k : K) (x y : X) → left ≡ (k, x) ∷ left' → done' ≡ insert_entry order done k y → IsStrictlySortedBy order (keys_of (done ++ left))
      → done' ++ left' ≡ done ++ (k, y) ∷ left'
  entry-next done done' left left' k x y p q h =
      let P : List K → Type 0 = λ ks. IsStrictlySortedBy order ks in
      let sorted : IsStrictlySortedBy order (keys_of done ++ k ∷ keys_of left') = subst P (ap (λ l. keys_of (done ++ l)) p ∙ map-append (λ (e : K × X). e.0) done ((k, x) ∷ left')) h in
      ap (λ l. l ++ left') (q ∙ put-last done k y (keys_of left') sorted) ∙ append_assoc done ((k, y) ∷ []) left'

-- ---- the changes of a key

pub stamps-next : (all done done' left left' : List Stamped) (s : Stamped) (r : ChangeRecord) → IsStrictlySortedBy later (keys_of all) → done ++ left ≡ all → left ≡ s ∷ left' → r ≡ s.1 → done' ≡ insert_entry later done s.0 r
    → done' ++ left' ≡ all
stamps-next all done done' left left' s r h i p c q =
    let P : List Stamped → Type 0 = λ es. IsStrictlySortedBy later (keys_of es) in
    entry-next later (λ a b. nat_cmp_total.antisymm b.0 a.0) done done' left left' s.0 s.1 r p q (subst P (sym i) h)
    ∙ ap (λ x. done ++ (s.0, x) ∷ left') c ∙ ap (λ l. done ++ l) (sym p) ∙ i

-- ---- all keys from one on

-- with those still to be copied, the copies are what is to be copied
pub record AreCopied (low : List ℕ) (all done left : List Held) : Type 0 where
  pub sorted : IsStrictlySortedBy bytes_cmp (keys_of (done ++ left))
  pub named : AreNamed (done ++ left)
  pub changes : changes_in (done ++ left) ≡ filter (λ c. not (below (change_key c) low)) (changes_in all)

-- a key whose changes stand in another tree
record AreAlike (old new : List Held) : Type 0 where
  keys : keys_of new ≡ keys_of old
  changes : changes_in new ≡ changes_in old
  named : AreNamed old → AreNamed new

alike : (done left : List Held) (k : List ℕ) (s n : Stamps) → n.entries ≡ s.entries → AreAlike (done ++ (k, s) ∷ left) (done ++ (k, n) ∷ left)
alike [] left k s n h = record {
  keys = refl;
  changes = ap (λ ss. changes_at ss ++ changes_in left) h;
  named = λ m. (subst (λ (ss : List Stamped). Named k ss) (sym h) m.0, m.1);
}
alike (e ∷ es) left k s n h =
    let rest = alike es left k s n h in
    record {
      keys = ap (λ ks. e.0 ∷ ks) rest.keys;
      changes = ap (λ cs. changes_at e.1.entries ++ cs) rest.changes;
      named = λ m. (m.0, rest.named m.1);
    }

pub copies-none : (low : List ℕ) (all done left : List Held) → done ≡ [] → left ≡ from_on low all → IsStrictlySortedBy bytes_cmp (keys_of all) → AreNamed all → AreCopied low all done left
copies-none low all done left d p h n = subst (λ (es : List Held). AreCopied low all es left) (sym d) (subst (AreCopied low all []) (sym p) (record {
  sorted = upper-sorted low all h;
  named = all_filter _ _ all n;
  changes = upper-is low all n;
}))

pub copies-next : (low : List ℕ) (all done done' left left' : List Held) (j k : List ℕ) (s n : Stamps) → AreCopied low all done left → left ≡ (k, s) ∷ left' → j ≡ k → n.entries ≡ s.entries → done' ≡ insert_entry bytes_cmp done j n
    → AreCopied low all done' left'
copies-next low all done done' left left' j k s n h p i c q =
    let same : done' ++ left' ≡ done ++ (k, n) ∷ left' = entry-next bytes_cmp nat_list_cmp_total.antisymm done done' left left' k s n p (q ∙ ap (λ (key : List ℕ). insert_entry bytes_cmp done key n) i) h.sorted in
    let like : AreAlike (done ++ left) (done' ++ left') = subst (λ (es : List Held). AreAlike (done ++ left) es) (sym same) (subst (λ (es : List Held). AreAlike (done ++ es) (done ++ (k, n) ∷ left')) (sym p) (alike done left' k s n c)) in
    record {
      sorted = subst (λ (ks : List (List ℕ)). IsStrictlySortedBy bytes_cmp ks) (sym like.keys) h.sorted;
      named = like.named h.named;
      changes = like.changes ∙ h.changes;
    }

-- all are copied
pub copies-changes : (low : List ℕ) (all done left : List Held) → AreCopied low all done left → left ≡ [] → changes_in done ≡ filter (λ c. not (below (change_key c) low)) (changes_in all)
copies-changes low all done left h p = ap changes_in (sym (append-nil done) ∙ ap (λ l. done ++ l) (sym p)) ∙ h.changes

pub copies-named : (low : List ℕ) (all done left : List Held) → AreCopied low all done left → AreNamed done
copies-named low all done left h = all_front _ done left h.named
