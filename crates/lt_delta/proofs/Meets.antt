-- The entries of a table that meet a range.
use Rattle.std.proofs.Common.{Bool, List, [], ap, ap₂, arith, cond, drop, false, get_or, inl, inr, length, map, refl, subst, suc, sym, take, true, zero, ℕ, ◌-◌, ◌<◌, ◌∙◌, ◌∷◌, ◌≡◌, ◌≤◌}
use Rattle.std.specs.Prelude.{IsTrue, Option, Some, filter, find, nat_le, nat_lt, not, slice_get, ◌&&◌, ◌==◌, ◌^◌}
use Rattle.std.specs.List.{AllByRecursion, list_all}
use Rattle.std.specs.List.Sorted.{IsPartitionPoint, IsPartitionedBy}
use Rattle.std.specs.Option.{option_map_or}
use Rattle.std.proofs.lemmas.Bool.{and_parts, cases_lt, false≢true}
use Rattle.std.proofs.lemmas.List.{length-map}
use Rattle.lt_terms.specs.Key.{Range, below, is_below_high, is_empty_range, max_key}
use Rattle.lt_storage.specs.Store.{BundleEntry, IsTableIndex, TableIndex, entries_rise, entry_meets, is_entry}
use Rattle.lt_codecs.proofs.ListFacts.{all_hold, all_pass}
use Rattle.lt_version_laws.specs.Meets.{AreEntries}
use Rattle.lt_version_laws.proofs.MeetSteps.{entries_met}
use Rattle.lt_delta.specs.Meeting.{BeginsAt, EndsAt, IsMeeting, entries_of}

-- ---- entries of a table

own_order : (e : BundleEntry) → IsTrue (is_entry e) → IsTrue (not (below e.last e.first))
own_order e h =
    let a = nat_lt e.place (2 ^ 64) && nat_lt e.length (2 ^ 64) && nat_lt 0 e.versions && nat_le e.versions e.length && nat_le (length e.first) max_key && nat_le (length e.last) max_key in
    let b = not (below e.last e.first) in
    let c = nat_lt e.least (2 ^ 64) in
    (and_parts a b (and_parts (a && b) c (and_parts (a && b && c) (nat_lt e.greatest (2 ^ 64)) h).0).0).1

table_entries : (t : TableIndex) → IsTableIndex t → AreEntries t.entries
table_entries t h =
    let a = nat_lt 0 (length t.entries) && nat_lt (length t.entries) (2 ^ 64) in
    let rise = and_parts (a && list_all is_entry t.entries) (entries_rise t.entries) h.entries in
    let each = (and_parts a (list_all is_entry t.entries) rise.0).1 in
    record { rise = rise.1; each = all_pass (λ e. not (below e.last e.first)) (λ e. IsTrue (is_entry e)) own_order t.entries (all_hold is_entry (λ e. IsTrue (is_entry e)) (λ e i. i) t.entries each) }

abbrev entries_in : Option TableIndex → List BundleEntry
entries_in o = option_map_or (λ t. t.entries) o []

found_entries : (t : TableIndex) (b : Bool) (o : Option TableIndex) → IsTableIndex t → AreEntries (entries_in o) → AreEntries (entries_in (cond b (Some t) o))
found_entries t true o h others = table_entries t h
found_entries t false o h others = others

pub are_entries : (ts : List TableIndex) (table : ℕ) → AllByRecursion IsTableIndex ts → AreEntries (entries_of ts table)
are_entries [] table h = record { rise = refl; each = refl }
are_entries (t ∷ ts) table h = found_entries t (t.table == table) (find (λ t. t.table == table) ts) h.0 (are_entries ts table h.1)

-- ---- places in a list, and in the list as it is seen

module _ {A B : Type 0} (view : A → B) where
  seen_at : (xs : List A) (k : ℕ) (d : A) → get_or (map view xs) k (view d) ≡ view (get_or xs k d)
  seen_at [] k d = refl
  seen_at (x ∷ xs) zero d = refl
  seen_at (x ∷ xs) (suc k) d = seen_at xs k d

  -- a place that there is does not look at what stands in for one that there is not
  pub at_there : (P : B → Type 0) (xs : List A) (k : ℕ) (d : B) → k < length xs → ((e : A) → P (view (get_or xs k e))) → P (get_or (map view xs) k d)
  at_there P [] k d lt h = absurd (omega (arith, lt))
  at_there P (x ∷ xs) zero d lt h = h x
  at_there P (x ∷ xs) (suc k) d lt h = at_there P xs k d (omega (arith, lt)) h

  pub parted_unseen : (p : B → Bool) (xs : List A) → IsPartitionedBy p (map view xs) → IsPartitionedBy (λ x. p (view x)) xs
  parted_unseen p xs parted i j d le lt h =
      sym (ap p (seen_at xs i d)) ∙ parted i j (view d) le (omega (arith, lt, length-map xs view)) (ap p (seen_at xs j d) ∙ h)

  pub point_seen : (P Q : B → Type 0) (xs : List A) (i : ℕ) → i ≤ length xs → IsPartitionPoint (λ x. P (view x)) (λ x. Q (view x)) xs i → IsPartitionPoint P Q (map view xs) i
  point_seen P Q xs i within point = (
    λ k d low lt. at_there P xs k d (omega (arith, lt, within)) (λ e. point.0 k e low lt),
    λ k d le lt. let there : k < length xs = omega (arith, lt, length-map xs view) in at_there Q xs k d there (λ e. point.1 k e le there),
  )

-- ---- what stands between the two places

there : (es : List BundleEntry) (n : ℕ) (e : BundleEntry) → slice_get es n ≡ Some e → (n < length es) × (get_or es n e ≡ e)
there [] n e h = absurd cc
there (f ∷ es) zero e h = (omega arith, cc)
there (f ∷ es) (suc n) e h = let t = there es n e h in (omega (arith, t.0), t.1)

none_met : (r : Range) (es : List BundleEntry) → is_empty_range r ≡ true → filter (entry_meets r) es ≡ []
none_met r [] empty = refl
none_met r (e ∷ es) empty = ap (λ (b : Bool). cond b (e ∷ filter (entry_meets r) es) (filter (entry_meets r) es)) (ap (λ (b : Bool). not b && not (below e.last r.low) && is_below_high e.first r.high) empty) ∙ none_met r es empty

pub empty_meets : (r : Range) (es : List BundleEntry) → is_empty_range r ≡ true → IsMeeting es r 0 0
empty_meets r es empty = record {
  exact = λ n e at. (λ meets. absurd (false≢true (sym (ap (λ (b : Bool). not b && not (below e.last r.low) && is_below_high e.first r.high) empty) ∙ meets)), λ between. absurd (omega (arith, between.1)));
  met = none_met r es empty;
  within = omega arith;
  none = inr (refl, refl);
}

meets_between : (r : Range) (es : List BundleEntry) (i j n : ℕ) (e : BundleEntry) → EndsAt r.low es i → BeginsAt r.high es j → slice_get es n ≡ Some e → IsTrue (entry_meets r e) → (i ≤ n) × (n < j)
meets_between r es i j n e ends begins at meets =
    let t = there es n e at in
    let both = and_parts (not (is_empty_range r) && not (below e.last r.low)) (is_below_high e.first r.high) meets in
    let up = (and_parts (not (is_empty_range r)) (not (below e.last r.low)) both.0).1 in (
      elim (cases_lt n i) [
        | inl lt ↦ let ended : below e.last r.low ≡ true = subst (λ (f : BundleEntry). below f.last r.low ≡ true) t.1 (ends.0 n e (omega arith) lt) in absurd (false≢true (sym (ap not ended) ∙ up))
        | inr le ↦ le
      ],
      elim (cases_lt n j) [
        | inl lt ↦ lt
        | inr le ↦ let late : is_below_high e.first r.high ≡ false = subst (λ (f : BundleEntry). is_below_high f.first r.high ≡ false) t.1 (begins.1 n e le t.0) in absurd (false≢true (sym late ∙ both.1))
      ],
    )

between_meets : (r : Range) (es : List BundleEntry) (i j n : ℕ) (e : BundleEntry) → is_empty_range r ≡ false → EndsAt r.low es i → BeginsAt r.high es j → slice_get es n ≡ Some e → (i ≤ n) × (n < j) → IsTrue (entry_meets r e)
between_meets r es i j n e some ends begins at between =
    let t = there es n e at in
    let open_low : below e.last r.low ≡ false = subst (λ (f : BundleEntry). below f.last r.low ≡ false) t.1 (ends.1 n e between.0 t.0) in
    let open_high : is_below_high e.first r.high ≡ true = subst (λ (f : BundleEntry). is_below_high f.first r.high ≡ true) t.1 (begins.0 n e (omega arith) between.1) in
    ap₂ (λ (x y : Bool). not x && not y && is_below_high e.first r.high) some open_low ∙ open_high

pub some_meet : (r : Range) (es : List BundleEntry) (i j : ℕ) → is_empty_range r ≡ false → EndsAt r.low es i → BeginsAt r.high es j → j ≤ length es → i < j → IsMeeting es r i j
some_meet r es i j some ends begins within lt = record {
  exact = λ n e at. (meets_between r es i j n e ends begins at, between_meets r es i j n e some ends begins at);
  met = entries_met r es i j some ends begins;
  within = within;
  none = inl lt;
}

take_none : (es : List BundleEntry) (n : ℕ) → n ≡ 0 → take n es ≡ []
take_none [] zero e = refl
take_none [] (suc n) e = absurd (omega (arith, e))
take_none (f ∷ es) zero e = refl
take_none (f ∷ es) (suc n) e = absurd (omega (arith, e))

pub no_meet : (r : Range) (es : List BundleEntry) (i j : ℕ) → is_empty_range r ≡ false → EndsAt r.low es i → BeginsAt r.high es j → j ≤ i → IsMeeting es r 0 0
no_meet r es i j some ends begins le = record {
  exact = λ n e at. (λ meets. let b = meets_between r es i j n e ends begins at meets in absurd (omega (arith, b.0, b.1, le)), λ between. absurd (omega (arith, between.1)));
  met = entries_met r es i j some ends begins ∙ take_none (drop i es) (j - i) (omega (arith, le));
  within = omega arith;
  none = inr (refl, refl);
}
