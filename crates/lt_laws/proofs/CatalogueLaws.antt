-- A catalogue that grew keeps what was fair: registered versions stay, with their keys and columns.
use Rattle.std.proofs.Common.{Bool, List, [], ap, ap₂, arith, cond, false, ltb-true, refl, suc, sym, true, zero, ℕ, ◌++◌, ◌<◌, ◌∙◌, ◌∷◌, ◌≡◌}
use Rattle.std.specs.Prelude.{None, Option, Some, is_none, nat_lt, not, option_and_then, option_map, slice_get, ◌&&◌, ◌-◌, ◌==◌}
use Rattle.std.specs.Option.{option_map_or, option_or}
use Rattle.std.proofs.lemmas.Bool.{and_from, eqb-true, ne_eqb}
use Rattle.lt_terms.specs.Key.{in_range, is_key_of}
use Rattle.lt_terms.specs.Log.{Change, Header, Item, batch_item, change_item, change_key, checkpoint_item, close_item, header_item}
use Rattle.lt_tables.specs.Schema.{Became, Catalogue, Column, IsCatalogue, KeyColumn, Registered, SchemaVersion, Table, after_adding, after_retiring, as_it_was, change_at, first_of, key_kinds, live_version, new_table, registered, retired_version, sets_shape, table_numbered, then_added, then_retired, when, with_retired, with_version, without_version}
use Rattle.lt_tables.specs.Fair.{Unfair, after_close, bad_shape, breaks, change_fault, changes_fault, checkpoint_of, fair_after, has_change_shape, is_closed, is_fair, item_fault, last_ts, out_of_range, unknown_table_number, unknown_version_number}
use Rattle.lt_codecs.proofs.ListFacts.{or_left, or_right}
use Rattle.lt_lemmas.proofs.PointLaws.{first_of-append, left, none, right, shape_faults, time_faults}
use Rattle.lt_lemmas.proofs.CatalogueLaws.{AllPast, NumbersRise, numbers_rise, past_trans, retired_where, same_number}

-- ---- a longer catalogue

-- a registered version stays, with its table's key columns and with its columns
abbrev IsFoundAgain : Option Table → ℕ → List KeyColumn → List Column → Type 0
IsFoundAgain o v key columns = (u : Table) × (q : Registered) × (o ≡ Some u) × (registered u v ≡ Some q) × (u.key ≡ key) × (q.columns ≡ columns)

pub record Stays (cat more : Catalogue) : Type 0 where
  pub again : (n v : ℕ) (t : Table) (r : Registered) → table_numbered cat n ≡ Some t → registered t v ≡ Some r → IsFoundAgain (table_numbered more n) v t.key r.columns

abbrev shape_in : Header → Change → Option Table → Option Registered → List (Option Unfair)
shape_in h c t r = when (not (in_range (change_key c) h.range)) out_of_range
    ∷ when (is_none t) (unknown_table_number c.table)
    ∷ when (is_none r) (unknown_version_number c.version)
    ∷ when (not (option_map_or (λ t. option_map_or (λ r. has_change_shape t r c) r false) t false)) bad_shape
    ∷ []

abbrev shape_of : Header → Change → Option Table → Option Unfair
shape_of h c t = first_of (shape_in h c t (option_and_then (λ t. registered t c.version) t))

abbrev shape_at : Header → Change → List KeyColumn → List Column → Option Unfair
shape_at h c key columns = option_or (when (not (in_range (change_key c) h.range)) out_of_range) (option_or (when (not (is_key_of (key_kinds key) c.key && sets_shape c.op columns c.set)) bad_shape) None)

shape_kept_by : (h : Header) (c : Change) (t : Table) (x : Option Registered) (p : Option Table) → ((r : Registered) → x ≡ Some r → IsFoundAgain p c.version t.key r.columns)
    → first_of (shape_in h c (Some t) x) ≡ None → shape_of h c p ≡ None
shape_kept_by h c t None p k e = let d : Some (unknown_version_number c.version) ≡ None = or_right (when (not (in_range (change_key c) h.range)) out_of_range) _ e in cc
shape_kept_by h c t (Some r) p k e = let a = k r refl in ap (shape_of h c) a.2 ∙ ap (λ x. first_of (shape_in h c (Some a.0) x)) a.3 ∙ ap₂ (shape_at h c) a.4 a.5 ∙ e

shape_kept : (h : Header) (c : Change) (o p : Option Table) → ((t : Table) (r : Registered) → o ≡ Some t → registered t c.version ≡ Some r → IsFoundAgain p c.version t.key r.columns) → shape_of h c o ≡ None → shape_of h c p ≡ None
shape_kept h c None p k e = let d : Some (unknown_table_number c.table) ≡ None = or_right (when (not (in_range (change_key c) h.range)) out_of_range) _ e in cc
shape_kept h c (Some t) p k e = shape_kept_by h c t (registered t c.version) p (λ r d. k t r refl d) e

change_kept : (cat more : Catalogue) → Stays cat more → (h : Header) (before : List Item) (c : Change) → change_fault h cat before c ≡ None → change_fault h more before c ≡ None
change_kept cat more st h before c e =
    let times = time_faults c.ts (checkpoint_of h before) (last_ts (change_key c) before) in
    let d : option_or (shape_of h c (table_numbered cat c.table)) (first_of times) ≡ None = sym (first_of-append (shape_faults h cat c) times) ∙ e in
    let f : shape_of h c (table_numbered more c.table) ≡ None = shape_kept h c (table_numbered cat c.table) (table_numbered more c.table) (λ t r. st.again c.table c.version t r) (or_left _ _ d) in
    first_of-append (shape_faults h more c) times ∙ ap (λ o. option_or o (first_of times)) f ∙ or_right (shape_of h c (table_numbered cat c.table)) _ d

or_none : {A : Type 0} (o p : Option A) → o ≡ None → p ≡ None → option_or o p ≡ None
or_none None p e d = d
or_none (Some a) p e d = e

changes_kept : (cat more : Catalogue) → Stays cat more → (h : Header) (before : List Item) (cs : List Change) → changes_fault h cat before cs ≡ None → changes_fault h more before cs ≡ None
changes_kept cat more st h before [] e = refl
changes_kept cat more st h before (c ∷ cs) e = or_none (change_fault h more before c) _ (change_kept cat more st h before c (or_left _ _ e)) (changes_kept cat more st h (before ++ change_item c ∷ []) cs (or_right (change_fault h cat before c) _ e))

item_kept : (cat more : Catalogue) → Stays cat more → (h : Header) (before : List Item) (i : Item) → item_fault h cat before i ≡ None → item_fault h more before i ≡ None
item_kept cat more st h before (header_item k) e = e
item_kept cat more st h before (change_item c) e = change_kept cat more st h before c e
item_kept cat more st h before (checkpoint_item t) e = e
item_kept cat more st h before (batch_item t cs) e = changes_kept cat more st h before cs e
item_kept cat more st h before (close_item first count) e = e

breaks_kept : (cat more : Catalogue) → Stays cat more → (h : Header) (before : List Item) (i : Item) → breaks h cat before i ≡ None → breaks h more before i ≡ None
unfolding breaks
breaks_kept cat more st h before i e = or_none (when (is_closed before) after_close) _ (or_left _ _ e) (item_kept cat more st h before i (or_right (when (is_closed before) after_close) _ e))

fair_kept : (cat more : Catalogue) → Stays cat more → (h : Header) (before items : List Item) → fair_after h cat before items ≡ true → fair_after h more before items ≡ true
fair_kept cat more st h before [] f = refl
fair_kept cat more st h before (i ∷ items) f = and_from _ _ (ap is_none (breaks_kept cat more st h before i (none (breaks h cat before i) (left (is_none (breaks h cat before i)) _ f))))
    (fair_kept cat more st h (before ++ i ∷ []) items (right (is_none (breaks h cat before i)) _ f))

-- ---- a version retired

changed_at : (xs : List Registered) (k m : ℕ) (r : Registered) → slice_get xs m ≡ Some r → (q : Registered) × (slice_get (change_at retired_version k xs) m ≡ Some q) × (q.columns ≡ r.columns)
changed_at [] k m r e = cc
changed_at (x ∷ xs) zero zero r e = let d : x ≡ r = cc in (retired_version x, refl, ap (λ (r : Registered). r.columns) d)
changed_at (x ∷ xs) zero (suc m) r e = (r, e, refl)
changed_at (x ∷ xs) (suc k) zero r e = (r, e, refl)
changed_at (x ∷ xs) (suc k) (suc m) r e = changed_at xs k m r e

found_through : (f : Table → Table) (t : Table) (b : Bool) (x y : Option Table) → x ≡ option_map f y → cond b (Some (f t)) x ≡ option_map f (cond b (Some t) y)
found_through f t true x y e = refl
found_through f t false x y e = e

pub find_retired : (cat : Catalogue) (number v n : ℕ) → table_numbered (without_version cat number v) n ≡ option_map (retired_where number v) (table_numbered cat n)
find_retired [] number v n = refl
find_retired (t ∷ ts) number v n = ap (λ m. cond (m == n) (Some (retired_where number v t)) (table_numbered (without_version ts number v) n)) (same_number (t.number == number) v t)
    ∙ found_through (retired_where number v) t (t.number == n) (table_numbered (without_version ts number v) n) (table_numbered ts n) (find_retired ts number v n)

retired_again : (b : Bool) (v w : ℕ) (t : Table) (r : Registered) → registered t w ≡ Some r → (q : Registered) × (registered (cond b (with_retired v t) t) w ≡ Some q) × ((cond b (with_retired v t) t).key ≡ t.key) × (q.columns ≡ r.columns)
retired_again true v zero t r e = cc
retired_again true v (suc m) t r e = let a = changed_at t.versions (v - 1) m r e in (a.0, a.1, refl, a.2)
retired_again false v w t r e = (r, e, refl, refl)

pub stays_retired : (cat : Catalogue) (number v : ℕ) → Stays cat (without_version cat number v)
stays_retired cat number v = record {
  again = λ n w t r e d. let a = retired_again (t.number == number) v w t r d in (retired_where number v t, a.0, find_retired cat number v n ∙ ap (option_map (retired_where number v)) e, a.1, a.2, a.3);
}

-- ---- a version added; in a lawful catalogue the tables' numbers rise

past_found_by : (m n : ℕ) (u : Table) (b : Bool) (x : Option Table) (t : Table) → (u.number == n) ≡ b → m < u.number → (x ≡ Some t → m < n) → cond b (Some u) x ≡ Some t → m < n
past_found_by m n u true x t e h k f = omega (arith, h, eqb-true u.number n e)
past_found_by m n u false x t e h k f = k f

pub past_found : (m n : ℕ) (ts : Catalogue) (t : Table) → AllPast m ts → table_numbered ts n ≡ Some t → m < n
past_found m n [] t a e = cc
past_found m n (u ∷ ts) t a e = past_found_by m n u (u.number == n) (table_numbered ts n) t refl a.0 (past_found m n ts t a.1) e

got_more : {A : Type 0} (xs ys : List A) (m : ℕ) (r : A) → slice_get xs m ≡ Some r → slice_get (xs ++ ys) m ≡ Some r
got_more [] ys m r e = cc
got_more (x ∷ xs) ys zero r e = e
got_more (x ∷ xs) ys (suc m) r e = got_more xs ys m r e

registered_more : (t : Table) (ys : List Registered) (w : ℕ) (r : Registered) → registered t w ≡ Some r → registered (record t { versions = t.versions ++ ys }) w ≡ Some r
registered_more t ys zero r e = e
registered_more t ys (suc m) r e = got_more t.versions ys m r e

added_same_by : (v : SchemaVersion) (u : Table) (ts : Catalogue) (n w : ℕ) (t : Table) (r : Registered) (c : Bool) → cond c (Some u) (table_numbered ts n) ≡ Some t → registered t w ≡ Some r
    → IsFoundAgain (cond c (Some (record u { versions = u.versions ++ live_version v.columns ∷ [] })) (table_numbered ts n)) w t.key r.columns
added_same_by v u ts n w t r true e d =
    let x : u ≡ t = cc in
    (record u { versions = u.versions ++ live_version v.columns ∷ [] }, r, refl, registered_more u (live_version v.columns ∷ []) w r (ap (λ t. registered t w) x ∙ d), ap (λ (t : Table). t.key) x, refl)
added_same_by v u ts n w t r false e d = (t, r, e, d, refl, refl)

added_past_by : (u : Table) (x y : Option Table) (n w : ℕ) (t : Table) (r : Registered) (c : Bool) → cond c (Some u) x ≡ Some t → registered t w ≡ Some r → (x ≡ Some t → IsFoundAgain y w t.key r.columns)
    → IsFoundAgain (cond c (Some u) y) w t.key r.columns
added_past_by u x y n w t r true e d k = (t, r, e, d, refl, refl)
added_past_by u x y n w t r false e d k = k e

added_again_by : (v : SchemaVersion) (u : Table) (ts : Catalogue) (n w : ℕ) (t : Table) (r : Registered) (b d : Bool) → nat_lt v.number u.number ≡ d → NumbersRise (u ∷ ts)
    → table_numbered (u ∷ ts) n ≡ Some t → registered t w ≡ Some r → (table_numbered ts n ≡ Some t → IsFoundAgain (table_numbered (with_version ts v) n) w t.key r.columns)
    → IsFoundAgain (table_numbered (cond b (record u { versions = u.versions ++ live_version v.columns ∷ [] } ∷ ts) (cond d (new_table v ∷ u ∷ ts) (u ∷ with_version ts v))) n) w t.key r.columns
added_again_by v u ts n w t r true d f a e g k = added_same_by v u ts n w t r (u.number == n) e g
added_again_by v u ts n w t r false true f a e g k =
    let h : v.number < u.number = ltb-true v.number u.number f in
    let past : v.number < n = past_found v.number n (u ∷ ts) t (h, past_trans v.number u.number ts h a.0) e in
    (t, r, ap (λ c. cond c (Some (new_table v)) (table_numbered (u ∷ ts) n)) (ne_eqb v.number n (λ x. absurd (omega (arith, x, past)))) ∙ e, g, refl, refl)
added_again_by v u ts n w t r false false f a e g k = added_past_by u (table_numbered ts n) (table_numbered (with_version ts v) n) n w t r (u.number == n) e g k

added_again : (v : SchemaVersion) (cat : Catalogue) → NumbersRise cat → (n w : ℕ) (t : Table) (r : Registered) → table_numbered cat n ≡ Some t → registered t w ≡ Some r → IsFoundAgain (table_numbered (with_version cat v) n) w t.key r.columns
added_again v [] a n w t r e g = cc
added_again v (u ∷ ts) a n w t r e g = added_again_by v u ts n w t r (u.number == v.number) (nat_lt v.number u.number) refl a e g (λ x. added_again v ts a.1 n w t r x g)

pub stays_added : (cat : Catalogue) (v : SchemaVersion) → NumbersRise cat → Stays cat (with_version cat v)
stays_added cat v a = record { again = λ n w t r. added_again v cat a n w t r }

stays_trans : (a b c : Catalogue) → Stays a b → Stays b c → Stays a c
stays_trans a b c f g = record {
  again = λ n v t r e d. let x = f.again n v t r e d in let y = g.again n v x.0 x.1 x.2 x.3 in (y.0, y.1, y.2, y.3, y.4 ∙ x.4, y.5 ∙ x.5);
}

pub became_lawful : (cat more : Catalogue) → IsCatalogue cat → Became cat more → IsCatalogue more
became_lawful cat _ is as_it_was = is
became_lawful cat _ is (then_added c v b e) = after_adding c v (became_lawful cat c is b) e
became_lawful cat _ is (then_retired c number v b e) = after_retiring c number v (became_lawful cat c is b) e

pub became_stays : (cat more : Catalogue) → IsCatalogue cat → Became cat more → Stays cat more
became_stays cat _ is as_it_was = record { again = λ n v t r e d. (t, r, e, d, refl, refl) }
became_stays cat _ is (then_added c v b e) = stays_trans cat c (with_version c v) (became_stays cat c is b) (stays_added c v (numbers_rise c (became_lawful cat c is b)))
became_stays cat _ is (then_retired c number v b e) = stays_trans cat c (without_version c number v) (became_stays cat c is b) (stays_retired c number v)

-- what was fair stays fair
pub fair_stays : (cat more : Catalogue) → IsCatalogue cat → Became cat more → (h : Header) (items : List Item) → is_fair h cat items ≡ true → is_fair h more items ≡ true
fair_stays cat more is b h items f = fair_kept cat more (became_stays cat more is b) h [] items f
