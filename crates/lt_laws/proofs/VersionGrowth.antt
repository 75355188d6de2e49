-- A lawful catalogue that got a version, or of which one was retired: each of its tables widens, and its layouts stay covered.
use Rattle.std.proofs.Common.{Bool, List, [], ap, append-nil, arith, cond, eqb-true, false, inl, inr, length, ltb-true, ne_eqb, refl, subst, suc, sym, true, zero, ℕ, ◌++◌, ◌+◌, ◌<◌, ◌∙◌, ◌∷◌, ◌≡◌}
use Rattle.std.specs.Prelude.{Contains, None, Option, Some, find, fold, if◌then◌else◌, is_none, is_some, nat_lt, not, option_and_then, option_map, slice_get, ◌&&◌, ◌-◌, ◌==◌, ◌||◌, ◌≢◌, ◌⊎◌}
use Rattle.std.specs.List.{AllByRecursion, cons_option, list_any}
use Rattle.std.proofs.lemmas.Bool.{and_from, eqb-false, false≢true, or_cases}
use Rattle.std.proofs.lemmas.List.Sums.{fold-append}
use Rattle.std.specs.Option.{option_map_or}
use Rattle.lt_terms.specs.Kind.{Kind}
use Rattle.lt_tables.specs.Schema.{Became, Catalogue, Column, IsCatalogue, Registered, RetireFault, SchemaVersion, Table, after_adding, after_retiring, already_retired, as_it_was, bare, carrier, change_at, clash, column_numbered, has_column, is_live, joined, joined_all, kinds_given, last_version, latest, live_version, new_table, nothing_yet, registered, retire_fault, retired_version, reused_column, schema_fault, table_numbered, then_added, then_retired, unknown_table, unknown_version, versions_of, when, with_retired, with_version, without_version}
use Rattle.lt_codecs.proofs.ListFacts.{find_none, none_mapped}
use Rattle.lt_lemmas.proofs.TableLaws.{Follows, accepted, same_columns}
use Rattle.lt_lemmas.proofs.ListFacts.{filter_map-append, find_all, find_held, when_none}
use Rattle.lt_lemmas.proofs.CatalogueLaws.{AllPast, NumbersRise, numbers_rise, past_trans, retired_where}
use Rattle.lt_lemmas.proofs.VersionGrowth.{its_number}
use Rattle.lt_laws.proofs.TableGrowth.{Widens}
use Rattle.lt_laws.proofs.WidenLaws.{LeavesUp, leaves_up, same_leaves}
use Rattle.lt_laws.proofs.TableLaws.{fold_clash}
use Rattle.lt_laws.proofs.CarrierLaws.{clash_bare}
use Rattle.lt_laws.proofs.AnswerLaws.{numbered_held}
use Rattle.lt_laws.proofs.CatalogueLaws.{find_retired, past_found}
use Rattle.lt_laws.proofs.ListFacts.{all_at}
use Rattle.lt_lemmas.proofs.SnapshotLaws.{or_left, or_right}

abbrev is_live_with : ℕ → Registered → Bool
is_live_with n r = r.live && has_column n r

-- ---- a version retired

still_live : (n k : ℕ) (rs : List Registered) → list_any (is_live_with n) (change_at retired_version k rs) ≡ true → list_any (is_live_with n) rs ≡ true
still_live n k [] h = h
still_live n zero (r ∷ rs) h = or_right (is_live_with n r) (list_any (is_live_with n) rs) h
still_live n (suc k) (r ∷ rs) h = elim (or_cases (is_live_with n r) (list_any (is_live_with n) (change_at retired_version k rs)) h) [
  | inl e ↦ or_left (is_live_with n r) (list_any (is_live_with n) rs) e
  | inr e ↦ or_right (is_live_with n r) (list_any (is_live_with n) rs) (still_live n k rs e)
]

still_has : (n k : ℕ) (rs : List Registered) → list_any (has_column n) (change_at retired_version k rs) ≡ list_any (has_column n) rs
still_has n k [] = refl
still_has n zero (r ∷ rs) = refl
still_has n (suc k) (r ∷ rs) = ap (λ (b : Bool). has_column n r || b) (still_has n k rs)

pub widens_itself : (t : Table) → Widens t t
widens_itself t = record { number = refl; key = refl; live = λ n h l. l; stays = λ n h. h; carrier = λ n k e. (k, e, same_leaves k) }

pub widens_retired : (t : Table) (v : ℕ) → Widens t (with_retired v t)
unfolding carrier
widens_retired t v = record {
  number = refl;
  key = refl;
  live = λ n h l. still_live n (v - 1) t.versions l;
  stays = λ n h. still_has n (v - 1) t.versions ∙ h;
  carrier = λ n k e. (k, ap joined_all (same_columns n t.versions (v - 1)) ∙ e, same_leaves k);
}

-- ---- a version added

-- the last version of a table is live
abbrev pub last_live : List Registered → Bool
last_live [] = true
last_live (r ∷ []) = r.live
last_live (r ∷ s ∷ rest) = last_live (s ∷ rest)

latest_live : (n : ℕ) (rs : List Registered) → last_live rs ≡ true → is_some (column_numbered (latest rs) n) ≡ true → list_any (is_live_with n) rs ≡ true
latest_live n [] l h = h
latest_live n (r ∷ []) l h = or_left (is_live_with n r) false (and_from _ _ l h)
latest_live n (r ∷ s ∷ rs) l h = or_right (is_live_with n r) (list_any (is_live_with n) (s ∷ rs)) (latest_live n (s ∷ rs) l h)

any_push : {A : Type 0} (p : A → Bool) (xs : List A) (y : A) → list_any p (xs ++ y ∷ []) ≡ true → (list_any p xs ≡ true) ⊎ (p y ≡ true)
any_push p [] y h = elim (or_cases (p y) false h) [ inl e ↦ inr e | inr e ↦ inl e ]
any_push p (x ∷ xs) y h = elim (or_cases (p x) (list_any p (xs ++ y ∷ [])) h) [
  | inl e ↦ inl (or_left (p x) (list_any p xs) e)
  | inr e ↦ elim (any_push p xs y e) [ inl i ↦ inl (or_right (p x) (list_any p xs) i) | inr i ↦ inr i ]
]

pub any_front : {A : Type 0} (p : A → Bool) (xs ys : List A) → list_any p xs ≡ true → list_any p (xs ++ ys) ≡ true
any_front p [] ys h = absurd (false≢true h)
any_front p (x ∷ xs) ys h = elim (or_cases (p x) (list_any p xs) h) [ inl e ↦ or_left (p x) (list_any p (xs ++ ys)) e | inr e ↦ or_right (p x) (list_any p (xs ++ ys)) (any_front p xs ys e) ]

some_is : {A : Type 0} (o : Option A) → is_some o ≡ true → (x : A) × (o ≡ Some x)
some_is None h = absurd (false≢true h)
some_is (Some x) h = (x, refl)

not_none : {A : Type 0} (o : Option A) → is_none o ≡ false → is_some o ≡ true
not_none None h = absurd (false≢true (sym h))
not_none (Some x) h = refl

and_false : (a b : Bool) → (a && b) ≡ false → a ≡ true → b ≡ false
and_false true b h e = h
and_false false b h e = absurd (false≢true e)

-- a column of the new version that an older one has is one of the latest, so it is live
fresh_live : (n : ℕ) (rs : List Registered) (columns : List Column) → reused_column rs columns ≡ None → last_live rs ≡ true → list_any (has_column n) rs ≡ true → has_column n (live_version columns) ≡ true → list_any (is_live_with n) rs ≡ true
fresh_live n rs columns e l h c =
    let test = λ (c : Column). list_any (has_column c.number) rs && is_none (column_numbered (latest rs) c.number) in
    let none = find_none test columns (none_mapped (λ (c : Column). c.number) (find test columns) e) in
    let x = some_is (column_numbered columns n) c in
    let f = find_all (λ c. test c ≡ false) (λ c. c.number == n) columns x.0 none x.1 in
    let k : x.0.number ≡ n = eqb-true x.0.number n f.1 in
    let g : (list_any (has_column n) rs && is_none (column_numbered (latest rs) n)) ≡ false = ap (λ (i : ℕ). list_any (has_column i) rs && is_none (column_numbered (latest rs) i)) (sym k) ∙ f.0 in
    latest_live n rs l (not_none (column_numbered (latest rs) n) (and_false (list_any (has_column n) rs) (is_none (column_numbered (latest rs) n)) g h))

joined_push : (ks : List Kind) (k j : Kind) → joined_all ks ≡ Some k → joined_all (ks ++ j ∷ []) ≡ Some (joined k j)
joined_push [] k j e = cc
joined_push (a ∷ ks) k j e = let d : fold joined (bare a) ks ≡ k = cc in ap Some (fold-append joined (bare a) ks (j ∷ []) ∙ ap (λ (x : Kind). joined x j) d)

carrier_clash : (ks : List Kind) (k c : Kind) → joined_all ks ≡ Some k → AllByRecursion (λ l. clash l c ≡ false) ks → clash k c ≡ false
carrier_clash [] k c e a = cc
carrier_clash (l ∷ ks) k c e a = let d : fold joined (bare l) ks ≡ k = cc in ap (λ (x : Kind). clash x c) (sym d) ∙ fold_clash (bare l) ks c (clash_bare l c a.0) a.1

-- the carrier with one kind more
carrier_more : (ks : List Kind) (o : Option Column) (k : Kind) → joined_all ks ≡ Some k → ((c : Column) → o ≡ Some c → AllByRecursion (λ l. clash l c.kind ≡ false) ks)
    → (w : Kind) × (joined_all (ks ++ cons_option (option_map (λ c. c.kind) o) []) ≡ Some w) × LeavesUp k w
carrier_more ks None k e f = (k, ap joined_all (append-nil ks) ∙ e, same_leaves k)
carrier_more ks (Some c) k e f = (joined k c.kind, joined_push ks k c.kind e, leaves_up k c.kind (carrier_clash ks k c.kind e (f c refl)))

abbrev pub with_columns : Table → List Column → Table
with_columns t columns = record t { versions = t.versions ++ live_version columns ∷ [] }

pub widens_added : (t : Table) (columns : List Column) → Follows t.versions columns → reused_column t.versions columns ≡ None → last_live t.versions ≡ true → Widens t (with_columns t columns)
unfolding carrier
widens_added t columns follow fresh last = record {
  number = refl;
  key = refl;
  live = λ n h l. elim (any_push (is_live_with n) t.versions (live_version columns) l) [ inl e ↦ e | inr e ↦ fresh_live n t.versions columns fresh last h e ];
  stays = λ n h. any_front (has_column n) t.versions (live_version columns ∷ []) h;
  carrier = λ n k e.
      let r = carrier_more (kinds_given t.versions n) (column_numbered columns n) k e (λ c f.
      let g = find_all (λ c. AllByRecursion (λ k. clash k c.kind ≡ false) (kinds_given t.versions c.number)) (λ c. c.number == n) columns c follow f in
      subst (λ (m : ℕ). AllByRecursion (λ k. clash k c.kind ≡ false) (kinds_given t.versions m)) (eqb-true c.number n g.1) g.0) in
      (r.0, ap joined_all (filter_map-append (λ r. option_map (λ c. c.kind) (column_numbered r.columns n)) t.versions (live_version columns ∷ [])) ∙ r.1, r.2);
}

-- ---- in a lawful catalogue the last version of each table is live

abbrev LastLive : Table → Type 0
LastLive t = last_live t.versions ≡ true

live_at_end : (rs : List Registered) (columns : List Column) → last_live (rs ++ live_version columns ∷ []) ≡ true
live_at_end [] columns = refl
live_at_end (r ∷ []) columns = refl
live_at_end (r ∷ s ∷ rs) columns = live_at_end (s ∷ rs) columns

lives_added_by : (v : SchemaVersion) (t : Table) (ts : Catalogue) (b d : Bool) → AllByRecursion LastLive (t ∷ ts) → AllByRecursion LastLive (with_version ts v)
    → AllByRecursion LastLive (cond b (with_columns t v.columns ∷ ts) (cond d (new_table v ∷ t ∷ ts) (t ∷ with_version ts v)))
lives_added_by v t ts true d a ih = (live_at_end t.versions v.columns, a.1)
lives_added_by v t ts false true a ih = (refl, a)
lives_added_by v t ts false false a ih = (a.0, ih)

lives_added : (v : SchemaVersion) (cat : Catalogue) → AllByRecursion LastLive cat → AllByRecursion LastLive (with_version cat v)
lives_added v [] a = (refl, tt)
lives_added v (t ∷ ts) a = lives_added_by v t ts (t.number == v.number) (nat_lt v.number t.number) a (lives_added v ts a.1)

last_stays : (rs : List Registered) (k : ℕ) → k + 1 < length rs → last_live (change_at retired_version k rs) ≡ last_live rs
last_stays [] k h = refl
last_stays (r ∷ []) k h = absurd (omega (arith, h))
last_stays (r ∷ s ∷ rs) zero h = refl
last_stays (r ∷ s ∷ []) (suc zero) h = absurd (omega (arith, h))
last_stays (r ∷ s ∷ q ∷ rs) (suc zero) h = refl
last_stays (r ∷ s ∷ rs) (suc (suc k)) h = last_stays (s ∷ rs) (suc k) (omega (arith, h))

got_within : {A : Type 0} (xs : List A) (k : ℕ) (x : A) → slice_get xs k ≡ Some x → k < length xs
got_within [] k x e = cc
got_within (y ∷ xs) zero x e = omega arith
got_within (y ∷ xs) (suc k) x e = let h = got_within xs k x e in omega (arith, h)

-- what the tests of a retirement give of the table
retire_tests : (b c d : Bool) (v n : ℕ) (e f g h : RetireFault) → (if b then Some e else (if c then Some f else (if not d then Some g else when (v == n) h))) ≡ None → (b ≡ false) × (c ≡ false) × ((v == n) ≡ false)
retire_tests true c d v n e f g h x = cc
retire_tests false true d v n e f g h x = cc
retire_tests false false false v n e f g h x = cc
retire_tests false false true v n e f g h x = (refl, refl, when_none (v == n) h x)

early : (rs : List Registered) (v : ℕ) (t : Table) (r : Registered) → registered (record t { versions = rs }) v ≡ Some r → v ≢ length rs → (v - 1) + 1 < length rs
early rs zero t r g ne = cc
early rs (suc k) t r g ne = let h = got_within rs k r g in omega (arith, h, ne)

last_by : (b : Bool) (v : ℕ) (t : Table) → (b ≡ true → (v - 1) + 1 < length t.versions) → LastLive t → LastLive (cond b (with_retired v t) t)
last_by true v t f l = last_stays t.versions (v - 1) (f refl) ∙ l
last_by false v t f l = l

retired_early : (cat : Catalogue) (v : ℕ) (t : Table) → table_numbered cat t.number ≡ Some t → retire_fault cat t.number v ≡ None → (v - 1) + 1 < length t.versions
retired_early cat v t e f =
    let o = table_numbered cat t.number in
    let x = retire_tests (is_none o) (is_none (option_and_then (λ t. registered t v) o)) (is_live cat t.number v) v (length (versions_of cat t.number)) unknown_table unknown_version already_retired last_version f in
    let some : is_none (registered t v) ≡ false = ap (λ (p : Option Table). is_none (option_and_then (λ t. registered t v) p)) (sym e) ∙ x.1 in
    let r = some_is (registered t v) (not_none (registered t v) some) in
    let size : length (versions_of cat t.number) ≡ length t.versions = ap (λ (p : Option Table). length (option_map_or (λ t. t.versions) p [])) e in
    early t.versions v t r.0 r.1 (eqb-false v (length t.versions) (ap (λ (n : ℕ). v == n) (sym size) ∙ x.2))

-- in a lawful catalogue the last version of each table is live
lasts_retired : (v number : ℕ) (cat ts : Catalogue) → ((t : Table) → Contains ts t → t.number ≡ number → (v - 1) + 1 < length t.versions) → AllByRecursion LastLive ts → AllByRecursion LastLive (without_version ts number v)
lasts_retired v number cat [] f a = tt
lasts_retired v number cat (t ∷ ts) f a = (
  last_by (t.number == number) v t (λ e. f t (zero, omega arith, refl) (eqb-true t.number number e)) a.0,
  lasts_retired v number cat ts (λ u (k, l, e). f u (suc k, omega (arith, l), e)) a.1,
)

pub last_lives : (cat : Catalogue) → IsCatalogue cat → AllByRecursion (λ t. last_live t.versions ≡ true) cat
last_lives _ nothing_yet = tt
last_lives _ (after_adding cat v is e) = lives_added v cat (last_lives cat is)
last_lives _ (after_retiring cat number v is e) = lasts_retired v number cat cat (λ t h k. retired_early cat v t (numbered_held cat t (numbers_rise cat is) h) (ap (λ (n : ℕ). retire_fault cat n v) k ∙ e)) (last_lives cat is)

-- ---- a catalogue that grew

pub record Grew (cat wide : Catalogue) : Type 0 where
  pub lawful : IsCatalogue cat
  pub became : Became cat wide
  pub after : IsCatalogue wide
  pub tables : (n : ℕ) (t : Table) → table_numbered cat n ≡ Some t → (u : Table) × (table_numbered wide n ≡ Some u) × Widens t u

pub widens_where : (b : Bool) (v : ℕ) (t : Table) → Widens t (cond b (with_retired v t) t)
widens_where true v t = widens_retired t v
widens_where false v t = widens_itself t

pub grew_retired : (cat : Catalogue) (number v : ℕ) → IsCatalogue cat → retire_fault cat number v ≡ None → Grew cat (without_version cat number v)
grew_retired cat number v is e = record {
  lawful = is;
  became = then_retired cat number v as_it_was e;
  after = after_retiring cat number v is e;
  tables = λ n t f. (retired_where number v t, find_retired cat number v n ∙ ap (option_map (retired_where number v)) f, widens_where (t.number == number) v t);
}

-- the table of a number, with the version where it is the version's
abbrev pub with_added : SchemaVersion → Table → Table
with_added v t = if t.number == v.number then with_columns t v.columns else t

other_added : (v : SchemaVersion) (t : Table) → (t.number ≡ v.number → ⊥) → with_added v t ≡ t
other_added v t ne = ap (λ (b : Bool). cond b (with_columns t v.columns) t) (ne_eqb t.number v.number ne)

same_added : (v : SchemaVersion) (t : Table) → (t.number == v.number) ≡ true → with_added v t ≡ with_columns t v.columns
same_added v t e = ap (λ (b : Bool). cond b (with_columns t v.columns) t) e

at_same : (v : SchemaVersion) (u : Table) (ts : Catalogue) (n : ℕ) (t : Table) (c : Bool) → (u.number == n) ≡ c → (u.number == v.number) ≡ true → AllPast u.number ts → cond c (Some u) (table_numbered ts n) ≡ Some t
    → cond c (Some (with_columns u v.columns)) (table_numbered ts n) ≡ Some (with_added v t)
at_same v u ts n t true d e past f = let x : u ≡ t = cc in ap Some (sym (same_added v u e)) ∙ ap (λ (y : Table). Some (with_added v y)) x
at_same v u ts n t false d e past f =
    let above : u.number < n = past_found u.number n ts t past f in
    let k : t.number ≡ n = its_number ts n t f in
    let same : u.number ≡ v.number = eqb-true u.number v.number e in
    f ∙ ap Some (sym (other_added v t (λ q. absurd (omega (arith, q, k, above, same)))))

at_later : (v : SchemaVersion) (u : Table) (ts : Catalogue) (n : ℕ) (t : Table) (c : Bool) → (u.number == n) ≡ c → (u.number == v.number) ≡ false → cond c (Some u) (table_numbered ts n) ≡ Some t
    → (table_numbered ts n ≡ Some t → table_numbered (with_version ts v) n ≡ Some (with_added v t)) → cond c (Some u) (table_numbered (with_version ts v) n) ≡ Some (with_added v t)
at_later v u ts n t true d e f ih = let x : u ≡ t = cc in ap Some (sym (ap (λ (b : Bool). cond b (with_columns u v.columns) u) e)) ∙ ap (λ (y : Table). Some (with_added v y)) x
at_later v u ts n t false d e f ih = ih f

found_added_by : (v : SchemaVersion) (u : Table) (ts : Catalogue) (n : ℕ) (t : Table) (b d : Bool) → (u.number == v.number) ≡ b → nat_lt v.number u.number ≡ d → NumbersRise (u ∷ ts) → table_numbered (u ∷ ts) n ≡ Some t
    → (table_numbered ts n ≡ Some t → table_numbered (with_version ts v) n ≡ Some (with_added v t))
    → table_numbered (cond b (with_columns u v.columns ∷ ts) (cond d (new_table v ∷ u ∷ ts) (u ∷ with_version ts v))) n ≡ Some (with_added v t)
found_added_by v u ts n t true d e g r f ih = at_same v u ts n t (u.number == n) refl e r.0 f
found_added_by v u ts n t false true e g r f ih =
    let l : v.number < u.number = ltb-true v.number u.number g in
    let past : v.number < n = past_found v.number n (u ∷ ts) t (l, past_trans v.number u.number ts l r.0) f in
    let k : t.number ≡ n = its_number (u ∷ ts) n t f in
    ap (λ (c : Bool). cond c (Some (new_table v)) (table_numbered (u ∷ ts) n)) (ne_eqb v.number n (λ x. absurd (omega (arith, x, past)))) ∙ f ∙ ap Some (sym (other_added v t (λ q. absurd (omega (arith, q, k, past)))))
found_added_by v u ts n t false false e g r f ih = at_later v u ts n t (u.number == n) refl e f ih

pub found_added : (v : SchemaVersion) (cat : Catalogue) (n : ℕ) (t : Table) → NumbersRise cat → table_numbered cat n ≡ Some t → table_numbered (with_version cat v) n ≡ Some (with_added v t)
found_added v [] n t r f = cc
found_added v (u ∷ ts) n t r f = found_added_by v u ts n t (u.number == v.number) (nat_lt v.number u.number) refl refl r f (found_added v ts n t r.1)

widens_by : (v : SchemaVersion) (t : Table) (b : Bool) → (b ≡ true → Follows t.versions v.columns) → (b ≡ true → reused_column t.versions v.columns ≡ None) → last_live t.versions ≡ true → Widens t (cond b (with_columns t v.columns) t)
widens_by v t true f g l = widens_added t v.columns (f refl) (g refl) l
widens_by v t false f g l = widens_itself t

-- the versions of the table that a version is of
its_versions : (cat : Catalogue) (v : SchemaVersion) (n : ℕ) (t : Table) → table_numbered cat n ≡ Some t → (t.number == v.number) ≡ true → versions_of cat v.number ≡ t.versions
its_versions cat v n t f e = ap (λ (i : ℕ). versions_of cat i) (sym (eqb-true t.number v.number e) ∙ its_number cat n t f) ∙ ap (λ (o : Option Table). option_map_or (λ t. t.versions) o []) f

pub grew_added : (cat : Catalogue) (v : SchemaVersion) → IsCatalogue cat → schema_fault cat v ≡ None → Grew cat (with_version cat v)
grew_added cat v is e = let a = accepted cat v e in record {
  lawful = is;
  became = then_added cat v as_it_was e;
  after = after_adding cat v is e;
  tables = λ n t f. (
    with_added v t,
    found_added v cat n t (numbers_rise cat is) f,
    widens_by v t (t.number == v.number) (λ q. subst (λ (rs : List Registered). Follows rs v.columns) (its_versions cat v n t f q) a.follows) (λ q. ap (λ (rs : List Registered). reused_column rs v.columns) (sym (its_versions cat v n t f q)) ∙ a.fresh)
        (all_at LastLive cat t (last_lives cat is) (find_held (λ t. t.number == n) cat t f).0),
  );
}

-- in any number of steps

widens_then : (t u w : Table) → Widens t u → Widens u w → Widens t w
widens_then t u w a b = record {
  number = b.number ∙ a.number;
  key = b.key ∙ a.key;
  live = λ n h l. a.live n h (b.live n (a.stays n h) l);
  stays = λ n h. b.stays n (a.stays n h);
  carrier = λ n k e.
      let x = a.carrier n k e in
      let y = b.carrier n x.0 x.1 in
      (y.0, y.1, λ path m f. let i = x.2 path m f in let j = y.2 path i.0 i.1 in (j.0, j.1, omega (arith, i.2, j.2), j.3 ∙ i.3));
}

tables_then : (cat mid wide : Catalogue) (n : ℕ) (t : Table) → Grew cat mid → Grew mid wide → table_numbered cat n ≡ Some t → (u : Table) × (table_numbered wide n ≡ Some u) × Widens t u
tables_then cat mid wide n t g h f = let x = g.tables n t f in let y = h.tables n x.0 x.1 in (y.0, y.1, widens_then t x.0 y.0 x.2 y.2)

pub grew : (cat wide : Catalogue) → IsCatalogue cat → Became cat wide → Grew cat wide
grew cat _ is as_it_was = record { lawful = is; became = as_it_was; after = is; tables = λ n t f. (t, f, widens_itself t) }
grew cat _ is (then_added c v b e) = let g = grew cat c is b in let h = grew_added c v g.after e in
    record { lawful = is; became = then_added c v b e; after = h.after; tables = λ n t f. tables_then cat c (with_version c v) n t g h f }
grew cat _ is (then_retired c number v b e) = let g = grew cat c is b in let h = grew_retired c number v g.after e in
    record { lawful = is; became = then_retired c number v b e; after = h.after; tables = λ n t f. tables_then cat c (without_version c number v) n t g h f }
