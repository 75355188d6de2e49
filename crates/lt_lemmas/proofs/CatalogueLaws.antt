-- The tables of a lawful catalogue stand by rising number.
use Rattle.std.proofs.Common.{Bool, [], arith, cond, false, ltb-false, ltb-true, refl, subst, sym, true, ℕ, ◌++◌, ◌<◌, ◌∷◌, ◌≡◌}
use Rattle.std.specs.Prelude.{if◌then◌else◌, nat_lt, ⊤, ◌==◌}
use Rattle.std.proofs.lemmas.Bool.{eqb-false}
use Rattle.lt_tables.specs.Schema.{Catalogue, IsCatalogue, SchemaVersion, Table, after_adding, after_retiring, live_version, new_table, nothing_yet, with_retired, with_version, without_version}

-- ---- a version retired

abbrev pub retired_where : ℕ → ℕ → Table → Table
retired_where number v t = if t.number == number then with_retired v t else t

pub same_number : (b : Bool) (v : ℕ) (t : Table) → (cond b (with_retired v t) t).number ≡ t.number
same_number true v t = refl
same_number false v t = refl

-- ---- a version added; in a lawful catalogue the tables' numbers rise

abbrev pub AllPast : ℕ → Catalogue → Type 0
AllPast n [] = ⊤
AllPast n (t ∷ ts) = (n < t.number) × AllPast n ts

abbrev pub NumbersRise : Catalogue → Type 0
NumbersRise [] = ⊤
NumbersRise (t ∷ ts) = AllPast t.number ts × NumbersRise ts

pub past_trans : (m n : ℕ) (ts : Catalogue) → m < n → AllPast n ts → AllPast m ts
past_trans m n [] h a = tt
past_trans m n (t ∷ ts) h a = (omega (arith, h, a.0), past_trans m n ts h a.1)

past_added_by : (m : ℕ) (v : SchemaVersion) (t : Table) (ts : Catalogue) (b d : Bool) → m < v.number → AllPast m (t ∷ ts) → AllPast m (with_version ts v)
    → AllPast m (cond b (record t { versions = t.versions ++ live_version v.columns ∷ [] } ∷ ts) (cond d (new_table v ∷ t ∷ ts) (t ∷ with_version ts v)))
past_added_by m v t ts true d h a ih = a
past_added_by m v t ts false true h a ih = (h, a)
past_added_by m v t ts false false h a ih = (a.0, ih)

past_added : (m : ℕ) (v : SchemaVersion) (ts : Catalogue) → m < v.number → AllPast m ts → AllPast m (with_version ts v)
past_added m v [] h a = (h, tt)
past_added m v (t ∷ ts) h a = past_added_by m v t ts (t.number == v.number) (nat_lt v.number t.number) h a (past_added m v ts h a.1)

rise_added_by : (v : SchemaVersion) (t : Table) (ts : Catalogue) (b d : Bool) → (t.number == v.number) ≡ b → nat_lt v.number t.number ≡ d → NumbersRise (t ∷ ts) → NumbersRise (with_version ts v)
    → NumbersRise (cond b (record t { versions = t.versions ++ live_version v.columns ∷ [] } ∷ ts) (cond d (new_table v ∷ t ∷ ts) (t ∷ with_version ts v)))
rise_added_by v t ts true d e f a ih = a
rise_added_by v t ts false true e f a ih = let h : v.number < t.number = ltb-true v.number t.number f in ((h, past_trans v.number t.number ts h a.0), a)
rise_added_by v t ts false false e f a ih = let h : t.number < v.number = omega (arith, eqb-false t.number v.number e, ltb-false v.number t.number f) in (past_added t.number v ts h a.0, ih)

rise_added : (v : SchemaVersion) (ts : Catalogue) → NumbersRise ts → NumbersRise (with_version ts v)
rise_added v [] a = (tt, tt)
rise_added v (t ∷ ts) a = rise_added_by v t ts (t.number == v.number) (nat_lt v.number t.number) refl refl a (rise_added v ts a.1)

past_retired : (m number v : ℕ) (ts : Catalogue) → AllPast m ts → AllPast m (without_version ts number v)
past_retired m number v [] a = tt
past_retired m number v (t ∷ ts) a = (subst (λ (n : ℕ). m < n) (sym (same_number (t.number == number) v t)) a.0, past_retired m number v ts a.1)

rise_retired : (number v : ℕ) (ts : Catalogue) → NumbersRise ts → NumbersRise (without_version ts number v)
rise_retired number v [] a = tt
rise_retired number v (t ∷ ts) a = (subst (λ (n : ℕ). AllPast n (without_version ts number v)) (sym (same_number (t.number == number) v t)) (past_retired t.number number v ts a.0), rise_retired number v ts a.1)

pub numbers_rise : (cat : Catalogue) → IsCatalogue cat → NumbersRise cat
numbers_rise _ nothing_yet = tt
numbers_rise _ (after_adding cat v is e) = rise_added v cat (numbers_rise cat is)
numbers_rise _ (after_retiring cat number v is e) = rise_retired number v cat (numbers_rise cat is)
