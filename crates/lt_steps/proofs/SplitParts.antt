-- Partitions that are split or list other deltas: their ranges, and up to when they are durable.
use Rattle.std.proofs.Common.{Bool, List, ap, cond, false, refl, true, ℕ, ◌≡◌}
use Rattle.std.specs.Prelude.{None, Option, Some, not}
use Rattle.std.proofs.lemmas.Bool.{and_from, and_parts}
use Rattle.lt_terms.specs.Key.{Range, below, first_bound, in_range, is_below_high}
use Rattle.lt_machine.specs.Machine.{Job, replaced, split_parts, with_id, with_resume}
use Rattle.lt_tables.specs.Pump.{Part}
use Rattle.lt_storage.specs.Store.{part_ranges}
use Rattle.lt_lemmas.proofs.PointLaws.{below_trans}
use Rattle.lt_lemmas.proofs.SplitLaws.{not_below_trans}
use Rattle.lt_session_laws.proofs.SplitLaws.{lows_of}
use Rattle.lt_lemmas.proofs.SoundLaws.{not-true}

-- ---- a split

abbrev pub split_at : List ℕ → List Part → List Part
split_at key ps = split_parts key ps (part_ranges ps)

abbrev pub range_before : Part → List Part → Range
range_before p ps = record { low = p.low; high = first_bound (lows_of ps) }

-- the halves of a range
abbrev pub lower : Range → List ℕ → Range
lower r key = record { low = r.low; high = Some key }

abbrev pub upper : Range → List ℕ → Range
upper r key = record { low = key; high = r.high }

-- where one range has the keys of another
abbrev pub IsWithin : Range → Range → Type 0
IsWithin q r = (key : List ℕ) → in_range key q ≡ true → in_range key r ≡ true

high_above : (k key : List ℕ) (o : Option (List ℕ)) → below k key ≡ true → is_below_high key o ≡ true → is_below_high k o ≡ true
high_above k key None h i = refl
high_above k key (Some high) h i = below_trans k key high h i

pub in_lower : (r : Range) (key : List ℕ) → in_range key r ≡ true → IsWithin (lower r key) r
in_lower r key w k h = let p = and_parts (not (below k r.low)) (below k key) h in and_from _ _ p.0 (high_above k key r.high p.1 (and_parts (not (below key r.low)) (is_below_high key r.high) w).1)

pub in_upper : (r : Range) (key : List ℕ) → in_range key r ≡ true → IsWithin (upper r key) r
in_upper r key w k h =
    let p = and_parts (not (below k key)) (is_below_high k r.high) h in
    let q = and_parts (not (below key r.low)) (is_below_high key r.high) w in
    and_from _ _ (ap not (not_below_trans k key r.low (not-true (below k key) p.0) (not-true (below key r.low) q.0))) p.1

-- ---- partitions that list other deltas

pub id_low : (o : Option ℕ) (t : ℕ) (p : Part) → (with_resume t (with_id o p)).low ≡ p.low
id_low None t p = refl
id_low (Some id) t p = refl

pub replaced_resume : (j : Job) (o : Option ℕ) (p : Part) (b : Bool) → (cond b (replaced j o p) p).resume ≡ p.resume
replaced_resume j None p true = refl
replaced_resume j (Some id) p true = refl
replaced_resume j o p false = refl

-- ---- an open job
