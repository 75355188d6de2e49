-- A job that begins or goes on keeps a good session.
use Rattle.std.proofs.Common.{Bool, List, [], ap, arith, eq-eqb, false, inl, inr, leb-false, length, refl, subst, suc, sym, true, zero, ℕ, ◌+◌, ◌<◌, ◌∙◌, ◌∷◌, ◌≡◌, ◌≤◌}
use Rattle.std.specs.Prelude.{Contains, IfSome, IsTrue, None, Option, Some, filter, find, fold, is_some, map, min, nat_le, not, option_and_then, option_map, slice_get, ◌==◌, ◌⊎◌}
use Rattle.std.proofs.lemmas.Bool.{and_from, false≢true, not-false}
use Rattle.std.specs.List.{AllByRecursion, cons_option, list_any}
use Rattle.std.specs.Option.{option_map_or}
use Rattle.lt_terms.specs.Key.{Range, below, common, first_bound, in_range, is_below_high, meets, rise}
use Rattle.lt_tables.specs.Pump.{Part}
use Rattle.lt_tables.specs.Version.{RowVersion, clip, coerce_all, coerced, least_ts, merge, put_versions}
use Rattle.lt_tables.specs.Schema.{Catalogue, as_it_was, carriers}
use Rattle.lt_tables.specs.Query.{Mode, do_job_begin, do_job_step, major, minor}
use Rattle.lt_words.specs.Reply.{no_such_delta}
use Rattle.lt_storage.specs.Store.{AreLawfulTables, Delta, Durable, IsLawfulPart, TableDelta, all_versions, carried_versions, delta_with, deltas_of, merged_in, part_ranges, table_of, versions_in}
use Rattle.lt_machine.specs.Sound.{IsGood, JobBegan, JobStands, ListsAll}
use Rattle.lt_machine.specs.Machine.{Job, State, delta_least, inputs_of, is_major_mode, job_after, job_for, job_keys, ranges_of, unknown_in}
use Rattle.lt_codecs.proofs.ListFacts.{all_map, find_none, none_mapped}
use Rattle.lt_lemmas.proofs.RangeLaws.{IsOutOf, IsSole, tile_sole}
use Rattle.lt_lemmas.proofs.SplitLaws.{meets_some, not_below_itself, rise_first, rise_rest}
use Rattle.lt_lemmas.proofs.ListFacts.{all_from, find_held}
use Rattle.lt_lemmas.proofs.SoundLaws.{pick}
use Rattle.lt_session_laws.proofs.SplitLaws.{Each, RestsIn, StandsAt, each_as, each_zipped, lows_of}
use Rattle.lt_laws.proofs.MergeLaws.{puts_from}
use Rattle.lt_laws.proofs.ScanLemmas.{from-filter, in-filter}
use Rattle.lt_laws.proofs.ListFacts.{all_at, flat_held, from_filter_map, from_map}
use Rattle.lt_laws.proofs.DurableFacts.{IsKnown, inputs_known}
use Rattle.lt_laws.proofs.ScanLaws.{tiles_of}
use Rattle.lt_session_laws.proofs.StepLaws.{KeepsDoing, unrefused}
use Rattle.lt_lemmas.proofs.SnapshotLaws.{or_left, or_right}

-- ---- of ranges that tile, the chosen one meets no other

abbrev NoMeet : Range → Range → Type 0
NoMeet q r = meets q r ≡ true → ⊥

abbrev IsItOr : Part → Range → Part → Range → Type 0
IsItOr p r q s = ((q ≡ p) × (s ≡ r)) ⊎ NoMeet s r

out_at : (key : List ℕ) (rs : List Range) (n : ℕ) (r : Range) → IsOutOf key rs → slice_get rs n ≡ Some r → in_range key r ≡ false
out_at key [] n r o e = cc
out_at key (q ∷ rs) zero r o e = let d : q ≡ r = cc in subst (λ (x : Range). in_range key x ≡ false) d o.0
out_at key (q ∷ rs) (suc n) r o e = out_at key rs n r o.1 e

others_apart : (r : Range) (ps : List Part) (rs : List Range) (p : Part) → ((key : List ℕ) → in_range key r ≡ true → IsOutOf key rs) → length ps ≡ length rs → Each (IsItOr p r) ps rs
others_apart r [] rs p f l = tt
others_apart r (q ∷ ps) [] p f l = absurd (omega (arith, l))
others_apart r (q ∷ ps) (s ∷ rs) p f l = (
  inr (λ m. let k = meets_some s r m in false≢true (sym (f k.0 k.2).0 ∙ k.1)),
  others_apart r ps rs p (λ key h. (f key h).1) (omega (arith, l)),
)

chosen_apart : (n : ℕ) (ps : List Part) (rs : List Range) (p : Part) (r : Range) → ((key : List ℕ) → IsSole key rs) → length ps ≡ length rs → slice_get ps n ≡ Some p → slice_get rs n ≡ Some r → Each (IsItOr p r) ps rs
chosen_apart n [] rs p r f l e d = tt
chosen_apart n (q ∷ ps) [] p r f l e d = absurd (omega (arith, l))
chosen_apart zero (q ∷ ps) (s ∷ rs) p r f l e d =
    let a : q ≡ p = cc in
    let b : s ≡ r = cc in
    (inl (a, b), others_apart r ps rs p (λ key h. (f key).0 (ap (in_range key) b ∙ h)) (omega (arith, l)))
chosen_apart (suc n) (q ∷ ps) (s ∷ rs) p r f l e d = (
  inr (λ m. let k = meets_some s r m in false≢true (sym (out_at k.0 rs n r ((f k.0).0 k.1) d) ∙ k.2)),
  chosen_apart n ps rs p r (λ key. (f key).1) (omega (arith, l)) e d,
)

pub as_many : (ps : List Part) → length ps ≡ length (part_ranges ps)
as_many [] = refl
as_many (p ∷ ps) = ap suc (as_many ps)

-- each has its low bound
abbrev pub HasLow : Range → Type 0
HasLow r = in_range r.low r ≡ true

low_within : (low : List ℕ) (o : Option (List ℕ)) → ((b : List ℕ) → o ≡ Some b → below low b ≡ true) → is_below_high low o ≡ true
low_within low None f = refl
low_within low (Some b) f = f b refl

pub all_have_low : (ps : List Part) → IsTrue (rise (lows_of ps)) → Each (λ p r. HasLow r) ps (part_ranges ps)
all_have_low [] h = tt
all_have_low (p ∷ ps) h = (and_from _ _ (ap not (not_below_itself p.low)) (low_within p.low (first_bound (lows_of ps)) (λ b e. rise_first p.low b (lows_of ps) h e)), all_have_low ps (rise_rest p.low (lows_of ps) h))

pub both_each : (P Q R : Part → Range → Type 0) (ps : List Part) (rs : List Range) → ((p : Part) (r : Range) → P p r → Q p r → R p r) → Each P ps rs → Each Q ps rs → Each R ps rs
both_each P Q R [] rs f a b = tt
both_each P Q R (p ∷ ps) [] f a b = a
both_each P Q R (p ∷ ps) (r ∷ rs) f a b = (f p r a.0 b.0, both_each P Q R ps rs f a.1 b.1)

-- ---- the inputs

abbrev pub lists_id : List ℕ → ℕ → Bool
lists_id ids i = list_any (λ x. x == i) ids

pub any_from : (ids : List ℕ) (i : ℕ) → Contains ids i → IsTrue (lists_id ids i)
any_from [] i h = absurd (omega (arith, h.1))
any_from (x ∷ ids) i (zero, l, e) = or_left (x == i) (lists_id ids i) (eq-eqb x i e)
any_from (x ∷ ids) i (suc k, l, e) = or_right (x == i) (lists_id ids i) (any_from ids i (k, omega (arith, l), e))

filtered_listed : (test : ℕ → Bool) (ids : List ℕ) → ListsAll ids (filter test ids)
filtered_listed test ids = all_from (λ i. IsTrue (lists_id ids i)) (filter test ids) (λ i h. any_from ids i (from-filter test ids i h).0)

named_listed : (ids named : List ℕ) → find (λ id. not (list_any (λ x. x == id) ids)) named ≡ None → ListsAll ids named
named_listed ids named e = all_map (λ i. not (lists_id ids i) ≡ false) (λ i. IsTrue (lists_id ids i)) named (λ i h. not-false (lists_id ids i) h) (find_none (λ i. not (lists_id ids i)) named e)

-- ---- the least timestamp of a delta

least_under : (t : ℕ) (vs : List RowVersion) → fold (λ t w. min t w.ts) t vs ≤ t
least_under t [] = omega arith
least_under t (v ∷ vs) = let h : fold (λ t w. min t w.ts) (min t v.ts) vs ≤ min t v.ts = least_under (min t v.ts) vs in omega (arith, h)

least_of_all : (t : ℕ) (vs : List RowVersion) (v : RowVersion) → Contains vs v → fold (λ t w. min t w.ts) t vs ≤ v.ts
least_of_all t [] v h = absurd (omega (arith, h.1))
least_of_all t (w ∷ vs) v (zero, l, e) = let h : fold (λ t w. min t w.ts) (min t w.ts) vs ≤ min t w.ts = least_under (min t w.ts) vs in subst (λ (x : RowVersion). fold (λ t w. min t w.ts) (min t w.ts) vs ≤ x.ts) e (omega (arith, h))
least_of_all t (w ∷ vs) v (suc k, l, e) = least_of_all (min t w.ts) vs v (k, omega (arith, l), e)

least_held : (vs : List RowVersion) (v : RowVersion) → Contains vs v → least_ts vs ≤ v.ts
least_held [] v h = absurd (omega (arith, h.1))
least_held (w ∷ vs) v (zero, l, e) = subst (λ (x : RowVersion). least_ts (w ∷ vs) ≤ x.ts) e (least_under w.ts vs)
least_held (w ∷ vs) v (suc k, l, e) = least_of_all w.ts vs v (k, omega (arith, l), e)

carried_late : (cat : Catalogue) (table : ℕ) (x : Delta) (o : Option TableDelta) (v : RowVersion) → find (λ t. t.table == table) x.tables ≡ o → Contains (option_map_or (λ t. coerce_all t.layout (carriers cat table) (versions_in t)) o []) v → delta_least x ≤ v.ts
carried_late cat table x None v e h = absurd (omega (arith, h.1))
carried_late cat table x (Some t) v e h =
    let m = from_map (coerced t.layout (carriers cat table)) (versions_in t) v h in
    let i : Contains (all_versions x) m.0 = flat_held versions_in x.tables t m.0 (find_held (λ t. t.table == table) x.tables t e).0 m.1 in
    let l : delta_least x ≤ m.0.ts = least_held (all_versions x) m.0 i in
    subst (λ (w : RowVersion). delta_least x ≤ w.ts) m.2 l

-- one delta's versions in a range stand at or above its least timestamp
alone_late : (cat : Catalogue) (shelf : List Delta) (id : ℕ) (r : Range) (table m : ℕ) (o : Option Delta) → delta_with shelf id ≡ o → option_map_or (λ x. nat_le (delta_least x) m) o false ≡ false
    → AllByRecursion (λ v. m < v.ts) (clip r (merge (map (carried_versions cat table) (cons_option o []))))
unfolding merge
alone_late cat shelf id r table m None e h = tt
alone_late cat shelf id r table m (Some x) e h = all_from (λ v. m < v.ts) (clip r (put_versions (carried_versions cat table x) [])) (λ v k.
    let late : m < delta_least x = leb-false (delta_least x) m h in
    elim (puts_from (carried_versions cat table x) [] v (from-filter (λ v. in_range v.key r) (put_versions (carried_versions cat table x) []) v k).0) [
      | inl i ↦ (let l : delta_least x ≤ v.ts = carried_late cat table x (table_of x table) v refl i in omega (arith, l, late))
      | inr i ↦ absurd (omega (arith, i.1))
    ])

-- the deltas of a major compaction's partition that are no inputs are above the minimum
major_rest : (d : Durable) (p : Part) (r : Range) → AllByRecursion (λ id. IsTrue (list_any (λ i. i == id) (inputs_of d p major)) ⊎ ((table : ℕ) → AllByRecursion (λ v. d.minimum < v.ts) (merged_in d.catalogue d.shelf (id ∷ []) r table))) p.ids
major_rest d p r = all_from (λ id. IsTrue (list_any (λ i. i == id) (inputs_of d p major)) ⊎ ((table : ℕ) → AllByRecursion (λ v. d.minimum < v.ts) (merged_in d.catalogue d.shelf (id ∷ []) r table))) p.ids
    (λ id h. pick (option_map_or (λ x. nat_le (delta_least x) d.minimum) (delta_with d.shelf id) false)
    (λ e. inl (any_from (inputs_of d p major) id (in-filter (λ id. option_map_or (λ x. nat_le (delta_least x) d.minimum) (delta_with d.shelf id) false) p.ids id h e)))
    (λ e. inr (λ table. alone_late d.catalogue d.shelf id r table d.minimum (delta_with d.shelf id) refl e)))

-- ---- the commands

pub inputs_listed : (s : State) (n : ℕ) (p : Part) (mode : Mode) → unknown_in p.ids mode ≡ None → ListsAll p.ids (inputs_of s.durable p mode)
inputs_listed s n p (minor named) e = named_listed p.ids named e
inputs_listed s n p major e = filtered_listed (λ id. option_map_or (λ x. nat_le (delta_least x) s.durable.minimum) (delta_with s.durable.shelf id) false) p.ids

rest_stands : (d : Durable) (p : Part) (r : Range) (mode : Mode) → IsTrue (is_major_mode mode)
    → AllByRecursion (λ id. IsTrue (list_any (λ i. i == id) (inputs_of d p mode)) ⊎ ((table : ℕ) → AllByRecursion (λ v. d.minimum < v.ts) (merged_in d.catalogue d.shelf (id ∷ []) r table))) p.ids
rest_stands d p r (minor named) m = absurd (false≢true m)
rest_stands d p r major m = major_rest d p r

pub job_begun_stands : (s : State) (n : ℕ) (p : Part) (r : Range) (mode : Mode) → slice_get s.durable.parts n ≡ Some p → slice_get (ranges_of s.durable) n ≡ Some r → unknown_in p.ids mode ≡ None → IsLawfulPart s.durable
    → JobStands s.durable (job_for s.durable p r mode) × JobBegan s.durable (job_for s.durable p r mode)
job_begun_stands s n p r mode e f known lawful =
    let d = s.durable in
    let j = job_for d p r mode in
    let ps = d.parts in
    let rs = ranges_of d in
    let tiles = tiles_of d lawful in
    let apart = chosen_apart n ps rs p r (λ key. tile_sole key (lows_of ps) tiles) (as_many ps) e f in
    let listed = inputs_listed s n p mode known in (
      each_zipped (StandsAt d j) ps rs (each_as (IsItOr p r) (StandsAt d j) ps rs
          (λ q t a l. elim a [
            | inl k ↦ (
              subst (λ (x : Part). ListsAll x.ids j.inputs) (sym k.0) listed,
              (λ m. subst (λ (x : Part). AllByRecursion (RestsIn d j (common t j.range)) x.ids) (sym k.0) (rest_stands d p (common t j.range) mode m)),
            )
            | inr f ↦ absurd (f l)
          ]) apart),
      record {
        shelved = all_map (IsKnown d) (λ i. IsTrue (is_some (delta_with d.shelf i))) j.inputs (λ i k. k.0) (inputs_known d n p j.inputs lawful e listed);
        catalogue = as_it_was;
        lawful = lawful.manifest.catalogue;
        inputs = all_from (AreLawfulTables d.catalogue) (deltas_of d.shelf j.inputs) (λ x h.
            let m = from_filter_map (delta_with d.shelf) j.inputs x h in all_at (AreLawfulTables d.catalogue) d.shelf x lawful.shelf (find_held (λ y. y.id == m.0) d.shelf x m.2).0);
        minimum = omega arith;
        taken = omega arith;
      },
    )

pub part_job_is : (d : Durable) (n : ℕ) (mode : Mode) (o : Option Part) (q : Option Range) (j : Job) → slice_get d.parts n ≡ o → slice_get (ranges_of d) n ≡ q → option_and_then (λ p. option_map (λ r. job_for d p r mode) q) o ≡ Some j
    → (p : Part) × (r : Range) × (slice_get d.parts n ≡ Some p) × (slice_get (ranges_of d) n ≡ Some r) × (job_for d p r mode ≡ j)
part_job_is d n mode None q j e f g = cc
part_job_is d n mode (Some p) None j e f g = cc
part_job_is d n mode (Some p) (Some r) j e f g = (p, r, e, f, cc)

pub job_begin_keeps : (n : ℕ) (mode : Mode) → KeepsDoing (do_job_begin n mode)
job_begin_keeps n mode feed fs s s' a good e d =
    let u = unrefused s (do_job_begin n mode) e in
    let k = part_job_is s.durable n mode (slice_get s.durable.parts n) (slice_get (ranges_of s.durable) n) d.0 refl refl d.1 in
    let known : unknown_in k.0.ids mode ≡ None = none_mapped no_such_delta (unknown_in k.0.ids mode) (ap (λ (o : Option Part). option_map no_such_delta (option_and_then (λ p. unknown_in p.ids mode) o)) (sym k.2) ∙ u.delta) in (
      fs,
      subst (λ (x : State). IsGood feed x fs) (sym d.3) (record {
        short = good.short;
        lawful = good.lawful;
        fronts = good.fronts;
        sound = good.sound;
        ready = record {
          places = good.ready.places;
          pending = good.ready.pending;
          job = subst (λ (j : Job). JobStands s.durable j × JobBegan s.durable j) k.4 (job_begun_stands s n k.0 k.1 mode k.2 k.3 known good.lawful);
        };
      }),
    )

min_right : (a b : ℕ) → min a b ≤ b
min_right a b = omega arith

went_on : (s : State) (n : ℕ) (j : Job) → JobStands s.durable j × JobBegan s.durable j → JobStands s.durable (job_after s n j) × JobBegan s.durable (job_after s n j)
went_on s n j h = (
  h.0,
  record {
    shelved = h.1.shelved;
    catalogue = h.1.catalogue;
    lawful = h.1.lawful;
    inputs = h.1.inputs;
    minimum = h.1.minimum;
    taken = min_right (j.taken + n) (job_keys s.durable.shelf j);
  },
)

pub job_step_keeps : (n : ℕ) → KeepsDoing (do_job_step n)
job_step_keeps n feed fs s s' a good e d = (
  fs,
  subst (λ (x : State). IsGood feed x fs) (sym d.3) (record {
    short = good.short;
    lawful = good.lawful;
    fronts = good.fronts;
    sound = good.sound;
    ready = record {
      places = good.ready.places;
      pending = good.ready.pending;
      job = went_on s n d.0 (subst (λ (o : Option Job). IfSome o (λ j. JobStands s.durable j × JobBegan s.durable j)) d.1 good.ready.job);
    };
  }),
)
