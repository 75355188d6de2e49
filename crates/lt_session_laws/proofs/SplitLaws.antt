-- A split keeps a good session: what holds of a partition holds of each range within its own.
use Rattle.std.proofs.Common.{Bool, List, [], ap, arith, cond, false, inl, inr, le-leb, length, ltb-false, refl, subst, sym, true, ℕ, ◌+◌, ◌<◌, ◌∙◌, ◌∷◌, ◌≡◌, ◌≤◌}
use Rattle.std.proofs.lemmas.Bool.{and_from, and_parts, false≢true, leb-false}
use Rattle.std.specs.Prelude.{Contains, IsTrue, None, Option, Some, filter, find, map, nat_le, nat_lt, not, option_and_then, option_map, zip, ⊤, ◌&&◌, ◌==◌, ◌^◌, ◌||◌, ◌⊎◌}
use Rattle.std.specs.List.{AllByRecursion, list_all, list_any}
use Rattle.std.specs.Option.{option_or}
use Rattle.lt_terms.specs.Key.{Range, below, common, first_bound, in_range, is_below_high, is_high_within, lies_in, max_key, meets, rise, same_key, tile}
use Rattle.lt_terms.specs.Log.{Change, Header, Item, change_key}
use Rattle.lt_terms.specs.Value.{rises_strictly}
use Rattle.lt_terms.specs.declared.Extent.{Extent}
use Rattle.lt_tables.specs.Version.{RowVersion, clip, effect_of, is_ordered, merge, seen}
use Rattle.lt_tables.specs.Pump.{Part, names_rise, numbered_from}
use Rattle.lt_tables.specs.Fair.{checkpoint_of}
use Rattle.lt_tables.specs.Query.{Literal, do_split}
use Rattle.lt_tables.specs.Schema.{Table, table_named, when}
use Rattle.lt_words.specs.Reply.{at_edge, key_too_long, too_many_parts}
use Rattle.lt_storage.specs.Store.{Durable, IsLawfulManifest, Manifest, bare_manifest, carried_versions, deltas_of, fits_63, is_delta_entry, is_part_entry, merged_in, part_ranges}
use Rattle.lt_machine.specs.Sound.{IsGood, JobBegan, JobStands, ListsAll, PendingOf, PendingOfAll, SoundPart, SoundParts, passed, up_to_ts}
use Rattle.lt_machine.specs.Machine.{Job, State, cat_of, edge_of, of_split, split_key, split_parts, split_pending}
use Rattle.lt_codecs.proofs.ListFacts.{all_map, none_mapped}
use Rattle.lt_lemmas.proofs.PointLaws.{above, below_trans, same, swapped}
use Rattle.lt_lemmas.proofs.SoundLaws.{meets-by, not-true, pick}
use Rattle.lt_lemmas.proofs.SplitLaws.{is_false, meets_some, not_below_itself, not_below_trans, rise_first, rise_rest}
use Rattle.lt_lemmas.proofs.PumpLaws.{as_version, as_versions}
use Rattle.lt_lemmas.proofs.MergeLaws.{filter-ordered}
use Rattle.lt_lemmas.proofs.ListFacts.{all_from, when_none}
use Rattle.lt_lemmas.proofs.ClipLaws.{in-common}
use Rattle.lt_lemmas.proofs.SnapshotLaws.{or_left, or_rest, or_right}
use Rattle.lt_laws.proofs.ScanLemmas.{from-filter, in-filter, seen-key}
use Rattle.lt_session_laws.proofs.StepLaws.{KeepsDoing, all_pending_as, if_some, next_generation, pending_as, unrefused}
use Rattle.lt_laws.proofs.ListFacts.{all_at}
use Rattle.lt_laws.proofs.SoundLaws.{not-found}
use Rattle.lt_machine.specs.Machine as machine
use Rattle.lt_codecs.proofs.ListFacts as PointLaws

-- ---- a range within another

below_up : (k a b : List ℕ) → below k a ≡ true → below b a ≡ false → below k b ≡ true
below_up k a b h i = pick (below k b) (λ e. e)
    (λ e. pick (same_key k b)
    (λ s. absurd (false≢true (sym i ∙ ap (λ (x : List ℕ). below x a) (sym (same k b s)) ∙ h)))
    (λ s. absurd (false≢true (sym i ∙ below_trans b k a (above k b e s) h))))

high_up : (k : List ℕ) (a b : Option (List ℕ)) → is_high_within a b ≡ true → is_below_high k a ≡ true → is_below_high k b ≡ true
high_up k a None h i = refl
high_up k None (Some b) h i = absurd (false≢true h)
high_up k (Some a) (Some b) h i = below_up k a b i (not-true (below b a) h)

-- the keys of a range that lies in another are the other's
pub in_lies : (k : List ℕ) (q r : Range) → lies_in q r ≡ true → in_range k q ≡ true → in_range k r ≡ true
in_lies k q r h i =
    let l = and_parts (not (below q.low r.low)) (is_high_within q.high r.high) h in
    let w = and_parts (not (below k q.low)) (is_below_high k q.high) i in
    and_from _ _ (ap not (not_below_trans k q.low r.low (not-true (below k q.low) w.0) (not-true (below q.low r.low) l.0))) (high_up k q.high r.high l.1 w.1)

high_trans : (a b c : Option (List ℕ)) → is_high_within a b ≡ true → is_high_within b c ≡ true → is_high_within a c ≡ true
high_trans a b None h i = refl
high_trans a None (Some c) h i = absurd (false≢true i)
high_trans None (Some b) (Some c) h i = absurd (false≢true h)
high_trans (Some a) (Some b) (Some c) h i = ap not (not_below_trans c b a (not-true (below c b) i) (not-true (below b a) h))

pub lies_trans : (q r j : Range) → lies_in q r ≡ true → lies_in r j ≡ true → lies_in q j ≡ true
lies_trans q r j h i =
    let l = and_parts (not (below q.low r.low)) (is_high_within q.high r.high) h in
    let m = and_parts (not (below r.low j.low)) (is_high_within r.high j.high) i in
    and_from _ _ (ap not (not_below_trans q.low r.low j.low (not-true (below q.low r.low) l.0) (not-true (below r.low j.low) m.0))) (high_trans q.high r.high j.high l.1 m.1)

meets_up : (x q r : Range) → lies_in q r ≡ true → meets x q ≡ true → meets x r ≡ true
meets_up x q r l h = let k = meets_some x q h in meets-by k.0 x r k.1 (in_lies k.0 q r l k.2)

-- ---- what holds of a partition holds of a range within its own

clip_in : (q r : Range) (vs : List RowVersion) (v : RowVersion) → lies_in q r ≡ true → Contains (clip q vs) v → Contains (clip r vs) v
clip_in q r vs v l h = let f = from-filter (λ v. in_range v.key q) vs v h in in-filter (λ v. in_range v.key r) vs v f.0 (in_lies v.key q r l f.1)

clip_of : (q r : Range) (vs : List RowVersion) (v : RowVersion) → Contains (clip r vs) v → in_range v.key q ≡ true → Contains (clip q vs) v
clip_of q r vs v h w = in-filter (λ v. in_range v.key q) vs v (from-filter (λ v. in_range v.key r) vs v h).0 w

-- a key's versions are in each range with the key
abbrev is_up_to : List ℕ → ℕ → RowVersion → Bool
is_up_to key t v = same_key v.key key && nat_le v.ts t

up_by : (key : List ℕ) (t : ℕ) (v : RowVersion) (xs ys : List RowVersion) (a b s : Bool) → same_key v.key key ≡ s → (s ≡ true → a ≡ b) → up_to_ts key t xs ≡ up_to_ts key t ys
    → up_to_ts key t (cond a (v ∷ xs) xs) ≡ up_to_ts key t (cond b (v ∷ ys) ys)
up_by key t v xs ys true true s e f h = ap (λ (l : List RowVersion). cond (is_up_to key t v) (v ∷ l) l) h
up_by key t v xs ys false false s e f h = h
up_by key t v xs ys true false true e f h = absurd (false≢true (sym (f refl)))
up_by key t v xs ys false true true e f h = absurd (false≢true (f refl))
up_by key t v xs ys true false false e f h = ap (λ (b : Bool). cond (b && nat_le v.ts t) (v ∷ up_to_ts key t xs) (up_to_ts key t xs)) e ∙ h
up_by key t v xs ys false true false e f h = h ∙ sym (ap (λ (b : Bool). cond (b && nat_le v.ts t) (v ∷ up_to_ts key t ys) (up_to_ts key t ys)) e)

up_to_same : (key : List ℕ) (t : ℕ) (q r : Range) (vs : List RowVersion) → in_range key q ≡ true → in_range key r ≡ true → up_to_ts key t (clip q vs) ≡ up_to_ts key t (clip r vs)
up_to_same key t q r [] a b = refl
up_to_same key t q r (v ∷ vs) a b = up_by key t v (clip q vs) (clip r vs) (in_range v.key q) (in_range v.key r) (same_key v.key key) refl
    (λ e. let k : v.key ≡ key = same v.key key e in ap (λ (x : List ℕ). in_range x q) k ∙ a ∙ sym (ap (λ (x : List ℕ). in_range x r) k ∙ b)) (up_to_same key t q r vs a b)

-- the durable part with other partitions
abbrev pub with_parts : Durable → List Part → Durable
with_parts d ps = record d { parts = ps; generation = d.generation + 1 }

abbrev all_of : Durable → Part → ℕ → List RowVersion
all_of d p table = merge (map (carried_versions d.catalogue table) (deltas_of d.shelf p.ids))

part_within : (d : Durable) (ps : List Part) (fs : List (Header × List Item)) (p : Part) (low : List ℕ) (q r : Range) → lies_in q r ≡ true → SoundPart d fs p r → SoundPart (with_parts d ps) fs (record p { low = low }) q
part_within d ps fs p low q r l s = record {
  only_changes = λ table v h m. s.only_changes table v (clip_in q r (all_of d p table) v l h) m;
  all_changes = λ c h w m n. clip_of q r (all_of d p c.table) (seen d.catalogue c) (s.all_changes c h (in_lies (change_key c) q r l w) m n) (ap (λ (k : List ℕ). in_range k q) (seen-key d.catalogue c) ∙ w);
  rows = λ x key k w h. ap effect_of (up_to_same key d.minimum q r (all_of d p x.number) w (in_lies key q r l w)) ∙ s.rows x key k (in_lies key q r l w) h;
  agree = λ x y table v w a b c e n. s.agree x y table v w a b (clip_in q r (carried_versions d.catalogue table x) v l c) (clip_in q r (carried_versions d.catalogue table y) w l e) n;
  minimum = s.minimum;
  resume = all_map (λ f. IsTrue (meets f.0.range r) → p.resume ≤ checkpoint_of f.0 f.1) (λ f. IsTrue (meets f.0.range q) → p.resume ≤ checkpoint_of f.0 f.1) fs (λ f h m. h (meets_up f.0.range q r l m)) s.resume;
}

-- ---- the pending names of a range within

filtered_names : (test : List ℕ × ℕ → Bool) (ns : List (List ℕ × ℕ)) → filter (λ v. test (v.key, v.ts)) (map as_version ns) ≡ map as_version (filter test ns)
filtered_names test [] = refl
filtered_names test (n ∷ ns) = by_test (test n) n (filter (λ v. test (v.key, v.ts)) (map as_version ns)) (filter test ns) (filtered_names test ns)
  where
    by_test : (b : Bool) (n : List ℕ × ℕ) (vs : List RowVersion) (ms : List (List ℕ × ℕ)) → vs ≡ map as_version ms → cond b (as_version n ∷ vs) vs ≡ map as_version (cond b (n ∷ ms) ms)
    by_test true n vs ms e = ap (λ (l : List RowVersion). as_version n ∷ l) e
    by_test false n vs ms e = e

names_kept : (test : List ℕ × ℕ → Bool) (ns : List (List ℕ × ℕ)) → IsTrue (names_rise ns) → IsTrue (names_rise (filter test ns))
names_kept test ns h = as_versions (filter test ns) ∙ ap is_ordered (sym (filtered_names test ns)) ∙ filter-ordered (λ v. test (v.key, v.ts)) (map as_version ns) (sym (as_versions ns) ∙ h)

-- a test that passes the names of the range within, and no others
record Parts (test : List ℕ × ℕ → Bool) (q r : Range) : Type 0 where
  lies : lies_in q r ≡ true
  passes : (n : List ℕ × ℕ) → in_range n.0 q ≡ true → test n ≡ true
  within : (n : List ℕ × ℕ) → in_range n.0 r ≡ true → test n ≡ true → in_range n.0 q ≡ true

its_key : (n : List ℕ × ℕ) (c : Change) → IsTrue (machine.named n c) → change_key c ≡ n.0
its_key n c h = same (change_key c) n.0 (and_parts (same_key (change_key c) n.0) (c.ts == n.1) h).0

pending_within : (d : Durable) (ps : List Part) (cs : List Change) (p : Part) (low : List ℕ) (q r : Range) (test : List ℕ × ℕ → Bool) (ns : List (List ℕ × ℕ)) → Parts test q r → PendingOf d.catalogue d cs p r ns
    → PendingOf d.catalogue (with_parts d ps) cs (record p { low = low }) q (filter test ns)
pending_within d ps cs p low q r test ns a h = record {
  are_changes = λ n k.
      let f = from-filter test ns n k in
      let c = h.are_changes n f.0 in
      let key : change_key c.0 ≡ n.0 = its_key n c.0 c.2 in
      let inside : in_range n.0 r ≡ true = ap (λ (x : List ℕ). in_range x r) (sym key) ∙ c.3 in
      (c.0, c.1, c.2, ap (λ (x : List ℕ). in_range x q) key ∙ a.within n inside f.1, c.4);
  none_lost = λ c k w l. elim (h.none_lost c k (in_lies (change_key c) q r a.lies w) l) [
    | inl n ↦ inl (in-filter test ns (change_key c, c.ts) n (a.passes (change_key c, c.ts) w))
    | inr x ↦ inr (clip_of q r (all_of d p c.table) (seen d.catalogue c) x (ap (λ (k : List ℕ). in_range k q) (seen-key d.catalogue c) ∙ w))
  ];
  ordered = names_kept test ns h.ordered;
}

-- ---- the two ranges of a partition that is split

abbrev lower_of : Range → List ℕ → Range
lower_of r key = record { low = r.low; high = Some key }

abbrev upper_of : Range → List ℕ → Range
upper_of r key = record { low = key; high = r.high }

high_itself : (o : Option (List ℕ)) → is_high_within o o ≡ true
high_itself None = refl
high_itself (Some a) = ap not (not_below_itself a)

within_high : (key : List ℕ) (o : Option (List ℕ)) → is_below_high key o ≡ true → is_high_within (Some key) o ≡ true
within_high key None h = refl
within_high key (Some b) h = ap not (is_false (below b key) (λ e. false≢true (sym (not_below_itself key) ∙ below_trans key b key h e)))

lower_lies : (r : Range) (key : List ℕ) → in_range key r ≡ true → lies_in (lower_of r key) r ≡ true
lower_lies r key h = and_from _ _ (ap not (not_below_itself r.low)) (within_high key r.high (and_parts (not (below key r.low)) (is_below_high key r.high) h).1)

upper_lies : (r : Range) (key : List ℕ) → in_range key r ≡ true → lies_in (upper_of r key) r ≡ true
upper_lies r key h = and_from _ _ (and_parts (not (below key r.low)) (is_below_high key r.high) h).0 (high_itself r.high)

lower_parts : (r : Range) (key : List ℕ) → in_range key r ≡ true → Parts (λ n. below n.0 key) (lower_of r key) r
lower_parts r key h = record {
  lies = lower_lies r key h;
  passes = λ n i. (and_parts (not (below n.0 r.low)) (below n.0 key) i).1;
  within = λ n i t. and_from _ _ (and_parts (not (below n.0 r.low)) (is_below_high n.0 r.high) i).0 t;
}

upper_parts : (r : Range) (key : List ℕ) → in_range key r ≡ true → Parts (λ n. not (below n.0 key)) (upper_of r key) r
upper_parts r key h = record {
  lies = upper_lies r key h;
  passes = λ n i. (and_parts (not (below n.0 key)) (is_below_high n.0 r.high) i).0;
  within = λ n i t. and_from _ _ t (and_parts (not (below n.0 r.low)) (is_below_high n.0 r.high) i).1;
}

-- ---- all partitions, with the one of the key split

abbrev pub lows_of : List Part → List (List ℕ)
lows_of ps = map (λ p. p.low) ps

abbrev split_at : List ℕ → List Part → List Part
split_at key ps = split_parts key ps (part_ranges ps)

first_by : (key : List ℕ) (p : Part) (xs ys : List Part) (b : Bool) → first_bound (lows_of (cond b (p ∷ xs) (p ∷ ys))) ≡ Some p.low
first_by key p xs ys true = refl
first_by key p xs ys false = refl

pub first_stays : (key : List ℕ) (ps : List Part) → first_bound (lows_of (split_at key ps)) ≡ first_bound (lows_of ps)
first_stays key [] = refl
first_stays key (p ∷ ps) = first_by key p (record p { low = key } ∷ ps) (split_at key ps) (in_range key (record { low = p.low; high = first_bound (lows_of ps) }))

-- something of each partition and its range
abbrev pub Each : (Part → Range → Type 0) → List Part → List Range → Type 0
Each P [] rs = ⊤
Each P (p ∷ ps) [] = ⊥
Each P (p ∷ ps) (r ∷ rs) = P p r × Each P ps rs

-- what passes on to the ranges within holds of all partitions after the split
abbrev PassesOn : (Part → Range → Type 0) → (Part → Range → Type 0) → List ℕ → Type 0
PassesOn P Q key = ((p : Part) (r : Range) → P p r → Q p r) × ((p : Part) (r : Range) → r.low ≡ p.low → in_range key r ≡ true → P p r → Q p (lower_of r key) × Q (record p { low = key }) (upper_of r key))

pub each_as : (P Q : Part → Range → Type 0) (ps : List Part) (rs : List Range) → ((p : Part) (r : Range) → P p r → Q p r) → Each P ps rs → Each Q ps rs
each_as P Q [] rs f a = tt
each_as P Q (p ∷ ps) [] f a = a
each_as P Q (p ∷ ps) (r ∷ rs) f a = (f p r a.0, each_as P Q ps rs f a.1)

each_by : (P Q : Part → Range → Type 0) (key : List ℕ) (p : Part) (ps : List Part) (b : Bool) → in_range key (record { low = p.low; high = first_bound (lows_of ps) }) ≡ b → PassesOn P Q key
    → P p (record { low = p.low; high = first_bound (lows_of ps) }) → Each P ps (part_ranges ps) → Each Q (split_at key ps) (part_ranges (split_at key ps))
    → Each Q (cond b (p ∷ record p { low = key } ∷ ps) (p ∷ split_at key ps)) (part_ranges (cond b (p ∷ record p { low = key } ∷ ps) (p ∷ split_at key ps)))
each_by P Q key p ps true e f here others ih = let q = f.1 p (record { low = p.low; high = first_bound (lows_of ps) }) refl e here in (q.0, (q.1, each_as P Q ps (part_ranges ps) f.0 others))
each_by P Q key p ps false e f here others ih = (subst (λ (o : Option (List ℕ)). Q p (record { low = p.low; high = o })) (sym (first_stays key ps)) (f.0 p (record { low = p.low; high = first_bound (lows_of ps) }) here), ih)

each_split : (P Q : Part → Range → Type 0) (key : List ℕ) (ps : List Part) → PassesOn P Q key → Each P ps (part_ranges ps) → Each Q (split_at key ps) (part_ranges (split_at key ps))
each_split P Q key [] f a = tt
each_split P Q key (p ∷ ps) f a = each_by P Q key p ps (in_range key (record { low = p.low; high = first_bound (lows_of ps) })) refl f a.0 a.1 (each_split P Q key ps f a.1)

pub sound_each : (d : Durable) (fs : List (Header × List Item)) (ps : List Part) (rs : List Range) → SoundParts d fs ps rs → Each (SoundPart d fs) ps rs
sound_each d fs [] rs a = tt
sound_each d fs (p ∷ ps) [] a = a
sound_each d fs (p ∷ ps) (r ∷ rs) a = (a.0, sound_each d fs ps rs a.1)

pub each_sound : (d : Durable) (fs : List (Header × List Item)) (ps : List Part) (rs : List Range) → Each (SoundPart d fs) ps rs → SoundParts d fs ps rs
each_sound d fs [] rs a = tt
each_sound d fs (p ∷ ps) [] a = a
each_sound d fs (p ∷ ps) (r ∷ rs) a = (a.0, each_sound d fs ps rs a.1)

pub zipped_each : (P : Part → Range → Type 0) (ps : List Part) → AllByRecursion (λ x. P x.0 x.1) (zip ps (part_ranges ps)) → Each P ps (part_ranges ps)
zipped_each P [] a = tt
zipped_each P (p ∷ ps) a = (a.0, zipped_each P ps a.1)

pub each_zipped : (P : Part → Range → Type 0) (ps : List Part) (rs : List Range) → Each P ps rs → AllByRecursion (λ x. P x.0 x.1) (zip ps rs)
each_zipped P [] rs a = tt
each_zipped P (p ∷ ps) [] a = absurd a
each_zipped P (p ∷ ps) (r ∷ rs) a = (a.0, each_zipped P ps rs a.1)

pub lies_itself : (r : Range) → lies_in r r ≡ true
lies_itself r = and_from _ _ (ap not (not_below_itself r.low)) (high_itself r.high)

-- the partitions stay sound
parts_split : (d : Durable) (fs : List (Header × List Item)) (key : List ℕ) → SoundParts d fs d.parts (part_ranges d.parts) → SoundParts (with_parts d (split_at key d.parts)) fs (split_at key d.parts) (part_ranges (split_at key d.parts))
parts_split d fs key s =
    let ps = split_at key d.parts in
    each_sound (with_parts d ps) fs ps (part_ranges ps) (each_split (SoundPart d fs) (SoundPart (with_parts d ps) fs) key d.parts (
      (λ p r h. part_within d ps fs p p.low r r (lies_itself r) h),
      (λ p r e w h. (part_within d ps fs p p.low (lower_of r key) r (lower_lies r key w) h, part_within d ps fs p key (upper_of r key) r (upper_lies r key w) h)),
    ) (sound_each d fs d.parts (part_ranges d.parts) s))

-- ---- the pending names of all partitions

pending_same_part : (d : Durable) (ps : List Part) (cs : List Change) (p : Part) (r : Range) (ns : List (List ℕ × ℕ)) → PendingOf d.catalogue d cs p r ns → PendingOf d.catalogue (with_parts d ps) cs p r ns
pending_same_part d ps cs p r ns h = pending_as d.catalogue d (with_parts d ps) cs p r ns (λ p r table. refl) h

pending_others : (d : Durable) (ps : List Part) (cs : List Change) (xs : List Part) (rs : List Range) (rest : List (List (List ℕ × ℕ))) → PendingOfAll d.catalogue d cs xs rs rest → PendingOfAll d.catalogue (with_parts d ps) cs xs rs rest
pending_others d ps cs xs rs rest h = all_pending_as d.catalogue d (with_parts d ps) cs xs rs rest (λ p r table. refl) h

abbrev range_before : Part → List Part → Range
range_before p ps = record { low = p.low; high = first_bound (lows_of ps) }

pending_by : (d : Durable) (all : List Part) (cs : List Change) (key : List ℕ) (p : Part) (ps : List Part) (ns : List (List ℕ × ℕ)) (rest : List (List (List ℕ × ℕ))) (b : Bool) → in_range key (range_before p ps) ≡ b
    → PendingOf d.catalogue d cs p (range_before p ps) ns → PendingOfAll d.catalogue d cs ps (part_ranges ps) rest
    → PendingOfAll d.catalogue (with_parts d all) cs (split_at key ps) (part_ranges (split_at key ps)) (split_pending key rest (part_ranges ps))
    → PendingOfAll d.catalogue (with_parts d all) cs (cond b (p ∷ record p { low = key } ∷ ps) (p ∷ split_at key ps)) (part_ranges (cond b (p ∷ record p { low = key } ∷ ps) (p ∷ split_at key ps)))
    (cond b (filter (λ n. below n.0 key) ns ∷ filter (λ n. not (below n.0 key)) ns ∷ rest) (ns ∷ split_pending key rest (part_ranges ps)))
pending_by d all cs key p ps ns rest true e here others ih =
    let r = range_before p ps in (
      pending_within d all cs p p.low (lower_of r key) r (λ n. below n.0 key) ns (lower_parts r key e) here,
      (pending_within d all cs p key (upper_of r key) r (λ n. not (below n.0 key)) ns (upper_parts r key e) here, pending_others d all cs ps (part_ranges ps) rest others),
    )
pending_by d all cs key p ps ns rest false e here others ih = (subst (λ (o : Option (List ℕ)). PendingOf d.catalogue (with_parts d all) cs p (record { low = p.low; high = o }) ns) (sym (first_stays key ps)) (pending_same_part d all cs p (range_before p ps) ns here), ih)

pending_split : (d : Durable) (all : List Part) (cs : List Change) (key : List ℕ) (ps : List Part) (rest : List (List (List ℕ × ℕ))) → PendingOfAll d.catalogue d cs ps (part_ranges ps) rest
    → PendingOfAll d.catalogue (with_parts d all) cs (split_at key ps) (part_ranges (split_at key ps)) (split_pending key rest (part_ranges ps))
pending_split d all cs key [] [] a = tt
pending_split d all cs key [] (ns ∷ rest) a = absurd a
pending_split d all cs key (p ∷ ps) [] a = absurd a
pending_split d all cs key (p ∷ ps) (ns ∷ rest) a = pending_by d all cs key p ps ns rest (in_range key (range_before p ps)) refl a.0 a.1 (pending_split d all cs key ps rest a.1)

-- ---- an open job

-- a delta is an input, or holds only versions above the job's minimum in a range
abbrev pub RestsIn : Durable → Job → Range → ℕ → Type 0
RestsIn d j r id = IsTrue (list_any (λ i. i == id) j.inputs) ⊎ ((table : ℕ) → AllByRecursion (λ v. j.minimum < v.ts) (merged_in d.catalogue d.shelf (id ∷ []) r table))

abbrev pub StandsAt : Durable → Job → Part → Range → Type 0
StandsAt d j p r = IsTrue (meets r j.range) → ListsAll p.ids j.inputs × (IsTrue j.is_major → AllByRecursion (RestsIn d j (common r j.range)) p.ids)

-- a range with a key, within another
record HasKey (q r : Range) : Type 0 where
  lies : lies_in q r ≡ true
  key : List ℕ
  inside : in_range key q ≡ true

-- the keys of one range are among those of another
abbrev pub AreAmong : Range → Range → Type 0
AreAmong q r = (key : List ℕ) → in_range key q ≡ true → in_range key r ≡ true

pub later_within : (d : Durable) (q r : Range) (m id table : ℕ) → AreAmong q r → AllByRecursion (λ v. m < v.ts) (merged_in d.catalogue d.shelf (id ∷ []) r table) → AllByRecursion (λ v. m < v.ts) (merged_in d.catalogue d.shelf (id ∷ []) q table)
later_within d q r m id table l a =
    let vs = merge (map (carried_versions d.catalogue table) (deltas_of d.shelf (id ∷ []))) in
    all_from (λ v. m < v.ts) (clip q vs) (λ v h. let f = from-filter (λ v. in_range v.key q) vs v h in all_at (λ v. m < v.ts) (clip r vs) v a (in-filter (λ v. in_range v.key r) vs v f.0 (l v.key f.1)))

pub rests_within : (d : Durable) (j : Job) (q r : Range) (ids : List ℕ) → AreAmong q r → AllByRecursion (RestsIn d j r) ids → AllByRecursion (RestsIn d j q) ids
rests_within d j q r ids l a = all_map (RestsIn d j r) (RestsIn d j q) ids (λ id x. elim x [ inl i ↦ inl i | inr f ↦ inr (λ table. later_within d q r j.minimum id table l (f table)) ]) a

-- what two ranges have in common, they have where one is the smaller
common_among : (q r t : Range) → lies_in q r ≡ true → AreAmong (common q t) (common r t)
common_among q r t l key h = let k = and_parts (in_range key q) (in_range key t) (sym (in-common key q t) ∙ h) in
    in-common key r t ∙ and_from _ _ (in_lies key q r l k.0) k.1

job_within : (d : Durable) (j : Job) (p : Part) (low : List ℕ) (q r : Range) → HasKey q r → StandsAt d j p r → StandsAt d j (record p { low = low }) q
job_within d j p low q r k h m = let s = meets_some q j.range m in
    let a = h (meets-by s.0 r j.range (in_lies s.0 q r k.lies s.1) s.2) in
    (a.0, (λ w. rests_within d j (common q j.range) (common r j.range) p.ids (common_among q r j.range k.lies) (a.1 w)))

-- the key is not a partition's low bound
abbrev NotLow : List ℕ → Part → Type 0
NotLow key p = same_key p.low key ≡ false

low_below : (key : List ℕ) (r : Range) (low : List ℕ) → r.low ≡ low → same_key low key ≡ false → in_range key r ≡ true → below r.low key ≡ true
low_below key r low e n h = above key r.low (not-true (below key r.low) (and_parts (not (below key r.low)) (is_below_high key r.high) h).0) (swapped key r.low ∙ ap (λ (k : List ℕ). same_key k key) e ∙ n)

lower_has : (key : List ℕ) (r : Range) (low : List ℕ) → r.low ≡ low → same_key low key ≡ false → in_range key r ≡ true → HasKey (lower_of r key) r
lower_has key r low e n h = record { lies = lower_lies r key h; key = r.low; inside = and_from _ _ (ap not (not_below_itself r.low)) (low_below key r low e n h) }

upper_has : (key : List ℕ) (r : Range) → in_range key r ≡ true → HasKey (upper_of r key) r
upper_has key r h = record { lies = upper_lies r key h; key = key; inside = and_from _ _ (ap not (not_below_itself key)) (and_parts (not (below key r.low)) (is_below_high key r.high) h).1 }

with_lows : (P : Part → Range → Type 0) (key : List ℕ) (ps : List Part) (rs : List Range) → Each P ps rs → AllByRecursion (NotLow key) ps → Each (λ p r. P p r × NotLow key p) ps rs
with_lows P key [] rs a n = tt
with_lows P key (p ∷ ps) [] a n = a
with_lows P key (p ∷ ps) (r ∷ rs) a n = ((a.0, n.0), with_lows P key ps rs a.1 n.1)

pub each_pair : (P Q : Part → Range → Type 0) (ps : List Part) (rs : List Range) → Each P ps rs → Each Q ps rs → Each (λ p r. P p r × Q p r) ps rs
each_pair P Q [] rs a b = tt
each_pair P Q (p ∷ ps) [] a b = a
each_pair P Q (p ∷ ps) (r ∷ rs) a b = ((a.0, b.0), each_pair P Q ps rs a.1 b.1)

job_split : (d : Durable) (j : Job) (key : List ℕ) → AllByRecursion (NotLow key) d.parts → JobStands d j × JobBegan d j → JobStands (with_parts d (split_at key d.parts)) j × JobBegan (with_parts d (split_at key d.parts)) j
job_split d j key n h =
    let ps = split_at key d.parts in
    let P = λ (p : Part) (r : Range). StandsAt d j p r in
    let now : Each P ps (part_ranges ps) = each_split (λ p r. P p r × NotLow key p) P key d.parts (
      (λ p r x. x.0),
      (λ p r e w x. (job_within d j p p.low (lower_of r key) r (lower_has key r p.low e x.1 w) x.0, job_within d j p key (upper_of r key) r (upper_has key r w) x.0)),
    ) (with_lows P key d.parts (part_ranges d.parts) (zipped_each (StandsAt d j) d.parts h.0) n) in (
      each_zipped (StandsAt d j) ps (part_ranges ps) now,
      record { shelved = h.1.shelved; catalogue = h.1.catalogue; lawful = h.1.lawful; inputs = h.1.inputs; minimum = h.1.minimum; taken = h.1.taken },
    )

-- ---- the manifest

rise_cons : (a : List ℕ) (xs : List (List ℕ)) → ((b : List ℕ) → first_bound xs ≡ Some b → below a b ≡ true) → IsTrue (rise xs) → IsTrue (rise (a ∷ xs))
rise_cons a [] f h = refl
rise_cons a (b ∷ xs) f h = and_from _ _ (f b refl) h

high_first : (key b : List ℕ) (o : Option (List ℕ)) → is_below_high key o ≡ true → o ≡ Some b → below key b ≡ true
high_first key b o h e = sym (ap (is_below_high key) e) ∙ h

rise_by : (key : List ℕ) (p : Part) (ps : List Part) (b : Bool) → in_range key (range_before p ps) ≡ b → NotLow key p → IsTrue (rise (lows_of (p ∷ ps))) → IsTrue (rise (lows_of (split_at key ps)))
    → IsTrue (rise (lows_of (cond b (p ∷ record p { low = key } ∷ ps) (p ∷ split_at key ps))))
rise_by key p ps true e n h ih =
    let w = and_parts (not (below key p.low)) (is_below_high key (first_bound (lows_of ps))) e in
    and_from _ _ (low_below key (range_before p ps) p.low refl n e) (rise_cons key (lows_of ps) (λ b f. high_first key b (first_bound (lows_of ps)) w.1 f) (rise_rest p.low (lows_of ps) h))
rise_by key p ps false e n h ih = rise_cons p.low (lows_of (split_at key ps)) (λ b f. rise_first p.low b (lows_of ps) h (sym (first_stays key ps) ∙ f)) ih

rise_split : (key : List ℕ) (ps : List Part) → AllByRecursion (NotLow key) ps → IsTrue (rise (lows_of ps)) → IsTrue (rise (lows_of (split_at key ps)))
rise_split key [] n h = refl
rise_split key (p ∷ ps) n h = rise_by key p ps (in_range key (range_before p ps)) refl n.0 h (rise_split key ps n.1 (rise_rest p.low (lows_of ps) h))

tile_by : (key : List ℕ) (p : Part) (xs ys : List Part) (b : Bool) → IsTrue (length p.low == 0) → IsTrue (rise (lows_of (cond b (p ∷ xs) (p ∷ ys)))) → IsTrue (tile (lows_of (cond b (p ∷ xs) (p ∷ ys))))
tile_by key p xs ys true z h = and_from _ _ z h
tile_by key p xs ys false z h = and_from _ _ z h

tile_split : (key : List ℕ) (ps : List Part) → AllByRecursion (NotLow key) ps → IsTrue (tile (lows_of ps)) → IsTrue (tile (lows_of (split_at key ps)))
tile_split key [] n h = absurd (false≢true h)
tile_split key (p ∷ ps) n h = let q = and_parts (length p.low == 0) (rise (lows_of (p ∷ ps))) h in
    tile_by key p (record p { low = key } ∷ ps) (split_at key ps) (in_range key (range_before p ps)) q.0 (rise_split key (p ∷ ps) n q.1)

length_by : (p q : Part) (ps xs : List Part) (b : Bool) → length xs ≤ length ps + 1 → length (cond b (p ∷ q ∷ ps) (p ∷ xs)) ≤ length (p ∷ ps) + 1
length_by p q ps xs true h = omega arith
length_by p q ps xs false h = omega (arith, h)

length_split : (key : List ℕ) (ps : List Part) → length (split_at key ps) ≤ length ps + 1
length_split key [] = omega arith
length_split key (p ∷ ps) = length_by p (record p { low = key }) ps (split_at key ps) (in_range key (range_before p ps)) (length_split key ps)

entry_at_key : (m : Manifest) (key : List ℕ) (p : Part) → length key ≤ max_key → IsTrue (is_part_entry m p) → IsTrue (is_part_entry m (record p { low = key }))
entry_at_key m key p l e =
    let listed = list_all (λ id. list_any (λ d. d.0 == id) m.deltas && nat_lt id m.next_id) p.ids in
    let a = and_parts (nat_le (length p.low) max_key && fits_63 p.resume && nat_le m.minimum p.resume && rises_strictly p.ids) listed e in
    let b = and_parts (nat_le (length p.low) max_key && fits_63 p.resume && nat_le m.minimum p.resume) (rises_strictly p.ids) a.0 in
    let c = and_parts (nat_le (length p.low) max_key && fits_63 p.resume) (nat_le m.minimum p.resume) b.0 in
    let f = and_parts (nat_le (length p.low) max_key) (fits_63 p.resume) c.0 in
    and_from _ _ (and_from _ _ (and_from _ _ (and_from _ _ (le-leb (length key) max_key l) f.1) c.1) b.1) a.1

entries_by : (m : Manifest) (p q : Part) (ps xs : List Part) (b : Bool) → IsTrue (is_part_entry m p) → IsTrue (is_part_entry m q) → IsTrue (list_all (is_part_entry m) ps) → IsTrue (list_all (is_part_entry m) xs)
    → IsTrue (list_all (is_part_entry m) (cond b (p ∷ q ∷ ps) (p ∷ xs)))
entries_by m p q ps xs true e f g h = and_from _ _ e (and_from _ _ f g)
entries_by m p q ps xs false e f g h = and_from _ _ e h

entries_split : (m : Manifest) (key : List ℕ) (ps : List Part) → length key ≤ max_key → IsTrue (list_all (is_part_entry m) ps) → IsTrue (list_all (is_part_entry m) (split_at key ps))
entries_split m key [] l h = refl
entries_split m key (p ∷ ps) l h = let q = and_parts (is_part_entry m p) (list_all (is_part_entry m) ps) h in
    entries_by m p (record p { low = key }) ps (split_at key ps) (in_range key (range_before p ps)) q.0 (entry_at_key m key p l q.0) q.1 (entries_split m key ps l q.1)

any_by : (f : List ℕ → Bool) (p q : Part) (ps xs : List Part) (b : Bool) → (f p.ids || list_any (λ p. f p.ids) ps) ≡ true → (list_any (λ p. f p.ids) ps ≡ true → list_any (λ p. f p.ids) xs ≡ true) → p.ids ≡ q.ids
    → list_any (λ p. f p.ids) (cond b (p ∷ q ∷ ps) (p ∷ xs)) ≡ true
any_by f p q ps xs true h g e = pick (f p.ids) (λ i. or_left (f p.ids) (f q.ids || list_any (λ p. f p.ids) ps) i) (λ i. or_right (f p.ids) (f q.ids || list_any (λ p. f p.ids) ps) (or_right (f q.ids) (list_any (λ p. f p.ids) ps) (or_rest (f p.ids) (list_any (λ p. f p.ids) ps) i h)))
any_by f p q ps xs false h g e = pick (f p.ids) (λ i. or_left (f p.ids) (list_any (λ p. f p.ids) xs) i) (λ i. or_right (f p.ids) (list_any (λ p. f p.ids) xs) (g (or_rest (f p.ids) (list_any (λ p. f p.ids) ps) i h)))

any_split : (f : List ℕ → Bool) (key : List ℕ) (ps : List Part) → list_any (λ p. f p.ids) ps ≡ true → list_any (λ p. f p.ids) (split_at key ps) ≡ true
any_split f key [] h = h
any_split f key (p ∷ ps) h = any_by f p (record p { low = key }) ps (split_at key ps) (in_range key (range_before p ps)) h (any_split f key ps) refl

deltas_split : (m : Manifest) (key : List ℕ) (ds : List (ℕ × Extent)) → IsTrue (list_all (is_delta_entry m) ds) → IsTrue (list_all (is_delta_entry (record m { parts = split_at key m.parts })) ds)
deltas_split m key [] h = refl
deltas_split m key (d ∷ ds) h =
    let q = and_parts (is_delta_entry m d) (list_all (is_delta_entry m) ds) h in
    let e = and_parts (nat_lt d.0 (2 ^ 64) && nat_lt d.1.place (2 ^ 64) && nat_lt d.1.length (2 ^ 64)) (list_any (λ p. list_any (λ id. id == d.0) p.ids) m.parts) q.0 in
    and_from _ _ (and_from _ _ e.0 (any_split (λ ids. list_any (λ id. id == d.0) ids) key m.parts e.1)) (deltas_split m key ds q.1)

manifest_split : (m : Manifest) (key : List ℕ) → AllByRecursion (NotLow key) m.parts → length key ≤ max_key → length m.parts < 1024 → IsLawfulManifest m → IsLawfulManifest (record m { parts = split_at key m.parts })
manifest_split m key n l few h =
    let a = and_parts (tile (lows_of m.parts) && nat_le (length m.parts) 1024) (list_all (is_part_entry m) m.parts) h.parts in
    let b = and_parts (rises_strictly (map (λ d. d.0) m.deltas) && nat_le (length m.deltas) 4096) (list_all (is_delta_entry m) m.deltas) h.deltas in record {
      limit = h.limit;
      numbers = h.numbers;
      catalogue = h.catalogue;
      streams = h.streams;
      parts = and_from _ _ (and_from _ _ (tile_split key m.parts n (and_parts (tile (lows_of m.parts)) (nat_le (length m.parts) 1024) a.0).0) (le-leb (length (split_at key m.parts)) 1024 (let k = length_split key m.parts in omega (arith, k, few))))
          (entries_split m key m.parts l a.1);
      deltas = and_from _ _ b.0 (deltas_split m key m.deltas b.1);
    }

-- ---- the command

none_at_edge : (key : List ℕ) (n : ℕ) (ps : List Part) → find (λ x. same_key x.1.low key) (numbered_from n ps) ≡ None → AllByRecursion (NotLow key) ps
none_at_edge key n [] e = tt
none_at_edge key n (p ∷ ps) e = let k = not-found (same_key p.low key) (n, p) _ e in (k.0, none_at_edge key (n + 1) ps k.1)

of_split_at : {A : Type 0} (s : State) (t : List ℕ) (ls : List Literal) (x : Table) (f : Table → List Literal → Option A) → table_named (cat_of s) t ≡ Some x → of_split s (do_split t ls) f ≡ f x ls
of_split_at s t ls x f e = ap (option_and_then (λ y. f y ls)) e

pub split_keeps : (t : List ℕ) (ls : List Literal) → KeepsDoing (do_split t ls)
split_keeps t ls feed fs s s' a good e d =
    let u = unrefused s (do_split t ls) e in
    let x = d.0 in
    let key = split_key x ls in
    let fault : option_or (option_map at_edge (edge_of s key)) (when (nat_le 1024 (length s.durable.parts)) too_many_parts) ≡ None
    = sym (of_split_at s t ls x (λ t ls. option_or (option_map at_edge (edge_of s (split_key t ls))) (when (nat_le 1024 (length s.durable.parts)) too_many_parts)) d.1) ∙ u.split in
    let edges = none_at_edge key 0 s.durable.parts (none_mapped (λ (y : ℕ × Part). y.0) _ (none_mapped at_edge (edge_of s key) (PointLaws.or_left _ _ fault))) in
    let few : length s.durable.parts < 1024 = leb-false 1024 (length s.durable.parts) (when_none (nat_le 1024 (length s.durable.parts)) too_many_parts (PointLaws.or_right (option_map at_edge (edge_of s key)) _ fault)) in
    let short : length key ≤ max_key
    = ltb-false max_key (length key) (when_none (nat_lt max_key (length key)) (key_too_long (length key)) (sym (of_split_at s t ls x (λ t ls. let n = length (split_key t ls) in when (nat_lt max_key n) (key_too_long n)) d.1) ∙ u.short_key)) in
    let ps = split_at key s.durable.parts in (
      fs,
      subst (λ (z : State). IsGood feed z fs) (sym d.3) (record {
        short = good.short;
        lawful = record { generation = next_generation s.durable good.lawful u.unworn; manifest = manifest_split (bare_manifest s.durable) key edges short few good.lawful.manifest; shelf = good.lawful.shelf };
        fronts = good.fronts;
        sound = record { parts = parts_split s.durable fs key good.sound.parts; points = good.sound.points };
        ready = record {
          places = good.ready.places;
          pending = pending_split s.durable ps (passed fs s.streams) key s.durable.parts s.pending good.ready.pending;
          job = if_some (λ j. JobStands s.durable j × JobBegan s.durable j) (λ j. JobStands (with_parts s.durable ps) j × JobBegan (with_parts s.durable ps) j) s.job (λ j h. job_split s.durable j key edges h) good.ready.job;
        };
      }),
    )
