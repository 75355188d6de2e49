-- A good session holds, of each key in a safe interval, what its changes make: the partition's stored versions and the pending ones over them.
use Rattle.std.proofs.Common.{Bool, List, [], ap, arith, cond, drop, eq-eqb, eqb-true, false, inl, inr, refl, subst, suc, sym, take, true, zero, ℕ, ◌++◌, ◌+◌, ◌<◌, ◌∙◌, ◌∷◌, ◌≡◌, ◌≤◌}
use Rattle.std.specs.Prelude.{Contains, IsTrue, None, Option, Some, find, map, nat_le, nat_lt, not, option_map, slice_get, unwrap_or, zip, ◌&&◌, ◌==◌}
use Rattle.std.specs.Option.{option_or}
use Rattle.std.specs.List.{AllByRecursion, list_any}
use Rattle.std.proofs.lemmas.Bool.{and_from, and_parts, false≢true}
use Rattle.std.proofs.lemmas.List.{take-append-drop}
use Rattle.lt_terms.specs.Key.{Range, in_range, meets, same_key, tile}
use Rattle.lt_terms.specs.Log.{Change, Header, Item, change_key, changes_of}
use Rattle.lt_world.specs.Feed.{Feed}
use Rattle.lt_tables.specs.Schema.{Catalogue, Table, first_of, table_numbered}
use Rattle.lt_tables.specs.Version.{RowVersion, asof, clip, merge, put_versions, seen}
use Rattle.lt_tables.specs.Pump.{Part, StreamAt, numbered_from}
use Rattle.lt_tables.specs.Fair.{changes_to, checkpoint_of, header_length, is_fair}
use Rattle.lt_tables.specs.Row.{is_in_time, row_at}
use Rattle.lt_storage.specs.Store.{Durable, IsLawfulPart, carried_versions, deltas_of, part_ranges, stored}
use Rattle.lt_storage.specs.Bundle.{has_table}
use Rattle.lt_machine.specs.Machine.{State, cat_of, checkpoint_at, checkpoints_meeting, first_below, least, ranges_of, seen_pending}
use Rattle.lt_machine.specs.Sound.{AreAtPlaces, FrontsFrom, IsGood, PendingOf, PendingOfAll, SoundPart, SoundParts, held_versions, items_before, passed, row_cells, source_of}
use Rattle.lt_codecs.proofs.ListFacts.{all_append, all_both, all_map, all_rest, none_mapped}
use Rattle.lt_lemmas.proofs.MergeLaws.{clip-ordered, named}
use Rattle.lt_lemmas.proofs.RangeLaws.{IsOutOf, IsSole, tile_sole}
use Rattle.lt_lemmas.proofs.SnapshotLaws.{or_left, or_rest, or_right}
use Rattle.lt_lemmas.proofs.SoundLaws.{meets-by, pick}
use Rattle.lt_lemmas.proofs.ListFacts.{all_contained, find_held, mapped_some}
use Rattle.lt_lemmas.proofs.PointLaws.{changes_of-append, itself, same}
use Rattle.lt_laws.proofs.MergeLaws.{find-clip, find-puts, merge-first, merge-ordered}
use Rattle.lt_laws.proofs.SoundLaws.{at-least, before-take, checkpoint-is, in-some-part, kept-by, le-false, le-true, least-all, max-other, not-found, open-items}
use Rattle.lt_laws.proofs.FairLaws.{fair_in_range}
use Rattle.lt_laws.proofs.FrontLaws.{rest_above}
use Rattle.lt_laws.proofs.ListFacts.{all_at, contains_front, contains_rest, from_filter_map, held_is_found, in_filter_map}
use Rattle.lt_laws.proofs.ScanLemmas.{AreOf, from-filter, in-filter, seen-key}
use Rattle.lt_laws.proofs.HeldLaws.{KeyHeld, held_reads, once}
use Rattle.lt_laws.proofs.RangeLaws.{source_in_time}
use Rattle.lt_machine.specs.Machine as machine

-- ---- each partition's versions

abbrev pub part_held : Catalogue → List Change → Durable → ℕ → Part → Range → List (List ℕ × ℕ) → List RowVersion
part_held cat source d table p r names = put_versions (clip r (seen_pending source cat names table)) (stored d p r table)

abbrev pub parts_held : Catalogue → List Change → Durable → ℕ → List Part → List Range → List (List (List ℕ × ℕ)) → List (List RowVersion)
parts_held cat source d table [] rs rest = []
parts_held cat source d table (p ∷ ps) [] rest = []
parts_held cat source d table (p ∷ ps) (r ∷ rs) [] = []
parts_held cat source d table (p ∷ ps) (r ∷ rs) (names ∷ rest) = part_held cat source d table p r names ∷ parts_held cat source d table ps rs rest

-- from a place on the names are those of the rest
abbrev pub AreFrom : List (List (List ℕ × ℕ)) → ℕ → List (List (List ℕ × ℕ)) → Type 0
AreFrom all n rest = (k : ℕ) → slice_get all (n + k) ≡ slice_get rest k

pub parts_are : (cat : Catalogue) (source : List Change) (d : Durable) (table : ℕ) (cs : List Change) (all : List (List (List ℕ × ℕ))) (n : ℕ) (ps : List Part) (rs : List Range) (rest : List (List (List ℕ × ℕ))) → PendingOfAll cat d cs ps rs rest → AreFrom all n rest
    → map (λ x. put_versions (clip x.1.1 (seen_pending source cat (unwrap_or (slice_get all x.0) []) table)) (stored d x.1.0 x.1.1 table)) (numbered_from n (zip ps rs)) ≡ parts_held cat source d table ps rs rest
parts_are cat source d table cs all n [] rs rest a f = refl
parts_are cat source d table cs all n (p ∷ ps) [] rest a f = refl
parts_are cat source d table cs all n (p ∷ ps) (r ∷ rs) [] a f = absurd a
parts_are cat source d table cs all n (p ∷ ps) (r ∷ rs) (names ∷ rest) a f =
    let here : slice_get all n ≡ Some names = ap (slice_get all) (omega arith) ∙ f 0 in
    let others = parts_are cat source d table cs all (n + 1) ps rs rest a.1 (λ k. ap (slice_get all) (omega arith) ∙ f (suc k)) in
    ap (λ (o : Option (List (List ℕ × ℕ))). put_versions (clip r (seen_pending source cat (unwrap_or o []) table)) (stored d p r table)
    ∷ map (λ x. put_versions (clip x.1.1 (seen_pending source cat (unwrap_or (slice_get all x.0) []) table)) (stored d x.1.0 x.1.1 table)) (numbered_from (n + 1) (zip ps rs))) here
    ∙ ap (λ (x : List (List RowVersion)). part_held cat source d table p r names ∷ x) others

clip_out : (r : Range) (key : List ℕ) (u : ℕ) (vs : List RowVersion) → in_range key r ≡ false → find (named key u) (clip r vs) ≡ None
clip_out r key u vs e = find-clip r key u vs ∙ ap (λ (b : Bool). cond b (find (named key u) vs) None) e

find_out : (cat : Catalogue) (source : List Change) (d : Durable) (table : ℕ) (key : List ℕ) (u : ℕ) (p : Part) (r : Range) (names : List (List ℕ × ℕ)) → in_range key r ≡ false → find (named key u) (part_held cat source d table p r names) ≡ None
find_out cat source d table key u p r names e = find-puts key u (clip r (seen_pending source cat names table)) (stored d p r table)
    ∙ ap (λ (o : Option RowVersion). first_of (o ∷ find (named key u) (stored d p r table) ∷ [])) (clip_out r key u (seen_pending source cat names table) e)
    ∙ ap (λ (o : Option RowVersion). first_of (None ∷ o ∷ [])) (clip_out r key u (merge (map (carried_versions d.catalogue table) (deltas_of d.shelf p.ids))) e)

firsts_out : (cat : Catalogue) (source : List Change) (d : Durable) (table : ℕ) (key : List ℕ) (u : ℕ) (ps : List Part) (rs : List Range) (rest : List (List (List ℕ × ℕ))) → IsOutOf key rs
    → first_of (map (find (named key u)) (parts_held cat source d table ps rs rest)) ≡ None
firsts_out cat source d table key u [] rs rest o = refl
firsts_out cat source d table key u (p ∷ ps) [] rest o = refl
firsts_out cat source d table key u (p ∷ ps) (r ∷ rs) [] o = refl
firsts_out cat source d table key u (p ∷ ps) (r ∷ rs) (names ∷ rest) o =
    ap (λ (x : Option RowVersion). option_or x (first_of (map (find (named key u)) (parts_held cat source d table ps rs rest)))) (find_out cat source d table key u p r names o.0)
    ∙ firsts_out cat source d table key u ps rs rest o.1

or_nothing : (o : Option RowVersion) → option_or o None ≡ o
or_nothing None = refl
or_nothing (Some v) = refl

-- ---- the partition of a key

-- up to the moment no partition that meets the interval is behind
abbrev IsSafe : State → Range → ℕ → Part × Range → Type 0
IsSafe s i t x = IsTrue (meets x.1 i) → t ≤ checkpoint_at s.streams x.0 x.1

-- the partition that the key lies in, with what is pending there: it alone has versions of the key
record PartOf (cat : Catalogue) (source passed_by : List Change) (fs : List (Header × List Item)) (s : State) (table : ℕ) (key : List ℕ) (i : Range) (t : ℕ) (lists : List (List RowVersion)) : Type 0 where
  part : Part
  range : Range
  names : List (List ℕ × ℕ)
  sound : SoundPart s.durable fs part range
  pending : PendingOf cat s.durable passed_by part range names
  within : in_range key range ≡ true
  safe : IsSafe s i t (part, range)
  alone : (u : ℕ) → first_of (map (find (named key u)) lists) ≡ find (named key u) (part_held cat source s.durable table part range names)

part_here : (cat : Catalogue) (source cs : List Change) (fs : List (Header × List Item)) (s : State) (table : ℕ) (key : List ℕ) (i : Range) (t : ℕ) (p : Part) (r : Range) (names : List (List ℕ × ℕ)) (ps : List Part) (rs : List Range) (rest : List (List (List ℕ × ℕ)))
    → SoundPart s.durable fs p r → PendingOf cat s.durable cs p r names → IsOutOf key rs → IsSafe s i t (p, r) → in_range key r ≡ true → PartOf cat source cs fs s table key i t (parts_held cat source s.durable table (p ∷ ps) (r ∷ rs) (names ∷ rest))
part_here cat source cs fs s table key i t p r names ps rs rest a b o safe e = record {
  part = p;
  range = r;
  names = names;
  sound = a;
  pending = b;
  within = e;
  safe = safe;
  alone = λ u. ap (option_or (find (named key u) (part_held cat source s.durable table p r names))) (firsts_out cat source s.durable table key u ps rs rest o) ∙ or_nothing (find (named key u) (part_held cat source s.durable table p r names));
}

part_later : (cat : Catalogue) (source cs : List Change) (fs : List (Header × List Item)) (s : State) (table : ℕ) (key : List ℕ) (i : Range) (t : ℕ) (p : Part) (r : Range) (names : List (List ℕ × ℕ)) (ps : List Part) (rs : List Range) (rest : List (List (List ℕ × ℕ)))
    → in_range key r ≡ false → PartOf cat source cs fs s table key i t (parts_held cat source s.durable table ps rs rest) → PartOf cat source cs fs s table key i t (parts_held cat source s.durable table (p ∷ ps) (r ∷ rs) (names ∷ rest))
part_later cat source cs fs s table key i t p r names ps rs rest e h = record {
  part = h.part;
  range = h.range;
  names = h.names;
  sound = h.sound;
  pending = h.pending;
  within = h.within;
  safe = h.safe;
  alone = λ u. ap (λ (x : Option RowVersion). option_or x (first_of (map (find (named key u)) (parts_held cat source s.durable table ps rs rest)))) (find_out cat source s.durable table key u p r names e) ∙ h.alone u;
}

part_of_key : (cat : Catalogue) (source cs : List Change) (fs : List (Header × List Item)) (s : State) (table : ℕ) (key : List ℕ) (i : Range) (t : ℕ) (ps : List Part) (rs : List Range) (rest : List (List (List ℕ × ℕ)))
    → SoundParts s.durable fs ps rs → PendingOfAll cat s.durable cs ps rs rest → IsSole key rs → AllByRecursion (IsSafe s i t) (zip ps rs) → list_any (λ x. in_range key x.1) (zip ps rs) ≡ true
    → PartOf cat source cs fs s table key i t (parts_held cat source s.durable table ps rs rest)
part_of_key cat source cs fs s table key i t [] rs rest a b o safe e = absurd (false≢true e)
part_of_key cat source cs fs s table key i t (p ∷ ps) [] rest a b o safe e = absurd a
part_of_key cat source cs fs s table key i t (p ∷ ps) (r ∷ rs) [] a b o safe e = absurd b
part_of_key cat source cs fs s table key i t (p ∷ ps) (r ∷ rs) (names ∷ rest) a b o safe e = pick (in_range key r)
    (λ h. part_here cat source cs fs s table key i t p r names ps rs rest a.0 b.0 (o.0 h) safe.0 h)
    (λ h. part_later cat source cs fs s table key i t p r names ps rs rest h (part_of_key cat source cs fs s table key i t ps rs rest a.1 b.1 o.1 safe.1 (or_rest (in_range key r) (list_any (λ (x : Part × Range). in_range key x.1) (zip ps rs)) h e)))

pub safe_parts : (s : State) (i : Range) (t n : ℕ) (ps : List Part) (rs : List Range)
    → find (λ x. meets x.1.0 i && nat_lt x.1.1 t) (numbered_from n (zip rs (map (λ x. checkpoint_at s.streams x.0 x.1) (zip ps rs)))) ≡ None → AllByRecursion (IsSafe s i t) (zip ps rs)
safe_parts s i t n [] rs e = tt
safe_parts s i t n (p ∷ ps) [] e = tt
safe_parts s i t n (p ∷ ps) (r ∷ rs) e =
    let k = not-found (meets r i && nat_lt (checkpoint_at s.streams p r) t) (n, (r, checkpoint_at s.streams p r)) _ e in
    ((λ m. at-least (meets r i) (checkpoint_at s.streams p r) t k.0 m), safe_parts s i t (n + 1) ps rs k.1)

pub any_of : {A : Type 0} (test : A → Bool) (xs : List A) (x : A) → Contains xs x → test x ≡ true → list_any test xs ≡ true
any_of test [] x h e = absurd (omega (arith, h.1))
any_of test (y ∷ ys) x (zero, l, f) e = or_left (test y) (list_any test ys) (ap test f ∙ e)
any_of test (y ∷ ys) x (suc k, l, f) e = or_right (test y) (list_any test ys) (any_of test ys x (k, omega (arith, l), f) e)

pub in_a_part : (key : List ℕ) (ps : List Part) → IsTrue (tile (map (λ p. p.low) ps)) → list_any (λ x. in_range key x.1) (zip ps (part_ranges ps)) ≡ true
in_a_part key ps t = in-some-part key (list_any (λ x. in_range key x.1) (zip ps (part_ranges ps)) ≡ true) ps t
    (all_map (Contains (zip ps (part_ranges ps))) (λ x. in_range key x.1 ≡ true → list_any (λ x. in_range key x.1) (zip ps (part_ranges ps)) ≡ true) (zip ps (part_ranges ps))
    (λ x h e. any_of (λ (x : Part × Range). in_range key x.1) (zip ps (part_ranges ps)) x h e) (all_contained (zip ps (part_ranges ps))))

-- ---- a safe partition has passed the changes up to the moment

abbrev pub IsPassed : Range → ℕ → List Change → Change → Type 0
IsPassed r t cs c = in_range (change_key c) r ≡ true → c.ts ≤ t → Contains cs c

pub passed_all : (feed : Feed) (cat : Catalogue) (r : Range) (t n : ℕ) (fs : List (Header × List Item)) (ss : List StreamAt) → FrontsFrom feed cat n fs → AreAtPlaces fs ss → AllByRecursion (λ m. t ≤ m) (checkpoints_meeting ss r)
    → AllByRecursion (IsPassed r t (passed fs ss)) (source_of fs)
passed_all feed cat r t n [] ss a b l = tt
passed_all feed cat r t n (f ∷ fs) [] a b l = absurd b
passed_all feed cat r t n (f ∷ fs) (s ∷ ss) a b l =
    let k = kept-by (λ m. t ≤ m) (meets s.header.range r && not s.closed) s.point.checkpoint (checkpoints_meeting ss r) l in
    let i = b.1.0 in
    let shut : s.closed ≡ false = b.1.4 ∙ open-items f.0.format f.1 i a.1 a.2.lawful in
    let fair : is_fair f.0 cat (take i f.1 ++ drop i f.1) ≡ true = ap (is_fair f.0 cat) (take-append-drop i f.1) ∙ a.2.fair in
    let at : s.point.checkpoint ≡ checkpoint_of f.0 (take i f.1) = ap (λ p. p.checkpoint) b.1.3 ∙ checkpoint-is f.0 (take i f.1) in
    let before : items_before s.offset (header_length f.0) f.1 ≡ take i f.1 = before-take s.offset (header_length f.0) i f.1 b.1.2 in
    let whole : changes_of f.1 ≡ changes_of (take i f.1) ++ changes_of (drop i f.1) = ap changes_of (sym (take-append-drop i f.1)) ∙ changes_of-append (take i f.1) (drop i f.1) in
    let ranges : AllByRecursion (λ c. in_range (change_key c) f.0.range ≡ true) (changes_of (take i f.1) ++ changes_of (drop i f.1))
    = subst (AllByRecursion (λ c. in_range (change_key c) f.0.range ≡ true)) whole (fair_in_range f.0 cat f.1 a.2.fair) in
    let mine = changes_of (items_before s.offset (header_length f.0) f.1) in
    let cs = mine ++ passed fs ss in
    let old : AllByRecursion (IsPassed r t cs) (changes_of (take i f.1))
    = subst (λ (x : List Item). AllByRecursion (IsPassed r t cs) (changes_of x)) before (all_map (Contains mine) (IsPassed r t cs) mine (λ c h e g. contains_front mine (passed fs ss) c h) (all_contained mine)) in
    let new : AllByRecursion (IsPassed r t cs) (changes_of (drop i f.1))
    = all_both (λ c. in_range (change_key c) f.0.range ≡ true) (λ c. checkpoint_of f.0 (take i f.1) < c.ts) (IsPassed r t cs) (changes_of (drop i f.1))
    (λ c w h e g. let m : meets f.0.range r ≡ true = meets-by (change_key c) f.0.range r w e in
    let q : t ≤ s.point.checkpoint = k.0 (and_from _ _ (ap (λ x. meets x.range r) b.0 ∙ m) (ap not shut)) in absurd (omega (arith, q, at, h, g)))
    (all_rest (λ c. in_range (change_key c) f.0.range ≡ true) (changes_of (take i f.1)) (changes_of (drop i f.1)) ranges) (rest_above f.0 cat (take i f.1) (drop i f.1) fair) in
    all_append (IsPassed r t cs) (changes_of f.1) (source_of fs) (subst (AllByRecursion (IsPassed r t cs)) (sym whole) (all_append (IsPassed r t cs) (changes_of (take i f.1)) (changes_of (drop i f.1)) old new))
    (all_map (IsPassed r t (passed fs ss)) (IsPassed r t cs) (source_of fs) (λ c h e g. contains_rest mine (passed fs ss) c (h e g)) (passed_all feed cat r t (n + 1) fs ss a.3 b.2 k.1))

-- ---- what is pending of a key

abbrev pub is_named : ℕ → List ℕ × ℕ → Change → Bool
is_named table n c = c.table == table && machine.named n c

pub record SeenFrom (cat : Catalogue) (source : List Change) (names : List (List ℕ × ℕ)) (table : ℕ) (v : RowVersion) : Type 0 where
  pub name : List ℕ × ℕ
  pub known : Contains names name
  pub change : Change
  pub held : Contains source change
  pub of_table : change.table ≡ table
  pub fits : machine.named name change ≡ true
  pub is : v ≡ seen cat change

pub seen_from : (cat : Catalogue) (source : List Change) (names : List (List ℕ × ℕ)) (table : ℕ) (v : RowVersion) → Contains (seen_pending source cat names table) v → SeenFrom cat source names table v
seen_from cat source names table v h =
    let a = from_filter_map (λ n. option_map (seen cat) (find (is_named table n) source)) names v h in
    let b = mapped_some (seen cat) (find (is_named table a.0) source) v a.2 in
    let c = find_held (is_named table a.0) source b.0 b.1 in
    let t = and_parts (b.0.table == table) (machine.named a.0 b.0) c.1 in
    record { name = a.0; known = a.1; change = b.0; held = c.0; of_table = eqb-true b.0.table table t.0; fits = t.1; is = sym b.2 }

pub seen_in : (cat : Catalogue) (source : List Change) (names : List (List ℕ × ℕ)) (table : ℕ) (c : Change) → Contains names (change_key c, c.ts) → Contains source c → c.table ≡ table
    → ((d : Change) → Contains source d → change_key d ≡ change_key c → d.ts ≡ c.ts → d ≡ c) → Contains (seen_pending source cat names table) (seen cat c)
seen_in cat source names table c h i e only =
    let n : List ℕ × ℕ = (change_key c, c.ts) in
    let passes : is_named table n c ≡ true = and_from _ _ (eq-eqb c.table table e) (and_from _ _ (itself (change_key c)) (eq-eqb c.ts c.ts refl)) in
    let f = held_is_found (is_named table n) source c i passes in
    let g = find_held (is_named table n) source f.0 f.1 in
    let p = and_parts (same_key (change_key f.0) (change_key c)) (f.0.ts == c.ts) (and_parts (f.0.table == table) (machine.named n f.0) g.1).1 in
    let d : f.0 ≡ c = only f.0 g.0 (same (change_key f.0) (change_key c) p.0) (eqb-true f.0.ts c.ts p.1) in
    in_filter_map (λ n. option_map (seen cat) (find (is_named table n) source)) names n (seen cat c) h (ap (option_map (seen cat)) f.1 ∙ ap (λ (x : Change). Some (seen cat x)) d)

-- ---- what a good session holds of a key

-- the key is one of the table
record IsKeyIn (t : Table) (source : List Change) (key : List ℕ) : Type 0 where
  of_table : AreOf t.number (changes_to key source)
  has : IsTrue (has_table t.number key)

pub of_at : (table : ℕ) (key : List ℕ) (source : List Change) (c : Change) → AreOf table (changes_to key source) → Contains source c → change_key c ≡ key → c.table ≡ table
of_at table key source c a h e = all_at (λ c. c.table ≡ table) (changes_to key source) c a (in-filter (λ c. same_key (change_key c) key) source c h (ap (λ (k : List ℕ). same_key k key) e ∙ itself key))

key_held : (feed : Feed) (fs : List (Header × List Item)) (s : State) (t : Table) (key : List ℕ) (i : Range) (at : ℕ) (lists : List (List RowVersion)) → IsGood feed s fs → table_numbered (cat_of s) t.number ≡ Some t
    → IsKeyIn t (source_of fs) key → (p : PartOf (cat_of s) (source_of fs) (passed fs s.streams) fs s t.number key i at lists) → in_range key i ≡ true
    → KeyHeld (cat_of s) (source_of fs) t.number key s.durable.minimum p.part.resume at (merge lists) (clip p.range (seen_pending (source_of fs) (cat_of s) p.names t.number)) (stored s.durable p.part p.range t.number)
key_held feed fs s t key i at lists good known k p inside =
    let source = source_of fs in
    let cat = cat_of s in
    let pend = seen_pending source cat p.names t.number in
    let time : is_in_time key source ≡ true = source_in_time feed cat fs key good.fronts in record {
      ordered = merge-ordered lists;
      sorted = clip-ordered p.range (merge (map (carried_versions cat t.number) (deltas_of s.durable.shelf p.part.ids))) (merge-ordered (map (carried_versions cat t.number) (deltas_of s.durable.shelf p.part.ids)));
      found = λ u. merge-first key u lists ∙ p.alone u ∙ find-puts key u (clip p.range pend) (stored s.durable p.part p.range t.number);
      pending = λ v h e.
          let f = seen_from cat source p.names t.number v (from-filter (λ v. in_range v.key p.range) pend v h).0 in
          let g = p.pending.are_changes f.name f.known in
          let a = eqb-true f.change.ts f.name.1 (and_parts (same_key (change_key f.change) f.name.0) (f.change.ts == f.name.1) f.fits).1 in
          let b = eqb-true g.0.ts f.name.1 (and_parts (same_key (change_key g.0) f.name.0) (g.0.ts == f.name.1) g.2).1 in
          (f.change, f.held, f.is, omega (arith, a, b, g.4));
      only = λ v h e l. let c = p.sound.only_changes t.number v h l in (c.0, c.1, c.3);
      all = λ c h e l up.
          let within : in_range (change_key c) p.range ≡ true = ap (λ (x : List ℕ). in_range x p.range) e ∙ p.within in
          let table : c.table ≡ t.number = of_at t.number key source c k.of_table h e in
          let in_store : Contains (stored s.durable p.part p.range c.table) (seen cat c) → Contains (stored s.durable p.part p.range t.number) (seen cat c)
          = λ x. subst (λ (n : ℕ). Contains (stored s.durable p.part p.range n) (seen cat c)) table x in
          pick (nat_le c.ts p.part.resume)
          (λ d. inr (in_store (p.sound.all_changes c h within l (le-true c.ts p.part.resume d))))
          (λ d.
          let late : p.part.resume < c.ts = le-false c.ts p.part.resume d in
          let safe : at ≤ checkpoint_at s.streams p.part p.range = p.safe (meets-by key p.range i p.within inside) in
          let behind : at ≤ least (checkpoints_meeting s.streams p.range) = max-other at p.part.resume (least (checkpoints_meeting s.streams p.range)) safe (omega (arith, late, up)) in
          let was : Contains (passed fs s.streams) c = all_at (IsPassed p.range at (passed fs s.streams)) source c (passed_all feed cat p.range at 0 fs s.streams good.fronts.each good.ready.places (least-all at (checkpoints_meeting s.streams p.range) behind)) h within up in
          elim (p.pending.none_lost c was within late) [
            | inl n ↦ inl (in-filter (λ v. in_range v.key p.range) pend (seen cat c)
                (seen_in cat source p.names t.number c n h table (λ d i f g. once key source time d c i h (f ∙ e) e g)) (ap (λ (x : List ℕ). in_range x p.range) (seen-key cat c) ∙ within))
            | inr x ↦ inr (in_store x)
          ]);
      row = p.sound.rows t key known p.within k.has;
      durable = p.sound.minimum;
    }

pub tiles_of : (d : Durable) → IsLawfulPart d → IsTrue (tile (map (λ p. p.low) d.parts))
tiles_of d l = (and_parts _ _ (and_parts _ _ l.manifest.parts).0).0

-- what a good session holds, part by part
pub held_parts : (feed : Feed) (fs : List (Header × List Item)) (s : State) (table : ℕ) → IsGood feed s fs
    → held_versions (source_of fs) s table ≡ merge (parts_held (cat_of s) (source_of fs) s.durable table s.durable.parts (ranges_of s.durable) s.pending)
held_parts feed fs s table good = ap merge (parts_are (cat_of s) (source_of fs) s.durable table (passed fs s.streams) s.pending 0 s.durable.parts (ranges_of s.durable) s.pending good.ready.pending (λ k. ap (slice_get s.pending) (omega arith)))

-- what is read of the key at a safe moment is its row then, in cells
pub key_reads : (feed : Feed) (fs : List (Header × List Item)) (s : State) (t : Table) (key : List ℕ) (i : Range) (at : ℕ) → IsGood feed s fs → table_numbered (cat_of s) t.number ≡ Some t → s.durable.minimum ≤ at → first_below s i at ≡ None
    → AreOf t.number (changes_to key (source_of fs)) → IsTrue (has_table t.number key) → in_range key i ≡ true
    → option_map (λ (v : RowVersion). v.cells) (find (λ v. same_key v.key key) (asof at (held_versions (source_of fs) s t.number))) ≡ row_cells (cat_of s) t.number (row_at (source_of fs) key at)
key_reads feed fs s t key i at good known low safe of has inside =
    let source = source_of fs in
    let cat = cat_of s in
    let ps = s.durable.parts in
    let rs = ranges_of s.durable in
    let cs = passed fs s.streams in
    let lists = parts_held cat source s.durable t.number ps rs s.pending in
    let tiles : IsTrue (tile (map (λ p. p.low) ps)) = tiles_of s.durable good.lawful in
    let p = part_of_key cat source cs fs s t.number key i at ps rs s.pending good.sound.parts good.ready.pending (tile_sole key (map (λ p. p.low) ps) tiles) (safe_parts s i at 0 ps rs (none_mapped (λ x. (x.0, x.1.1)) _ safe)) (in_a_part key ps tiles) in
    ap (λ (vs : List RowVersion). option_map (λ (v : RowVersion). v.cells) (find (λ v. same_key v.key key) (asof at vs))) (held_parts feed fs s t.number good)
    ∙ held_reads cat source t.number key s.durable.minimum p.part.resume at (merge lists) (clip p.range (seen_pending source cat p.names t.number)) (stored s.durable p.part p.range t.number) low
    (source_in_time feed cat fs key good.fronts) of (key_held feed fs s t key i at lists good known (record { of_table = of; has = has }) p inside)
