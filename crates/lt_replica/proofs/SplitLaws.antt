-- A split: what it is refused for, and what it makes of the partitions and of what each holds.
use Rattle.lt_replica.specs.Numbers.{Numbers, is_worn_at, next_numbers}
use Rattle.std.proofs.Common.{Bool, List, [], add-one, ap, ap₂, arith, cond, false, get_or, length, not, refl, set, subst, suc, sym, true, zero, ℕ, ◌+◌, ◌++◌, ◌<◌, ◌∙◌, ◌∷◌, ◌≡◌, ◌≤◌}
use Rattle.std.specs.Prelude.{None, Option, Some, IsTrue, codes, filter, find, insert, is_none, map, nat_le, nat_lt, option_and_then, option_map, ◌&&◌, ◌==◌, ◌-◌}
use Rattle.std.specs.List.{AllByRecursion}
use Rattle.std.specs.Option.{option_or}
use Rattle.std.proofs.lemmas.List.{length-map}
use Rattle.lt_world.specs.Feed.{Feed}
use Rattle.lt_terms.specs.Key.{Range, below, in_range, max_key, ranges_from, same_key}
use Rattle.lt_terms.specs.Log.{Change, change_key}
use Rattle.lt_tables.specs.Pump.{StreamAt, numbered_from, part_of}
use Rattle.lt_machine.specs.Machine.{Does, State, is_worn, part_misfit, ranges_of, refused, replies, split_key, split_parts, split_pending, was_split}
use Rattle.lt_tables.specs.Pump.{name_of}
use Rattle.lt_machine.specs.Sound.{Memory}
use Rattle.lt_tables.specs.Query.{Literal}
use Rattle.lt_words.specs.Reply as model
use Rattle.lt_words.specs.Reply.{at_edge, bad_column, key_too_long, no_such_table, split_done, too_many_parts, worn, wrong_literal}
use Rattle.lt_tables.specs.Schema.{Catalogue, Table, table_named, when}
use Rattle.lt_tables.specs.Query.{do_split}
use Rattle.lt_tables.specs.Pump.{Part}
use Rattle.lt_storage.specs.Store.{part_ranges}
use Rattle.lt_codecs.proofs.ListFacts.{all_map}
use Rattle.lt_lemmas.proofs.ListFacts.{all_filter}
use Rattle.lt_parts.specs.Parts.{IsSplit, edge_in, lows_of, ranges, split_fault}
use Rattle.lt_parts.specs.declared.entry.PartEntry.{PartEntry}
use Rattle.lt_parts.specs.declared.refusal.SplitRefusal.TheVariants as parts
use Rattle.lt_pending.specs.Held.{held_in}
use Rattle.lt_pending.specs.declared.changes.Changes.{Changes}
use Rattle.lt_pump.specs.Given.{AreBehind, IsBehind}
use Rattle.lt_steps.specs.Memory.{split_memory}
use Rattle.lt_replica.proofs.RangeLaws.{lows_parts, ranges_length}
use Rattle.lt_replica.specs.Behind.{are_behind}
use Rattle.lt_replica.specs.Splitting.{IsSplitKey, key_fault, named_key_fault, parted_at, parts_fault, upper_at}
use Rattle.lt_replica.specs.State.{part_of_entry, state_with}
use Rattle.lt_replica.proofs.BehindLaws.{behind_true, true_behind}
use Rattle.lt_replica.proofs.Refusals.{or_none, or_three, worn_at}

-- ---- what is refused

-- what a split is refused for, by the table that the name names
abbrev split_refusal : List ℕ → List Literal → List Part → Option Table → Option model.Refusal
split_refusal name ls ps o = option_or (when (is_none o) (no_such_table name))
    (option_or (option_map bad_column (option_and_then (λ t. when (not (length ls == length t.key)) (codes "key")) o))
    (option_or (option_map wrong_literal (option_and_then (λ t. part_misfit t.key ls) o))
    (option_or (option_and_then (λ t. when (nat_lt max_key (length (split_key t ls))) (key_too_long (length (split_key t ls)))) o)
    (option_or (option_and_then (λ t. option_or (option_map at_edge (option_map (λ (x : ℕ × Part). x.0) (find (λ x. same_key x.1.low (split_key t ls)) (numbered_from 0 ps)))) (when (nat_le 1024 (length ps)) too_many_parts)) o) None))))

split_by : (cat : Catalogue) (n : Numbers) (es : List PartEntry) (ss : List StreamAt) (mem : Memory) (name : List ℕ) (ls : List Literal)
    → refused (state_with cat n es ss mem) (do_split name ls) ≡ option_or (when (is_worn (state_with cat n es ss mem).durable && true) worn) (split_refusal name ls (map part_of_entry es) (table_named cat name))
unfolding refused
split_by cat n es ss mem name ls = refl

split_at : (cat : Catalogue) (n : Numbers) (es : List PartEntry) (ss : List StreamAt) (mem : Memory) (name : List ℕ) (ls : List Literal) → is_worn_at n ≡ false → refused (state_with cat n es ss mem) (do_split name ls) ≡ split_refusal name ls (map part_of_entry es) (table_named cat name)
split_at cat n es ss mem name ls e = split_by cat n es ss mem name ls ∙ ap (λ (b : Bool). option_or (when (b && true) worn) (split_refusal name ls (map part_of_entry es) (table_named cat name))) (worn_at cat n es ss mem ∙ e)

pub split_worn : (cat : Catalogue) (n : Numbers) (es : List PartEntry) (ss : List StreamAt) (mem : Memory) (name : List ℕ) (ls : List Literal) → is_worn_at n ≡ true → refused (state_with cat n es ss mem) (do_split name ls) ≡ Some worn
split_worn cat n es ss mem name ls e = split_by cat n es ss mem name ls ∙ ap (λ (b : Bool). option_or (when (b && true) worn) (split_refusal name ls (map part_of_entry es) (table_named cat name))) (worn_at cat n es ss mem ∙ e)

edge_by : (b : Bool) (n : ℕ) (e : PartEntry) (o : Option (ℕ × Part)) (p : Option (ℕ × PartEntry)) → option_map (λ (x : ℕ × Part). x.0) o ≡ option_map (λ (x : ℕ × PartEntry). x.0) p
    → option_map (λ (x : ℕ × Part). x.0) (cond b (Some (n, part_of_entry e)) o) ≡ option_map (λ (x : ℕ × PartEntry). x.0) (cond b (Some (n, e)) p)
edge_by true n e o p h = refl
edge_by false n e o p h = h

-- the machine's partitions begin where the entries do
edge_is : (key : List ℕ) (n : ℕ) (es : List PartEntry) → option_map (λ (x : ℕ × Part). x.0) (find (λ x. same_key x.1.low key) (numbered_from n (map part_of_entry es))) ≡ option_map (λ (x : ℕ × PartEntry). x.0) (find (λ x. same_key x.1.low key) (numbered_from n es))
edge_is key n [] = refl
edge_is key n (e ∷ es) = edge_by (same_key e.low key) n e (find (λ x. same_key x.1.low key) (numbered_from (n + 1) (map part_of_entry es))) (find (λ x. same_key x.1.low key) (numbered_from (n + 1) es)) (edge_is key (n + 1) es)

fault_in : (es : List PartEntry) (key : List ℕ) → option_or (option_map at_edge (option_map (λ (x : ℕ × Part). x.0) (find (λ x. same_key x.1.low key) (numbered_from 0 (map part_of_entry es))))) (when (nat_le 1024 (length (map part_of_entry es))) too_many_parts) ≡ parts_fault es key
fault_in es key = ap₂ (λ (o : Option ℕ) (n : ℕ). option_or (option_map at_edge o) (when (nat_le 1024 n) too_many_parts)) (edge_is key 0 es) (length-map es part_of_entry)

-- a split is refused for its key, or else for the partitions
named_is : (es : List PartEntry) (name : List ℕ) (ls : List Literal) (t : Table) → split_refusal name ls (map part_of_entry es) (Some t) ≡ option_or (key_fault t.number t.key ls) (parts_fault es (split_key t ls))
named_is es name ls t =
    let a = option_map bad_column (when (not (length ls == length t.key)) (codes "key")) in
    let b = option_map wrong_literal (part_misfit t.key ls) in
    let n = length (split_key t ls) in
    let c = when (nat_lt max_key n) (key_too_long n) in
    ap (λ (o : Option model.Refusal). option_or a (option_or b (option_or c (option_or o None)))) (fault_in es (split_key t ls))
    ∙ ap (λ (o : Option model.Refusal). option_or a (option_or b (option_or c o))) (or_none (parts_fault es (split_key t ls)))
    ∙ or_three a b c (parts_fault es (split_key t ls))

split_named : (cat : Catalogue) (n : Numbers) (es : List PartEntry) (ss : List StreamAt) (mem : Memory) (name : List ℕ) (ls : List Literal) (t : Table) → is_worn_at n ≡ false → table_named cat name ≡ Some t
    → refused (state_with cat n es ss mem) (do_split name ls) ≡ option_or (key_fault t.number t.key ls) (parts_fault es (split_key t ls))
split_named cat n es ss mem name ls t e named = split_at cat n es ss mem name ls e ∙ ap (split_refusal name ls (map part_of_entry es)) named ∙ named_is es name ls t

bad_key_by : (cat : Catalogue) (n : Numbers) (es : List PartEntry) (ss : List StreamAt) (mem : Memory) (name : List ℕ) (ls : List Literal) (r : model.Refusal) (o : Option Table) → is_worn_at n ≡ false → table_named cat name ≡ o
    → option_or (when (is_none o) (no_such_table name)) (option_and_then (λ t. key_fault t.number t.key ls) o) ≡ Some r → refused (state_with cat n es ss mem) (do_split name ls) ≡ Some r
bad_key_by cat n es ss mem name ls r None e d h = split_at cat n es ss mem name ls e ∙ ap (split_refusal name ls (map part_of_entry es)) d ∙ h
bad_key_by cat n es ss mem name ls r (Some t) e d h = split_named cat n es ss mem name ls t e d ∙ ap (λ (o : Option model.Refusal). option_or o (parts_fault es (split_key t ls))) h

pub split_bad_key : (cat : Catalogue) (n : Numbers) (es : List PartEntry) (ss : List StreamAt) (mem : Memory) (name : List ℕ) (ls : List Literal) → is_worn_at n ≡ false → (r : model.Refusal) → named_key_fault cat name ls ≡ Some r → refused (state_with cat n es ss mem) (do_split name ls) ≡ Some r
split_bad_key cat n es ss mem name ls e r h = bad_key_by cat n es ss mem name ls r (table_named cat name) e refl h

-- with a key it is refused for the partitions alone
pub split_is : (cat : Catalogue) (n : Numbers) (es : List PartEntry) (ss : List StreamAt) (mem : Memory) (name : List ℕ) (ls : List Literal) (key : List ℕ) → is_worn_at n ≡ false → IsSplitKey cat name ls key → refused (state_with cat n es ss mem) (do_split name ls) ≡ parts_fault es key
split_is cat n es ss mem name ls key e k = split_named cat n es ss mem name ls k.table e k.named ∙ ap (λ (o : Option model.Refusal). option_or o (parts_fault es (split_key k.table ls))) k.free ∙ ap (parts_fault es) (sym k.is)

-- ---- the partition that begins at the key

found_by : (n m k : ℕ) (x : PartEntry) (o : Option (ℕ × PartEntry)) (b : Bool) → (option_map (λ (y : ℕ × PartEntry). y.0) o ≡ Some m → m < n + 1 + k) → option_map (λ (y : ℕ × PartEntry). y.0) (cond b (Some (n, x)) o) ≡ Some m → m < n + suc k
found_by n m k x o true f h = let d : n ≡ m = cc in omega (arith, d)
found_by n m k x o false f h = omega (arith, f h)

find_bound : (test : ℕ × PartEntry → Bool) (n m : ℕ) (es : List PartEntry) → option_map (λ (x : ℕ × PartEntry). x.0) (find test (numbered_from n es)) ≡ Some m → m < n + length es
find_bound test n m [] e = absurd cc
find_bound test n m (x ∷ es) e = found_by n m (length es) x (find test (numbered_from (n + 1) es)) (test (n, x)) (find_bound test (n + 1) m es) e

edge_told : (o : Option ℕ) (b : Bool) (part : ℕ) → option_or (option_map parts.AtEdge o) (when b parts.TooManyParts) ≡ Some (parts.AtEdge part) → o ≡ Some part
edge_told (Some m) b part h = cc
edge_told None true part h = absurd cc
edge_told None false part h = absurd cc

pub edge_within : (es : List PartEntry) (key : List ℕ) (part : ℕ) → split_fault es key ≡ Some (parts.AtEdge part) → part < length es
edge_within es key part h = omega (arith, find_bound (λ x. same_key x.1.low key) 0 part es (edge_told (edge_in es key) (nat_le 1024 (length es)) part h))

-- ---- the partitions

pub ranges_are : (es : List PartEntry) → part_ranges (map part_of_entry es) ≡ ranges es
ranges_are es = ap ranges_from (sym (lows_parts es))

length_ranges : (es : List PartEntry) → length (ranges es) ≡ length es
length_ranges es = ranges_length (lows_of es) ∙ length-map es (λ e. e.low)

here_by : (b : Bool) (n : ℕ) → cond b 0 (1 + n) ≡ 0 → b ≡ true
here_by true n e = refl
here_by false n e = absurd (omega (arith, e))

later_by : (b : Bool) (n m : ℕ) → cond b 0 (1 + n) ≡ suc m → (b ≡ false) × (n ≡ m)
later_by true n m e = absurd (omega (arith, e))
later_by false n m e = (refl, omega (arith, e))

parted : (key : List ℕ) (before after : List PartEntry) (lower : PartEntry) (rs : List Range) → length rs ≡ length (before ++ lower ∷ after) → part_of rs key ≡ length before
    → map part_of_entry (before ++ lower ∷ record lower { low = key } ∷ after) ≡ split_parts key (map part_of_entry (before ++ lower ∷ after)) rs
parted key [] after lower [] l e = absurd (omega (arith, l))
parted key [] after lower (r ∷ rs) l e = sym (ap (λ (b : Bool). cond b (part_of_entry lower ∷ record (part_of_entry lower) { low = key } ∷ map part_of_entry after) (part_of_entry lower ∷ split_parts key (map part_of_entry after) rs)) (here_by (in_range key r) (part_of rs key) e))
parted key (x ∷ before) after lower [] l e = absurd (omega (arith, l))
parted key (x ∷ before) after lower (r ∷ rs) l e =
    let d = later_by (in_range key r) (part_of rs key) (length before) e in
    let ps = map part_of_entry (before ++ lower ∷ after) in
    ap (λ (zs : List Part). part_of_entry x ∷ zs) (parted key before after lower rs (omega (arith, l)) d.1)
    ∙ sym (ap (λ (b : Bool). cond b (part_of_entry x ∷ record (part_of_entry x) { low = key } ∷ ps) (part_of_entry x ∷ split_parts key ps rs)) d.0)

-- the split entries are the machine's parts
pub parts_split : (es new : List PartEntry) (key : List ℕ) (number : ℕ) → IsSplit es key new number → number ≡ part_of (ranges es) key + 1 → map part_of_entry new ≡ split_parts key (map part_of_entry es) (part_ranges (map part_of_entry es))
parts_split es new key number s n =
    let counted = s.counted in
    let place : part_of (ranges es) key ≡ length s.before = omega (arith, n, counted) in
    ap (map part_of_entry) s.are
    ∙ parted key s.before s.after s.lower (ranges es) (length_ranges es ∙ ap length s.were) place
    ∙ ap₂ (λ (x : List PartEntry) (rs : List Range). split_parts key (map part_of_entry x) rs) (sym s.were) (sym (ranges_are es))

one_more : (before after : List PartEntry) (x y : PartEntry) → length (before ++ x ∷ y ∷ after) ≡ length (before ++ x ∷ after) + 1
one_more [] after x y = omega arith
one_more (z ∷ before) after x y = let h = one_more before after x y in omega (arith, h)

entries_more : (es new : List PartEntry) (key : List ℕ) (number : ℕ) → IsSplit es key new number → length new ≡ length es + 1
entries_more es new key number s = ap length s.are ∙ one_more s.before s.after s.lower (record s.lower { low = key }) ∙ ap (λ (x : List PartEntry). length x + 1) (sym s.were)

place_within : (es new : List PartEntry) (key : List ℕ) (number : ℕ) → IsSplit es key new number → (1 ≤ number) × (number - 1 < length es) × (number ≤ length es)
place_within es new key number s =
    let counted = s.counted in
    let l : length s.before < length es = subst (λ (x : List PartEntry). length s.before < length x) (sym s.were) (shorter s.before s.after s.lower) in (omega (arith, counted), omega (arith, counted, l), omega (arith, counted, l))
  where
    shorter : (before after : List PartEntry) (x : PartEntry) → length before < length (before ++ x ∷ after)
    shorter [] after x = omega arith
    shorter (y ∷ before) after x = omega (arith, shorter before after x)

same_count : (xs ys : List PartEntry) → map part_of_entry xs ≡ map part_of_entry ys → length xs ≡ length ys
same_count xs ys e = sym (length-map xs part_of_entry) ∙ ap length e ∙ length-map ys part_of_entry

-- ---- what is held

abbrev lower : List ℕ → List Change → List Change
lower key cs = filter (λ c. below (change_key c) key) cs

abbrev upper : List ℕ → List Change → List Change
upper key cs = filter (λ c. not (below (change_key c) key)) cs

nothing_parted : (p : ℕ) (key : List ℕ) → parted_at p key [] ≡ []
nothing_parted zero key = refl
nothing_parted (suc p) key = refl

memory_by : (key : List ℕ) (cs : List Change) (mem others : Memory) (q : ℕ) (b : Bool) → parted_at q key mem ≡ others → parted_at (cond b 0 (1 + q)) key (cs ∷ mem) ≡ cond b (lower key cs ∷ upper key cs ∷ mem) (cs ∷ others)
memory_by key cs mem others q true h = refl
memory_by key cs mem others q false h = let next : 1 + q ≡ suc q = omega arith in ap (λ (n : ℕ). parted_at n key (cs ∷ mem)) next ∙ ap (λ (x : Memory). cs ∷ x) h

memory_is : (key : List ℕ) (mem : Memory) (rs : List Range) → length rs ≡ length mem → parted_at (part_of rs key) key mem ≡ split_memory key mem rs
memory_is key [] rs l = nothing_parted (part_of rs key) key
memory_is key (cs ∷ mem) [] l = absurd (omega (arith, l))
memory_is key (cs ∷ mem) (r ∷ rs) l = memory_by key cs mem (split_memory key mem rs) (part_of rs key) (in_range key r) (memory_is key mem rs (omega (arith, l)))

-- what is held is parted as the machine's partition of the key
pub memory_split : (es : List PartEntry) (key : List ℕ) (mem new : Memory) (part : ℕ) → length mem ≡ length es → part ≡ part_of (ranges es) key → new ≡ parted_at part key mem → new ≡ split_memory key mem (part_ranges (map part_of_entry es))
memory_split es key mem new part l p e = e ∙ ap (λ (n : ℕ). parted_at n key mem) p ∙ memory_is key mem (ranges es) (length_ranges es ∙ sym l) ∙ ap (split_memory key mem) (sym (ranges_are es))

parted_length : (p : ℕ) (key : List ℕ) (mem : Memory) → p < length mem → length (parted_at p key mem) ≡ length mem + 1
parted_length p key [] l = absurd (omega (arith, l))
parted_length zero key (cs ∷ mem) l = omega arith
parted_length (suc p) key (cs ∷ mem) l = let h = parted_length p key mem (omega (arith, l)) in omega (arith, h)

all_parted : (P : Change → Type 0) (p : ℕ) (key : List ℕ) (mem : Memory) → AllByRecursion (AllByRecursion P) mem → AllByRecursion (AllByRecursion P) (parted_at p key mem)
all_parted P zero key [] a = tt
all_parted P (suc p) key [] a = tt
all_parted P zero key (cs ∷ mem) a = (all_filter P (λ c. below (change_key c) key) cs a.0, (all_filter P (λ c. not (below (change_key c) key)) cs a.0, a.1))
all_parted P (suc p) key (cs ∷ mem) a = (a.0, all_parted P p key mem a.1)

-- what is held stays behind the streams
pub behind_parted : (ss : List StreamAt) (p : ℕ) (key : List ℕ) (mem new : Memory) → new ≡ parted_at p key mem → IsTrue (are_behind ss mem) → IsTrue (are_behind ss new)
behind_parted ss p key mem new e h = subst (λ (m : Memory). IsTrue (are_behind ss m)) (sym e)
    (behind_true ss (parted_at p key mem) (all_map (λ a. AreBehind a mem) (λ a. AreBehind a (parted_at p key mem)) ss (λ a. all_parted (IsBehind a) p key mem) (true_behind ss mem h)))

-- as many are held as there are partitions
pub still_as_many : (es mid now : List PartEntry) (xs ys : List Changes) (number : ℕ) (key : List ℕ) → length xs ≡ length es → IsSplit es key mid number → map part_of_entry now ≡ map part_of_entry mid
    → map held_in ys ≡ parted_at (number - 1) key (map held_in xs) → length ys ≡ length now
still_as_many es mid now xs ys number key l s p e =
    let place = place_within es mid key number s in
    let within : number - 1 < length (map held_in xs) = omega (arith, place.1, length-map xs held_in, l) in
    let held : length ys ≡ length (map held_in xs) + 1 = sym (length-map ys held_in) ∙ ap length e ∙ parted_length (number - 1) key (map held_in xs) within in
    let entries : length now ≡ length es + 1 = same_count now mid p ∙ entries_more es mid key number s in
    omega (arith, held, entries, length-map xs held_in, l)

-- ---- the names

named_by : (c : Change) (cs : List Change) (ns : List (List ℕ × ℕ)) (b : Bool) → map name_of cs ≡ ns → map name_of (cond b (c ∷ cs) cs) ≡ cond b (name_of c ∷ ns) ns
named_by c cs ns true e = ap (λ (x : List (List ℕ × ℕ)). name_of c ∷ x) e
named_by c cs ns false e = e

filter_named : (test : List ℕ → Bool) (cs : List Change) → map name_of (filter (λ c. test (change_key c)) cs) ≡ filter (λ n. test n.0) (map name_of cs)
filter_named test [] = refl
filter_named test (c ∷ cs) = named_by c (filter (λ c. test (change_key c)) cs) (filter (λ n. test n.0) (map name_of cs)) (test (change_key c)) (filter_named test cs)

abbrev names_in : Memory → List (List (List ℕ × ℕ))
names_in mem = map (map name_of) mem

names_by : (key : List ℕ) (cs : List Change) (mem others : Memory) (ns : List (List (List ℕ × ℕ))) (b : Bool) → names_in others ≡ ns
    → names_in (cond b (lower key cs ∷ upper key cs ∷ mem) (cs ∷ others)) ≡ cond b (filter (λ n. below n.0 key) (map name_of cs) ∷ filter (λ n. not (below n.0 key)) (map name_of cs) ∷ names_in mem) (map name_of cs ∷ ns)
names_by key cs mem others ns true e = ap₂ (λ (x y : List (List ℕ × ℕ)). x ∷ y ∷ names_in mem) (filter_named (λ k. below k key) cs) (filter_named (λ k. not (below k key)) cs)
names_by key cs mem others ns false e = ap (λ (x : List (List (List ℕ × ℕ))). map name_of cs ∷ x) e

names_split : (key : List ℕ) (mem : Memory) (rs : List Range) → names_in (split_memory key mem rs) ≡ split_pending key (names_in mem) rs
names_split key [] rs = refl
names_split key (cs ∷ mem) [] = refl
names_split key (cs ∷ mem) (r ∷ rs) = names_by key cs mem (split_memory key mem rs) (split_pending key (names_in mem) rs) (in_range key r) (names_split key mem rs)

-- ---- the state

abbrev rebuilt : Catalogue → Numbers → List StreamAt → List Part → List (List (List ℕ × ℕ)) → State
rebuilt cat n ss ps ns = record {
  durable = record { limit = n.limit; generation = n.generation; catalogue = cat; minimum = 0; next_id = n.next_id; parts = ps; streams = map (λ a. record { low = a.header.range.low; points = [] }) ss; shelf = [] };
  streams = ss;
  pending = ns;
  job = None;
  broken = None;
}

pub state_split : (cat : Catalogue) (n : Numbers) (es new : List PartEntry) (ss : List StreamAt) (mem after : Memory) (key : List ℕ) → map part_of_entry new ≡ split_parts key (map part_of_entry es) (part_ranges (map part_of_entry es))
    → after ≡ split_memory key mem (part_ranges (map part_of_entry es)) → state_with cat (next_numbers n) new ss after ≡ was_split (state_with cat n es ss mem) key
state_split cat n es new ss mem after key p m = ap₂ (rebuilt cat (next_numbers n) ss) p (ap names_in m ∙ names_split key mem (part_ranges (map part_of_entry es)))

pub does_split : (f : Feed) (source : List Change) (cat : Catalogue) (s s' : State) (name : List ℕ) (ls : List Literal) (key : List ℕ) (number : ℕ) → s.durable.catalogue ≡ cat → (k : IsSplitKey cat name ls key) → number ≡ part_of (ranges_of s.durable) key + 1 → s' ≡ was_split s key
    → Does f source s (do_split name ls) (replies (split_done number)) s'
does_split f source cat s s' name ls key number c k n e = (
  k.table,
  ap (λ (x : Catalogue). table_named x name) c ∙ k.named,
  ap (λ (m : ℕ). replies (split_done m)) (n ∙ ap (λ (x : List ℕ). part_of (ranges_of s.durable) x + 1) k.is),
  e ∙ ap (was_split s) k.is,
)

pub number_is : (es : List PartEntry) (key : List ℕ) (number : ℕ) → number ≡ part_of (ranges es) key + 1 → number ≡ part_of (part_ranges (map part_of_entry es)) key + 1
number_is es key number e = e ∙ ap (λ (rs : List Range). part_of rs key + 1) (sym (ranges_are es))

pub memory_of_key : (cat : Catalogue) (name : List ℕ) (ls : List Literal) (key : List ℕ) (mem new : Memory) (rs : List Range) → (k : IsSplitKey cat name ls key) → new ≡ split_memory key mem rs → new ≡ split_memory (split_key k.table ls) mem rs
memory_of_key cat name ls key mem new rs k e = e ∙ ap (λ (x : List ℕ). split_memory x mem rs) k.is

-- ---- the lists of changes

held_at : (xs : List Changes) (p : ℕ) (x : Changes) → p < length xs → x ≡ get_or xs p x → get_or (map held_in xs) p [] ≡ held_in x
held_at [] p x l e = absurd (omega (arith, l))
held_at (y ∷ xs) zero x l e = ap held_in (sym e)
held_at (y ∷ xs) (suc p) x l e = held_at xs p x (omega (arith, l)) e

-- what one of them holds from a key on
pub upper_held : (key : List ℕ) (xs : List Changes) (p : ℕ) (x high : Changes) → p < length xs → x ≡ get_or xs p x → held_in high ≡ upper key (held_in x) → held_in high ≡ upper_at p key (map held_in xs)
upper_held key xs p x high l e h = h ∙ ap (upper key) (sym (held_at xs p x l e))

-- the upper half behind, and then the lower half in the partition's place
held_parted : (key : List ℕ) (xs : List Changes) (p : ℕ) (x low high : Changes) → p < length xs → x ≡ get_or (insert xs (suc p) high) p x → held_in low ≡ lower key (held_in x) → held_in high ≡ upper_at p key (map held_in xs)
    → map held_in (set (insert xs (suc p) high) p low) ≡ parted_at p key (map held_in xs)
held_parted key [] p x low high l e a b = absurd (omega (arith, l))
held_parted key (y ∷ xs) zero x low high l e a b = ap₂ (λ (u v : List Change). u ∷ v ∷ map held_in xs) (a ∙ ap (λ (z : Changes). lower key (held_in z)) e) b
held_parted key (y ∷ xs) (suc p) x low high l e a b = ap (λ (m : Memory). held_in y ∷ m) (held_parted key xs p x low high (omega (arith, l)) e a b)

pub held_split : (key : List ℕ) (xs : List Changes) (p : ℕ) (x low high : Changes) → p < length xs → x ≡ get_or (insert xs (p + 1) high) p x → held_in low ≡ lower key (held_in x) → held_in high ≡ upper_at p key (map held_in xs)
    → map held_in (set (insert xs (p + 1) high) p low) ≡ parted_at p key (map held_in xs)
held_split key xs p x low high l e a b =
    ap (λ (n : ℕ). map held_in (set (insert xs n high) p low)) (add-one p) ∙ held_parted key xs p x low high l (subst (λ (n : ℕ). x ≡ get_or (insert xs n high) p x) (add-one p) e) a b
