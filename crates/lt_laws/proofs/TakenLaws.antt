-- What a pump takes: the changes of fair items are keyed, items that were taken are a front of the stream's front, and they compose.
use Rattle.std.proofs.Common.{Bool, List, [], ap, append-nil, append_assoc, ap₂, arith, cond, drop, false, length, not, refl, subst, sym, true, ℕ, ◌++◌, ◌+◌, ◌<◌, ◌∙◌, ◌∷◌, ◌≡◌, ◌≤◌}
use Rattle.std.specs.Prelude.{IsTrue, None, Option, Some, find, flat_map, fold, if◌then◌else◌, is_none, map, nat_lt, option_and_then, option_map, ◌&&◌, ◌==◌, ◌^◌, ◌||◌}
use Rattle.std.specs.List.{AllByRecursion, list_all}
use Rattle.std.proofs.lemmas.Bool.{and_from, and_parts, not-false}
use Rattle.std.specs.Option.{option_map_or}
use Rattle.std.proofs.lemmas.List.{drop-drop, drop_at, length-append}
use Rattle.std.proofs.lemmas.List.Concat.{flat_map-append}
use Rattle.std.proofs.lemmas.List.Sums.{fold-append}
use Rattle.lt_terms.specs.Log.{Change, Header, Item, batch_item, change_item, change_key, changes_in, changes_of, checkpoint_item, close_item, header_item, is_change, is_content, is_item, spelled}
use Rattle.lt_terms.specs.declared.Format.{Format}
use Rattle.lt_terms.specs.Value.{is_number}
use Rattle.lt_terms.specs.Key.{Range, in_range}
use Rattle.lt_world.specs.Feed.{Feed, stream_bytes}
use Rattle.lt_tables.specs.Schema.{Catalogue, Column, Table, registered, table_numbered, when}
use Rattle.lt_tables.specs.Fair.{AllSuccessorsStand, IsPrefix, SuccessorsStand, bad_shape, breaks, change_fault, changes_fault, checkpoint_of, fair_after, has_change_shape, header_length, is_close, is_closed, is_fair, item_fault, out_of_range, place_after, point_after, point_of, unknown_table_number, unknown_version_number}
use Rattle.lt_tables.specs.Row.{AreKeyed, IsKeyed, changes_up_to, in_time, row_after, row_at, snapshot}
use Rattle.lt_tables.specs.Pump.{Part, StreamAt, Takes, all_delivered, behind_header, moved_by, no_point, put_name}
use Rattle.lt_machine.specs.Sound.{Fronts, FrontsFrom, source_of}
use Rattle.lt_machine.specs.Machine.{State, ranges_of, stream_at, with_items}
use Rattle.lt_codecs.proofs.ListFacts.{all_append, all_both, all_front, all_rest, or_left, or_right}
use Rattle.lt_codecs.proofs.LogLaws.{frames_prefix_free}
use Rattle.lt_lemmas.proofs.TakenLaws.{any_append, made_same, moved_append, number_fits, shape_key, spelled_length, spelled_one}
use Rattle.lt_lemmas.proofs.ListFacts.{when_none}
use Rattle.lt_lemmas.proofs.RowLemmas.{reads_in_order}
use Rattle.lt_lemmas.proofs.PointLaws.{changes_of-append, left, point_suffices, right}
use Rattle.lt_laws.proofs.FrontLaws.{Front, begins, fair_front, first_fair, points_after}
use Rattle.lt_laws.proofs.FairLaws.{fair_in_time, key_stays_by}
use Rattle.lt_laws.proofs.SnapshotLaws.{snapshot_by_rows}
use Rattle.lt_laws.proofs.SoundLaws.{checkpoint-is}

-- ---- the changes of a fair list

-- a change that breaks no rule behind some items
abbrev pub Passes : Header → Catalogue → Change → Type 0
Passes h cat c = (before : List Item) × (change_fault h cat before c ≡ None)

changes_pass : (h : Header) (cat : Catalogue) (before : List Item) (cs : List Change) → changes_fault h cat before cs ≡ None → AllByRecursion (Passes h cat) cs
changes_pass h cat before [] e = tt
changes_pass h cat before (c ∷ cs) e = ((before, or_left _ _ e), changes_pass h cat (before ++ change_item c ∷ []) cs (or_right (change_fault h cat before c) _ e))

item_passes : (h : Header) (cat : Catalogue) (before : List Item) (i : Item) → item_fault h cat before i ≡ None → AllByRecursion (Passes h cat) (changes_in i)
item_passes h cat before (header_item k) e = tt
item_passes h cat before (change_item c) e = ((before, e), tt)
item_passes h cat before (checkpoint_item t) e = tt
item_passes h cat before (batch_item t cs) e = changes_pass h cat before cs e
item_passes h cat before (close_item first count) e = tt

passes_after : (h : Header) (cat : Catalogue) (before items : List Item) → fair_after h cat before items ≡ true → AllByRecursion (Passes h cat) (changes_of items)
passes_after h cat before [] f = tt
passes_after h cat before (i ∷ items) f = all_append (Passes h cat) (changes_in i) (changes_of items) (item_passes h cat before i (first_fair h cat before i items f))
    (passes_after h cat (before ++ i ∷ []) items (and_parts (is_none _) _ f).1)

pub fair_passes : (h : Header) (cat : Catalogue) (items : List Item) → is_fair h cat items ≡ true → AllByRecursion (Passes h cat) (changes_of items)
fair_passes h cat items f = passes_after h cat [] items f

-- ---- and of lawful items

pub change_lawful : (f : Format) (c : Change) → IsTrue (is_item f (change_item c)) → IsTrue (is_change c)
change_lawful f c h = (and_parts (is_change c) _ h).0

batch_lawful : (t : ℕ) (cs : List Change) → list_all (λ c. is_change c && c.ts == t) cs ≡ true → AllByRecursion (λ c. IsTrue (is_change c)) cs
batch_lawful t [] h = tt
batch_lawful t (c ∷ cs) h = let p = and_parts (is_change c && c.ts == t) (list_all (λ c. is_change c && c.ts == t) cs) h in ((and_parts (is_change c) (c.ts == t) p.0).0, batch_lawful t cs p.1)

item_lawful : (f : Format) (i : Item) → IsTrue (is_item f i) → AllByRecursion (λ c. IsTrue (is_change c)) (changes_in i)
item_lawful f (header_item k) h = tt
item_lawful f (change_item c) h = (change_lawful f c h, tt)
item_lawful f (checkpoint_item t) h = tt
item_lawful f (batch_item t cs) h = batch_lawful t cs (and_parts _ (list_all (λ c. is_change c && c.ts == t) cs) (and_parts (is_content f (batch_item t cs)) _ h).0).1
item_lawful f (close_item first count) h = tt

pub lawful_changes : (f : Format) (items : List Item) → AllByRecursion (λ i. IsTrue (is_item f i)) items → AllByRecursion (λ c. IsTrue (is_change c)) (changes_of items)
lawful_changes f [] a = tt
lawful_changes f (i ∷ items) a = all_append (λ c. IsTrue (is_change c)) (changes_in i) (changes_of items) (item_lawful f i a.0) (lawful_changes f items a.1)

-- ---- their keys are of the tables' kinds

table_fits : (c : Change) → IsTrue (is_change c) → c.table < 2 ^ 32
table_fits c l = number_fits c.table (right _ (is_number c.table) (left _ _ (left _ _ (left _ _ (left _ _ (left _ _ (left _ _ (left _ _ (left _ _ (left _ _ l))))))))))

-- a change that passes has the shape of its version
pub change_shaped : (h : Header) (cat : Catalogue) (before : List Item) (c : Change) → change_fault h cat before c ≡ None
    → option_map_or (λ t. option_map_or (λ r. has_change_shape t r c) (option_and_then (λ t. registered t c.version) (table_numbered cat c.table)) false) (table_numbered cat c.table) false ≡ true
change_shaped h cat before c e =
    let t = table_numbered cat c.table in
    let r = option_and_then (λ (t : Table). registered t c.version) t in
    not-false _ (when_none _ bad_shape (or_left _ _ (or_right (when (is_none r) (unknown_version_number c.version)) _ (or_right (when (is_none t) (unknown_table_number c.table)) _
    (or_right (when (not (in_range (change_key c) h.range)) out_of_range) _ e)))))

pub change_keyed : (h : Header) (cat : Catalogue) (c : Change) → Passes h cat c → IsTrue (is_change c) → IsKeyed cat c
change_keyed h cat c p l = (table_fits c l, shape_key (table_numbered cat c.table) (option_and_then (λ t. registered t c.version) (table_numbered cat c.table)) c (change_shaped h cat p.0 c p.1))

-- the changes of fair and lawful items are keyed
pub fair_keyed : (h : Header) (cat : Catalogue) (items : List Item) → is_fair h cat items ≡ true → AllByRecursion (λ i. IsTrue (is_item h.format i)) items → AreKeyed cat (changes_of items)
fair_keyed h cat items f a = all_both (Passes h cat) (λ c. IsTrue (is_change c)) (IsKeyed cat) (changes_of items) (change_keyed h cat) (fair_passes h cat items f) (lawful_changes h.format items a)

keyed_from : (feed : Feed) (cat : Catalogue) (n : ℕ) (fs : List (Header × List Item)) → FrontsFrom feed cat n fs → AreKeyed cat (source_of fs)
keyed_from feed cat n [] a = tt
keyed_from feed cat n (f ∷ fs) a = all_append (IsKeyed cat) (changes_of f.1) (source_of fs) (fair_keyed f.0 cat f.1 a.2.fair a.2.lawful) (keyed_from feed cat (n + 1) fs a.3)

-- and so are those of the fronts of a feed
pub source_keyed : (feed : Feed) (cat : Catalogue) (fs : List (Header × List Item)) → Fronts feed cat fs → AreKeyed cat (source_of fs)
source_keyed feed cat fs p = keyed_from feed cat 0 fs p.each

-- ---- a safe moment

-- Up to the checkpoint of some first items a key has the changes that these have.
pub safe_changes : (h : Header) (cat : Catalogue) (xs ys : List Item) (key : List ℕ) (t : ℕ) → is_fair h cat (xs ++ ys) ≡ true → t ≤ checkpoint_of h xs
    → changes_up_to key t (changes_of (xs ++ ys)) ≡ changes_up_to key t (changes_of xs)
safe_changes h cat xs ys key t f l = key_stays_by h cat xs ys key t (in_range key h.range) refl f (λ e. l)

-- so its row stays
pub safe_row : (h : Header) (cat : Catalogue) (xs ys : List Item) (key : List ℕ) (t : ℕ) → is_fair h cat (xs ++ ys) ≡ true → t ≤ checkpoint_of h xs → row_at (changes_of (xs ++ ys)) key t ≡ row_at (changes_of xs) key t
safe_row h cat xs ys key t f l = ap (λ cs. row_after (in_time cs)) (safe_changes h cat xs ys key t f l)

-- and the snapshots at that moment agree
pub safe_snapshot : (h : Header) (cat : Catalogue) (xs ys : List Item) (table : Table) (columns : List Column) (t : ℕ) → is_fair h cat (xs ++ ys) ≡ true → AllByRecursion (λ i. IsTrue (is_item h.format i)) (xs ++ ys) → t ≤ checkpoint_of h xs
    → snapshot (changes_of (xs ++ ys)) table columns t ≡ snapshot (changes_of xs) table columns t
safe_snapshot h cat xs ys table columns t f a l = snapshot_by_rows cat (changes_of (xs ++ ys)) (changes_of xs) table columns t (fair_keyed h cat (xs ++ ys) f a)
    (fair_keyed h cat xs (fair_front h cat xs ys f).0 (all_front (λ i. IsTrue (is_item h.format i)) xs ys a)) (λ key. safe_row h cat xs ys key t f l)

-- ---- in a fair list each key's changes stand in order of time, so its row takes them in the list's order

pub row_in_order : (h : Header) (cat : Catalogue) (items : List Item) (key : List ℕ) (t : ℕ) → is_fair h cat items ≡ true → row_at (changes_of items) key t ≡ row_after (changes_up_to key t (changes_of items))
row_in_order h cat items key t f = reads_in_order (changes_of items) key t (fair_in_time h cat items f key)

-- ---- items that were taken

-- a stream that stands behind some first items
abbrev pub stream_behind : Header → List Item → StreamAt
stream_behind h before = record { header = h; offset = place_after h before; point = point_of h before; closed = is_closed before }

pub begins_behind : (h : Header) → behind_header h ≡ stream_behind h []
unfolding point_of
begins_behind h = made_same h (header_length h) (header_length h + 0) (no_point h.from) (no_point h.from) false false (omega arith) refl refl

-- where items follow fairly, the stream moves behind them
pub moved_behind : (h : Header) (cat : Catalogue) (before items : List Item) → is_fair h cat (before ++ items) ≡ true → moved_by items (stream_behind h before) ≡ stream_behind h (before ++ items)
moved_behind h cat before items f = made_same h (place_after h before + length (flat_map spelled items)) (place_after h (before ++ items)) (fold point_after (point_of h before) items) (point_of h (before ++ items))
    (is_closed before || is_closed items) (is_closed (before ++ items)) (omega (arith, spelled_length before items)) (sym (points_after h cat before items f)) (sym (any_append is_close before items))

drop_front : (bytes front rest : List ℕ) (o n : ℕ) → drop o bytes ≡ front ++ rest → length front ≡ n → drop (o + n) bytes ≡ rest
drop_front bytes front rest o n e l = sym (drop-drop n o bytes) ∙ ap (drop n) e ∙ drop_at front rest n l

-- the bytes at a stream's place are those of what was taken, and then the rest
pub takes_spells : (feed : Feed) (cat : Catalogue) (a : StreamAt) (items : List Item) (rest : List ℕ) → Takes feed cat a items rest → drop a.offset (stream_bytes feed a.header.stream) ≡ flat_map spelled items ++ rest
takes_spells feed cat a [] rest t = sym t
takes_spells feed cat a (i ∷ items) rest t =
    let bytes = stream_bytes feed a.header.stream in
    let more : drop (a.offset + length (flat_map spelled (i ∷ []))) bytes ≡ t.1.0 = drop_front bytes (spelled i) t.1.0 a.offset (length (flat_map spelled (i ∷ []))) t.1.1 (ap length (sym (spelled_one i))) in
    t.1.1 ∙ ap (λ (x : List ℕ). spelled i ++ x) (sym more ∙ takes_spells feed cat (moved_by (i ∷ []) a) items rest t.4) ∙ sym (append_assoc (spelled i) (flat_map spelled items) rest)

-- what was taken behind some items: lawful items that follow them fairly, and whose successors stand
pub record AreTaken (feed : Feed) (cat : Catalogue) (h : Header) (before items : List Item) : Type 0 where
  pub lawful : AllByRecursion (λ i. IsTrue (is_item h.format i)) items
  pub fair : fair_after h cat before items ≡ true
  pub stand : AllSuccessorsStand feed h before items

pub fair_join : (h : Header) (cat : Catalogue) (before is js : List Item) → fair_after h cat before is ≡ true → fair_after h cat (before ++ is) js ≡ true → fair_after h cat before (is ++ js) ≡ true
fair_join h cat before [] js f g = subst (λ (x : List Item). fair_after h cat x js ≡ true) (append-nil before) g
fair_join h cat before (i ∷ is) js f g = let p = and_parts (is_none (breaks h cat before i)) (fair_after h cat (before ++ i ∷ []) is) f in
    and_from _ _ p.0 (fair_join h cat (before ++ i ∷ []) is js p.1 (subst (λ (x : List Item). fair_after h cat x js ≡ true) (sym (append_assoc before (i ∷ []) is)) g))

pub fair_more : (h : Header) (cat : Catalogue) (is js : List Item) → is_fair h cat is ≡ true → fair_after h cat is js ≡ true → is_fair h cat (is ++ js) ≡ true
fair_more h cat is js f g = fair_join h cat [] is js f g

pub are_taken : (feed : Feed) (cat : Catalogue) (h : Header) (before items : List Item) (rest : List ℕ) → is_fair h cat before ≡ true → Takes feed cat (stream_behind h before) items rest → AreTaken feed cat h before items
are_taken feed cat h before [] rest f t = record { lawful = tt; fair = refl; stand = tt }
are_taken feed cat h before (i ∷ items) rest f t =
    let e : breaks h cat before i ≡ None = sym (point_suffices.test h cat before i f) ∙ t.2 in
    let one : fair_after h cat before (i ∷ []) ≡ true = and_from _ true (ap is_none e) refl in
    let g : is_fair h cat (before ++ i ∷ []) ≡ true = fair_more h cat before (i ∷ []) f one in
    let others = are_taken feed cat h (before ++ i ∷ []) items rest g (subst (λ (a : StreamAt). Takes feed cat a items rest) (moved_behind h cat before (i ∷ []) g) t.4) in record {
      lawful = (t.0, others.lawful);
      fair = and_from _ _ (ap is_none e) others.fair;
      stand = (subst (λ (u : ℕ). SuccessorsStand feed h u i) (checkpoint-is h before) t.3, others.stand);
    }

-- Behind some items of a front stand its other items.
pub behind_spells : (feed : Feed) (cat : Catalogue) (h : Header) (before more : List Item) (p : IsPrefix feed cat h (before ++ more)) → drop (place_after h before) (stream_bytes feed h.stream) ≡ flat_map spelled more ++ p.rest
behind_spells feed cat h before more p =
    let parted : stream_bytes feed h.stream ≡ (spelled (header_item h) ++ flat_map spelled before) ++ (flat_map spelled more ++ p.rest) = p.spells
    ∙ ap (λ (x : List ℕ). spelled (header_item h) ++ (x ++ p.rest)) (flat_map-append spelled before more)
    ∙ ap (λ (x : List ℕ). spelled (header_item h) ++ x) (append_assoc (flat_map spelled before) (flat_map spelled more) p.rest)
    ∙ sym (append_assoc (spelled (header_item h)) (flat_map spelled before) (flat_map spelled more ++ p.rest)) in
    ap (drop (place_after h before)) parted ∙ drop_at (spelled (header_item h) ++ flat_map spelled before) (flat_map spelled more ++ p.rest) (place_after h before) (length-append (spelled (header_item h)) (flat_map spelled before))

-- Items taken behind a front of the stream's front go on as it goes on.
pub taken_goes_on : (feed : Feed) (cat : Catalogue) (h : Header) (before more items : List Item) (rest : List ℕ) → IsPrefix feed cat h (before ++ more) → Takes feed cat (stream_behind h before) items rest → Front items more
taken_goes_on feed cat h before more items rest p t =
    let a = are_taken feed cat h before items rest (fair_front h cat before more p.fair).0 t in
    begins frames_prefix_free feed cat h before items more rest p.rest a.lawful (all_rest (λ i. IsTrue (is_item h.format i)) before more p.lawful) a.fair a.stand
    (sym (takes_spells feed cat (stream_behind h before) items rest t) ∙ behind_spells feed cat h before more p) p.longest

-- What is taken from behind the header on is a front of the stream's front.
pub taken_is_front : (feed : Feed) (cat : Catalogue) (h : Header) (items front : List Item) (rest : List ℕ) → IsPrefix feed cat h front → Takes feed cat (behind_header h) items rest → Front items front
taken_is_front feed cat h items front rest p t = taken_goes_on feed cat h [] front items rest p (subst (λ (a : StreamAt). Takes feed cat a items rest) (begins_behind h) t)

-- ---- a state after items

moved_where : (b : Bool) (xs ys : List Item) (a : StreamAt) → cond b (moved_by (xs ++ ys) a) a ≡ cond b (moved_by ys (cond b (moved_by xs a) a)) (cond b (moved_by xs a) a)
moved_where true xs ys a = moved_append xs ys a
moved_where false xs ys a = refl

header_where : (b : Bool) (xs : List Item) (a : StreamAt) → (cond b (moved_by xs a) a).header ≡ a.header
header_where true xs a = refl
header_where false xs a = refl

streams_append : (n : ℕ) (xs ys : List Item) (ss : List StreamAt)
    → map (λ a. if a.header.stream == n then moved_by (xs ++ ys) a else a) ss ≡ map (λ a. if a.header.stream == n then moved_by ys a else a) (map (λ a. if a.header.stream == n then moved_by xs a else a) ss)
streams_append n xs ys [] = refl
streams_append n xs ys (a ∷ ss) =
    let b = a.header.stream == n in
    let same_test : ((cond b (moved_by xs a) a).header.stream == n) ≡ b = ap (λ (h : Header). h.stream == n) (header_where b xs a) in
    ap₂ (λ (x : StreamAt) (r : List StreamAt). x ∷ r) (moved_where b xs ys a ∙ ap (λ (c : Bool). cond c (moved_by ys (cond b (moved_by xs a) a)) (cond b (moved_by xs a) a)) (sym same_test)) (streams_append n xs ys ss)

all_delivered_append : (cs ds : List Change) (rs : List Range) (ps : List Part) (names : List (List (List ℕ × ℕ))) → all_delivered (cs ++ ds) rs ps names ≡ all_delivered ds rs ps (all_delivered cs rs ps names)
all_delivered_append cs ds [] ps names = refl
all_delivered_append cs ds (r ∷ rs) [] names = refl
all_delivered_append cs ds (r ∷ rs) (p ∷ ps) [] = refl
all_delivered_append cs ds (r ∷ rs) (p ∷ ps) (ns ∷ rest) = ap₂ (λ (x : List (List ℕ × ℕ)) (xs : List (List (List ℕ × ℕ))). x ∷ xs)
    (fold-append (λ ns c. if in_range (change_key c) r && nat_lt p.resume c.ts then put_name (change_key c, c.ts) ns else ns) ns cs ds) (all_delivered_append cs ds rs ps rest)

-- items one after the other leave what they leave together
pub with_items_append : (n : ℕ) (xs ys : List Item) (s : State) → with_items n (xs ++ ys) s ≡ with_items n ys (with_items n xs s)
with_items_append n xs ys s = ap₂ (λ (ss : List StreamAt) (ps : List (List (List ℕ × ℕ))). record s { streams = ss; pending = ps }) (streams_append n xs ys s.streams)
    (ap (λ (cs : List Change). all_delivered cs (ranges_of s.durable) s.durable.parts s.pending) (changes_of-append xs ys) ∙ all_delivered_append (changes_of xs) (changes_of ys) (ranges_of s.durable) s.durable.parts s.pending)

found_moved : (n : ℕ) (items : List Item) (a : StreamAt) (b : Bool) (o p : Option StreamAt) → (a.header.stream == n) ≡ b → o ≡ option_map (moved_by items) p
    → cond b (Some (cond b (moved_by items a) a)) o ≡ option_map (moved_by items) (cond b (Some a) p)
found_moved n items a true o p e h = refl
found_moved n items a false o p e h = h

streams_moved : (n : ℕ) (items : List Item) (ss : List StreamAt) → find (λ (a : StreamAt). a.header.stream == n) (map (λ a. if a.header.stream == n then moved_by items a else a) ss) ≡ option_map (moved_by items) (find (λ (a : StreamAt). a.header.stream == n) ss)
streams_moved n items [] = refl
streams_moved n items (a ∷ ss) =
    let b = a.header.stream == n in
    let others = map (λ (a : StreamAt). if a.header.stream == n then moved_by items a else a) ss in
    ap (λ (c : Bool). cond c (Some (cond b (moved_by items a) a)) (find (λ (a : StreamAt). a.header.stream == n) others)) (ap (λ (h : Header). h.stream == n) (header_where b items a))
    ∙ found_moved n items a b (find (λ (a : StreamAt). a.header.stream == n) others) (find (λ (a : StreamAt). a.header.stream == n) ss) refl (streams_moved n items ss)

-- the stream of the items stands behind them
pub stream_moved : (n : ℕ) (items : List Item) (s : State) → stream_at (with_items n items s) n ≡ option_map (moved_by items) (stream_at s n)
stream_moved n items s = streams_moved n items s.streams
