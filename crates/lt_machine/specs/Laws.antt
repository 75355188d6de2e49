-- Laws in the subject's words, over the definitions alone. Each is a type; its proof is owed where a contract names it.
use Rattle.std.specs.Prelude.{Bool, Contains, IsTrue, List, None, Ok, Some, [], drop, false, find, flat_map, if◌then◌else◌, length, map, nat_le, nat_lt, not, option_map, true, ℕ, ⊤, ◌&&◌, ◌++◌, ◌+◌, ◌<◌, ◌==◌, ◌^◌, ◌∷◌, ◌≡◌, ◌≤◌, ◌⊎◌}
use Rattle.std.specs.Option.{option_map_or}
use Rattle.std.specs.Str.{is_utf8}
use Rattle.std.specs.List.{AllByRecursion, list_all}
use Rattle.lt_terms.specs.declared.Rank.{Rank}
use Rattle.lt_terms.specs.Value.{Fields, Value, bool_value, bytes_value, field_value, fits_32, fits_64, int_value, no_fields, null_value, rises_above, struct_value, text_value}
use Rattle.lt_terms.specs.Kind.{FieldKinds, Kind, has_rank, has_shape, is_struct, kind_at, kinds_of, rank_number, rank_of}
use Rattle.lt_terms.specs.Conversion.{at_rank, conv}
use Rattle.lt_terms.specs.Layout.{Cell, Leaf, are_lawful, coerce, flatten, layout_of, same_leaf, setting, unflatten}
use Rattle.lt_terms.specs.Key.{Range, common, in_range, is_empty_range, same_key}
use Rattle.lt_terms.specs.Log.{Change, Header, Item, changes_of, is_item, is_read}
use Rattle.lt_world.specs.Feed.{Feed, Grows, stream_bytes}
use Rattle.lt_tables.specs.Schema.{Became, Catalogue, Column, IsCatalogue, Registered, Table, carriers, clash, registered, table_numbered}
use Rattle.lt_tables.specs.Version.{ComposeLaws, IsMerge, RowVersion, asof, clip, coerce_all, collapse, effect_of, is_ordered, merge}
use Rattle.lt_tables.specs.Row.{AreKeyed, Entry, ReadsInOrder, changes_up_to, row_after, row_at, snapshot}
use Rattle.lt_tables.specs.Fair.{HasHeader, IsPrefix, PointSuffices, checkpoint_of, is_fair}
use Rattle.lt_tables.specs.Query.{Command, Query, answer, do_flush, do_pump, do_schema}
use Rattle.lt_tables.specs.Pump.{Stop, StopsBy, StreamAt, Takes, moved_by}
use Rattle.lt_words.specs.Reply.{Refusal, Reply, out_of_memory}
use Rattle.lt_storage.specs.Store.{AreLawfulTables, Delta, IsLayout, bare_entry, carried_versions, entries_rise}
use Rattle.lt_storage.specs.Bundle.{cut}
use Rattle.lt_machine.specs.Sound.{AreTiling, FailedIsLater, FailedIsSound, Fronts, GrowthKeeps, IsGood, OpeningIsGood, ScanIsSnapshot, SoundGrows, Stands, StepKeeps, source_of, up_to_ts}
use Rattle.lt_machine.specs.Claims.{abuts}
use Rattle.lt_machine.specs.Machine.{Answer, CheckpointsStay, State, Step, cat_of, fresh, is_reopen, opened, query_interval, refused, with_items}
use Rattle.lt_machine.specs.Run.{AfterFault}
use Rattle.lt_machine.specs.Outside.{HeldScans}
use Rattle.lt_terms.specs.declared.Rank.TheVariants as rank

-- ---- conversion

-- The rank that a value has by itself: a number from -2^31 to 2^31 - 1 counts as Int32, any other as Int64.
abbrev pub own_rank : Value → Rank
own_rank null_value = rank.Bool
own_rank (bool_value b) = rank.Bool
own_rank (int_value z) = if fits_32 z then rank.Int32 else rank.Int64
own_rank (text_value t) = rank.Text
own_rank (bytes_value b) = rank.Bytes
own_rank (struct_value fs) = rank.Bool

-- A value's leaf ranks and fields lie within a kind: each leaf's own rank is at most the kind's there, a struct stands only where the
-- kind has one, with fields that it has.
abbrev mutual
  pub lies_within : Value → Kind → Bool
  lies_within (struct_value fs) k = fields_within fs (kinds_of k) && is_struct k
  lies_within null_value k = true
  lies_within (bool_value b) k = not (is_struct k)
  lies_within (int_value z) k = not (is_struct k) && fits_64 z && nat_le (rank_number (own_rank (int_value z))) (rank_number (rank_of k))
  lies_within (text_value t) k = not (is_struct k) && is_utf8 t && nat_le 4 (rank_number (rank_of k))
  lies_within (bytes_value b) k = not (is_struct k) && nat_le 5 (rank_number (rank_of k))

  pub fields_within : Fields → FieldKinds → Bool
  fields_within no_fields ks = true
  fields_within (field_value n v fs) ks = option_map_or (lies_within v) (kind_at n ks) false && fields_within fs ks

-- of the places that both have, the second is a struct exactly where the first is
abbrev pub is_struct_where : Kind → Kind → Bool
is_struct_where c k = not (clash c k)

pub record ConversionLaws : Type 0 where
  -- what went up comes down as it was
  pub up_down : (r s : Rank) (v : Value) → IsTrue (has_rank r v) → rank_number r ≤ rank_number s → at_rank r (at_rank s v) ≡ v
  -- what comes down goes up as it was, or there is none
  pub down_up : (r s : Rank) (v : Value) → IsTrue (has_rank s v) → rank_number r < rank_number s → (at_rank r v ≡ null_value) ⊎ (at_rank s (at_rank r v) ≡ v)
  -- by way of a carrier a value reads as it does at once
  pub through : (v : Value) (c k : Kind) → IsTrue (lies_within v c) → IsTrue (is_struct_where c k) → conv (conv v c) k ≡ conv v k

-- ---- leaves

-- the settings are of the columns' kinds
abbrev pub are_settings : List (ℕ × Kind) → List (ℕ × Value) → Bool
are_settings columns set = list_all (λ s. option_map_or (λ c. has_shape s.1 c.1) (find (λ c. c.0 == s.0) columns) false) set

-- what was set reads back from the cells, and what was not set reads as unset
abbrev pub FlattensBack : Type 0
FlattensBack = (columns : List (ℕ × Kind)) (set : List (ℕ × Value)) (n : ℕ) → IsLayout (layout_of columns) → IsTrue (are_settings columns set) → IsTrue (rises_above 0 (map (λ s. s.0) set))
    → unflatten (layout_of columns) (flatten (layout_of columns) set) n ≡ setting n set

-- ---- from one layout to another

-- A layout stands between two where it has each leaf of the first whose column the last has, with the same presence and at least its rank,
-- and where its leaves have, at the places of the last one's, the same presence; a presence leaf is a Bool in both.
pub record StandsBetween (from via to : List Leaf) : Type 0 where
  pub layout : IsLayout via
  pub wide : (a b : Leaf) → Contains from a → Contains to b → a.column ≡ b.column → (l : Leaf) × Contains via l × IsTrue (same_leaf l a) × (l.presence ≡ a.presence) × (rank_number a.rank ≤ rank_number l.rank)
  pub marked : (l b : Leaf) → Contains via l → Contains to b → IsTrue (same_leaf l b) → (l.presence ≡ b.presence) × (b.presence ≡ true → (b.rank ≡ rank.Bool) × (l.rank ≡ rank.Bool))

pub record LayoutLaws : Type 0 where
  -- by way of a layout between, lawful cells are as at once
  pub twice : (from via to : List Leaf) (cells : List Cell) → StandsBetween from via to → IsTrue (are_lawful from cells) → coerce via to (coerce from via cells) ≡ coerce from to cells
  -- under the carriers of a longer catalogue a lawful delta holds what it held, coerced to them
  pub carried : (cat wide : Catalogue) (n : ℕ) (x : Delta) → IsCatalogue cat → Became cat wide → AreLawfulTables cat x → carried_versions wide n x ≡ coerce_all (carriers cat n) (carriers wide n) (carried_versions cat n x)
  -- the carriers of a lawful catalogue's table are a layout
  pub of_carriers : (cat : Catalogue) (n : ℕ) → IsCatalogue cat → IsLayout (carriers cat n)

-- ---- lists of row versions

-- each version has a cell for each leaf
abbrev pub HaveCells : List Leaf → List RowVersion → Type 0
HaveCells layout vs = AllByRecursion (λ v. length v.cells ≡ length layout) vs

pub record VersionLaws : Type 0 where
  pub merged : (lists : List (List RowVersion)) → IsMerge lists (merge lists)
  -- a key's composed version has the effect of its versions up to then
  pub composed : (t : ℕ) (key : List ℕ) (vs : List RowVersion) → IsTrue (is_ordered vs) → option_map (λ v. v.cells) (find (λ v. same_key v.key key) (asof t vs)) ≡ effect_of (up_to_ts key t vs)
  -- collapsing changes no reading from the minimum on
  pub collapsed : (m t : ℕ) (vs : List RowVersion) → IsTrue (is_ordered vs) → m ≤ t → asof t (collapse m vs) ≡ asof t vs
  -- the bundles are the list
  pub cut_whole : (layout : List Leaf) (vs : List RowVersion) → flat_map (λ b. b) (cut layout vs) ≡ vs
  -- of an ordered list none is empty, and each key is in one of them, by rising key
  pub cut_parts : (layout : List Leaf) (vs : List RowVersion) → IsTrue (is_ordered vs) → IsTrue (list_all (λ b. nat_lt 0 (length b)) (cut layout vs)) × IsTrue (entries_rise (map bare_entry (cut layout vs)))
  pub compositions : ComposeLaws

-- how lists are merged, clipped, coerced and collapsed together
pub record ListLaws : Type 0 where
  -- no two lists are the merge of some lists
  pub one_merge : (lists : List (List RowVersion)) (vs ws : List RowVersion) → IsMerge lists vs → IsMerge lists ws → vs ≡ ws
  -- a merge among the lists is as its own lists in its place
  pub merge_within : (xs ys zs : List (List RowVersion)) → merge (xs ++ merge ys ∷ zs) ≡ merge (xs ++ (ys ++ zs))
  pub clip_merge : (r : Range) (lists : List (List RowVersion)) → clip r (merge lists) ≡ merge (map (clip r) lists)
  pub clip_clip : (r s : Range) (vs : List RowVersion) → clip r (clip s vs) ≡ clip (common r s) vs
  pub clips_abut : (r s : Range) (vs : List RowVersion) → IsTrue (abuts r s) → IsTrue (not (is_empty_range r)) → IsTrue (not (is_empty_range s)) → IsTrue (is_ordered vs)
      → clip r vs ++ clip s vs ≡ clip (record { low = r.low; high = s.high }) vs
  pub coerce_merge : (from to : List Leaf) (lists : List (List RowVersion)) → coerce_all from to (merge lists) ≡ merge (map (coerce_all from to) lists)
  pub coerce_clip : (from to : List Leaf) (r : Range) (vs : List RowVersion) → coerce_all from to (clip r vs) ≡ clip r (coerce_all from to vs)
  pub coerce_asof : (from to : List Leaf) (t : ℕ) (vs : List RowVersion) → HaveCells from vs → coerce_all from to (asof t vs) ≡ asof t (coerce_all from to vs)
  pub coerce_collapse : (from to : List Leaf) (m : ℕ) (vs : List RowVersion) → HaveCells from vs → coerce_all from to (collapse m vs) ≡ collapse m (coerce_all from to vs)
  pub coerce_effect : (from to : List Leaf) (vs : List RowVersion) → HaveCells from vs → effect_of (coerce_all from to vs) ≡ option_map (coerce from to) (effect_of vs)
  pub asof_clip : (t : ℕ) (r : Range) (vs : List RowVersion) → IsTrue (is_ordered vs) → asof t (clip r vs) ≡ clip r (asof t vs)
  pub collapse_clip : (m : ℕ) (r : Range) (vs : List RowVersion) → IsTrue (is_ordered vs) → collapse m (clip r vs) ≡ clip r (collapse m vs)
  pub collapse_collapse : (m t : ℕ) (vs : List RowVersion) → IsTrue (is_ordered vs) → m ≤ t → collapse t (collapse m vs) ≡ collapse t vs
  -- above the minimum the versions stay as they are, and no other stands there
  pub collapse_from : (m : ℕ) (vs : List RowVersion) (v : RowVersion) → m < v.ts → Contains (collapse m vs) v → Contains vs v
  pub collapse_in : (m : ℕ) (vs : List RowVersion) (v : RowVersion) → IsTrue (is_ordered vs) → m < v.ts → Contains vs v → Contains (collapse m vs) v
  -- versions above a moment may be merged in before or after the others are collapsed up to it
  pub collapse_newer : (m : ℕ) (newer : List RowVersion) (lists : List (List RowVersion)) → AllByRecursion (λ n. m < n.ts) newer → collapse m (merge (newer ∷ lists)) ≡ merge (newer ∷ collapse m (merge lists) ∷ [])
  -- each keeps the order of a list
  pub clip_ordered : (r : Range) (vs : List RowVersion) → IsTrue (is_ordered vs) → IsTrue (is_ordered (clip r vs))
  pub coerce_ordered : (from to : List Leaf) (vs : List RowVersion) → is_ordered (coerce_all from to vs) ≡ is_ordered vs
  pub asof_ordered : (t : ℕ) (vs : List RowVersion) → IsTrue (is_ordered vs) → IsTrue (is_ordered (asof t vs))
  pub collapse_ordered : (m : ℕ) (vs : List RowVersion) → IsTrue (is_ordered vs) → IsTrue (is_ordered (collapse m vs))

-- ---- snapshots

pub record SnapshotLaws : Type 0 where
  -- the changes of fronts are keyed
  pub keyed : (feed : Feed) (cat : Catalogue) (fs : List (Header × List Item)) → Fronts feed cat fs → AreKeyed cat (source_of fs)
  -- a snapshot goes by the rows alone, and an answer by those of the keys in its interval
  pub by_rows : (cat : Catalogue) (source other : List Change) (t : Table) (columns : List Column) (at : ℕ) → AreKeyed cat source → AreKeyed cat other → ((key : List ℕ) → row_at source key at ≡ row_at other key at)
      → snapshot source t columns at ≡ snapshot other t columns at
  pub answers : (cat : Catalogue) (source other : List Change) (t : Table) (columns : List Column) (q : Query) (at : ℕ) → AreKeyed cat source → AreKeyed cat other
      → ((key : List ℕ) → IsTrue (in_range key (query_interval t q)) → row_at source key at ≡ row_at other key at)
      → answer t columns q (snapshot source t columns at) ≡ answer t columns q (snapshot other t columns at)
  -- what follows a checkpoint fairly changes no row up to it, and no snapshot
  pub safe_row : (h : Header) (cat : Catalogue) (is rest : List Item) (key : List ℕ) (at : ℕ) → is_fair h cat (is ++ rest) ≡ true → at ≤ checkpoint_of h is → row_at (changes_of (is ++ rest)) key at ≡ row_at (changes_of is) key at
  pub safe_snapshot : (h : Header) (cat : Catalogue) (is rest : List Item) (t : Table) (columns : List Column) (at : ℕ) → is_fair h cat (is ++ rest) ≡ true → AllByRecursion (λ i. IsTrue (is_item h.format i)) (is ++ rest)
      → at ≤ checkpoint_of h is → snapshot (changes_of (is ++ rest)) t columns at ≡ snapshot (changes_of is) t columns at
  -- under a longer catalogue a registered version reads each snapshot, and answers each query, as it did
  pub wider : (cat wide : Catalogue) (n v : ℕ) (t : Table) (r : Registered) → IsCatalogue cat → Became cat wide → table_numbered cat n ≡ Some t → registered t v ≡ Some r
      → (u : Table) × (p : Registered) × (table_numbered wide n ≡ Some u) × (registered u v ≡ Some p) × ((source : List Change) (at : ℕ) → snapshot source u p.columns at ≡ snapshot source t r.columns at)
      × ((q : Query) (es : List Entry) → answer u p.columns q es ≡ answer t r.columns q es)
  -- in a fair list a row takes its key's changes in the list's order
  pub in_order : (h : Header) (cat : Catalogue) (items : List Item) (key : List ℕ) (at : ℕ) → is_fair h cat items ≡ true → row_at (changes_of items) key at ≡ row_after (changes_up_to key at (changes_of items))

-- ---- feeds that grow

pub record GrowsLaws : Type 0 where
  pub itself : (feed : Feed) → Grows feed feed
  pub through : (a b c : Feed) → Grows a b → Grows b c → Grows a c

-- ---- pumps

pub record PumpLaws : Type 0 where
  -- what is taken from where a stream stands on is what its front has next
  pub front : (feed : Feed) (cat : Catalogue) (f : Header × List Item) (a : StreamAt) (items : List Item) (rest : List ℕ) → IsPrefix feed cat f.0 f.1 → a.header ≡ f.0 → (k : Stands f a) → Takes feed cat a items rest
      → (more : List Item) × (drop k.0 f.1 ≡ items ++ more)
  -- and it is all that the front has left where what stands next stops the pump
  pub all : (feed : Feed) (cat : Catalogue) (f : Header × List Item) (a : StreamAt) (items : List Item) (rest : List ℕ) (stop : Stop) → IsPrefix feed cat f.0 f.1 → a.header ≡ f.0 → (k : Stands f a) → Takes feed cat a items rest
      → StopsBy feed cat (moved_by items a) rest stop → drop k.0 f.1 ≡ items
  -- taking goes on where it stopped, and leaves what it leaves at once
  pub goes_on : (feed : Feed) (cat : Catalogue) (a : StreamAt) (is js : List Item) (middle rest : List ℕ) → Takes feed cat a is middle → Takes feed cat (moved_by is a) js rest → Takes feed cat a (is ++ js) rest
  pub moved : (is js : List Item) (a : StreamAt) → moved_by (is ++ js) a ≡ moved_by js (moved_by is a)
  pub left : (n : ℕ) (is js : List Item) (s : State) → with_items n (is ++ js) s ≡ with_items n js (with_items n is s)
  -- from a longer feed the same is taken, with more behind it
  pub grows : (feed more : Feed) (cat : Catalogue) (a : StreamAt) (items : List Item) (rest : List ℕ) → Grows feed more → a.offset ≤ length (stream_bytes feed a.header.stream) → Takes feed cat a items rest
      → (extra : List ℕ) × Takes more cat a items (rest ++ extra)

-- ---- a session reads as the source: the log, the store and the machine together

-- the streams' headers stand, from this number on, and are of a format that is read
abbrev pub HeadersFrom : Feed → ℕ → List Header → Type 0
HeadersFrom feed n [] = ⊤
HeadersFrom feed n (h ∷ hs) = HasHeader feed n h × IsTrue (is_read h.format) × HeadersFrom feed (n + 1) hs

-- A stream has one front. Under a lawful catalogue that grew, what was fair stays fair, and under a longer feed too what was the front
-- is a front of the new front.
pub record FrontLaws : Type 0 where
  pub one : (feed : Feed) (cat : Catalogue) (h : Header) (is js : List Item) → IsPrefix feed cat h is → IsPrefix feed cat h js → is ≡ js
  pub fair : (cat wide : Catalogue) → IsCatalogue cat → Became cat wide → (h : Header) (items : List Item) → is_fair h cat items ≡ true → is_fair h wide items ≡ true
  pub grows : (feed more : Feed) (cat wide : Catalogue) (h : Header) (is js : List Item) → Grows feed more → IsCatalogue cat → Became cat wide → IsPrefix feed cat h is → IsPrefix more wide h js
      → (rest : List Item) × (js ≡ is ++ rest)
  -- each stream with a header of a format that is read has a front, under each catalogue
  pub stands : (feed : Feed) (cat : Catalogue) (h : Header) (s : ℕ) → IsTrue (is_read h.format) → HasHeader feed s h → (items : List Item) × IsPrefix feed cat h items
  -- and so has a whole feed whose headers tile the keys
  pub all : (feed : Feed) (cat : Catalogue) (hs : List Header) → length hs ≡ length feed → HeadersFrom feed 0 hs → AreTiling hs → (fs : List (Header × List Item)) × (map (λ f. f.0) fs ≡ hs) × Fronts feed cat fs
  -- a feed that has fronts has them when it grew, of the same headers, under each catalogue
  pub stand : (feed more : Feed) (cat wide : Catalogue) (fs : List (Header × List Item)) → Grows feed more → Fronts feed cat fs → (gs : List (Header × List Item)) × (map (λ f. f.0) gs ≡ map (λ f. f.0) fs) × Fronts more wide gs

-- What a fault leaves, in place of a machine's answer, is good as well: what a pump took is pending, and where a write failed the part that
-- the command would have left is sound.
abbrev pub FaultKeeps : Type 0
FaultKeeps = (feed : Feed) (fs : List (Header × List Item)) (s s' : State) (c : Command) (r : Refusal) → IsGood feed s fs → FailedIsSound feed s → (r ≡ out_of_memory) ⊎ (refused s c ≡ None)
    → AfterFault feed (source_of fs) s c r s' → IsGood feed s' fs × FailedIsSound feed s'

pub record MachineLaws : Type 0 where
  pub rows : ReadsInOrder
  pub point : PointSuffices
  pub front : FrontLaws
  pub snapshots : SnapshotLaws
  pub pumps : PumpLaws
  pub step : StepKeeps
  pub faults : FaultKeeps
  pub opening : OpeningIsGood
  pub growth : GrowthKeeps
  pub images : SoundGrows
  pub scan : ScanIsSnapshot
  pub held : HeldScans

-- ---- what never falls

-- The minimum falls at no command, nor where a fault stands in place of the answer.
pub record MinimumNeverFalls : Type 0 where
  pub step : (feed : Feed) (source : List Change) (s s' : State) (c : Command) (a : Answer) → FailedIsLater s → Step feed source s c a s' → (s.durable.minimum ≤ s'.durable.minimum) × FailedIsLater s'
  pub fault : (feed : Feed) (source : List Change) (s s' : State) (c : Command) (r : Refusal) → FailedIsLater s → (r ≡ out_of_memory) ⊎ (refused s c ≡ None) → AfterFault feed source s c r s' → (s.durable.minimum ≤ s'.durable.minimum) × FailedIsLater s'

-- No key's checkpoint falls but at a reopening.
pub record CheckpointsNeverFall : Type 0 where
  pub step : (feed : Feed) (fs : List (Header × List Item)) (s s' : State) (c : Command) (a : Answer) → IsGood feed s fs → is_reopen c ≡ false → Step feed (source_of fs) s c a s' → CheckpointsStay s s'
  pub fault : (feed : Feed) (fs : List (Header × List Item)) (s s' : State) (c : Command) (r : Refusal) → IsGood feed s fs → FailedIsSound feed s → (r ≡ out_of_memory) ⊎ (refused s c ≡ None) → AfterFault feed (source_of fs) s c r s'
      → CheckpointsStay s s'

-- ---- the machine's premises can be met

-- the state after some commands, each answered with a reply
pub data Reaches (feed : Feed) : State → List Command → State → Type 0 where
  stays : (s : State) → Reaches feed s [] s
  goes : (s s' s'' : State) (c : Command) (cs : List Command) (fs : List (Header × List Item)) (rows : List (List Value)) (r : Reply) → Fronts feed (cat_of s) fs → Step feed (source_of fs) s c (record { rows = rows; reply = Ok r }) s'
      → Reaches feed s' cs s'' → Reaches feed s (c ∷ cs) s''

-- from a fresh store a schema, a pump and a flush reach a good session with a delta on its shelf
abbrev pub SessionIsReached : Type 0
SessionIsReached = (feed : Feed) × (hs : List Header) × (text : List ℕ) × (s : State) × (fs : List (Header × List Item)) × Reaches feed (opened (fresh (2 ^ 20) hs) hs) (do_schema text ∷ do_pump 0 9 ∷ do_flush 0 ∷ []) s
    × IsGood feed s fs × (0 < length s.durable.shelf)
