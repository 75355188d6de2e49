-- Every stream with a header has a front: the items that stand whole behind it, up to the first that breaks a rule or does not stand.
use Rattle.std.proofs.Common.{Bool, List, [], ap, append-nil, append_assoc, arith, false, length, refl, subst, suc, sym, true, zero, ℕ, ◌++◌, ◌+◌, ◌<◌, ◌∙◌, ◌∷◌, ◌≡◌}
use Rattle.std.specs.Prelude.{IsTrue, None, Option, Some, flat_map, is_none, map, ◌&&◌}
use Rattle.std.proofs.lemmas.Bool.{and_from, and_parts}
use Rattle.std.specs.List.{AllByRecursion}
use Rattle.std.proofs.lemmas.List.{length-append}
use Rattle.lt_terms.specs.declared.Format.{Format}
use Rattle.lt_terms.specs.Log.{Header, Item, batch_item, change_item, checkpoint_item, close_item, header_item, is_item, is_read, spelled}
use Rattle.lt_terms.specs.Key.{Range, all_keys, same_key}
use Rattle.lt_world.specs.Feed.{Feed, Grows, stream_bytes}
use Rattle.lt_tables.specs.Schema.{Catalogue}
use Rattle.lt_tables.specs.Fair.{AllSuccessorsStand, HasHeader, IsPrefix, SuccessorsStand, Unfair, breaks, checkpoint_of, fair_after}
use Rattle.lt_machine.specs.Sound.{AreTiling, Fronts, FrontsFrom, SoundGrows}
use Rattle.lt_machine.specs.Laws.{FrontLaws, HeadersFrom}
use Rattle.lt_codecs.specs.LogCodec.{item}
use Rattle.lt_codecs.proofs.ItemCodecs.{item_is}
use Rattle.lt_codecs.proofs.LogLaws.{frames_prefix_free}
use Rattle.lt_lemmas.proofs.PointLaws.{itself, none, same}
use Rattle.lt_lemmas.proofs.FrontLaws.{header_stays}
use Rattle.lt_laws.proofs.FrontLaws.{Ends, front_stays_longer, front_unique}
use Rattle.lt_laws.proofs.SoundLaws.{grows-same, sound_grows_where}
use Rattle.lt_laws.proofs.CatalogueLaws.{fair_stays}
use Rattle.lt_terms.specs.declared.Format.TheVariants as format

-- ---- what stands at the front of some bytes

-- an item's frame, with what follows it, or none
pub data AtFront (f : Format) (bytes : List ℕ) : Type 0 where
  item_stands : (i : Item) (more : List ℕ) → IsTrue (is_item f i) → bytes ≡ spelled i ++ more → AtFront f bytes
  none_stands : ((i : Item) (more : List ℕ) → IsTrue (is_item f i) → bytes ≡ spelled i ++ more → ⊥) → AtFront f bytes

found_test : (f : Format) (bytes : List ℕ) (i : Item) (rest : List ℕ) (b : Bool) → (is_item f i && same_key bytes (spelled i ++ rest)) ≡ b
    → ((j : Item) (more : List ℕ) → IsTrue (is_item f j) → bytes ≡ spelled j ++ more → (i ≡ j) × (rest ≡ more)) → AtFront f bytes
found_test f bytes i rest true e only = let p = and_parts (is_item f i) (same_key bytes (spelled i ++ rest)) e in item_stands i rest p.0 (same bytes (spelled i ++ rest) p.1)
found_test f bytes i rest false e only = none_stands (λ j more l s.
    let o = only j more l s in
    let p : is_item f i ≡ true = ap (is_item f) o.0 ∙ l in
    let q : same_key bytes (spelled i ++ rest) ≡ true = ap (same_key bytes) (ap (λ (x : Item). spelled x ++ rest) o.0 ∙ ap (λ (x : List ℕ). spelled j ++ x) o.1 ∙ sym s) ∙ itself bytes in
    let d : true ≡ false = sym (and_from (is_item f i) _ p q) ∙ e in cc)

found_by : (f : Format) (bytes : List ℕ) (o : Option (Item × List ℕ)) → ((j : Item) (more : List ℕ) → IsTrue (is_item f j) → bytes ≡ spelled j ++ more → o ≡ Some (j, more)) → AtFront f bytes
found_by f bytes None only = none_stands (λ j more l s. let d = only j more l s in cc)
found_by f bytes (Some x) only = found_test f bytes x.0 x.1 (is_item f x.0 && same_key bytes (spelled x.0 ++ x.1)) refl
    (λ j more l s. let e : Some x ≡ Some (j, more) = only j more l s in let d : x ≡ (j, more) = cc in (ap (λ (p : Item × List ℕ). p.0) d, ap (λ (p : Item × List ℕ). p.1) d))

-- of all bytes it is known whether an item stands at their front
pub found : (f : Format) (bytes : List ℕ) → AtFront f bytes
unfolding item
found f bytes = found_by f bytes ((item f).read bytes) (λ j more l s. ap (item f).read s ∙ (item_is f).again j more l)

-- ---- the items that stand one after another

pub record FrontFrom (feed : Feed) (cat : Catalogue) (h : Header) (before : List Item) (bytes : List ℕ) : Type 0 where
  pub items : List Item
  pub rest : List ℕ
  pub lawful : AllByRecursion (λ i. IsTrue (is_item h.format i)) items
  pub fair : fair_after h cat before items ≡ true
  pub stand : AllSuccessorsStand feed h before items
  pub spells : bytes ≡ flat_map spelled items ++ rest
  pub longest : Ends feed cat h (before ++ items) rest

-- in a format that is read no item is a close, so no successor has to stand
pub stands_open : (feed : Feed) (h : Header) (t : ℕ) (f : Format) (i : Item) → IsTrue (is_read f) → IsTrue (is_item f i) → SuccessorsStand feed h t i
stands_open feed h t f (header_item k) r l = tt
stands_open feed h t f (change_item c) r l = tt
stands_open feed h t f (checkpoint_item u) r l = tt
stands_open feed h t f (batch_item u cs) r l = tt
stands_open feed h t format.One (close_item first count) r l = let d : false ≡ true = l in cc
stands_open feed h t format.Two (close_item first count) r l = let d : false ≡ true = r in cc

ended : (feed : Feed) (cat : Catalogue) (h : Header) (before : List Item) (bytes : List ℕ) → Ends feed cat h before bytes → FrontFrom feed cat h before bytes
ended feed cat h before bytes e = record { items = []; rest = bytes; lawful = tt; fair = refl; stand = tt; spells = refl; longest = subst (λ (x : List Item). Ends feed cat h x bytes) (sym (append-nil before)) e }

next_is : (feed : Feed) (cat : Catalogue) (h : Header) (before : List Item) (i : Item) (bytes more : List ℕ) → IsTrue (is_item h.format i) → SuccessorsStand feed h (checkpoint_of h before) i → breaks h cat before i ≡ None → bytes ≡ spelled i ++ more
    → FrontFrom feed cat h (before ++ i ∷ []) more → FrontFrom feed cat h before bytes
next_is feed cat h before i bytes more l s b e r = record {
  items = i ∷ r.items;
  rest = r.rest;
  lawful = (l, r.lawful);
  fair = and_from _ _ (ap is_none b) r.fair;
  stand = (s, r.stand);
  spells = e ∙ ap (λ (x : List ℕ). spelled i ++ x) r.spells ∙ sym (append_assoc (spelled i) (flat_map spelled r.items) r.rest);
  longest = subst (λ (x : List Item). Ends feed cat h x r.rest) (append_assoc before (i ∷ []) r.items) r.longest;
}

unfair_ends : (feed : Feed) (cat : Catalogue) (h : Header) (before : List Item) (i : Item) (bytes more : List ℕ) (u : Unfair) → IsTrue (is_item h.format i) → bytes ≡ spelled i ++ more → breaks h cat before i ≡ Some u → Ends feed cat h before bytes
unfair_ends feed cat h before i bytes more u l e b j after k d s none =
    let same_item : i ≡ j = (frames_prefix_free h.format i j more after l k (sym e ∙ d)).0 in
    let n : Some u ≡ None = sym b ∙ ap (breaks h cat before) same_item ∙ none in cc

smaller : (i : Item) (bytes more : List ℕ) (n : ℕ) → bytes ≡ spelled i ++ more → length bytes < n + 1 → length more < n
unfolding spelled
smaller i bytes more n e l = let size : length bytes ≡ length (spelled i) + length more = ap length e ∙ length-append (spelled i) more in omega (arith, size, l)

by_fault : (feed : Feed) (cat : Catalogue) (h : Header) (before : List Item) (i : Item) (bytes more : List ℕ) (o : Option Unfair) → breaks h cat before i ≡ o → IsTrue (is_item h.format i) → SuccessorsStand feed h (checkpoint_of h before) i
    → bytes ≡ spelled i ++ more → (o ≡ None → FrontFrom feed cat h (before ++ i ∷ []) more) → FrontFrom feed cat h before bytes
by_fault feed cat h before i bytes more None b l s e next = next_is feed cat h before i bytes more l s b e (next refl)
by_fault feed cat h before i bytes more (Some u) b l s e next = ended feed cat h before bytes (unfair_ends feed cat h before i bytes more u l e b)

by_front : (feed : Feed) (cat : Catalogue) (h : Header) (before : List Item) (bytes : List ℕ) (n : ℕ) → IsTrue (is_read h.format) → length bytes < n + 1 → AtFront h.format bytes
    → ((i : Item) (more : List ℕ) → length more < n → FrontFrom feed cat h (before ++ i ∷ []) more) → FrontFrom feed cat h before bytes
by_front feed cat h before bytes n r l (none_stands never) next = ended feed cat h before bytes (λ i more k s st e. never i more k s)
by_front feed cat h before bytes n r l (item_stands i more k e) next =
    by_fault feed cat h before i bytes more (breaks h cat before i) refl k (stands_open feed h (checkpoint_of h before) h.format i r k) e (λ b. next i more (smaller i bytes more n e l))

-- by the length of what is left
front_from : (feed : Feed) (cat : Catalogue) (h : Header) → IsTrue (is_read h.format) → (n : ℕ) (before : List Item) (bytes : List ℕ) → length bytes < n → FrontFrom feed cat h before bytes
front_from feed cat h r zero before bytes l = absurd (omega (arith, l))
front_from feed cat h r (suc n) before bytes l = by_front feed cat h before bytes n r (omega (arith, l)) (found h.format bytes) (λ i more k. front_from feed cat h r n (before ++ i ∷ []) more k)

-- a stream with a header has a front
pub front_stands : (feed : Feed) (cat : Catalogue) (h : Header) (s : ℕ) → IsTrue (is_read h.format) → HasHeader feed s h → (items : List Item) × IsPrefix feed cat h items
front_stands feed cat h s r has = let f = front_from feed cat h r (length has.rest + 1) [] has.rest (omega arith) in (
  f.items,
  record {
    lawful = f.lawful;
    fair = f.fair;
    successors = f.stand;
    rest = f.rest;
    spells = ap (stream_bytes feed) has.number ∙ has.spells ∙ ap (λ (x : List ℕ). spelled (header_item h) ++ x) f.spells;
    longest = f.longest;
  },
)

-- ---- the fronts of a feed

fronts_from : (feed : Feed) (cat : Catalogue) (n : ℕ) (hs : List Header) → HeadersFrom feed n hs
    → (fs : List (Header × List Item)) × (map (λ f. f.0) fs ≡ hs) × FrontsFrom feed cat n fs
fronts_from feed cat n [] a = ([], refl, tt)
fronts_from feed cat n (h ∷ hs) a =
    let one = front_stands feed cat h n a.1 a.0 in
    let others = fronts_from feed cat (n + 1) hs a.2 in
    ((h, one.0) ∷ others.0, ap (λ (x : List Header). h ∷ x) others.1, (a.0, a.1, one.1, others.2))

mapped_length : (fs : List (Header × List Item)) → length (map (λ f. f.0) fs) ≡ length fs
mapped_length [] = refl
mapped_length (f ∷ fs) = ap suc (mapped_length fs)

-- a feed whose headers tile the keys has its fronts, under each catalogue
pub fronts_stand : (feed : Feed) (cat : Catalogue) (hs : List Header) → length hs ≡ length feed → HeadersFrom feed 0 hs → AreTiling hs
    → (fs : List (Header × List Item)) × (map (λ f. f.0) fs ≡ hs) × Fronts feed cat fs
fronts_stand feed cat hs l a t = let f = fronts_from feed cat 0 hs a in (
  f.0,
  f.1,
  record { all = sym (mapped_length f.0) ∙ ap length f.1 ∙ l; each = f.2; tiling = subst AreTiling (sym f.1) t },
)

headers_of : (feed more : Feed) (cat : Catalogue) → Grows feed more → (n : ℕ) (fs : List (Header × List Item)) → FrontsFrom feed cat n fs → HeadersFrom more n (map (λ f. f.0) fs)
headers_of feed more cat g n [] a = tt
headers_of feed more cat g n (f ∷ fs) a = (header_stays feed more g n f.0 a.0, a.1, headers_of feed more cat g (n + 1) fs a.3)

-- a longer feed has its fronts, of the same headers
pub fronts_grow : (feed more : Feed) (cat wide : Catalogue) (fs : List (Header × List Item)) → Grows feed more → Fronts feed cat fs
    → (gs : List (Header × List Item)) × (map (λ f. f.0) gs ≡ map (λ f. f.0) fs) × Fronts more wide gs
fronts_grow feed more cat wide fs g p =
    fronts_stand more wide (map (λ f. f.0) fs) (mapped_length fs ∙ p.all ∙ grows-same feed more g) (headers_of feed more cat g 0 fs p.each) p.tiling

-- one stream of all keys, of a format that is read, has its front
pub one_stream : (bytes : List ℕ) (cat : Catalogue) (h : Header) → HasHeader (bytes ∷ []) 0 h → IsTrue (is_read h.format) → h.range ≡ all_keys
    → (items : List Item) × Fronts (bytes ∷ []) cat ((h, items) ∷ [])
one_stream bytes cat h has r a = let one = front_stands (bytes ∷ []) cat h 0 r has in (
  one.0,
  record { all = refl; each = (has, r, one.1, tt); tiling = subst (λ (x : Range). AreTiling (record h { range = x } ∷ [])) (sym a) (refl, refl) },
)

-- an image that is sound for a feed is sound for a longer one
pub sound_grows : SoundGrows
sound_grows image feed more g s = let f = fronts_grow feed more s.durable.catalogue s.durable.catalogue s.fronts g s.are_fronts in sound_grows_where image feed more g s f.0 f.2

-- ---- all of these

pub front_laws : FrontLaws
front_laws = record {
  one = front_unique frames_prefix_free;
  fair = fair_stays;
  grows = front_stays_longer frames_prefix_free;
  stands = front_stands;
  all = fronts_stand;
  stand = fronts_grow;
}
