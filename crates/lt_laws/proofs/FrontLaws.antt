-- A stream has one front; what was the front is a front of the front of a longer feed, under a catalogue that grew.
use Rattle.std.proofs.Common.{List, [], ap, append-nil, append_assoc, ap₂, arith, drop, get_or, length, ltb-false, refl, subst, sym, true, ℕ, ◌++◌, ◌+◌, ◌<◌, ◌∙◌, ◌∷◌, ◌≡◌, ◌≤◌}
use Rattle.std.specs.Prelude.{IsTrue, None, flat_map, fold, is_none, nat_lt, ⊤, ◌≢◌}
use Rattle.std.specs.List.{AllByRecursion}
use Rattle.std.proofs.lemmas.List.{append_cancel_left, length-append}
use Rattle.std.proofs.lemmas.Bool.{and_from}
use Rattle.lt_terms.specs.Log.{Change, Header, IsPrefixFree, Item, batch_item, bytes16, change_item, changes_in, changes_of, checkpoint_item, close_item, header_body, header_item, is_item, magic, optional, origin_at, spelled, u32}
use Rattle.lt_terms.specs.declared.Format.{Format}
use Rattle.lt_world.specs.Feed.{Feed, Grows, stream_bytes}
use Rattle.lt_tables.specs.Schema.{Became, Catalogue, IsCatalogue, when}
use Rattle.lt_tables.specs.Fair.{AllSuccessorsStand, HasHeader, IsPrefix, SuccessorsStand, after_close, backward, breaks, checkpoint_of, fair_after, is_closed, is_fair, item_fault, last_checkpoint, point_after, point_of}
use Rattle.lt_machine.specs.Laws.{GrowsLaws}
use Rattle.lt_machine.specs.Sound.{Fronts, FrontsFrom}
use Rattle.lt_codecs.proofs.ListFacts.{or_left}
use Rattle.lt_lemmas.proofs.PointLaws.{change_rises, changes_above, item_fair, last_checkpoint-append, left, none, point_suffices, right}
use Rattle.lt_lemmas.proofs.FrontLaws.{bytes_grow, grows_itself, grows_then, header_stays, successors_stay}
use Rattle.lt_lemmas.proofs.ListFacts.{when_none}
use Rattle.lt_laws.proofs.CatalogueLaws.{fair_stays}
use Rattle.lt_terms.specs.declared.Format.TheVariants as format

-- ---- the front of a stream

-- behind all the items stands none that could follow
abbrev pub Ends : Feed → Catalogue → Header → List Item → List ℕ → Type 0
Ends feed cat h items rest = (i : Item) (more : List ℕ) → IsTrue (is_item h.format i) → rest ≡ spelled i ++ more → SuccessorsStand feed h (checkpoint_of h items) i → breaks h cat items i ≢ None

-- the first items are a front of the second
abbrev pub Front : List Item → List Item → Type 0
Front is js = (more : List Item) × (js ≡ is ++ more)

pub begins : IsPrefixFree → (feed : Feed) (cat : Catalogue) (h : Header) (before is js : List Item) (r s : List ℕ)
    → AllByRecursion (λ i. IsTrue (is_item h.format i)) is → AllByRecursion (λ i. IsTrue (is_item h.format i)) js
    → fair_after h cat before is ≡ true → AllSuccessorsStand feed h before is
    → flat_map spelled is ++ r ≡ flat_map spelled js ++ s → Ends feed cat h (before ++ js) s → Front is js
begins free feed cat h before [] js r s law lawj fair stand e ends = (js, refl)
begins free feed cat h before (i ∷ is) [] r s law lawj fair stand e ends =
    absurd (subst (λ (x : List Item). Ends feed cat h x s) (append-nil before) ends i (flat_map spelled is ++ r) law.0 (sym e ∙ append_assoc (spelled i) (flat_map spelled is) r) stand.0
    (none (breaks h cat before i) (left (is_none (breaks h cat before i)) _ fair)))
begins free feed cat h before (i ∷ is) (j ∷ js) r s law lawj fair stand e ends =
    let cut : (i ≡ j) × (flat_map spelled is ++ r ≡ flat_map spelled js ++ s) = free h.format i j (flat_map spelled is ++ r) (flat_map spelled js ++ s) law.0 lawj.0
    (sym (append_assoc (spelled i) (flat_map spelled is) r) ∙ e ∙ append_assoc (spelled j) (flat_map spelled js) s) in
    let place : before ++ j ∷ js ≡ (before ++ i ∷ []) ++ js = ap (λ x. before ++ x ∷ js) (sym cut.0) ∙ sym (append_assoc before (i ∷ []) js) in
    let rest : Front is js = begins free feed cat h (before ++ i ∷ []) is js r s law.1 lawj.1 (right (is_none (breaks h cat before i)) _ fair) stand.1 cut.1 (subst (λ (x : List Item). Ends feed cat h x s) place ends) in
    (rest.0, ap (λ x. x ∷ js) (sym cut.0) ∙ ap (λ x. i ∷ x) rest.1)

-- ---- a longer feed

pub all_successors_stay : (feed more : Feed) → Grows feed more → (h : Header) (before items : List Item) → AllSuccessorsStand feed h before items → AllSuccessorsStand more h before items
all_successors_stay feed more grows h before [] a = tt
all_successors_stay feed more grows h before (i ∷ items) a = (successors_stay feed more grows h (checkpoint_of h before) i a.0, all_successors_stay feed more grows h (before ++ i ∷ []) items a.1)

-- lawful and fair items that the old feed spelled are a front of the new front
pub front_begins : IsPrefixFree → (feed more : Feed) (cat : Catalogue) (h : Header) (is js : List Item) → Grows feed more → AllByRecursion (λ i. IsTrue (is_item h.format i)) is → is_fair h cat is ≡ true
    → AllSuccessorsStand feed h [] is → (rest : List ℕ) → stream_bytes feed h.stream ≡ spelled (header_item h) ++ (flat_map spelled is ++ rest) → IsPrefix more cat h js → Front is js
front_begins free feed more cat h is js grows lawful fair stand rest spells q =
    let b = bytes_grow feed more grows h.stream in
    let e : spelled (header_item h) ++ ((flat_map spelled is ++ rest) ++ b.0) ≡ spelled (header_item h) ++ (flat_map spelled js ++ q.rest)
    = sym (append_assoc (spelled (header_item h)) (flat_map spelled is ++ rest) b.0) ∙ ap (λ x. x ++ b.0) (sym spells) ∙ sym b.1 ∙ q.spells in
    let d : flat_map spelled is ++ (rest ++ b.0) ≡ flat_map spelled js ++ q.rest
    = sym (append_assoc (flat_map spelled is) rest b.0) ∙ append_cancel_left (spelled (header_item h)) ((flat_map spelled is ++ rest) ++ b.0) (flat_map spelled js ++ q.rest) e in
    begins free more cat h [] is js (rest ++ b.0) q.rest lawful q.lawful fair (all_successors_stay feed more grows h [] is stand) d q.longest

-- what was the front is a front of the new front
pub front_stays : IsPrefixFree → (feed more : Feed) (cat : Catalogue) (h : Header) (is js : List Item) → Grows feed more → IsPrefix feed cat h is → IsPrefix more cat h js → Front is js
front_stays free feed more cat h is js grows p q = front_begins free feed more cat h is js grows p.lawful p.fair p.successors p.rest p.spells q

pub grows_laws : GrowsLaws
grows_laws = record { itself = grows_itself; through = grows_then }

fronts_both : (is js more rest : List Item) → js ≡ is ++ more → is ≡ js ++ rest → is ≡ js
fronts_both is js [] rest e d = sym (append-nil is) ∙ sym e
fronts_both is js (m ∷ more) rest e d = absurd (omega (arith, ap length e, ap length d, length-append is (m ∷ more), length-append js rest))

-- there is one such front
pub front_unique : IsPrefixFree → (feed : Feed) (cat : Catalogue) (h : Header) (is js : List Item) → IsPrefix feed cat h is → IsPrefix feed cat h js → is ≡ js
front_unique free feed cat h is js p q = let a = front_stays free feed feed cat h is js (grows_itself feed) p q in let b = front_stays free feed feed cat h js is (grows_itself feed) q p in fronts_both is js a.0 b.0 a.1 b.1

-- ---- fronts under a longer catalogue and a longer feed

-- what was the front is a front of the new front
pub front_stays_longer : IsPrefixFree → (feed more : Feed) (cat wide : Catalogue) (h : Header) (is js : List Item) → Grows feed more → IsCatalogue cat → Became cat wide → IsPrefix feed cat h is → IsPrefix more wide h js → Front is js
front_stays_longer free feed more cat wide h is js grows lawful became p q = front_begins free feed more wide h is js grows p.lawful (fair_stays cat wide lawful became h is p.fair) p.successors p.rest p.spells q

fair_after-append : (h : Header) (cat : Catalogue) (before is js : List Item) → fair_after h cat before (is ++ js) ≡ true → (fair_after h cat before is ≡ true) × (fair_after h cat (before ++ is) js ≡ true)
fair_after-append h cat before [] js f = (refl, subst (λ (x : List Item). fair_after h cat x js ≡ true) (sym (append-nil before)) f)
fair_after-append h cat before (i ∷ is) js f =
    let a = fair_after-append h cat (before ++ i ∷ []) is js (right (is_none (breaks h cat before i)) _ f) in
    (and_from _ _ (left (is_none (breaks h cat before i)) _ f) a.0, subst (λ (x : List Item). fair_after h cat x js ≡ true) (append_assoc before (i ∷ []) is) a.1)

-- each front of a fair list is fair, and what follows it follows it fairly
pub fair_front : (h : Header) (cat : Catalogue) (is js : List Item) → is_fair h cat (is ++ js) ≡ true → (is_fair h cat is ≡ true) × (fair_after h cat is js ≡ true)
fair_front h cat is js f = fair_after-append h cat [] is js f

shut_breaks : (h : Header) (cat : Catalogue) (is : List Item) (i : Item) → is_closed is ≡ true → breaks h cat is i ≡ None → ⊥
unfolding breaks
shut_breaks h cat is i shut e = let d : when true after_close ≡ None = ap (λ b. when b after_close) (sym shut) ∙ or_left (when (is_closed is) after_close) (item_fault h cat is i) e in cc

-- nothing follows a close
pub closed_ends : (h : Header) (cat : Catalogue) (is rest : List Item) → is_closed is ≡ true → is_fair h cat (is ++ rest) ≡ true → rest ≡ []
closed_ends h cat is [] shut f = refl
closed_ends h cat is (i ∷ rest) shut f = absurd (shut_breaks h cat is i shut (none (breaks h cat is i) (left (is_none (breaks h cat is i)) _ (fair_front h cat is (i ∷ rest) f).1)))

-- so the front of a closed stream stays what it is
pub closed_front_stays : IsPrefixFree → (feed more : Feed) (cat wide : Catalogue) (h : Header) (is js : List Item) → Grows feed more → IsCatalogue cat → Became cat wide → IsPrefix feed cat h is → IsPrefix more wide h js
    → is_closed is ≡ true → js ≡ is
closed_front_stays free feed more cat wide h is js grows lawful became p q shut =
    let a = front_stays_longer free feed more cat wide h is js grows lawful became p q in
    a.1 ∙ ap (λ x. is ++ x) (closed_ends h wide is a.0 shut (ap (is_fair h wide) (sym a.1) ∙ q.fair)) ∙ append-nil is

-- the point after more items
pub points_after : (h : Header) (cat : Catalogue) (is js : List Item) → is_fair h cat (is ++ js) ≡ true → point_of h (is ++ js) ≡ fold point_after (point_of h is) js
points_after h cat is [] f = ap (point_of h) (append-nil is)
points_after h cat is (j ∷ js) f =
    let a = fair_front h cat is (j ∷ js) f in
    let e : breaks h cat is j ≡ None = none (breaks h cat is j) (left (is_none (breaks h cat is j)) _ a.1) in
    ap (point_of h) (sym (append_assoc is (j ∷ []) js))
    ∙ points_after h cat (is ++ j ∷ []) js (ap (is_fair h cat) (append_assoc is (j ∷ []) js) ∙ f)
    ∙ ap (λ p. fold point_after p js) (point_suffices.next h cat is j a.0 e)

-- ---- what follows a fair front stands above its checkpoint

all_append : (t : ℕ) (cs ds : List Change) → AllByRecursion (λ c. t < c.ts) cs → AllByRecursion (λ c. t < c.ts) ds → AllByRecursion (λ c. t < c.ts) (cs ++ ds)
all_append t [] ds a b = b
all_append t (c ∷ cs) ds a b = (a.0, all_append t cs ds a.1 b)

all_lower : (t u : ℕ) (cs : List Change) → t ≤ u → AllByRecursion (λ c. u < c.ts) cs → AllByRecursion (λ c. t < c.ts) cs
all_lower t u [] h a = tt
all_lower t u (c ∷ cs) h a = (omega (arith, h, a.0), all_lower t u cs h a.1)

item_above : (h : Header) (cat : Catalogue) (before : List Item) (i : Item) → item_fault h cat before i ≡ None → AllByRecursion (λ c. checkpoint_of h before < c.ts) (changes_in i)
item_above h cat before (header_item k) e = tt
item_above h cat before (change_item c) e = ((change_rises h cat before c e).0, tt)
item_above h cat before (checkpoint_item t) e = tt
item_above h cat before (batch_item t cs) e = changes_above h cat before cs e
item_above h cat before (close_item first count) e = tt

item_checkpoint : (h : Header) (cat : Catalogue) (before : List Item) (i : Item) → item_fault h cat before i ≡ None → checkpoint_of h before ≤ last_checkpoint (checkpoint_of h before) (i ∷ [])
item_checkpoint h cat before (header_item k) e = omega arith
item_checkpoint h cat before (change_item c) e = omega arith
item_checkpoint h cat before (checkpoint_item t) e = ltb-false t (checkpoint_of h before) (when_none (nat_lt t (checkpoint_of h before)) (backward (checkpoint_of h before)) e)
item_checkpoint h cat before (batch_item t cs) e = omega arith
item_checkpoint h cat before (close_item first count) e = omega arith

checkpoint_one : (h : Header) (cat : Catalogue) (before : List Item) (i : Item) → item_fault h cat before i ≡ None → checkpoint_of h before ≤ checkpoint_of h (before ++ i ∷ [])
checkpoint_one h cat before i e = subst (λ (t : ℕ). checkpoint_of h before ≤ t) (sym (last_checkpoint-append h.from before (i ∷ []))) (item_checkpoint h cat before i e)

pub first_fair : (h : Header) (cat : Catalogue) (before : List Item) (i : Item) (items : List Item) → fair_after h cat before (i ∷ items) ≡ true → item_fault h cat before i ≡ None
first_fair h cat before i items f = item_fair h cat before i (none (breaks h cat before i) (left (is_none (breaks h cat before i)) _ f))

above_after : (h : Header) (cat : Catalogue) (before items : List Item) (t : ℕ) → t ≤ checkpoint_of h before → fair_after h cat before items ≡ true → AllByRecursion (λ c. t < c.ts) (changes_of items)
above_after h cat before [] t le f = tt
above_after h cat before (i ∷ items) t le f =
    let e = first_fair h cat before i items f in
    let one : checkpoint_of h before ≤ checkpoint_of h (before ++ i ∷ []) = checkpoint_one h cat before i e in
    let more : t ≤ checkpoint_of h (before ++ i ∷ []) = omega (arith, le, one) in
    all_append t (changes_in i) (changes_of items) (all_lower t (checkpoint_of h before) (changes_in i) le (item_above h cat before i e))
    (above_after h cat (before ++ i ∷ []) items t more (right (is_none (breaks h cat before i)) _ f))

-- every later change is above the checkpoint
pub rest_above : (h : Header) (cat : Catalogue) (is rest : List Item) → is_fair h cat (is ++ rest) ≡ true → AllByRecursion (λ c. checkpoint_of h is < c.ts) (changes_of rest)
rest_above h cat is rest f = above_after h cat is rest (checkpoint_of h is) (omega arith) (fair_front h cat is rest f).1

checkpoint_after : (h : Header) (cat : Catalogue) (before items : List Item) → fair_after h cat before items ≡ true → checkpoint_of h before ≤ checkpoint_of h (before ++ items)
checkpoint_after h cat before [] f = subst (λ (x : List Item). checkpoint_of h before ≤ checkpoint_of h x) (sym (append-nil before)) (omega arith)
checkpoint_after h cat before (i ∷ items) f =
    let one : checkpoint_of h before ≤ checkpoint_of h (before ++ i ∷ []) = checkpoint_one h cat before i (first_fair h cat before i items f) in
    let more : checkpoint_of h (before ++ i ∷ []) ≤ checkpoint_of h (before ++ i ∷ items)
    = subst (λ (x : List Item). checkpoint_of h (before ++ i ∷ []) ≤ checkpoint_of h x) (append_assoc before (i ∷ []) items) (checkpoint_after h cat (before ++ i ∷ []) items (right (is_none (breaks h cat before i)) _ f)) in
    omega (arith, one, more)

-- the checkpoint does not fall
pub checkpoint_rises : (h : Header) (cat : Catalogue) (is rest : List Item) → is_fair h cat (is ++ rest) ≡ true → checkpoint_of h is ≤ checkpoint_of h (is ++ rest)
checkpoint_rises h cat is rest f = checkpoint_after h cat is rest (fair_front h cat is rest f).1

-- ---- the fronts of all streams

parts_alike : (xs ys a b : List ℕ) → length xs ≡ length ys → xs ++ a ≡ ys ++ b → a ≡ b
parts_alike [] [] a b l e = e
parts_alike [] (y ∷ ys) a b l e = absurd (omega (arith, l))
parts_alike (x ∷ xs) [] a b l e = absurd (omega (arith, l))
parts_alike (x ∷ xs) (y ∷ ys) a b l e = let d : xs ++ a ≡ ys ++ b = cc in parts_alike xs ys a b (omega (arith, l)) d

magic_alike : (f g : Format) (a b : List ℕ) → magic f ++ a ≡ magic g ++ b → f ≡ g
magic_alike format.One format.One a b e = refl
magic_alike format.Two format.Two a b e = refl
magic_alike format.One format.Two a b e = let d : 49 ≡ 50 = ap (λ l. get_or l 5 0) e in absurd (omega (arith, d))
magic_alike format.Two format.One a b e = let d : 50 ≡ 49 = ap (λ l. get_or l 5 0) e in absurd (omega (arith, d))

four : (m n : ℕ) → length (u32 m) ≡ length (u32 n)
four m n = refl

abbrev after_magic : Header → List ℕ
after_magic h = u32 h.stream ++ (bytes16 h.range.low ++ (optional bytes16 h.range.high ++ origin_at h.format h))

format_alike : (h g : Header) (x y : List ℕ) → spelled (header_item h) ++ x ≡ spelled (header_item g) ++ y → h.format ≡ g.format
unfolding spelled
format_alike h g x y e =
    let m = length (header_body h) in
    let n = length (header_body g) in
    let d : (u32 m ++ header_body h) ++ x ≡ (u32 n ++ header_body g) ++ y = ap (drop 1) e in
    let c : header_body h ++ x ≡ header_body g ++ y = parts_alike (u32 m) (u32 n) (header_body h ++ x) (header_body g ++ y) (four m n) (sym (append_assoc (u32 m) (header_body h) x) ∙ d ∙ append_assoc (u32 n) (header_body g) y) in
    magic_alike h.format g.format (after_magic h ++ x) (after_magic g ++ y) (sym (append_assoc (magic h.format) (after_magic h) x) ∙ c ∙ append_assoc (magic g.format) (after_magic g) y)

-- a stream has one header
pub header_unique : IsPrefixFree → (feed : Feed) (s : ℕ) (h g : Header) → HasHeader feed s h → HasHeader feed s g → h ≡ g
header_unique free feed s h g a b =
    let e : spelled (header_item h) ++ a.rest ≡ spelled (header_item g) ++ b.rest = sym a.spells ∙ b.spells in
    let f : h.format ≡ g.format = format_alike h g a.rest b.rest e in
    let same_item : header_item h ≡ header_item g = (free h.format (header_item h) (header_item g) a.rest b.rest a.lawful (subst (λ (x : Format). IsTrue (is_item x (header_item g))) (sym f) b.lawful) e).0 in
    cc

-- each stream keeps its header, and its front is a front of the new front
abbrev pub FrontsStay : List (Header × List Item) → List (Header × List Item) → Type 0
FrontsStay [] gs = ⊤
FrontsStay (f ∷ fs) [] = ⊥
FrontsStay (f ∷ fs) (g ∷ gs) = (g.0 ≡ f.0) × Front f.1 g.1 × FrontsStay fs gs

fronts_from_stay : IsPrefixFree → (feed more : Feed) (cat wide : Catalogue) → Grows feed more → IsCatalogue cat → Became cat wide → (n : ℕ) (fs gs : List (Header × List Item)) → length fs ≤ length gs
    → FrontsFrom feed cat n fs → FrontsFrom more wide n gs → FrontsStay fs gs
fronts_from_stay free feed more cat wide grows lawful became n [] gs l a b = tt
fronts_from_stay free feed more cat wide grows lawful became n (f ∷ fs) [] l a b = absurd (omega (arith, l))
fronts_from_stay free feed more cat wide grows lawful became n (f ∷ fs) (g ∷ gs) l a b =
    let e : g.0 ≡ f.0 = header_unique free more n g.0 f.0 b.0 (header_stays feed more grows n f.0 a.0) in (
      e,
      front_stays_longer free feed more cat wide f.0 f.1 g.1 grows lawful became a.2 (subst (λ (h : Header). IsPrefix more wide h g.1) e b.2),
      fronts_from_stay free feed more cat wide grows lawful became (n + 1) fs gs (omega (arith, l)) a.3 b.3,
    )

pub feed_lengthens : (feed more : Feed) → Grows feed more → length feed ≤ length more
feed_lengthens [] more g = omega arith
feed_lengthens (old ∷ olds) [] g = absurd g
feed_lengthens (old ∷ olds) (now ∷ nows) g = let h = feed_lengthens olds nows g.1 in omega (arith, h)

-- under a longer feed and catalogue the fronts stay
pub fronts_stay : IsPrefixFree → (feed more : Feed) (cat wide : Catalogue) (fs gs : List (Header × List Item)) → Grows feed more → IsCatalogue cat → Became cat wide → Fronts feed cat fs → Fronts more wide gs → FrontsStay fs gs
fronts_stay free feed more cat wide fs gs grows lawful became p q = fronts_from_stay free feed more cat wide grows lawful became 0 fs gs (omega (arith, p.all, q.all, feed_lengthens feed more grows)) p.each q.each

fronts_from_unique : IsPrefixFree → (feed : Feed) (cat : Catalogue) (n : ℕ) (fs gs : List (Header × List Item)) → length fs ≡ length gs → FrontsFrom feed cat n fs → FrontsFrom feed cat n gs → fs ≡ gs
fronts_from_unique free feed cat n [] [] l a b = refl
fronts_from_unique free feed cat n [] (g ∷ gs) l a b = absurd (omega (arith, l))
fronts_from_unique free feed cat n (f ∷ fs) [] l a b = absurd (omega (arith, l))
fronts_from_unique free feed cat n (f ∷ fs) (g ∷ gs) l a b =
    let e : f.0 ≡ g.0 = header_unique free feed n f.0 g.0 a.0 b.0 in
    let d : f.1 ≡ g.1 = front_unique free feed cat g.0 f.1 g.1 (subst (λ (h : Header). IsPrefix feed cat h f.1) e a.2) b.2 in
    let p : f ≡ g = ap₂ (λ (x : Header) (y : List Item). let z : Header × List Item = (x, y) in z) e d in
    ap₂ (λ (x : Header × List Item) (xs : List (Header × List Item)). x ∷ xs) p (fronts_from_unique free feed cat (n + 1) fs gs (omega (arith, l)) a.3 b.3)

-- a feed has one list of fronts under a catalogue
pub fronts_unique : IsPrefixFree → (feed : Feed) (cat : Catalogue) (fs gs : List (Header × List Item)) → Fronts feed cat fs → Fronts feed cat gs → fs ≡ gs
fronts_unique free feed cat fs gs p q = fronts_from_unique free feed cat 0 fs gs (p.all ∙ sym q.all) p.each q.each
