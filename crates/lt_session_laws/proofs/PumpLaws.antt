-- A pump keeps a good session: its stream stands behind what it took, and what it took is pending where it is not durable.
use Rattle.std.proofs.Common.{Bool, List, [], ap, append-nil, append_assoc, ap₂, arith, cond, drop, eq-eqb, eqb-true, false, inl, inr, length, lt-ltb, ltb-true, ne_eqb, refl, subst, suc, sym, take, true, zero, ℕ, ◌++◌, ◌+◌, ◌<◌, ◌∙◌, ◌∷◌, ◌≡◌, ◌≤◌}
use Rattle.std.specs.Prelude.{Contains, IsTrue, Some, find, if◌then◌else◌, map, nat_lt, ◌&&◌, ◌==◌, ◌⊎◌}
use Rattle.std.proofs.lemmas.Bool.{and_from, and_parts, false≢true}
use Rattle.std.proofs.lemmas.List.{length-append, length-take, take-append-drop, take_at}
use Rattle.std.specs.List.{AllByRecursion}
use Rattle.lt_terms.specs.Key.{Range, in_range, same_key}
use Rattle.lt_terms.specs.Log.{Change, Header, Item, batch_item, change_item, change_key, changes_of, checkpoint_item, close_item, header_item, is_item, is_read}
use Rattle.lt_terms.specs.declared.Format.{Format}
use Rattle.lt_world.specs.Feed.{Feed}
use Rattle.lt_tables.specs.Version.{is_ordered, same_name, stands_before}
use Rattle.lt_tables.specs.Pump.{Part, StreamAt, Takes, all_delivered, delivered, moved_by, names_rise, put_name}
use Rattle.lt_tables.specs.Schema.{Catalogue}
use Rattle.lt_tables.specs.Fair.{IsPrefix, Point, header_length, is_closed, is_fair, place_after, point_of}
use Rattle.lt_tables.specs.Query.{do_pump}
use Rattle.lt_storage.specs.Store.{Durable}
use Rattle.lt_machine.specs.Sound.{AreAtPlaces, FrontsFrom, IsGood, PendingOf, PendingOfAll, Stands, items_before, passed}
use Rattle.lt_machine.specs.Machine.{State, cat_of, entering, ranges_of, stream_at, with_items, with_streams}
use Rattle.lt_lemmas.proofs.PumpLaws.{Name, as_version, as_versions}
use Rattle.lt_lemmas.proofs.MergeLaws.{Above, before-other, ordered-above, ordered-cons, ordered-tail}
use Rattle.lt_lemmas.proofs.PointLaws.{changes_of-append, itself, same}
use Rattle.lt_laws.proofs.ListFacts.{contains_front, contains_rest, held_either}
use Rattle.lt_laws.proofs.TakenLaws.{are_taken, moved_behind, stream_behind, taken_goes_on}
use Rattle.lt_laws.proofs.FrontLaws.{fair_front}
use Rattle.lt_laws.proofs.SoundLaws.{before-take}
use Rattle.lt_session_laws.proofs.StepLaws.{KeepsDoing}
use Rattle.lt_terms.specs.declared.Format.TheVariants as format
use Rattle.lt_machine.specs.Machine as machine

-- ---- names, by rising key and falling timestamp

above_name_by : (a n m : Name) (ms : List Name) (b c : Bool) → IsTrue (stands_before (as_version a) (as_version n)) → Above (as_version a) (map as_version (m ∷ ms)) → Above (as_version a) (map as_version (put_name n ms))
    → Above (as_version a) (map as_version (cond b (n ∷ m ∷ ms) (cond c (m ∷ ms) (m ∷ put_name n ms))))
above_name_by a n m ms true c h i ih = (h, i)
above_name_by a n m ms false true h i ih = i
above_name_by a n m ms false false h i ih = (i.0, ih)

above_name : (a n : Name) (ms : List Name) → IsTrue (stands_before (as_version a) (as_version n)) → Above (as_version a) (map as_version ms) → Above (as_version a) (map as_version (put_name n ms))
above_name a n [] h i = (h, tt)
above_name a n (m ∷ ms) h i = above_name_by a n m ms (stands_before (as_version n) (as_version m)) (same_name (as_version n) (as_version m)) h i (above_name a n ms h i.1)

ordered_name_by : (n m : Name) (ms : List Name) (b c : Bool) → stands_before (as_version n) (as_version m) ≡ b → same_name (as_version n) (as_version m) ≡ c → IsTrue (is_ordered (map as_version (m ∷ ms))) → IsTrue (is_ordered (map as_version (put_name n ms)))
    → IsTrue (is_ordered (map as_version (cond b (n ∷ m ∷ ms) (cond c (m ∷ ms) (m ∷ put_name n ms)))))
ordered_name_by n m ms true c e f h ih = and_from (stands_before (as_version n) (as_version m)) (is_ordered (map as_version (m ∷ ms))) e h
ordered_name_by n m ms false true e f h ih = h
ordered_name_by n m ms false false e f h ih = ordered-cons (as_version m) (map as_version (put_name n ms))
    (above_name m n ms (before-other (as_version n) (as_version m) e f) (ordered-above (as_version m) (map as_version ms) h)) ih

ordered_name : (n : Name) (ms : List Name) → IsTrue (is_ordered (map as_version ms)) → IsTrue (is_ordered (map as_version (put_name n ms)))
ordered_name n [] h = refl
ordered_name n (m ∷ ms) h = ordered_name_by n m ms (stands_before (as_version n) (as_version m)) (same_name (as_version n) (as_version m)) refl refl h (ordered_name n ms (ordered-tail (as_version m) (map as_version ms) h))

rise_name : (n : Name) (ms : List Name) → IsTrue (names_rise ms) → IsTrue (names_rise (put_name n ms))
rise_name n ms h = as_versions (put_name n ms) ∙ ordered_name n ms (sym (as_versions ms) ∙ h)

-- ---- which names a list with one more has

names_by : (n m : Name) (ms : List Name) (x : Name) (b c : Bool) → (Contains (put_name n ms) x → (x ≡ n) ⊎ Contains ms x) → Contains (cond b (n ∷ m ∷ ms) (cond c (m ∷ ms) (m ∷ put_name n ms))) x → (x ≡ n) ⊎ Contains (m ∷ ms) x
names_by n m ms x true c f (zero, l, e) = inl (sym e)
names_by n m ms x true c f (suc k, l, e) = inr (k, omega (arith, l), e)
names_by n m ms x false true f h = inr h
names_by n m ms x false false f (zero, l, e) = inr (zero, omega arith, e)
names_by n m ms x false false f (suc k, l, e) = elim (f (k, omega (arith, l), e)) [ inl d ↦ inl d | inr (i, j, g) ↦ inr (suc i, omega (arith, j), g) ]

name_from : (n : Name) (ms : List Name) (x : Name) → Contains (put_name n ms) x → (x ≡ n) ⊎ Contains ms x
name_from n [] x (zero, l, e) = inl (sym e)
name_from n [] x (suc k, l, e) = absurd (omega (arith, l))
name_from n (m ∷ ms) x h = names_by n m ms x (stands_before (as_version n) (as_version m)) (same_name (as_version n) (as_version m)) (name_from n ms x) h

same_names : (n m : Name) → same_name (as_version n) (as_version m) ≡ true → m ≡ n
same_names n m e = let p = and_parts (same_key n.0 m.0) (n.1 == m.1) e in ap₂ (λ (k : List ℕ) (t : ℕ). let x : Name = (k, t) in x) (sym (same n.0 m.0 p.0)) (sym (eqb-true n.1 m.1 p.1))

name_in_by : (n m : Name) (ms : List Name) (b c : Bool) → same_name (as_version n) (as_version m) ≡ c → Contains (put_name n ms) n → Contains (cond b (n ∷ m ∷ ms) (cond c (m ∷ ms) (m ∷ put_name n ms))) n
name_in_by n m ms true c e f = (zero, omega arith, refl)
name_in_by n m ms false true e f = (zero, omega arith, same_names n m e)
name_in_by n m ms false false e (k, l, g) = (suc k, omega (arith, l), g)

name_in : (n : Name) (ms : List Name) → Contains (put_name n ms) n
name_in n [] = (zero, omega arith, refl)
name_in n (m ∷ ms) = name_in_by n m ms (stands_before (as_version n) (as_version m)) (same_name (as_version n) (as_version m)) refl (name_in n ms)

name_keeps_by : (n m : Name) (ms : List Name) (x : Name) (b c : Bool) → (Contains ms x → Contains (put_name n ms) x) → Contains (m ∷ ms) x → Contains (cond b (n ∷ m ∷ ms) (cond c (m ∷ ms) (m ∷ put_name n ms))) x
name_keeps_by n m ms x true c f (k, l, e) = (suc k, omega (arith, l), e)
name_keeps_by n m ms x false true f h = h
name_keeps_by n m ms x false false f (zero, l, e) = (zero, omega arith, e)
name_keeps_by n m ms x false false f (suc k, l, e) = (let h = f (k, omega (arith, l), e) in (suc h.0, omega (arith, h.1), h.2))

name_keeps : (n : Name) (ms : List Name) (x : Name) → Contains ms x → Contains (put_name n ms) x
name_keeps n [] x h = absurd (omega (arith, h.1))
name_keeps n (m ∷ ms) x h = name_keeps_by n m ms x (stands_before (as_version n) (as_version m)) (same_name (as_version n) (as_version m)) (name_keeps n ms x) h

-- ---- what is delivered

-- a change of the partition's keys, above where it is durable
abbrev is_due : Range → Part → Change → Bool
is_due r p c = in_range (change_key c) r && nat_lt p.resume c.ts

abbrev name_of : Change → Name
name_of c = (change_key c, c.ts)

abbrev with_due : Range → Part → List Name → Change → List Name
with_due r p ns c = if is_due r p c then put_name (name_of c) ns else ns

due_rise : (r : Range) (p : Part) (c : Change) (ns : List Name) (b : Bool) → IsTrue (names_rise ns) → IsTrue (names_rise (cond b (put_name (name_of c) ns) ns))
due_rise r p c ns true h = rise_name (name_of c) ns h
due_rise r p c ns false h = h

delivered_rise : (cs : List Change) (r : Range) (p : Part) (ns : List Name) → IsTrue (names_rise ns) → IsTrue (names_rise (delivered cs r p ns))
delivered_rise [] r p ns h = h
delivered_rise (c ∷ cs) r p ns h = delivered_rise cs r p (with_due r p ns c) (due_rise r p c ns (is_due r p c) h)

due_keeps : (c : Change) (ns : List Name) (b : Bool) (x : Name) → Contains ns x → Contains (cond b (put_name (name_of c) ns) ns) x
due_keeps c ns true x h = name_keeps (name_of c) ns x h
due_keeps c ns false x h = h

delivered_keeps : (cs : List Change) (r : Range) (p : Part) (ns : List Name) (x : Name) → Contains ns x → Contains (delivered cs r p ns) x
delivered_keeps [] r p ns x h = h
delivered_keeps (c ∷ cs) r p ns x h = delivered_keeps cs r p (with_due r p ns c) x (due_keeps c ns (is_due r p c) x h)

due_in : (c : Change) (ns : List Name) (b : Bool) → b ≡ true → Contains (cond b (put_name (name_of c) ns) ns) (name_of c)
due_in c ns true e = name_in (name_of c) ns
due_in c ns false e = absurd (false≢true e)

delivered_in : (cs : List Change) (r : Range) (p : Part) (ns : List Name) (c : Change) → Contains cs c → is_due r p c ≡ true → Contains (delivered cs r p ns) (name_of c)
delivered_in [] r p ns c h d = absurd (omega (arith, h.1))
delivered_in (x ∷ cs) r p ns c (zero, l, e) d = delivered_keeps cs r p (with_due r p ns x) (name_of c)
    (subst (λ (y : Change). Contains (with_due r p ns y) (name_of c)) (sym e) (due_in c ns (is_due r p c) d))
delivered_in (x ∷ cs) r p ns c (suc k, l, e) d = delivered_in cs r p (with_due r p ns x) c (k, omega (arith, l), e) d

-- a name that is pending is an older one, or that of a change that was delivered
abbrev FromDue : List Change → Range → Part → List Name → Name → Type 0
FromDue cs r p ns x = Contains ns x ⊎ ((c : Change) × Contains cs c × (is_due r p c ≡ true) × (x ≡ name_of c))

due_from : (r : Range) (p : Part) (c : Change) (ns : List Name) (b : Bool) (x : Name) → is_due r p c ≡ b → Contains (cond b (put_name (name_of c) ns) ns) x → Contains ns x ⊎ ((b ≡ true) × (x ≡ name_of c))
due_from r p c ns true x e h = elim (name_from (name_of c) ns x h) [ inl d ↦ inr (refl, d) | inr i ↦ inl i ]
due_from r p c ns false x e h = inl h

delivered_from : (cs : List Change) (r : Range) (p : Part) (ns : List Name) (x : Name) → Contains (delivered cs r p ns) x → FromDue cs r p ns x
delivered_from [] r p ns x h = inl h
delivered_from (c ∷ cs) r p ns x h = elim (delivered_from cs r p (with_due r p ns c) x h) [
  | inl i ↦ elim (due_from r p c ns (is_due r p c) x refl i) [ inl j ↦ inl j | inr d ↦ inr (c, (zero, omega arith, refl), d.0, d.1) ]
  | inr d ↦ inr (d.0, contains_rest (c ∷ []) cs d.0 d.1, d.2, d.3)
]

-- the changes passed are the older ones, and some more
record Passes (cs more all : List Change) : Type 0 where
  old : (c : Change) → Contains cs c → Contains all c
  new : (c : Change) → Contains more c → Contains all c
  only : (c : Change) → Contains all c → Contains cs c ⊎ Contains more c

due_parts : (r : Range) (p : Part) (c : Change) → is_due r p c ≡ true → IsTrue (in_range (change_key c) r) × (p.resume < c.ts)
due_parts r p c e = let q = and_parts (in_range (change_key c) r) (nat_lt p.resume c.ts) e in (q.0, ltb-true p.resume c.ts q.1)

is_its_name : (n : Name) (c : Change) → n ≡ name_of c → IsTrue (machine.named n c)
is_its_name n c e = ap (λ (x : Name). machine.named x c) e ∙ and_from (same_key (change_key c) (change_key c)) (c.ts == c.ts) (itself (change_key c)) (eq-eqb c.ts c.ts refl)

pending_more : (cat : Catalogue) (d : Durable) (cs more all : List Change) (p : Part) (r : Range) (ns : List Name) → Passes cs more all → PendingOf cat d cs p r ns → PendingOf cat d all p r (delivered more r p ns)
pending_more cat d cs more all p r ns a h = record {
  are_changes = λ n k. elim (delivered_from more r p ns n k) [
    | inl i ↦ (let c = h.are_changes n i in (c.0, a.old c.0 c.1, c.2, c.3, c.4))
    | inr x ↦ (let q = due_parts r p x.0 x.2 in (x.0, a.new x.0 x.1, is_its_name n x.0 x.3, q.0, q.1))
  ];
  none_lost = λ c k w l. elim (a.only c k) [
    | inl i ↦ elim (h.none_lost c i w l) [ inl n ↦ inl (delivered_keeps more r p ns (change_key c, c.ts) n) | inr s ↦ inr s ]
    | inr i ↦ inl (delivered_in more r p ns c i (and_from _ _ w (lt-ltb p.resume c.ts l)))
  ];
  ordered = delivered_rise more r p ns h.ordered;
}

all_pending_more : (cat : Catalogue) (d : Durable) (cs more all : List Change) (ps : List Part) (rs : List Range) (rest : List (List Name)) → Passes cs more all → PendingOfAll cat d cs ps rs rest → PendingOfAll cat d all ps rs (all_delivered more rs ps rest)
all_pending_more cat d cs more all [] [] [] a h = tt
all_pending_more cat d cs more all [] (r ∷ rs) [] a h = tt
all_pending_more cat d cs more all [] rs (ns ∷ rest) a h = absurd h
all_pending_more cat d cs more all (p ∷ ps) [] rest a h = absurd h
all_pending_more cat d cs more all (p ∷ ps) (r ∷ rs) [] a h = absurd h
all_pending_more cat d cs more all (p ∷ ps) (r ∷ rs) (ns ∷ rest) a h = (pending_more cat d cs more all p r ns a h.0, all_pending_more cat d cs more all ps rs rest a h.1)

-- ---- the stream that moves

made_at : (h g : Header) (o u : ℕ) (p q : Point) (c d : Bool) → h ≡ g → o ≡ u → p ≡ q → c ≡ d → record { header = h; offset = o; point = p; closed = c } ≡ (let a : StreamAt = record { header = g; offset = u; point = q; closed = d } in a)
made_at h g o u p q c d e f g' i = cc

pub stands_behind : (f : Header × List Item) (a : StreamAt) → a.header ≡ f.0 → (k : Stands f a) → a ≡ stream_behind f.0 (take k.0 f.1)
stands_behind f a h k = made_at a.header f.0 a.offset (place_after f.0 (take k.0 f.1)) a.point (point_of f.0 (take k.0 f.1)) a.closed (is_closed (take k.0 f.1)) h k.2 k.3 k.4

front_length : {A : Type 0} (i : ℕ) (xs : List A) → i ≤ length xs → length (take i xs) ≡ i
front_length i xs h = omega (arith, length-take i xs, h)

-- in a format that is read no stream is closed, so none enters
pub none_enter : (f : Format) (items : List Item) (gs : List Header) → IsTrue (is_read f) → AllByRecursion (λ i. IsTrue (is_item f i)) items → entering items gs → gs ≡ []
none_enter f [] gs r a e = e
none_enter f (header_item h ∷ items) gs r a e = none_enter f items gs r a.1 e
none_enter f (change_item c ∷ items) gs r a e = none_enter f items gs r a.1 e
none_enter f (checkpoint_item t ∷ items) gs r a e = none_enter f items gs r a.1 e
none_enter f (batch_item t cs ∷ items) gs r a e = none_enter f items gs r a.1 e
none_enter format.One (close_item first count ∷ items) gs r a e = absurd (false≢true a.0)
none_enter format.Two (close_item first count ∷ items) gs r a e = absurd (false≢true r)

record MovesTo (feed : Feed) (cat : Catalogue) (f : Header × List Item) (a : StreamAt) (items : List Item) : Type 0 where
  header : (moved_by items a).header ≡ f.0
  stands : Stands f (moved_by items a)
  alone : (gs : List Header) → entering items gs → gs ≡ []
  passes : changes_of (items_before (moved_by items a).offset (header_length f.0) f.1) ≡ changes_of (items_before a.offset (header_length f.0) f.1) ++ changes_of items

move_one : (feed : Feed) (cat : Catalogue) (n : ℕ) (f : Header × List Item) (fs : List (Header × List Item)) (a : StreamAt) (items : List Item) (rest : List ℕ) → FrontsFrom feed cat n (f ∷ fs) → a.header ≡ f.0 → Stands f a → Takes feed cat a items rest → MovesTo feed cat f a items
move_one feed cat n f fs a items rest fronts h k t =
    let i = k.0 in
    let before = take i f.1 in
    let e : a ≡ stream_behind f.0 before = stands_behind f a h k in
    let parted : before ++ drop i f.1 ≡ f.1 = take-append-drop i f.1 in
    let prefix : IsPrefix feed cat f.0 (before ++ drop i f.1) = subst (λ (x : List Item). IsPrefix feed cat f.0 x) (sym parted) fronts.2 in
    let front = taken_goes_on feed cat f.0 before (drop i f.1) items rest prefix (subst (λ (x : StreamAt). Takes feed cat x items rest) e t) in
    let whole : f.1 ≡ (before ++ items) ++ front.0 = sym parted ∙ ap (λ (x : List Item). before ++ x) front.1 ∙ sym (append_assoc before items front.0) in
    let size : length before ≡ i = front_length i f.1 k.1 in
    let j = length (before ++ items) in
    let taken : take j f.1 ≡ before ++ items = ap (take j) whole ∙ take_at (before ++ items) front.0 j refl in
    let fair : is_fair f.0 cat (before ++ items) ≡ true = (fair_front f.0 cat (before ++ items) front.0 (ap (is_fair f.0 cat) (sym whole) ∙ fronts.2.fair)).0 in
    let moved : moved_by items a ≡ stream_behind f.0 (before ++ items) = ap (moved_by items) e ∙ moved_behind f.0 cat before items fair in
    let place : (moved_by items a).offset ≡ place_after f.0 (take j f.1) = ap (λ (x : StreamAt). x.offset) moved ∙ ap (place_after f.0) (sym taken) in record {
      header = h;
      alone = λ gs g. none_enter f.0.format items gs fronts.1 (are_taken feed cat f.0 before items rest (fair_front f.0 cat before (drop i f.1) prefix.fair).0 (subst (λ (x : StreamAt). Takes feed cat x items rest) e t)).lawful g;
      stands = (j, omega (arith, ap length whole, length-append (before ++ items) front.0), place, ap (λ (x : StreamAt). x.point) moved ∙ ap (point_of f.0) (sym taken), ap (λ (x : StreamAt). x.closed) moved ∙ ap is_closed (sym taken));
      passes = ap changes_of (before-take (moved_by items a).offset (header_length f.0) j f.1 place ∙ taken) ∙ changes_of-append before items
          ∙ ap (λ (x : List Item). changes_of x ++ changes_of items) (sym (before-take a.offset (header_length f.0) i f.1 k.2));
    }

-- ---- and the others stay

abbrev moved_where : ℕ → List Item → StreamAt → StreamAt
moved_where n items a = if a.header.stream == n then moved_by items a else a

unmoved : (feed : Feed) (cat : Catalogue) (n m : ℕ) (items : List Item) (fs : List (Header × List Item)) (ss : List StreamAt) → n < m → FrontsFrom feed cat m fs → AreAtPlaces fs ss → map (moved_where n items) ss ≡ ss
unmoved feed cat n m items [] [] l a b = refl
unmoved feed cat n m items [] (s ∷ ss) l a b = absurd b
unmoved feed cat n m items (f ∷ fs) [] l a b = absurd b
unmoved feed cat n m items (f ∷ fs) (s ∷ ss) l a b =
    let k : s.header.stream ≡ m = ap (λ (h : Header). h.stream) b.0 ∙ a.0.number in
    ap₂ (λ (x : StreamAt) (xs : List StreamAt). x ∷ xs) (ap (λ (t : Bool). cond t (moved_by items s) s) (ne_eqb s.header.stream n (λ e. absurd (omega (arith, e, k, l))))) (unmoved feed cat n (m + 1) items fs ss (omega (arith, l)) a.3 b.2)

record Moved (fs : List (Header × List Item)) (ss now : List StreamAt) (items : List Item) : Type 0 where
  places : AreAtPlaces fs now
  alone : (gs : List Header) → entering items gs → gs ≡ []
  passes : Passes (passed fs ss) (changes_of items) (passed fs now)

passes_here : (cs more rest all : List Change) → all ≡ cs ++ more → Passes (cs ++ rest) more (all ++ rest)
passes_here cs more rest all e = record {
  old = λ c h. elim (held_either cs rest c h) [
    | inl i ↦ contains_front all rest c (subst (λ (x : List Change). Contains x c) (sym e) (contains_front cs more c i))
    | inr i ↦ contains_rest all rest c i
  ];
  new = λ c h. contains_front all rest c (subst (λ (x : List Change). Contains x c) (sym e) (contains_rest cs more c h));
  only = λ c h. elim (held_either all rest c h) [
    | inl i ↦ elim (held_either cs more c (subst (λ (x : List Change). Contains x c) e i)) [ inl j ↦ inl (contains_front cs rest c j) | inr j ↦ inr j ]
    | inr i ↦ inl (contains_rest cs rest c i)
  ];
}

passes_later : (first cs more all : List Change) → Passes cs more all → Passes (first ++ cs) more (first ++ all)
passes_later first cs more all p = record {
  old = λ c h. elim (held_either first cs c h) [ inl i ↦ contains_front first all c i | inr i ↦ contains_rest first all c (p.old c i) ];
  new = λ c h. contains_rest first all c (p.new c h);
  only = λ c h. elim (held_either first all c h) [ inl i ↦ inl (contains_front first cs c i) | inr i ↦ elim (p.only c i) [ inl j ↦ inl (contains_rest first cs c j) | inr j ↦ inr j ] ];
}

moved_by_cases : (feed : Feed) (cat : Catalogue) (n m : ℕ) (items : List Item) (rest : List ℕ) (f : Header × List Item) (fs : List (Header × List Item)) (s stands : StreamAt) (ss : List StreamAt) (b : Bool) → (s.header.stream == n) ≡ b
    → FrontsFrom feed cat m (f ∷ fs) → AreAtPlaces (f ∷ fs) (s ∷ ss) → cond b (Some s) (find (λ a. a.header.stream == n) ss) ≡ Some stands → Takes feed cat stands items rest
    → (b ≡ false → find (λ (a : StreamAt). a.header.stream == n) ss ≡ Some stands → Moved fs ss (map (moved_where n items) ss) items)
    → Moved (f ∷ fs) (s ∷ ss) (cond b (moved_by items s) s ∷ map (moved_where n items) ss) items
moved_by_cases feed cat n m items rest f fs s stands ss true e a b found t others =
    let is : s ≡ stands = cc in
    let one = move_one feed cat m f fs s items rest a b.0 b.1 (subst (λ (x : StreamAt). Takes feed cat x items rest) (sym is) t) in
    let k : n ≡ m = sym (eqb-true s.header.stream n e) ∙ ap (λ (h : Header). h.stream) b.0 ∙ a.0.number in
    let stay : map (moved_where n items) ss ≡ ss = unmoved feed cat n (m + 1) items fs ss (omega (arith, k)) a.3 b.2 in
    subst (λ (x : List StreamAt). Moved (f ∷ fs) (s ∷ ss) (moved_by items s ∷ x) items) (sym stay) (record {
      places = (one.header, one.stands, b.2);
      alone = one.alone;
      passes = passes_here (changes_of (items_before s.offset (header_length f.0) f.1)) (changes_of items) (passed fs ss) (changes_of (items_before (moved_by items s).offset (header_length f.0) f.1)) one.passes;
    })
moved_by_cases feed cat n m items rest f fs s stands ss false e a b found t others = let r = others refl found in record {
  places = (b.0, b.1, r.places);
  alone = r.alone;
  passes = passes_later (changes_of (items_before s.offset (header_length f.0) f.1)) (passed fs ss) (changes_of items) (passed fs (map (moved_where n items) ss)) r.passes;
}

moved : (feed : Feed) (cat : Catalogue) (n m : ℕ) (items : List Item) (rest : List ℕ) (fs : List (Header × List Item)) (ss : List StreamAt) (stands : StreamAt) → FrontsFrom feed cat m fs → AreAtPlaces fs ss
    → find (λ a. a.header.stream == n) ss ≡ Some stands → Takes feed cat stands items rest → Moved fs ss (map (moved_where n items) ss) items
moved feed cat n m items rest [] [] stands a b found t = cc
moved feed cat n m items rest [] (s ∷ ss) stands a b found t = absurd b
moved feed cat n m items rest (f ∷ fs) [] stands a b found t = absurd b
moved feed cat n m items rest (f ∷ fs) (s ∷ ss) stands a b found t = moved_by_cases feed cat n m items rest f fs s stands ss (s.header.stream == n) refl a b found t
    (λ e g. moved feed cat n (m + 1) items rest fs ss stands a.3 b.2 g t)

-- ---- a session after a pump

pub pumped : (feed : Feed) (fs : List (Header × List Item)) (s : State) (n : ℕ) (items : List Item) (rest : List ℕ) (stands : StreamAt) → IsGood feed s fs → stream_at s n ≡ Some stands → Takes feed (cat_of s) stands items rest → IsGood feed (with_items n items s) fs
pumped feed fs s n items rest stands good found t = let m = moved feed (cat_of s) n 0 items rest fs s.streams stands good.fronts.each good.ready.places found t in record {
  short = good.short;
  lawful = good.lawful;
  fronts = good.fronts;
  sound = good.sound;
  ready = record {
    places = m.places;
    pending = all_pending_more (cat_of s) s.durable (passed fs s.streams) (changes_of items) (passed fs (map (moved_where n items) s.streams)) s.durable.parts (ranges_of s.durable) s.pending m.passes good.ready.pending;
    job = good.ready.job;
  };
}

pub no_streams : (s : State) → with_streams [] s ≡ s
no_streams s = ap (λ (x : List StreamAt). record s { streams = x }) (append-nil s.streams)

pub pump_keeps : (n asked : ℕ) → KeepsDoing (do_pump n asked)
pump_keeps n asked feed fs s s' a good e d =
    let items = d.0 in
    let p = d.3 in
    let m = moved feed (cat_of s) n 0 items p.rest fs s.streams p.stands good.fronts.each good.ready.places p.known p.takes in
    let left : s' ≡ with_items n items s = d.6 ∙ ap (λ (gs : List Header). with_streams gs (with_items n items s)) (m.alone d.2 d.4) ∙ no_streams (with_items n items s) in
    (fs, subst (λ (x : State). IsGood feed x fs) (sym left) (pumped feed fs s n items p.rest p.stands good p.known p.takes))
