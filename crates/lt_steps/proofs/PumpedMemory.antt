-- What a pump takes: its changes have other names than those that are held, so memory takes them in as the pending names do.
use Rattle.std.proofs.Common.{Bool, List, [], ap, ap₂, arith, cond, drop, eqb-true, false, ltb-true, refl, subst, suc, sym, take, true, zero, ℕ, ◌+◌, ◌++◌, ◌<◌, ◌∙◌, ◌∷◌, ◌≡◌, ◌≤◌}
use Rattle.std.specs.Prelude.{Contains, IsTrue, Some, find, map, nat_lt, zip, ⊤, ◌&&◌, ◌==◌, ◌||◌}
use Rattle.std.specs.List.{AllByRecursion}
use Rattle.std.proofs.lemmas.Bool.{and_parts}
use Rattle.std.proofs.lemmas.List.{take-append-drop}
use Rattle.lt_terms.specs.Value.{rises_above, rises_strictly}
use Rattle.lt_terms.specs.Key.{Range, below, in_range, same_key}
use Rattle.lt_tables.specs.Schema.{Catalogue}
use Rattle.lt_terms.specs.Log.{Change, Header, Item, change_key, changes_of}
use Rattle.lt_world.specs.Feed.{Feed}
use Rattle.lt_tables.specs.Fair.{IsPrefix, changes_to, header_length}
use Rattle.lt_machine.specs.Machine as machine
use Rattle.lt_tables.specs.Pump.{StreamAt, Takes, all_delivered, delivered, put_name}
use Rattle.lt_machine.specs.Machine.{cat_of, ranges_of}
use Rattle.lt_tables.specs.Pump.{name_of, put_change}
use Rattle.lt_machine.specs.Sound.{Memory}
use Rattle.lt_tables.specs.Row.{is_in_time}
use Rattle.lt_machine.specs.Sound.{AreAtPlaces, FrontsFrom, PendingOfAll, Stands, items_before, passed, source_of}
use Rattle.lt_tables.specs.Pump.{Part}
use Rattle.lt_storage.specs.Store.{Durable}
use Rattle.lt_codecs.proofs.ListFacts.{all_append, all_front, all_map, all_rest}
use Rattle.lt_session_laws.proofs.FlushLaws.{passed_from}
use Rattle.lt_laws.proofs.HeldLaws.{rises_tail}
use Rattle.lt_lemmas.proofs.ListFacts.{all_contained}
use Rattle.lt_laws.proofs.ListFacts.{all_at, contains_front, contains_rest}
use Rattle.lt_lemmas.proofs.PointLaws.{changes_of-append, itself, same}
use Rattle.lt_session_laws.proofs.PumpLaws.{pumped}
use Rattle.lt_laws.proofs.RangeLaws.{source_in_time}
use Rattle.lt_laws.proofs.SoundLaws.{before-take}
use Rattle.lt_session_laws.proofs.StopLaws.{pump_laws}
use Rattle.lt_pump.specs.Given.{all_given, given}
use Rattle.lt_pump.specs.Positions.{IsOther}
use Rattle.lt_pump.proofs.GivenLaws.{all_put}
use Rattle.lt_steps.specs.Memory.{MemoryPumps, partitions}

-- ---- changes of which no two have one name

abbrev AreOthers : List Change → Change → Type 0
AreOthers ds c = AllByRecursion (IsOther c) ds

abbrev AreApart : List Change → Type 0
AreApart [] = ⊤
AreApart (c ∷ cs) = AreOthers cs c × AreApart cs

other_back : (c d : Change) → IsOther c d → IsOther d c
other_back c d o key at = o (sym key) (sym at)

apart_front : (xs ys : List Change) → AreApart (xs ++ ys) → AreApart xs
apart_front [] ys a = tt
apart_front (x ∷ xs) ys a = (all_front (IsOther x) xs ys a.0, apart_front xs ys a.1)

apart_rest : (xs ys : List Change) → AreApart (xs ++ ys) → AreApart ys
apart_rest [] ys a = a
apart_rest (x ∷ xs) ys a = apart_rest xs ys a.1

-- those of the first list are others than those of the second
apart_across : (xs ys : List Change) → AreApart (xs ++ ys) → AllByRecursion (AreOthers ys) xs
apart_across [] ys a = tt
apart_across (x ∷ xs) ys a = (all_rest (IsOther x) xs ys a.0, apart_across xs ys a.1)

turned_one : (x : Change) (xs ys : List Change) → AreOthers ys x → AllByRecursion (AreOthers xs) ys → AllByRecursion (AreOthers (x ∷ xs)) ys
turned_one x xs [] a b = tt
turned_one x xs (y ∷ ys) a b = ((other_back x y a.0, b.0), turned_one x xs ys a.1 b.1)

no_others : (ys : List Change) → AllByRecursion (AreOthers []) ys
no_others [] = tt
no_others (y ∷ ys) = (tt, no_others ys)

turned : (xs ys : List Change) → AllByRecursion (AreOthers ys) xs → AllByRecursion (AreOthers xs) ys
turned [] ys a = no_others ys
turned (x ∷ xs) ys a = turned_one x xs ys a.0 (turned xs ys a.1)

-- what is other than all of a list is other than some of it
others_of : (all some : List Change) (c : Change) → AllByRecursion (Contains all) some → AreOthers all c → AreOthers some c
others_of all some c within a = all_map (Contains all) (IsOther c) some (λ d h. all_at (IsOther c) all d a h) within

-- ---- where each key's changes rise in time no two have one name

tail_by : (c : Change) (cs : List Change) (b : Bool) → IsTrue (rises_strictly (map (λ c. c.ts) (cond b (c ∷ cs) cs))) → IsTrue (rises_strictly (map (λ c. c.ts) cs))
tail_by c cs true r = rises_tail c.ts (map (λ c. c.ts) cs) r
tail_by c cs false r = r

time_tail : (c : Change) (cs : List Change) (key : List ℕ) → is_in_time key (c ∷ cs) ≡ true → is_in_time key cs ≡ true
time_tail c cs key r = tail_by c (changes_to key cs) (same_key (change_key c) key) r

rising_by : (c d : Change) (key : List ℕ) (low : ℕ) (cs : List Change) (b : Bool) → same_key (change_key d) key ≡ b → change_key c ≡ key → c.ts ≤ low → IsTrue (rises_above low (map (λ c. c.ts) (cond b (d ∷ changes_to key cs) (changes_to key cs))))
    → ((n : ℕ) → c.ts ≤ n → IsTrue (rises_above n (map (λ c. c.ts) (changes_to key cs))) → AreOthers cs c) → AreOthers (d ∷ cs) c
rising_by c d key low cs true e k l r next =
    let p = and_parts (nat_lt low d.ts) (rises_above d.ts (map (λ c. c.ts) (changes_to key cs))) r in
    let above : low < d.ts = ltb-true low d.ts p.0 in
    ((λ same at. absurd (omega (arith, above, l, at))), next d.ts (omega (arith, above, l)) p.1)
rising_by c d key low cs false e k l r next =
    ((λ is at. let f : true ≡ false = sym (ap (λ (x : List ℕ). same_key x key) (is ∙ k) ∙ itself key) ∙ e in absurd cc), next low l r)

rising_others : (c : Change) (key : List ℕ) (low : ℕ) (cs : List Change) → change_key c ≡ key → c.ts ≤ low → IsTrue (rises_above low (map (λ c. c.ts) (changes_to key cs))) → AreOthers cs c
rising_others c key low [] k l r = tt
rising_others c key low (d ∷ cs) k l r = rising_by c d key low cs (same_key (change_key d) key) refl k l r (λ n m s. rising_others c key n cs k m s)

first_by : (c : Change) (cs : List Change) (b : Bool) → b ≡ true → IsTrue (rises_strictly (map (λ c. c.ts) (cond b (c ∷ cs) cs))) → IsTrue (rises_above c.ts (map (λ c. c.ts) cs))
first_by c cs true e r = r
first_by c cs false e r = absurd cc

timed_apart : (cs : List Change) → ((key : List ℕ) → is_in_time key cs ≡ true) → AreApart cs
timed_apart [] t = tt
timed_apart (c ∷ cs) t =
    let key = change_key c in
    (rising_others c key c.ts cs refl (omega arith) (first_by c (changes_to key cs) (same_key key key) (itself key) (t key)), timed_apart cs (λ k. time_tail c cs k (t k)))

-- ---- what is taken stands in the source, behind what the streams have passed

record IsNew (source passed new : List Change) : Type 0 where
  others : AllByRecursion (AreOthers passed) new
  apart : AreApart new
  held : AllByRecursion (Contains source) new

contained_front : (xs ys : List Change) → AllByRecursion (Contains (xs ++ ys)) xs
contained_front xs ys = all_map (Contains xs) (Contains (xs ++ ys)) xs (λ c h. contains_front xs ys c h) (all_contained xs)

contained_rest : (xs ys zs : List Change) → AllByRecursion (Contains ys) zs → AllByRecursion (Contains (xs ++ ys)) zs
contained_rest xs ys zs a = all_map (Contains ys) (Contains (xs ++ ys)) zs (λ c h. contains_rest xs ys c h) a

both_others : (xs ys cs : List Change) → AllByRecursion (AreOthers xs) cs → AllByRecursion (AreOthers ys) cs → AllByRecursion (AreOthers (xs ++ ys)) cs
both_others xs ys [] a b = tt
both_others xs ys (c ∷ cs) a b = (all_append (IsOther c) xs ys a.0 b.0, both_others xs ys cs a.1 b.1)

some_others : (all some cs : List Change) → AllByRecursion (Contains all) some → AllByRecursion (AreOthers all) cs → AllByRecursion (AreOthers some) cs
some_others all some cs within a = all_map (AreOthers all) (AreOthers some) cs (λ c h. others_of all some c within h) a

held_others : (all cs xs : List Change) → AllByRecursion (Contains all) cs → AllByRecursion (AreOthers all) xs → AllByRecursion (AreOthers xs) cs
held_others all cs xs within a = turned xs cs (some_others all cs xs within a)

-- of one stream's changes, the part behind those passed
parted_new : (b c d e gone : List Change) → AllByRecursion (Contains e) gone → AreApart ((b ++ (c ++ d)) ++ e) → IsNew ((b ++ (c ++ d)) ++ e) (b ++ gone) c
parted_new b c d e gone within a =
    let one = apart_front (b ++ (c ++ d)) e a in
    let rest = apart_rest b (c ++ d) one in
    let earlier = turned b c (all_map (AreOthers (c ++ d)) (AreOthers c) b (λ x h. all_front (IsOther x) c d h) (apart_across b (c ++ d) one)) in
    let later = all_front (AreOthers e) c d (all_rest (AreOthers e) b (c ++ d) (apart_across (b ++ (c ++ d)) e a)) in record {
      others = both_others b gone c earlier (some_others e gone c within later);
      apart = apart_front c d rest;
      held = all_map (Contains (b ++ (c ++ d))) (Contains ((b ++ (c ++ d)) ++ e)) c (λ x h. contains_front (b ++ (c ++ d)) e x h) (contained_rest b (c ++ d) c (contained_front c d));
    }

-- of the streams behind one, as well behind what that one has passed
later_new : (first source gone before new : List Change) → AllByRecursion (Contains first) before → AreApart (first ++ source) → IsNew source gone new → IsNew (first ++ source) (before ++ gone) new
later_new first source gone before new within a n = record {
  others = both_others before gone new (some_others first before new within (held_others source new first n.held (apart_across first source a))) n.others;
  apart = n.apart;
  held = contained_rest first source new n.held;
}

changes_parted : (n : ℕ) (items : List Item) → changes_of items ≡ changes_of (take n items) ++ changes_of (drop n items)
changes_parted n items = ap changes_of (sym (take-append-drop n items)) ∙ changes_of-append (take n items) (drop n items)

passed_is : (f : Header × List Item) (a : StreamAt) (k : Stands f a) → changes_of (items_before a.offset (header_length f.0) f.1) ≡ changes_of (take k.0 f.1)
passed_is f a k = ap changes_of (before-take a.offset (header_length f.0) k.0 f.1 k.2)

passed_one : (f : Header × List Item) (a : StreamAt) → Stands f a → AllByRecursion (Contains (changes_of f.1)) (changes_of (items_before a.offset (header_length f.0) f.1))
passed_one f a k = subst (λ (cs : List Change). AllByRecursion (Contains (changes_of f.1)) cs) (sym (passed_is f a k))
    (subst (λ (all : List Change). AllByRecursion (Contains all) (changes_of (take k.0 f.1))) (sym (changes_parted k.0 f.1)) (contained_front (changes_of (take k.0 f.1)) (changes_of (drop k.0 f.1))))

-- the items of a stream's place
taken_here : (feed : Feed) (cat : Catalogue) (f : Header × List Item) (fs : List (Header × List Item)) (a : StreamAt) (ss : List StreamAt) (items : List Item) (rest : List ℕ) → IsPrefix feed cat f.0 f.1 → AreAtPlaces (f ∷ fs) (a ∷ ss) → Takes feed cat a items rest
    → AreApart (source_of (f ∷ fs)) → IsNew (source_of (f ∷ fs)) (passed (f ∷ fs) (a ∷ ss)) (changes_of items)
taken_here feed cat f fs a ss items rest prefix b t apart =
    let k = b.1 in
    let next = pump_laws.front feed cat f a items rest prefix b.0 k t in
    let before = changes_of (take k.0 f.1) in
    let gone = passed fs ss in
    let parted : changes_of f.1 ≡ before ++ (changes_of items ++ changes_of next.0) = changes_parted k.0 f.1 ∙ ap (λ (x : List Change). before ++ x) (ap changes_of next.1 ∙ changes_of-append items next.0) in
    let new = parted_new before (changes_of items) (changes_of next.0) (source_of fs) gone (passed_from fs ss b.2) (subst (λ (x : List Change). AreApart (x ++ source_of fs)) parted apart) in
    subst (λ (x : List Change). IsNew (source_of (f ∷ fs)) (x ++ gone) (changes_of items)) (sym (passed_is f a k)) (subst (λ (x : List Change). IsNew (x ++ source_of fs) (before ++ gone) (changes_of items)) (sym parted) new)

taken_by : (feed : Feed) (cat : Catalogue) (n m : ℕ) (items : List Item) (rest : List ℕ) (f : Header × List Item) (fs : List (Header × List Item)) (s stands : StreamAt) (ss : List StreamAt) (b : Bool) → FrontsFrom feed cat m (f ∷ fs) → AreAtPlaces (f ∷ fs) (s ∷ ss)
    → cond b (Some s) (find (λ a. a.header.stream == n) ss) ≡ Some stands → Takes feed cat stands items rest → AreApart (source_of (f ∷ fs))
    → (find (λ (a : StreamAt). a.header.stream == n) ss ≡ Some stands → IsNew (source_of fs) (passed fs ss) (changes_of items)) → IsNew (source_of (f ∷ fs)) (passed (f ∷ fs) (s ∷ ss)) (changes_of items)
taken_by feed cat n m items rest f fs s stands ss true a b found t apart others =
    let is : s ≡ stands = cc in
    taken_here feed cat f fs s ss items rest a.2 b (subst (λ (x : StreamAt). Takes feed cat x items rest) (sym is) t) apart
taken_by feed cat n m items rest f fs s stands ss false a b found t apart others =
    later_new (changes_of f.1) (source_of fs) (passed fs ss) (changes_of (items_before s.offset (header_length f.0) f.1)) (changes_of items) (passed_one f s b.1) apart (others found)

taken_new : (feed : Feed) (cat : Catalogue) (n m : ℕ) (items : List Item) (rest : List ℕ) (fs : List (Header × List Item)) (ss : List StreamAt) (stands : StreamAt) → FrontsFrom feed cat m fs → AreAtPlaces fs ss
    → find (λ a. a.header.stream == n) ss ≡ Some stands → Takes feed cat stands items rest → AreApart (source_of fs) → IsNew (source_of fs) (passed fs ss) (changes_of items)
taken_new feed cat n m items rest [] [] stands a b found t apart = cc
taken_new feed cat n m items rest [] (s ∷ ss) stands a b found t apart = absurd b
taken_new feed cat n m items rest (f ∷ fs) [] stands a b found t apart = absurd b
taken_new feed cat n m items rest (f ∷ fs) (s ∷ ss) stands a b found t apart = taken_by feed cat n m items rest f fs s stands ss (s.header.stream == n) a b found t apart
    (λ g. taken_new feed cat n (m + 1) items rest fs ss stands a.3 b.2 g t (apart_rest (changes_of f.1) (source_of fs) apart))

-- ---- what is held has names of what was passed

held_other : (c d p : Change) → IsTrue (machine.named (name_of d) p) → IsOther c p → IsOther c d
held_other c d p named o key at =
    let q = and_parts (same_key (change_key p) (change_key d)) (p.ts == d.ts) named in
    o (same (change_key p) (change_key d) q.0 ∙ key) (eqb-true p.ts d.ts q.1 ∙ at)

part_others : (gone : List Change) (c : Change) (held : List Change) → ((n : List ℕ × ℕ) → Contains (map name_of held) n → (x : Change) × Contains gone x × IsTrue (machine.named n x)) → AreOthers gone c → AreOthers held c
part_others gone c [] h a = tt
part_others gone c (x ∷ held) h a =
    let g = h (name_of x) (zero, omega arith, refl) in
    (held_other c x g.0 g.2 (all_at (IsOther c) gone g.0 a g.1), part_others gone c held (λ n (k, l, e). h n (suc k, omega (arith, l), e)) a)

memory_others : (cat : Catalogue) (d : Durable) (gone : List Change) (ps : List Part) (rs : List Range) (mem : Memory) (c : Change) → PendingOfAll cat d gone ps rs (map (λ cs. map name_of cs) mem) → AreOthers gone c → AllByRecursion (λ cs. AreOthers cs c) mem
memory_others cat d gone ps rs [] c h a = tt
memory_others cat d gone [] rs (held ∷ mem) c h a = absurd h
memory_others cat d gone (p ∷ ps) [] (held ∷ mem) c h a = absurd h
memory_others cat d gone (p ∷ ps) (r ∷ rs) (held ∷ mem) c h a = (
  part_others gone c held (λ n k. let g = h.0.are_changes n k in (g.0, g.1, g.2)) a,
  memory_others cat d gone ps rs mem c h.1 a,
)

-- ---- changes are put as their names are

put_by : (c d : Change) (ds : List Change) (b e : Bool) → e ≡ false → map name_of (put_change c ds) ≡ put_name (name_of c) (map name_of ds)
    → map name_of (cond b (c ∷ d ∷ ds) (d ∷ put_change c ds)) ≡ cond b (name_of c ∷ name_of d ∷ map name_of ds) (cond e (name_of d ∷ map name_of ds) (name_of d ∷ put_name (name_of c) (map name_of ds)))
put_by c d ds true e f i = refl
put_by c d ds false true f i = absurd (let g : true ≡ false = f in cc)
put_by c d ds false false f i = ap (λ (ns : List (List ℕ × ℕ)). name_of d ∷ ns) i

not_both : (b e : Bool) → (b ≡ true → e ≡ true → ⊥) → (b && e) ≡ false
not_both true true h = absurd (h refl refl)
not_both true false h = refl
not_both false e h = refl

other_name : (c d : Change) → IsOther c d → (same_key (change_key c) (change_key d) && c.ts == d.ts) ≡ false
other_name c d o = not_both (same_key (change_key c) (change_key d)) (c.ts == d.ts) (λ k t. o (sym (same (change_key c) (change_key d) k)) (sym (eqb-true c.ts d.ts t)))

put_named : (c : Change) (ds : List Change) → AreOthers ds c → map name_of (put_change c ds) ≡ put_name (name_of c) (map name_of ds)
put_named c [] a = refl
put_named c (d ∷ ds) a = put_by c d ds (below (change_key c) (change_key d) || (same_key (change_key c) (change_key d) && nat_lt d.ts c.ts)) (same_key (change_key c) (change_key d) && c.ts == d.ts) (other_name c d a.0) (put_named c ds a.1)

abbrev is_due : Range → ℕ → Change → Bool
is_due r from c = in_range (change_key c) r && nat_lt from c.ts

put_where : (P : Change → Type 0) (c : Change) (ds : List Change) (b : Bool) → P c → AllByRecursion P ds → AllByRecursion P (cond b (put_change c ds) ds)
put_where P c ds true p a = all_put P c ds p a
put_where P c ds false p a = a

where_others : (c : Change) (cs ds : List Change) (b : Bool) → AreOthers cs c → AllByRecursion (AreOthers ds) cs → AllByRecursion (AreOthers (cond b (put_change c ds) ds)) cs
where_others c [] ds b a h = tt
where_others c (x ∷ cs) ds b a h = (put_where (IsOther x) c ds b (other_back c x a.0) h.0, where_others c cs ds b a.1 h.1)

named_where : (c : Change) (ds : List Change) (b : Bool) → AreOthers ds c → map name_of (cond b (put_change c ds) ds) ≡ cond b (put_name (name_of c) (map name_of ds)) (map name_of ds)
named_where c ds true a = put_named c ds a
named_where c ds false a = refl

given_named : (cs : List Change) (r : Range) (p : Part) (ds : List Change) → AreApart cs → AllByRecursion (AreOthers ds) cs → map name_of (given cs r p.resume ds) ≡ delivered cs r p (map name_of ds)
given_named [] r p ds a h = refl
given_named (c ∷ cs) r p ds a h =
    let b = is_due r p.resume c in
    given_named cs r p (cond b (put_change c ds) ds) a.1 (where_others c cs ds b a.0 h.1) ∙ ap (delivered cs r p) (named_where c ds b h.0)

all_named : (cs : List Change) (rs : List Range) (ps : List Part) (mem : Memory) → AreApart cs → AllByRecursion (λ c. AllByRecursion (λ ds. AreOthers ds c) mem) cs
    → map (λ ds. map name_of ds) (all_given cs (zip rs (map (λ p. p.resume) ps)) mem) ≡ all_delivered cs rs ps (map (λ ds. map name_of ds) mem)
all_named cs [] ps mem a h = refl
all_named cs (r ∷ rs) [] mem a h = refl
all_named cs (r ∷ rs) (p ∷ ps) [] a h = refl
all_named cs (r ∷ rs) (p ∷ ps) (ds ∷ mem) a h = ap₂ (λ (ns : List (List ℕ × ℕ)) (rest : List (List (List ℕ × ℕ))). ns ∷ rest)
    (given_named cs r p ds a (all_map (λ c. AllByRecursion (λ ds. AreOthers ds c) (ds ∷ mem)) (AreOthers ds) cs (λ c k. k.0) h))
    (all_named cs rs ps mem a (all_map (λ c. AllByRecursion (λ ds. AreOthers ds c) (ds ∷ mem)) (λ c. AllByRecursion (λ ds. AreOthers ds c) mem) cs (λ c k. k.1) h))

-- ---- and what was true of each stays so

given_each : (P : Change → Type 0) (cs : List Change) (r : Range) (from : ℕ) (ds : List Change) → AllByRecursion P cs → AllByRecursion P ds → AllByRecursion P (given cs r from ds)
given_each P [] r from ds a h = h
given_each P (c ∷ cs) r from ds a h = given_each P cs r from (cond (is_due r from c) (put_change c ds) ds) a.1 (put_where P c ds (is_due r from c) a.0 h)

all_each : (P : Change → Type 0) (cs : List Change) (subs : List (Range × ℕ)) (mem : Memory) → AllByRecursion P cs → AllByRecursion (AllByRecursion P) mem → AllByRecursion (AllByRecursion P) (all_given cs subs mem)
all_each P cs [] mem a h = h
all_each P cs (s ∷ ss) [] a h = h
all_each P cs (s ∷ ss) (ds ∷ mem) a h = (given_each P cs s.0 s.1 ds a h.0, all_each P cs ss mem a h.1)

-- ---- the session

pub memory_pumps : MemoryPumps
memory_pumps f s mem n a items rest b at t =
    let fs = b.0 in
    let good = b.1 in
    let d = s.durable in
    let cs = changes_of items in
    let gone = passed fs s.streams in
    let new = taken_new f (cat_of s) n 0 items rest fs s.streams a good.fronts.each good.ready.places at t (timed_apart (source_of fs) (λ key. source_in_time f (cat_of s) fs key good.fronts)) in
    let pending = subst (λ (ns : List (List (List ℕ × ℕ))). PendingOfAll (cat_of s) d gone d.parts (ranges_of d) ns) (sym b.2) good.ready.pending in
    let others = all_map (AreOthers gone) (λ c. AllByRecursion (λ ds. AreOthers ds c) mem) cs (λ c h. memory_others (cat_of s) d gone d.parts (ranges_of d) mem c pending h) new.others in (
      (
        fs,
        pumped f fs s n items rest a good at t,
        all_named cs (ranges_of d) d.parts mem new.apart others ∙ ap (all_delivered cs (ranges_of d) d.parts) b.2,
        all_each (Contains (source_of fs)) cs (partitions s) mem new.held b.3,
      ),
      refl,
    )
