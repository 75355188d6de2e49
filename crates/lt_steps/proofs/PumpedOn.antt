-- A pump's command: no stream enters, what was taken is given to the partitions, and nothing that lies at or below how far one is durable.
use Rattle.std.proofs.Common.{Bool, List, [], ap, cond, false, inl, inr, le-ltb, ltb-true, refl, subst, sym, true, ℕ, ◌+◌, ◌<◌, ◌∙◌, ◌∷◌, ◌≡◌, ◌≤◌}
use Rattle.std.specs.Prelude.{Contains, IsTrue, None, Option, Some, find, nat_lt, ◌&&◌, ◌==◌, ◌⊎◌}
use Rattle.std.specs.List.{AllByRecursion}
use Rattle.std.proofs.lemmas.Bool.{and_parts}
use Rattle.lt_world.specs.Feed.{Feed}
use Rattle.lt_terms.specs.Key.{Range, in_range}
use Rattle.lt_terms.specs.Log.{Change, Header, Item, change_key, changes_of, is_item, is_read}
use Rattle.lt_tables.specs.Pump.{StreamAt, Takes, moved_by}
use Rattle.lt_machine.specs.Machine.{Answer, Does, State, Step, StepBy, cat_of, refused, with_items, with_streams}
use Rattle.lt_tables.specs.Pump.{put_change}
use Rattle.lt_machine.specs.Outside.{BelongsTo}
use Rattle.lt_machine.specs.Sound.{Memory}
use Rattle.lt_words.specs.Reply.{Refusal}
use Rattle.lt_tables.specs.Schema.{Catalogue}
use Rattle.lt_tables.specs.Query.{do_pump}
use Rattle.lt_machine.specs.Sound.{AreAtPlaces, FrontsFrom, IsGood, source_of}
use Rattle.lt_session_laws.proofs.PumpLaws.{no_streams, none_enter}
use Rattle.lt_codecs.proofs.ListFacts.{all_map}
use Rattle.lt_lemmas.proofs.ListFacts.{all_contained, all_from, find_all}
use Rattle.lt_laws.proofs.ListFacts.{all_at}
use Rattle.lt_pump.proofs.GivenLaws.{all_put}
use Rattle.lt_pump.specs.Given.{all_given, given}
use Rattle.lt_steps.proofs.PumpedMemory.{memory_pumps}
use Rattle.lt_steps.specs.Memory.{partitions}
use Rattle.lt_steps.specs.Kept.{MemoryGiven, MemoryPumpsOn, StillBelongs}

-- ---- no stream enters

-- the streams of a session are of a format that is read
pub streams_read : (f : Feed) (cat : Catalogue) (n : ℕ) (fs : List (Header × List Item)) (ss : List StreamAt) → FrontsFrom f cat n fs → AreAtPlaces fs ss → AllByRecursion (λ a. IsTrue (is_read a.header.format)) ss
streams_read f cat n [] [] a b = tt
streams_read f cat n [] (s ∷ ss) a b = absurd b
streams_read f cat n (g ∷ gs) [] a b = absurd b
streams_read f cat n (g ∷ gs) (s ∷ ss) a b = (subst (λ (h : Header). IsTrue (is_read h.format)) (sym b.0) a.1, streams_read f cat (n + 1) gs ss a.3 b.2)

pub are_items : (f : Feed) (cat : Catalogue) (a : StreamAt) (items : List Item) (rest : List ℕ) → Takes f cat a items rest → AllByRecursion (λ i. IsTrue (is_item a.header.format i)) items
are_items f cat a [] rest t = tt
are_items f cat a (i ∷ items) rest t = (t.0, are_items f cat (moved_by (i ∷ []) a) items rest t.4)

-- what a pump's command takes of its stream, in a session that belongs to a feed
pub record Took (f : Feed) (s s' : State) (n : ℕ) : Type 0 where
  pub at : StreamAt
  pub items : List Item
  pub rest : List ℕ
  pub known : find (λ a. a.header.stream == n) s.streams ≡ Some at
  pub read : IsTrue (is_read at.header.format)
  pub takes : Takes f (cat_of s) at items rest
  pub left : s' ≡ with_items n items s

pub took : (f : Feed) (fs : List (Header × List Item)) (s s' : State) (n k : ℕ) (a : Answer) → IsGood f s fs → Does f (source_of fs) s (do_pump n k) a s' → Took f s s' n
took f fs s s' n k a good d =
    let p = d.3 in
    let read = (find_all (λ x. IsTrue (is_read x.header.format)) (λ x. x.header.stream == n) s.streams p.stands (streams_read f (cat_of s) 0 fs s.streams good.fronts.each good.ready.places) p.known).0 in
    let alone = none_enter p.stands.header.format d.0 d.2 read (are_items f (cat_of s) p.stands d.0 p.rest p.takes) d.4 in record {
      at = p.stands;
      items = d.0;
      rest = p.rest;
      known = p.known;
      read = read;
      takes = p.takes;
      left = d.6 ∙ ap (λ (gs : List Header). with_streams gs (with_items n d.0 s)) alone ∙ no_streams (with_items n d.0 s);
    }

pub given_still : (f : Feed) (s s' : State) (mem mem' : Memory) (n : ℕ) (b : BelongsTo f s mem) → MemoryGiven f s n s' mem mem' → StillBelongs f s mem b s' mem'
given_still f s s' mem mem' n b g =
    let now = memory_pumps f s mem n g.0 g.1 g.2 b g.3 g.4 in
    subst (λ (x : State). StillBelongs f s mem b x mem') (sym g.5) (subst (λ (m : Memory). StillBelongs f s mem b (with_items n g.1 s) m) (sym g.6) now)

pumps_on : (f : Feed) (s s' : State) (mem : Memory) (n k : ℕ) (a : Answer) (b : BelongsTo f s mem) → refused s (do_pump n k) ≡ None → Step f (source_of b.0) s (do_pump n k) a s' → (mem' : Memory) × MemoryGiven f s n s' mem mem' × StillBelongs f s mem b s' mem'
pumps_on f s s' mem n k a b free step =
    let t = took f b.0 s s' n k a b.1 (subst (λ (o : Option Refusal). StepBy o f (source_of b.0) s (do_pump n k) a s') free step) in
    let mem' = all_given (changes_of t.items) (partitions s) mem in
    let g : MemoryGiven f s n s' mem mem' = (t.at, t.items, t.rest, t.known, t.takes, t.left, refl) in
    (mem', g, given_still f s s' mem mem' n b g)

-- ---- what is given

abbrev is_due : Range → ℕ → Change → Bool
is_due r from c = in_range (change_key c) r && nat_lt from c.ts

put_where : (P : Change → Type 0) (c : Change) (held : List Change) (b : Bool) → (b ≡ true → P c) → AllByRecursion P held → AllByRecursion P (cond b (put_change c held) held)
put_where P c held true f a = all_put P c held (f refl) a
put_where P c held false f a = a

given_where : (P : Change → Type 0) (cs : List Change) (r : Range) (from : ℕ) (held : List Change) → AllByRecursion (λ c. is_due r from c ≡ true → P c) cs → AllByRecursion P held → AllByRecursion P (given cs r from held)
given_where P [] r from held f a = a
given_where P (c ∷ cs) r from held f a = given_where P cs r from (cond (is_due r from c) (put_change c held) held) f.1 (put_where P c held (is_due r from c) f.0 a)

given_late : (cs : List Change) (r : Range) (from : ℕ) (held : List Change) (c : Change) → Contains (given cs r from held) c → Contains held c ⊎ (Contains cs c × IsTrue (in_range (change_key c) r) × (from < c.ts))
given_late cs r from held c h = all_at (λ c. Contains held c ⊎ (Contains cs c × IsTrue (in_range (change_key c) r) × (from < c.ts))) (given cs r from held) c
    (given_where (λ c. Contains held c ⊎ (Contains cs c × IsTrue (in_range (change_key c) r) × (from < c.ts))) cs r from held
    (all_from (λ c. is_due r from c ≡ true → Contains held c ⊎ (Contains cs c × IsTrue (in_range (change_key c) r) × (from < c.ts))) cs
    (λ c k due. let p = and_parts (in_range (change_key c) r) (nat_lt from c.ts) due in inr (k, p.0, ltb-true from c.ts p.1)))
    (all_map (Contains held) (λ c. Contains held c ⊎ (Contains cs c × IsTrue (in_range (change_key c) r) × (from < c.ts))) held (λ c k. inl k) (all_contained held))) h

abbrev IsStored : Range → ℕ → Change → Type 0
IsStored r from c = IsTrue (in_range (change_key c) r) → c.ts ≤ from

not_due : (r : Range) (from : ℕ) (c : Change) (b : Bool) → in_range (change_key c) r ≡ b → IsStored r from c → (b && nat_lt from c.ts) ≡ false
not_due r from c true e h = le-ltb from c.ts (h e)
not_due r from c false e h = refl

given_again : (cs : List Change) (r : Range) (from : ℕ) (held : List Change) → AllByRecursion (IsStored r from) cs → given cs r from held ≡ held
given_again [] r from held a = refl
given_again (c ∷ cs) r from held a =
    ap (λ (b : Bool). given cs r from (cond b (put_change c held) held)) (not_due r from c (in_range (change_key c) r) refl a.0) ∙ given_again cs r from held a.1

pub memory_pumps_on : MemoryPumpsOn
memory_pumps_on = record { steps = pumps_on; late = given_late; again = given_again }
