-- A split parts what is held as it parts the pending names.
use Rattle.std.proofs.Common.{Bool, List, [], ap, ap₂, cond, false, refl, subst, sym, true, ℕ, ◌∙◌, ◌∷◌, ◌≡◌}
use Rattle.std.specs.Prelude.{Contains, Option, Some, filter, map, not}
use Rattle.std.specs.List.{AllByRecursion}
use Rattle.lt_world.specs.Feed.{Feed}
use Rattle.lt_terms.specs.Key.{Range, below, in_range}
use Rattle.lt_terms.specs.Log.{Change, Header, Item, change_key}
use Rattle.lt_machine.specs.Machine.{Does, State, StepBy, cat_of, ranges_of, split_key, split_pending, was_split}
use Rattle.lt_tables.specs.Pump.{name_of}
use Rattle.lt_machine.specs.Outside.{BelongsTo}
use Rattle.lt_machine.specs.Sound.{Memory}
use Rattle.lt_words.specs.Reply.{Refusal}
use Rattle.lt_tables.specs.Schema.{Table}
use Rattle.lt_tables.specs.Query.{do_split}
use Rattle.lt_machine.specs.Sound.{IsGood, source_of}
use Rattle.lt_codecs.proofs.LogLaws.{frames_prefix_free}
use Rattle.lt_laws.proofs.FrontLaws.{fronts_unique}
use Rattle.lt_lemmas.proofs.ListFacts.{all_filter}
use Rattle.lt_session_laws.proofs.SplitLaws.{split_keeps}
use Rattle.lt_steps.specs.Memory.{MemorySplits, split_memory}

-- ---- names and what is true of each change

named_by : (c : Change) (cs : List Change) (ns : List (List ℕ × ℕ)) (b : Bool) → map name_of cs ≡ ns → map name_of (cond b (c ∷ cs) cs) ≡ cond b (name_of c ∷ ns) ns
named_by c cs ns true e = ap (λ (x : List (List ℕ × ℕ)). name_of c ∷ x) e
named_by c cs ns false e = e

filter_named : (test : List ℕ → Bool) (cs : List Change) → map name_of (filter (λ c. test (change_key c)) cs) ≡ filter (λ n. test n.0) (map name_of cs)
filter_named test [] = refl
filter_named test (c ∷ cs) = named_by c (filter (λ c. test (change_key c)) cs) (filter (λ n. test n.0) (map name_of cs)) (test (change_key c)) (filter_named test cs)

abbrev lower : List ℕ → List Change → List Change
lower key cs = filter (λ c. below (change_key c) key) cs

abbrev upper : List ℕ → List Change → List Change
upper key cs = filter (λ c. not (below (change_key c) key)) cs

abbrev names_in : Memory → List (List (List ℕ × ℕ))
names_in mem = map (λ cs. map name_of cs) mem

parted_by : (key : List ℕ) (cs : List Change) (mem others : Memory) (ns : List (List (List ℕ × ℕ))) (b : Bool) → names_in others ≡ ns
    → names_in (cond b (lower key cs ∷ upper key cs ∷ mem) (cs ∷ others)) ≡ cond b (filter (λ n. below n.0 key) (map name_of cs) ∷ filter (λ n. not (below n.0 key)) (map name_of cs) ∷ names_in mem) (map name_of cs ∷ ns)
parted_by key cs mem others ns true e = ap₂ (λ (x y : List (List ℕ × ℕ)). x ∷ y ∷ names_in mem) (filter_named (λ k. below k key) cs) (filter_named (λ k. not (below k key)) cs)
parted_by key cs mem others ns false e = ap (λ (x : List (List (List ℕ × ℕ))). map name_of cs ∷ x) e

parted_named : (key : List ℕ) (mem : Memory) (rs : List Range) → names_in (split_memory key mem rs) ≡ split_pending key (names_in mem) rs
parted_named key [] rs = refl
parted_named key (cs ∷ mem) [] = refl
parted_named key (cs ∷ mem) (r ∷ rs) = parted_by key cs mem (split_memory key mem rs) (split_pending key (names_in mem) rs) (in_range key r) (parted_named key mem rs)

each_by : (P : Change → Type 0) (key : List ℕ) (cs : List Change) (mem others : Memory) (b : Bool) → AllByRecursion P cs → AllByRecursion (AllByRecursion P) mem → AllByRecursion (AllByRecursion P) others
    → AllByRecursion (AllByRecursion P) (cond b (lower key cs ∷ upper key cs ∷ mem) (cs ∷ others))
each_by P key cs mem others true a h i = (all_filter P (λ c. below (change_key c) key) cs a, (all_filter P (λ c. not (below (change_key c) key)) cs a, h))
each_by P key cs mem others false a h i = (a, i)

parted_each : (P : Change → Type 0) (key : List ℕ) (mem : Memory) (rs : List Range) → AllByRecursion (AllByRecursion P) mem → AllByRecursion (AllByRecursion P) (split_memory key mem rs)
parted_each P key [] rs a = tt
parted_each P key (cs ∷ mem) [] a = a
parted_each P key (cs ∷ mem) (r ∷ rs) a = each_by P key cs mem (split_memory key mem rs) (in_range key r) a.0 a.1 (parted_each P key mem rs a.1)

-- ---- the session

split_belongs : (f : Feed) (s : State) (mem : Memory) (key : List ℕ) → BelongsTo f s mem → (gs : List (Header × List Item)) × IsGood f (was_split s key) gs → BelongsTo f (was_split s key) (split_memory key mem (ranges_of s.durable))
split_belongs f s mem key b g =
    let rs = ranges_of s.durable in
    let same = fronts_unique frames_prefix_free f (cat_of s) b.0 g.0 b.1.fronts g.1.fronts in (
      b.0,
      subst (λ (gs : List (Header × List Item)). IsGood f (was_split s key) gs) (sym same) g.1,
      parted_named key mem rs ∙ ap (λ (ns : List (List (List ℕ × ℕ))). split_pending key ns rs) b.2,
      parted_each (Contains (source_of b.0)) key mem rs b.3,
    )

pub memory_splits : MemorySplits
memory_splits f s s' mem name ls t a b known free step =
    let d : Does f (source_of b.0) s (do_split name ls) a s' = subst (λ (o : Option Refusal). StepBy o f (source_of b.0) s (do_split name ls) a s') free step in
    let found : Some d.0 ≡ Some t = sym d.1 ∙ known in
    let is : d.0 ≡ t = cc in
    let left : s' ≡ was_split s (split_key t ls) = d.3 ∙ ap (λ (x : Table). was_split s (split_key x ls)) is in
    let g = split_keeps name ls f b.0 s s' a b.1 free d in
    subst (λ (x : State). BelongsTo f x (split_memory (split_key t ls) mem (ranges_of s.durable))) (sym left)
    (split_belongs f s mem (split_key t ls) b (g.0, subst (λ (x : State). IsGood f x g.0) left g.1))
