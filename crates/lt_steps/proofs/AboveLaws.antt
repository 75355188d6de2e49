-- What is held lies in its partition, above where that is durable: an opening gives it and each command keeps it.
use Rattle.std.proofs.Common.{Bool, List, [], ap, arith, cond, eqb-true, false, inl, inr, ltb-true, refl, subst, suc, sym, true, zero, ℕ, ◌<◌, ◌∙◌, ◌∷◌, ◌≡◌}
use Rattle.std.specs.Prelude.{Contains, IsTrue, Option, Some, filter, map, nat_lt, not, zip, ◌&&◌, ◌==◌, ◌⊎◌}
use Rattle.std.specs.List.{AllByRecursion}
use Rattle.std.proofs.lemmas.Bool.{and_from, and_parts}
use Rattle.lt_terms.specs.Key.{Range, below, in_range, is_below_high, lies_in, ranges_from, same_key}
use Rattle.lt_terms.specs.Log.{Change, change_key, changes_of}
use Rattle.lt_world.specs.Feed.{Feed}
use Rattle.lt_machine.specs.Machine.{Answer, Does, Job, State, cat_of, compacted, flush_id, named, output_id, parts_replaced, ranges_of, replaced, resume_after, split_key, with_id, with_resume}
use Rattle.lt_tables.specs.Pump.{name_of, put_change}
use Rattle.lt_machine.specs.Outside.{AreAbove, BelongsTo, MemoryAbove}
use Rattle.lt_machine.specs.Sound.{Memory}
use Rattle.lt_words.specs.Reply.{Refusal}
use Rattle.lt_machine.specs.Run.{AfterFault, TakesSome}
use Rattle.lt_tables.specs.Schema.{Catalogue, Table, change_at}
use Rattle.lt_tables.specs.Query.{Command, do_compact, do_deltas, do_flush, do_job_begin, do_job_drop, do_job_finish, do_job_step, do_page, do_pump, do_reopen, do_retain, do_retire, do_scan, do_schema, do_split, do_status}
use Rattle.lt_machine.specs.Sound.{PendingOfAll, passed}
use Rattle.lt_tables.specs.Pump.{Part}
use Rattle.lt_storage.specs.Store.{Durable, part_ranges}
use Rattle.lt_session_laws.proofs.SplitLaws.{first_stays}
use Rattle.lt_session_laws.proofs.CompactedShelf.{lows_replaced}
use Rattle.lt_codecs.proofs.ListFacts.{all_map}
use Rattle.lt_lemmas.proofs.ListFacts.{all_contained}
use Rattle.lt_laws.proofs.ListFacts.{in_map}
use Rattle.lt_session_laws.proofs.PartsChanged.{ranges_changed}
use Rattle.lt_lemmas.proofs.PointLaws.{same}
use Rattle.lt_laws.proofs.SoundLaws.{filter-all}
use Rattle.lt_pump.specs.Given.{all_given, given}
use Rattle.lt_pump.proofs.GivenLaws.{all_put}
use Rattle.lt_steps.specs.Memory.{split_memory}
use Rattle.lt_steps.proofs.SplitParts.{id_low, range_before, replaced_resume, split_at}
use Rattle.lt_steps.specs.Kept.{FaultLeaves, MemoryBecomes, MemoryGiven, MemoryIsAbove, emptied}

-- ---- partition by partition

abbrev IsAbove : (Part × Range) × List Change → Type 0
IsAbove x = AreAbove x.0.1 x.0.0 x.1

abbrev AllAbove : List Part → List Range → Memory → Type 0
AllAbove ps rs mem = AllByRecursion IsAbove (zip (zip ps rs) mem)

-- with nothing held
none_above : (ps : List Part) (rs : List Range) (qs : List Part) → AllAbove ps rs (map (λ p. []) qs)
none_above [] rs qs = tt
none_above (p ∷ ps) [] qs = tt
none_above (p ∷ ps) (r ∷ rs) [] = tt
none_above (p ∷ ps) (r ∷ rs) (q ∷ qs) = (tt, none_above ps rs qs)

-- ---- what is given

abbrev IsWithin : Range → ℕ → Change → Type 0
IsWithin r from c = IsTrue (in_range (change_key c) r) × (from < c.ts)

put_within : (r : Range) (from : ℕ) (c : Change) (held : List Change) (b : Bool) → (in_range (change_key c) r && nat_lt from c.ts) ≡ b → AllByRecursion (IsWithin r from) held → AllByRecursion (IsWithin r from) (cond b (put_change c held) held)
put_within r from c held true e a = let p = and_parts (in_range (change_key c) r) (nat_lt from c.ts) e in all_put (IsWithin r from) c held (p.0, ltb-true from c.ts p.1) a
put_within r from c held false e a = a

given_within : (cs : List Change) (r : Range) (from : ℕ) (held : List Change) → AllByRecursion (IsWithin r from) held → AllByRecursion (IsWithin r from) (given cs r from held)
given_within [] r from held a = a
given_within (c ∷ cs) r from held a =
    let b = in_range (change_key c) r && nat_lt from c.ts in
    given_within cs r from (cond b (put_change c held) held) (put_within r from c held b refl a)

pub given_above : (cs : List Change) (ps : List Part) (rs : List Range) (mem : Memory) → AllAbove ps rs mem → AllAbove ps rs (all_given cs (zip rs (map (λ p. p.resume) ps)) mem)
given_above cs [] rs mem a = tt
given_above cs (p ∷ ps) [] mem a = tt
given_above cs (p ∷ ps) (r ∷ rs) [] a = tt
given_above cs (p ∷ ps) (r ∷ rs) (held ∷ mem) a = (given_within cs r p.resume held a.0, given_above cs ps rs mem a.1)

-- ---- one partition is emptied

emptied_above : (f : Part → Part) (n : ℕ) (ps : List Part) (rs : List Range) (mem : Memory) → AllAbove ps rs mem → AllAbove (change_at f n ps) rs (emptied n mem)
emptied_above f n [] rs mem a = tt
emptied_above f zero (p ∷ ps) [] mem a = tt
emptied_above f (suc n) (p ∷ ps) [] mem a = tt
emptied_above f zero (p ∷ ps) (r ∷ rs) [] a = tt
emptied_above f (suc n) (p ∷ ps) (r ∷ rs) [] a = tt
emptied_above f zero (p ∷ ps) (r ∷ rs) (held ∷ mem) a = (tt, a.1)
emptied_above f (suc n) (p ∷ ps) (r ∷ rs) (held ∷ mem) a = (a.0, emptied_above f n ps rs mem a.1)

-- ---- partitions that list other deltas

listed_above : (r : Range) (p q : Part) (held : List Change) → q.resume ≡ p.resume → AreAbove r p held → AreAbove r q held
listed_above r p q held e a = subst (λ (n : ℕ). AllByRecursion (IsWithin r n) held) (sym e) a

replaced_above : (j : Job) (o : Option ℕ) (ts : List Range) (ps : List Part) (rs : List Range) (mem : Memory) → AllAbove ps rs mem → AllAbove (parts_replaced j o ts ps) rs mem
replaced_above j o [] ps rs mem a = a
replaced_above j o (t ∷ ts) [] rs mem a = tt
replaced_above j o (t ∷ ts) (p ∷ ps) [] mem a = tt
replaced_above j o (t ∷ ts) (p ∷ ps) (r ∷ rs) [] a = tt
replaced_above j o (t ∷ ts) (p ∷ ps) (r ∷ rs) (held ∷ mem) a = (listed_above r p (cond (lies_in t j.range) (replaced j o p) p) held (replaced_resume j o p (lies_in t j.range)) a.0, replaced_above j o ts ps rs mem a.1)

-- ---- a split

nothing_above : (ps : List Part) (rs : List Range) → AllAbove ps rs []
nothing_above [] rs = tt
nothing_above (p ∷ ps) [] = tt
nothing_above (p ∷ ps) (r ∷ rs) = tt

lower_within : (key : List ℕ) (r : Range) (from : ℕ) (held : List Change) → AllByRecursion (IsWithin r from) held → AllByRecursion (IsWithin (record { low = r.low; high = Some key }) from) (filter (λ c. below (change_key c) key) held)
lower_within key r from held a = all_map (λ c. IsWithin r from c × (below (change_key c) key ≡ true)) (IsWithin (record { low = r.low; high = Some key }) from) (filter (λ c. below (change_key c) key) held)
    (λ c h. (and_from _ _ (and_parts (not (below (change_key c) r.low)) (is_below_high (change_key c) r.high) h.0.0).0 h.1, h.0.1))
    (filter-all (IsWithin r from) (λ c. below (change_key c) key) held a)

upper_within : (key : List ℕ) (r : Range) (from : ℕ) (held : List Change) → AllByRecursion (IsWithin r from) held → AllByRecursion (IsWithin (record { low = key; high = r.high }) from) (filter (λ c. not (below (change_key c) key)) held)
upper_within key r from held a = all_map (λ c. IsWithin r from c × (not (below (change_key c) key) ≡ true)) (IsWithin (record { low = key; high = r.high }) from) (filter (λ c. not (below (change_key c) key)) held)
    (λ c h. (and_from _ _ h.1 (and_parts (not (below (change_key c) r.low)) (is_below_high (change_key c) r.high) h.0.0).1, h.0.1))
    (filter-all (IsWithin r from) (λ c. not (below (change_key c) key)) held a)

split_by : (key : List ℕ) (p : Part) (ps : List Part) (held : List Change) (mem : Memory) (b : Bool) → AllByRecursion (IsWithin (range_before p ps) p.resume) held → AllAbove ps (part_ranges ps) mem
    → AllAbove (split_at key ps) (part_ranges (split_at key ps)) (split_memory key mem (part_ranges ps))
    → AllAbove (cond b (p ∷ record p { low = key } ∷ ps) (p ∷ split_at key ps)) (part_ranges (cond b (p ∷ record p { low = key } ∷ ps) (p ∷ split_at key ps)))
    (cond b (filter (λ c. below (change_key c) key) held ∷ filter (λ c. not (below (change_key c) key)) held ∷ mem) (held ∷ split_memory key mem (part_ranges ps)))
split_by key p ps held mem true here others ih = (lower_within key (range_before p ps) p.resume held here, (upper_within key (range_before p ps) p.resume held here, others))
split_by key p ps held mem false here others ih = (subst (λ (o : Option (List ℕ)). AllByRecursion (IsWithin (record { low = p.low; high = o }) p.resume) held) (sym (first_stays key ps)) here, ih)

split_above : (key : List ℕ) (ps : List Part) (mem : Memory) → AllAbove ps (part_ranges ps) mem → AllAbove (split_at key ps) (part_ranges (split_at key ps)) (split_memory key mem (part_ranges ps))
split_above key [] mem a = tt
split_above key (p ∷ ps) [] a = nothing_above (split_at key (p ∷ ps)) (part_ranges (split_at key (p ∷ ps)))
split_above key (p ∷ ps) (held ∷ mem) a = split_by key p ps held mem (in_range key (range_before p ps)) a.0 a.1 (split_above key ps mem a.1)

-- ---- what a session holds that belongs to a feed

named_within : (cat : Catalogue) (d : Durable) (cs : List Change) (p : Part) (r : Range) (held all : List Change) → AllByRecursion (Contains all) held → ((n : List ℕ × ℕ) → Contains (map name_of all) n → (c : Change) × Contains cs c × IsTrue (named n c) × IsTrue (in_range (change_key c) r) × (p.resume < c.ts)) → AreAbove r p held
named_within cat d cs p r held all within h = all_map (Contains all) (IsWithin r p.resume) held (λ c k.
    let g = h (name_of c) (in_map name_of all c k) in
    let q = and_parts (same_key (change_key g.0) (change_key c)) (g.0.ts == c.ts) g.2 in
    let at = eqb-true g.0.ts c.ts q.1 in
    (subst (λ (key : List ℕ). IsTrue (in_range key r)) (same (change_key g.0) (change_key c) q.0) g.3, (let l : p.resume < g.0.ts = g.4 in omega (arith, l, at)))) within

all_pending_above : (cat : Catalogue) (d : Durable) (cs : List Change) (ps : List Part) (rs : List Range) (mem : Memory) → PendingOfAll cat d cs ps rs (map (λ held. map name_of held) mem) → AllAbove ps rs mem
all_pending_above cat d cs [] rs mem a = tt
all_pending_above cat d cs (p ∷ ps) [] mem a = tt
all_pending_above cat d cs (p ∷ ps) (r ∷ rs) [] a = tt
all_pending_above cat d cs (p ∷ ps) (r ∷ rs) (held ∷ mem) a = (named_within cat d cs p r held held (all_contained held) a.0.are_changes, all_pending_above cat d cs ps rs mem a.1)

belongs_above : (f : Feed) (s : State) (mem : Memory) → BelongsTo f s mem → MemoryAbove s mem
belongs_above f s mem b = all_pending_above (cat_of s) s.durable (passed b.0 s.streams) s.durable.parts (ranges_of s.durable) mem
    (subst (λ (ns : List (List (List ℕ × ℕ))). PendingOfAll (cat_of s) s.durable (passed b.0 s.streams) s.durable.parts (ranges_of s.durable) ns) (sym b.2) b.1.ready.pending)

-- ---- the commands

-- a state whose parts are those of another
same_parts : (s s' : State) (mem : Memory) → s'.durable.parts ≡ s.durable.parts → MemoryAbove s mem → MemoryAbove s' mem
same_parts s s' mem e a = subst (λ (ps : List Part). AllAbove ps (part_ranges ps) mem) (sym e) a

held_on : (s s' : State) (mem mem' : Memory) → s'.durable.parts ≡ s.durable.parts → mem' ≡ mem → MemoryAbove s mem → MemoryAbove s' mem'
held_on s s' mem mem' e m a = subst (MemoryAbove s') (sym m) (same_parts s s' mem e a)

given_on : (f : Feed) (s s' : State) (n : ℕ) (mem mem' : Memory) → MemoryAbove s mem → MemoryGiven f s n s' mem mem' → MemoryAbove s' mem'
given_on f s s' n mem mem' a g = held_on s s' mem' mem' (ap (λ (x : State). x.durable.parts) g.5) refl
    (subst (MemoryAbove s) (sym g.6) (given_above (changes_of g.1) s.durable.parts (ranges_of s.durable) mem a))

compacted_on : (s s' : State) (j : Job) (mem mem' : Memory) → s'.durable.parts ≡ (compacted s.durable j).parts → mem' ≡ mem → MemoryAbove s mem → MemoryAbove s' mem'
compacted_on s s' j mem mem' e m a =
    let o = output_id s.durable j in
    let rs = ranges_of s.durable in
    let ps = parts_replaced j o rs s.durable.parts in
    let same : part_ranges ps ≡ rs = ap ranges_from (lows_replaced j o rs s.durable.parts) in
    subst (MemoryAbove s') (sym m) (subst (λ (qs : List Part). AllAbove qs (part_ranges qs) mem) (sym e)
    (subst (λ (ts : List Range). AllAbove ps ts mem) (sym same) (replaced_above j o rs s.durable.parts rs mem a)))

flushed_on : (s s' : State) (p : ℕ) (mem mem' : Memory) → s'.durable.parts ≡ change_at (λ x. with_resume (resume_after s p) (with_id (flush_id s p) x)) p s.durable.parts → mem' ≡ emptied p mem → MemoryAbove s mem → MemoryAbove s' mem'
flushed_on s s' p mem mem' e m a =
    let f = λ (x : Part). with_resume (resume_after s p) (with_id (flush_id s p) x) in
    let ps = change_at f p s.durable.parts in
    let same : part_ranges ps ≡ ranges_of s.durable = ranges_changed f p s.durable.parts (λ x. id_low (flush_id s p) (resume_after s p) x) in
    subst (MemoryAbove s') (sym m) (subst (λ (qs : List Part). AllAbove qs (part_ranges qs) (emptied p mem)) (sym e)
    (subst (λ (ts : List Range). AllAbove ps ts (emptied p mem)) (sym same) (emptied_above f p s.durable.parts (ranges_of s.durable) mem a)))

above_after : (f : Feed) (source : List Change) (s s' : State) (mem mem' : Memory) (c : Command) (a : Answer) → MemoryAbove s mem → Does f source s c a s' → MemoryBecomes f s c s' mem mem' → MemoryAbove s' mem'
above_after f source s s' mem mem' (do_schema t) a h d m = held_on s s' mem mem' (ap (λ (x : State). x.durable.parts) d.3) m h
above_after f source s s' mem mem' (do_retire t v) a h d m = held_on s s' mem mem' (ap (λ (x : State). x.durable.parts) d.3) m h
above_after f source s s' mem mem' (do_pump n k) a h d m = given_on f s s' n mem mem' h m
above_after f source s s' mem mem' (do_flush p) a h d m = flushed_on s s' p mem mem' (ap (λ (x : State). x.durable.parts) d.1) m h
above_after f source s s' mem mem' (do_compact p k) a h d m = compacted_on s s' d.0 mem mem' (ap (λ (x : State). x.durable.parts) d.3) m h
above_after f source s s' mem mem' (do_job_begin p k) a h d m = held_on s s' mem mem' (ap (λ (x : State). x.durable.parts) d.3) m h
above_after f source s s' mem mem' (do_job_step n) a h d m = held_on s s' mem mem' (ap (λ (x : State). x.durable.parts) d.3) m h
above_after f source s s' mem mem' do_job_finish a h d m = compacted_on s s' d.0 mem mem' (ap (λ (x : State). x.durable.parts) d.3) m h
above_after f source s s' mem mem' do_job_drop a h d m = held_on s s' mem mem' (ap (λ (x : State). x.durable.parts) d.1) m h
above_after f source s s' mem mem' (do_split t k) a h d m =
    let found : Some d.0 ≡ Some m.0 = sym d.1 ∙ m.1 in
    let is : d.0 ≡ m.0 = cc in
    let key = split_key m.0 k in
    let parts : s'.durable.parts ≡ split_at key s.durable.parts = ap (λ (x : State). x.durable.parts) d.3 ∙ ap (λ (x : Table). split_at (split_key x k) s.durable.parts) is in
    subst (MemoryAbove s') (sym m.2) (subst (λ (qs : List Part). AllAbove qs (part_ranges qs) (split_memory key mem (ranges_of s.durable))) (sym parts) (split_above key s.durable.parts mem h))
above_after f source s s' mem mem' (do_retain t) a h d m = held_on s s' mem mem' (ap (λ (x : State). x.durable.parts) d.1) m h
above_after f source s s' mem mem' (do_scan q) a h d m = held_on s s' mem mem' (ap (λ (x : State). x.durable.parts) d.2) m h
above_after f source s s' mem mem' (do_page q) a h d m = held_on s s' mem mem' (ap (λ (x : State). x.durable.parts) d.2) m h
above_after f source s s' mem mem' do_status a h d m = held_on s s' mem mem' (ap (λ (x : State). x.durable.parts) d.1) m h
above_after f source s s' mem mem' (do_deltas p) a h d m = held_on s s' mem mem' (ap (λ (x : State). x.durable.parts) d.1) m h
above_after f source s s' mem mem' do_reopen a h d m = subst (MemoryAbove s') (sym m) (none_above s'.durable.parts (ranges_of s'.durable) s'.durable.parts)

-- ---- faults

broken_on : (f : Feed) (source : List Change) (s s' : State) (mem mem' : Memory) (c : Command) (r : Refusal) → AfterFault f source s c r s' → (TakesSome f s c s' → ⊥) → mem' ≡ mem → MemoryAbove s mem → MemoryAbove s' mem'
broken_on f source s s' mem mem' c r (inl e) none m a = held_on s s' mem mem' (ap (λ (x : State). x.durable.parts) e) m a
broken_on f source s s' mem mem' c r (inr (inl t)) none m a = absurd (none t.1)
broken_on f source s s' mem mem' c r (inr (inr w)) none m a = held_on s s' mem mem' (ap (λ (x : State). x.durable.parts) w.1.2) m a

-- a fault leaves the partitions as they were
parts_after : (f : Feed) (source : List Change) (s s' : State) (n k : ℕ) (r : Refusal) → AfterFault f source s (do_pump n k) r s' → s'.durable.parts ≡ s.durable.parts
parts_after f source s s' n k r (inl e) = ap (λ (x : State). x.durable.parts) e
parts_after f source s s' n k r (inr (inl t)) = ap (λ (x : State). x.durable.parts) t.1.6
parts_after f source s s' n k r (inr (inr w)) = ap (λ (x : State). x.durable.parts) w.1.2

pumped_on : (f : Feed) (source : List Change) (s s' : State) (mem mem' : Memory) (n k : ℕ) (r : Refusal) → AfterFault f source s (do_pump n k) r s' → ((s'.pending ≡ s.pending) × (mem' ≡ mem)) ⊎ MemoryGiven f s n s' mem mem' → MemoryAbove s mem → MemoryAbove s' mem'
pumped_on f source s s' mem mem' n k r e (inl m) a = held_on s s' mem mem' (parts_after f source s s' n k r e) m.1 a
pumped_on f source s s' mem mem' n k r e (inr g) a = given_on f s s' n mem mem' a g

above_fault : (f : Feed) (source : List Change) (s s' : State) (mem mem' : Memory) (c : Command) (r : Refusal) → MemoryAbove s mem → AfterFault f source s c r s' → FaultLeaves f s c s' mem mem' → MemoryAbove s' mem'
above_fault f source s s' mem mem' (do_pump n k) r a e m = pumped_on f source s s' mem mem' n k r e m a
above_fault f source s s' mem mem' (do_schema t) r a e m = broken_on f source s s' mem mem' (do_schema t) r e (λ x. x) m a
above_fault f source s s' mem mem' (do_retire t v) r a e m = broken_on f source s s' mem mem' (do_retire t v) r e (λ x. x) m a
above_fault f source s s' mem mem' (do_flush p) r a e m = broken_on f source s s' mem mem' (do_flush p) r e (λ x. x) m a
above_fault f source s s' mem mem' (do_compact p k) r a e m = broken_on f source s s' mem mem' (do_compact p k) r e (λ x. x) m a
above_fault f source s s' mem mem' (do_job_begin p k) r a e m = broken_on f source s s' mem mem' (do_job_begin p k) r e (λ x. x) m a
above_fault f source s s' mem mem' (do_job_step n) r a e m = broken_on f source s s' mem mem' (do_job_step n) r e (λ x. x) m a
above_fault f source s s' mem mem' do_job_finish r a e m = broken_on f source s s' mem mem' do_job_finish r e (λ x. x) m a
above_fault f source s s' mem mem' do_job_drop r a e m = broken_on f source s s' mem mem' do_job_drop r e (λ x. x) m a
above_fault f source s s' mem mem' (do_split t k) r a e m = broken_on f source s s' mem mem' (do_split t k) r e (λ x. x) m a
above_fault f source s s' mem mem' (do_retain t) r a e m = broken_on f source s s' mem mem' (do_retain t) r e (λ x. x) m a
above_fault f source s s' mem mem' (do_scan q) r a e m = broken_on f source s s' mem mem' (do_scan q) r e (λ x. x) m a
above_fault f source s s' mem mem' (do_page q) r a e m = broken_on f source s s' mem mem' (do_page q) r e (λ x. x) m a
above_fault f source s s' mem mem' do_status r a e m = broken_on f source s s' mem mem' do_status r e (λ x. x) m a
above_fault f source s s' mem mem' (do_deltas p) r a e m = broken_on f source s s' mem mem' (do_deltas p) r e (λ x. x) m a
above_fault f source s s' mem mem' do_reopen r a e m = broken_on f source s s' mem mem' do_reopen r e (λ x. x) m a

pub memory_is_above : MemoryIsAbove
memory_is_above = record {
  opens = λ d hs. none_above d.parts (ranges_of d) d.parts;
  stays = above_after;
  faults = above_fault;
  belongs = belongs_above;
}
