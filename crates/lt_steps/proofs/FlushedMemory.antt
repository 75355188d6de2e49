-- A flush: its partition's memory is emptied, and what it writes is what was held.
use Rattle.std.proofs.Common.{List, [], ap, ap₂, length, refl, subst, suc, sym, zero, ℕ, ◌∙◌, ◌∷◌, ◌≡◌}
use Rattle.std.specs.Prelude.{Contains, IsTrue, None, Option, Some, filter, map, nat_lt, slice_get, unwrap_or}
use Rattle.std.specs.List.{AllByRecursion}
use Rattle.lt_world.specs.Feed.{Feed}
use Rattle.lt_terms.specs.Log.{Change}
use Rattle.lt_machine.specs.Machine.{Answer, Does, State, Step, StepBy, cat_of, flush_id, flushed_lists, not_empty, pending_of, refused, seen_pending, table_numbers, with_delta}
use Rattle.lt_tables.specs.Pump.{name_of}
use Rattle.lt_machine.specs.Outside.{BelongsTo, memory_versions}
use Rattle.lt_machine.specs.Sound.{Memory}
use Rattle.lt_words.specs.Reply.{Refusal}
use Rattle.lt_tables.specs.Row.{is_in_time}
use Rattle.lt_tables.specs.Schema.{Catalogue, change_at, when}
use Rattle.lt_tables.specs.Query.{do_flush}
use Rattle.lt_machine.specs.Sound.{source_of}
use Rattle.lt_tables.specs.Version.{RowVersion}
use Rattle.lt_laws.proofs.MemorySeen.{memory_seen}
use Rattle.lt_laws.proofs.DurableFacts.{got_is_held}
use Rattle.lt_session_laws.proofs.FlushLaws.{flush_keeps}
use Rattle.lt_laws.proofs.ListFacts.{all_at}
use Rattle.lt_session_laws.proofs.PartsChanged.{all_changed}
use Rattle.lt_laws.proofs.RangeLaws.{source_in_time}
use Rattle.lt_steps.proofs.BelongsLaws.{AreHeld, belongs_as, names_in}
use Rattle.lt_steps.proofs.KeptMemory.{with_delta_catalogue}
use Rattle.lt_steps.specs.Kept.{MemoryFlushes, StillBelongs, emptied, held_lists}

-- ---- the partition's place

emptied_named : (p : ℕ) (mem : Memory) → names_in (emptied p mem) ≡ change_at (λ ns. []) p (names_in mem)
emptied_named p [] = refl
emptied_named zero (cs ∷ mem) = refl
emptied_named (suc p) (cs ∷ mem) = ap (λ (x : List (List (List ℕ × ℕ))). map name_of cs ∷ x) (emptied_named p mem)

emptied_held : (source : List Change) (p : ℕ) (mem : Memory) → AreHeld source mem → AreHeld source (emptied p mem)
emptied_held source p mem a = all_changed (AllByRecursion (Contains source)) (AllByRecursion (Contains source)) (λ cs. []) p mem (λ cs h. h) (λ cs e h. tt) a

emptied_none : (p : ℕ) (mem : Memory) → slice_get mem p ≡ Some [] → emptied p mem ≡ mem
emptied_none p [] e = cc
emptied_none zero (cs ∷ mem) e = let d : cs ≡ [] = cc in ap (λ (x : List Change). x ∷ mem) (sym d)
emptied_none (suc p) (cs ∷ mem) e = ap (λ (x : Memory). cs ∷ x) (emptied_none p mem e)

named_at : (p : ℕ) (mem : Memory) (cs : List Change) → slice_get mem p ≡ Some cs → slice_get (names_in mem) p ≡ Some (map name_of cs)
named_at p [] cs e = cc
named_at zero (ds ∷ mem) cs e = let d : ds ≡ cs = cc in ap (λ (x : List Change). Some (map name_of x)) d
named_at (suc p) (ds ∷ mem) cs e = named_at p mem cs e

pub pending_is : (f : Feed) (s : State) (mem : Memory) (p : ℕ) (cs : List Change) → BelongsTo f s mem → slice_get mem p ≡ Some cs → pending_of s p ≡ map name_of cs
pending_is f s mem p cs b e = ap (λ (x : List (List (List ℕ × ℕ))). unwrap_or (slice_get x p) []) (sym b.2) ∙ ap (λ (o : Option (List (List ℕ × ℕ))). unwrap_or o []) (named_at p mem cs e)

-- ---- the changes in memory are those that the source has of their names

abbrev AreInTime : List Change → Type 0
AreInTime source = (key : List ℕ) → IsTrue (is_in_time key source)

abbrev with_lists : (ℕ → List RowVersion) → List ℕ → List (ℕ × List RowVersion)
with_lists lists tables = map (λ t. (t, lists t)) tables

tables_seen : (cat : Catalogue) (source : List Change) (cs : List Change) (tables : List ℕ) → AreInTime source → AllByRecursion (Contains source) cs → with_lists (seen_pending source cat (map name_of cs)) tables ≡ with_lists (memory_versions cat cs) tables
tables_seen cat source cs [] time a = refl
tables_seen cat source cs (t ∷ ts) time a = ap₂ (λ (vs : List RowVersion) (rest : List (ℕ × List RowVersion)). (t, vs) ∷ rest) (memory_seen cat source t cs time a) (tables_seen cat source cs ts time a)

lists_held : (f : Feed) (s : State) (mem : Memory) (p : ℕ) (cs : List Change) (b : BelongsTo f s mem) → slice_get mem p ≡ Some cs → flushed_lists (source_of b.0) (cat_of s) (pending_of s p) ≡ held_lists (cat_of s) cs
lists_held f s mem p cs b e =
    let held = all_at (AllByRecursion (Contains (source_of b.0))) mem cs b.3 (got_is_held mem p cs e) in
    ap (flushed_lists (source_of b.0) (cat_of s)) (pending_is f s mem p cs b e)
    ∙ ap (filter not_empty) (tables_seen (cat_of s) (source_of b.0) cs (table_numbers (cat_of s)) (λ key. source_in_time f (cat_of s) b.0 key b.1.fronts) held)

-- ---- the command

does_flush : (f : Feed) (s s' : State) (mem : Memory) (p : ℕ) (a : Answer) (b : BelongsTo f s mem) → refused s (do_flush p) ≡ None → Step f (source_of b.0) s (do_flush p) a s' → Does f (source_of b.0) s (do_flush p) a s'
does_flush f s s' mem p a b free step = subst (λ (o : Option Refusal). StepBy o f (source_of b.0) s (do_flush p) a s') free step

flush_belongs : (f : Feed) (s s' : State) (mem : Memory) (p : ℕ) (a : Answer) (b : BelongsTo f s mem) → refused s (do_flush p) ≡ None → Step f (source_of b.0) s (do_flush p) a s' → StillBelongs f s mem b s' (emptied p mem)
flush_belongs f s s' mem p a b free step =
    let d = does_flush f s s' mem p a b free step in
    belongs_as f s mem b s' (emptied p mem) (ap cat_of d.1 ∙ with_delta_catalogue (flush_id s p) (cat_of s) (flushed_lists (source_of b.0) (cat_of s) (pending_of s p)) s.durable) (flush_keeps p f b.0 s s' a b.1 free d)
    (emptied_named p mem ∙ ap (change_at (λ ns. []) p) b.2 ∙ sym (ap (λ (x : State). x.pending) d.1)) (emptied_held (source_of b.0) p mem b.3)

flush_none : (f : Feed) (s s' : State) (mem : Memory) (p : ℕ) (a : Answer) (b : BelongsTo f s mem) → slice_get mem p ≡ Some [] → refused s (do_flush p) ≡ None → Step f (source_of b.0) s (do_flush p) a s'
    → (emptied p mem ≡ mem) × (flush_id s p ≡ None) × (s'.durable.shelf ≡ s.durable.shelf) × (s'.durable.next_id ≡ s.durable.next_id)
flush_none f s s' mem p a b none free step =
    let d = does_flush f s s' mem p a b free step in
    let lists = flushed_lists (source_of b.0) (cat_of s) (pending_of s p) in
    let id : flush_id s p ≡ None = ap (λ (ns : List (List ℕ × ℕ)). when (nat_lt 0 (length ns)) s.durable.next_id) (pending_is f s mem p [] b none) in (
      emptied_none p mem none,
      id,
      ap (λ (x : State). x.durable.shelf) d.1 ∙ ap (λ (o : Option ℕ). (with_delta o (cat_of s) lists s.durable).shelf) id,
      ap (λ (x : State). x.durable.next_id) d.1 ∙ ap (λ (o : Option ℕ). (with_delta o (cat_of s) lists s.durable).next_id) id,
    )

pub memory_flushes : MemoryFlushes
memory_flushes = record {
  empties = flush_belongs;
  with_none = flush_none;
  writes = λ f s mem p cs b e. (pending_is f s mem p cs b e, lists_held f s mem p cs b e);
}
