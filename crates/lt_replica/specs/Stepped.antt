-- What a command does to a replica, by the state and the memory that it holds: from this follows what a step did.
use Rattle.std.specs.Prelude.{IfErr, IfOk, IfSome, IsTrue, List, None, Result, Some, [], false, ◌≡◌, ◌⊎◌}
use Rattle.lt_world.specs.Feed.{Feed}
use Rattle.lt_replica.specs.BareStore.{on_bare_store}
use Rattle.lt_world.specs.Disk.{Rose}
use Rattle.lt_machine.specs.Run.{Counts}
use Rattle.lt_machine.specs.Machine.{DoesOver, is_reopen, query_of, refused, replies}
use Rattle.lt_machine.specs.Outside.{BelongsTo, Causes, GivenUpTo, MemoryAbove, StaysBut, World, caused_by, counts_at}
use Rattle.lt_machine.specs.Run.{Answers, Shows, is_fault, may_end_in}
use Rattle.lt_tables.specs.Query.{Command}
use Rattle.lt_machine.specs.Sound.{Session}
use Rattle.lt_machine.specs.Step.{BreaksIn, RefusesAs, Stepped, held_changes}
use Rattle.lt_terms.specs.Value.{Value}
use Rattle.lt_reply.specs.declared.refusal.Refusal.{Refusal}
use Rattle.lt_reply.specs.declared.reply.Reply.{Reply}
use Rattle.lt_replica.specs.State.{StandsFor, memory_of, state_of}
use Rattle.lt_replica.specs.Steps.{answer_of, with_rows}
use Rattle.lt_replica.specs.declared.replica.Replica.{Replica}

-- What may be the cause of a fault where the disk is not used: the feed's count rose, or the row sink's.
abbrev pub memory_causes : Counts → Counts → Causes
memory_causes n m = record { feed = Rose n.feed m.feed; disk = ⊥; out = Rose n.out m.out; full = λ need room. ⊥; hurt = λ e. ⊥; mismatch = λ k. ⊥ }

-- the machine's answer over a feed, or a fault by its cause, with the rows that the sink was given
abbrev pub IsAnswered : Feed → World → World → Replica → Replica → Command → Result Reply Refusal → Type 0
IsAnswered f w w' old new c r = (given : List (List Value)) × (rows : GivenUpTo w.rows w'.rows given (answer_of r)) × ((rows.broken_off ≡ []) ⊎ BreaksIn f (state_of old) c given rows.next)
    × Answers (caused_by (memory_causes (counts_at w) (counts_at w'))) f (state_of old) c (with_rows given r) (state_of new)

-- from one replica to the next
pub record Moves (w w' : World) (old new : Replica) (c : Command) (r : Result Reply Refusal) : Type 0 where
  pub machine : IfSome w'.feed.told (λ f. BelongsTo f (state_of old) (memory_of old) → IsAnswered f w w' old new c r)
  pub belongs : IfSome w'.feed.told (λ f. BelongsTo f (state_of old) (memory_of old) → BelongsTo f (state_of new) (memory_of new))
  pub above : MemoryAbove (state_of old) (memory_of old) → MemoryAbove (state_of new) (memory_of new)
  pub shows : Shows (counts_at w) (counts_at w') (state_of old) (state_of new) c (answer_of r)
  pub causes : IfErr (answer_of r) (λ e. (refused (state_of old) c ≡ Some e) ⊎ (IsTrue (is_fault e) × IsTrue (may_end_in c e) × caused_by (memory_causes (counts_at w) (counts_at w')) e))
  pub refused : IfSome (refused (state_of old) c) (λ e. RefusesAs e (answer_of r) × (state_of new ≡ state_of old))
  pub stays : IfErr (answer_of r) (λ e. StaysBut c e (state_of old) (state_of new))
  pub again : is_reopen c ≡ false
  pub done : query_of c ≡ None → IfOk (answer_of r) (λ reply. DoesOver w'.feed.told (held_changes (memory_of old)) (state_of old) c (replies reply) (state_of new))

-- Of each session that the one replica stood for, the other stands for a session that a step leads to.
abbrev pub LeadsOn : World → World → Replica → Replica → Command → Result Reply Refusal → Type 0
LeadsOn w w' old new c r = (x : Session) → StandsFor old x → (y : Session) × StandsFor new y × Stepped on_bare_store w w' x y c (answer_of r)
