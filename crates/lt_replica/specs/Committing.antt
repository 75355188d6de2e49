-- A command that commits: what it needs of the replica, what it would leave, and what it left of the disk and of the store.
use Rattle.std.specs.Prelude.{Err, IfErr, List, None, Ok, OnOk, Option, Result, Some, [], false, length, map, true, ⊤, ◌+◌, ◌-◌, ◌<◌, ◌^◌, ◌≡◌, ◌⊎◌}
use Rattle.lt_terms.specs.Log.{Change}
use Rattle.lt_world.specs.Disk.{CountsOne, DiskGoes, DiskState, HasCause, LeftOnly}
use Rattle.lt_world.specs.Feed.{Feed}
use Rattle.lt_tables.specs.Pump.{Part, name_of}
use Rattle.lt_tables.specs.Schema.{Catalogue}
use Rattle.lt_tables.specs.Query.{Command}
use Rattle.lt_words.specs.Reply as model
use Rattle.lt_storage.specs.Store.{Durable, Manifest, bare_manifest, manifest_bytes}
use Rattle.lt_machine.specs.Machine.{Does, State, Step, is_write, refused, replies}
use Rattle.lt_machine.specs.Outside.{BelongsTo, MemoryAbove}
use Rattle.lt_machine.specs.Sound.{Memory, source_of}
use Rattle.lt_reply.specs.View.{IsSpoken, view_refusal, view_reply}
use Rattle.lt_reply.specs.declared.refusal.Refusal.{Refusal}
use Rattle.lt_reply.specs.declared.refusal.Refusal.TheVariants as refusals
use Rattle.lt_reply.specs.declared.reply.Reply.{Reply}
use Rattle.lt_store.specs.Commits.{HasKept, IsNextRoot, LeadsTo, RefusesCommit, fault_if, of_disk}
use Rattle.lt_store.specs.declared.committing.CommitRefusal.{CommitRefusal}
use Rattle.lt_store.specs.declared.committing.CommitRefusal.TheVariants as commits
use Rattle.lt_store.specs.declared.store.Store.{Store}
use Rattle.lt_replica.specs.State.{IsIn, memory_of, state_in, state_of}
use Rattle.lt_replica.specs.Steps.{Refuses, Stays}
use Rattle.lt_replica.specs.declared.replica.Replica.{Replica}

-- ---- whether a command may write

-- no write has failed, and neither the generation nor the next id is at its end
pub record MayWrite (r : Replica) : Type 0 where
  pub whole : r.store.broken ≡ false
  pub generation : r.store.root.generation < 2 ^ 64 - 1
  pub next_id : r.next_id < 2 ^ 64 - 1

-- each command that writes is refused so
pub record WritesNothing (r : Replica) (e : Refusal) : Type 0 where
  pub spoken : IsSpoken e
  pub refuses : (broken : Option Durable) (c : Command) → IsIn r broken → is_write c ≡ true → refused (state_in r broken) c ≡ Some (view_refusal e)

-- why nothing may be written
abbrev pub IsNoWrite : Refusal → Type 0
IsNoWrite refusals.NeedsReopen = ⊤
IsNoWrite refusals.Worn = ⊤
IsNoWrite e = ⊥

-- ---- a call of the store's commit, in which no delta comes or goes

-- nothing of the disk was called
pub record IsQuiet (old new : DiskState) : Type 0 where
  pub told : new.told ≡ old.told
  pub images : LeftOnly old new old.leaves
  pub faults : new.faults ≡ old.faults
  pub write_faults : new.write_faults ≡ old.write_faults

-- what it did to the disk and to the store
pub record CommitCall (disk disk' : DiskState) (old new : Store) (m : Manifest) (r : Result (Unit {0}) CommitRefusal) : Type 0 where
  pub leads : LeadsTo disk disk' old new m [] r
  pub ok : OnOk r (IsNextRoot old.root new.root (length (manifest_bytes m)))
  pub kept : HasKept old new [] r
  pub refused : IfErr r (RefusesCommit old m)
  pub untouched : IfErr r (λ e. (e ≡ commits.Disk) ⊎ IsQuiet disk disk')
  pub goes : DiskGoes disk disk'
  pub cause : HasCause disk.faults disk'.faults (of_disk r)
  pub breaks : HasCause disk.write_faults disk'.write_faults (fault_if new.broken)
  pub read : CountsOne disk.reads disk'.reads

abbrev pub refusal_for : CommitRefusal → Refusal
refusal_for commits.Disk = refusals.DiskFault
refusal_for (commits.StoreFull need room) = refusals.StoreFull need room
refusal_for commits.Memory = refusals.Memory

abbrev pub answer_for : Result (Unit {0}) CommitRefusal → Result (Unit {0}) Refusal
answer_for (Ok x) = Ok x
answer_for (Err e) = Err (refusal_for e)

-- the same, by the refusal of a command
pub record HasRun (disk disk' : DiskState) (old new : Store) (m : Manifest) (r : Result (Unit {0}) Refusal) : Type 0 where
  pub result : Result (Unit {0}) CommitRefusal
  pub call : CommitCall disk disk' old new m result
  pub answer : r ≡ answer_for result

-- ---- what a command would leave

-- the state behind one commit more, with this catalogue, these partitions and this memory
abbrev pub after_commit : Replica → Catalogue → List Part → Memory → State
after_commit r cat ps mem = record (state_of r) { durable = record (state_of r).durable { catalogue = cat; parts = ps; generation = r.store.root.generation + 1 }; pending = map (map name_of) mem }

-- What a command leads to, with its reply. It commits once, and of the durable part only the catalogue and the partitions may be others.
pub record Attempt (old : Replica) (c : Command) : Type 0 where
  pub reply : model.Reply
  pub catalogue : Catalogue
  pub parts : List Part
  pub memory : Memory
  pub free : refused (state_of old) c ≡ None
  pub does : (f : Feed) (source : List Change) → Does f source (state_of old) c (replies reply) (after_commit old catalogue parts memory)
  -- the session after it belongs to each feed to which the one before did
  pub belongs : (f : Feed) → (b : BelongsTo f (state_of old) (memory_of old)) → Step f (source_of b.0) (state_of old) c (replies reply) (after_commit old catalogue parts memory) → BelongsTo f (after_commit old catalogue parts memory) memory
  pub above : MemoryAbove (state_of old) (memory_of old) → MemoryAbove (after_commit old catalogue parts memory) memory

abbrev pub after : {old : Replica} {c : Command} → Attempt old c → State
after {old} t = after_commit old t.catalogue t.parts t.memory

-- what the replica is then, by the answer of the commit: in the state after, or as it was
abbrev pub IsLeft : {c : Command} (old new : Replica) → Attempt old c → Result (Unit {0}) CommitRefusal → Result Reply Refusal → Type 0
IsLeft old new t (Ok x) r = (reply : Reply) × (r ≡ Ok reply) × (view_reply reply ≡ t.reply) × (state_of new ≡ after t) × (memory_of new ≡ t.memory) × (new.next_id ≡ old.next_id)
IsLeft old new t (Err e) r = (r ≡ Err (refusal_for e)) × Stays old new × (new.next_id ≡ old.next_id)

-- What a command that commits did: it was refused before anything was written, or it was tried.
pub data Tried (disk disk' : DiskState) (old new : Replica) (c : Command) (r : Result Reply Refusal) : Type 0 where
  refuses : (e : Refusal) → r ≡ Err e → ((broken : Option Durable) → IsIn old broken → Refuses (refused (state_in old broken) c) e) → Stays old new → new.store ≡ old.store → IsQuiet disk disk' → DiskGoes disk disk' → Tried disk disk' old new c r
  tries : (t : Attempt old c) (result : Result (Unit {0}) CommitRefusal) → old.store.broken ≡ false → CommitCall disk disk' old.store new.store (bare_manifest (after t).durable) result → IsLeft old new t result r → Tried disk disk' old new c r
