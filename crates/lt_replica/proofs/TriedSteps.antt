-- What a step says of a command that commits, beside where it leads.
use Rattle.std.proofs.Common.{Bool, List, ap, false, refl, subst, sym, true, ◌∙◌, ◌≡◌, ◌≤◌, length}
use Rattle.std.specs.Prelude.{Err, IfErr, None, Ok, Option, Result, Some}
use Rattle.lt_world.specs.Disk.{DiskGoes, DiskState}
use Rattle.lt_world.specs.Feed.{FeedState}
use Rattle.lt_world.specs.RowSink.{RowSinkState}
use Rattle.lt_pump.proofs.FeedLaws.{goes_itself}
use Rattle.lt_tables.specs.Pump.{StreamAt}
use Rattle.lt_tables.specs.Query.{Command}
use Rattle.lt_words.specs.Reply as model
use Rattle.lt_storage.specs.Store.{Durable}
use Rattle.lt_machine.specs.Machine.{State, refused}
use Rattle.lt_machine.specs.Outside.{WorldGoes, world_of}
use Rattle.lt_reply.specs.View.{IsSpoken}
use Rattle.lt_reply.specs.declared.refusal.Refusal.{Refusal}
use Rattle.lt_reply.specs.declared.refusal.Refusal.TheVariants as refusals
use Rattle.lt_reply.specs.declared.reply.Reply.{Reply}
use Rattle.lt_store.specs.declared.committing.CommitRefusal.{CommitRefusal}
use Rattle.lt_store.specs.declared.committing.CommitRefusal.TheVariants as commits
use Rattle.lt_replica.specs.Committing.{Attempt, IsLeft, Tried, refusal_for, refuses, tries}
use Rattle.lt_replica.specs.State.{IsFed, IsIn, state_in, state_of}
use Rattle.lt_replica.specs.Steps.{Refuses, falls, fell}
use Rattle.lt_replica.specs.declared.replica.Replica.{Replica}
use Rattle.lt_replica.proofs.Results.{refuses_spoken}
use Rattle.lt_replica.proofs.StepLaws.{rows_stay}

pub tried_goes : (disk disk' : DiskState) (old new : Replica) (c : Command) (r : Result Reply Refusal) → Tried disk disk' old new c r → DiskGoes disk disk'
tried_goes disk disk' old new c r (refuses e is why stays store quiet goes) = goes
tried_goes disk disk' old new c r (tries t result whole call left) = call.goes

pub tried_world : (disk disk' : DiskState) (feed : FeedState) (rows : RowSinkState) → DiskGoes disk disk' → WorldGoes (world_of disk feed rows) (world_of disk' feed rows)
tried_world disk disk' feed rows goes = record { disk = goes; feed = goes_itself feed; rows = rows_stay rows }

left_streams : (old new : Replica) (c : Command) (t : Attempt old c) (result : Result (Unit {0}) CommitRefusal) (r : Result Reply Refusal) → IsLeft old new t result r → (state_of new).streams ≡ (state_of old).streams
left_streams old new c t (Ok x) r left = ap (λ (s : State). s.streams) left.3
left_streams old new c t (Err e) r left = ap (λ (s : State). s.streams) left.1.state

tried_streams : (disk disk' : DiskState) (old new : Replica) (c : Command) (r : Result Reply Refusal) → Tried disk disk' old new c r → (state_of new).streams ≡ (state_of old).streams
tried_streams disk disk' old new c r (refuses e is why stays store quiet goes) = ap (λ (s : State). s.streams) stays.state
tried_streams disk disk' old new c r (tries t result whole call left) = left_streams old new c t result r left

pub tried_fed : (disk disk' : DiskState) (feed : FeedState) (old new : Replica) (c : Command) (r : Result Reply Refusal) → Tried disk disk' old new c r → IsFed old feed → IsFed new feed
tried_fed disk disk' feed old new c r h fed = subst (λ (ss : List StreamAt). length ss ≤ feed.known) (sym (tried_streams disk disk' old new c r h)) fed

-- some part that a failed command would have left goes with the store, broken or not
some_in : (r : Replica) → (b : Option Durable) × IsIn r b
some_in r = by r.store.broken refl
  where
    by : (b : Bool) → r.store.broken ≡ b → (o : Option Durable) × IsIn r o
    by true is = (Some (state_of r).durable, sym is)
    by false is = (None, sym is)

commit_spoken : (e : CommitRefusal) → IsSpoken (refusal_for e)
commit_spoken commits.Disk = tt
commit_spoken (commits.StoreFull need room) = tt
commit_spoken commits.Memory = tt

spoken_as : (r : Result Reply Refusal) (e : Refusal) → r ≡ Err e → IsSpoken e → IfErr r IsSpoken
spoken_as r e is h = subst (λ (x : Result Reply Refusal). IfErr x IsSpoken) (sym is) h

left_spoken : (old new : Replica) (c : Command) (t : Attempt old c) (result : Result (Unit {0}) CommitRefusal) (r : Result Reply Refusal) → IsLeft old new t result r → IfErr r IsSpoken
left_spoken old new c t (Ok x) r left = subst (λ (y : Result Reply Refusal). IfErr y IsSpoken) (sym left.1) tt
left_spoken old new c t (Err e) r left = spoken_as r (refusal_for e) left.0 (commit_spoken e)

pub tried_spoken : (disk disk' : DiskState) (old new : Replica) (c : Command) (r : Result Reply Refusal) → Tried disk disk' old new c r → IfErr r IsSpoken
tried_spoken disk disk' old new c r (refuses e is why stays store quiet goes) = let b = some_in old in spoken_as r e is (refuses_spoken (refused (state_in old b.0) c) e (why b.0 b.1))
tried_spoken disk disk' old new c r (tries t result whole call left) = left_spoken old new c t result r left

-- ---- the row sink met no fault

unfallen : (o : Option model.Refusal) (e : Refusal) → Refuses o e → falls e ≡ false
unfallen o refusals.OutFault h = absurd h
unfallen o e h = refl

commit_unfallen : (e : CommitRefusal) → falls (refusal_for e) ≡ false
commit_unfallen commits.Disk = refl
commit_unfallen (commits.StoreFull need room) = refl
commit_unfallen commits.Memory = refl

left_fell : (old new : Replica) (c : Command) (t : Attempt old c) (result : Result (Unit {0}) CommitRefusal) (r : Result Reply Refusal) → IsLeft old new t result r → fell r ≡ false
left_fell old new c t (Ok x) r left = ap fell left.1
left_fell old new c t (Err e) r left = ap fell left.0 ∙ commit_unfallen e

pub tried_fell : (disk disk' : DiskState) (old new : Replica) (c : Command) (r : Result Reply Refusal) → Tried disk disk' old new c r → fell r ≡ false
tried_fell disk disk' old new c r (refuses e is why stays store quiet goes) = let b = some_in old in ap fell is ∙ unfallen (refused (state_in old b.0) c) e (why b.0 b.1)
tried_fell disk disk' old new c r (tries t result whole call left) = left_fell old new c t result r left
