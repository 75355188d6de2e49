use Rattle.std.proofs.Common.{map, refl, ◌∙◌}
use Rattle.std.proofs.lemmas.List.{length-map}
use Rattle.lt_pending.specs.Held.{held_in}
use Rattle.lt_pump.specs.Pumps.{streams_of}
use Rattle.lt_replica.specs.Numbers.{numbers_of}
use Rattle.lt_replica.specs.State.{memory_of}
use Rattle.lt_replica.proofs.CommitLaws.{shape_same}
use Rattle.lt_replica.proofs.BehindLaws.{behind_true, true_behind}
use Rattle.lt_replica.proofs.PumpedState.{subscribed}
use Rattle.lt_replica.proofs.TakeLaws.{as_many, keeps_store, lows_kept, stays_so}
use Rattle.lt_replica.proofs.replica.Replica.take_into.Goals as goal

pub pump_into-pumped-requires-clause-subs : goal.pump_into-pumped-requires-clause-subs
pump_into-pumped-requires-clause-subs g c =
    let s = c.args.self.now in
    subscribed s.map _ (memory_of s) c.requires.subs c.requires.lawful (length-map s.parts.items held_in ∙ s.as_many)

pub pump_into-pumped-requires-clause-behind : goal.pump_into-pumped-requires-clause-behind
pump_into-pumped-requires-clause-behind g c =
    let s = c.args.self.now in
    true_behind (streams_of s.pump) (memory_of s) s.behind

pub invariant_of-self : goal.invariant_of-self
invariant_of-self g c =
    let s = c.args.self.now in record {
      as_many = c.pump_into-pumped.ensures.lists ∙ s.as_many ∙ as_many c.settle.new.map s.map c.settle.ensures.parts;
      behind = behind_true (streams_of c.pump_into-pumped.new.pump) (map held_in c.pump_into-pumped.new.parts.items) c.pump_into-pumped.ensures.behind;
      settled = c.settle.ensures.settled;
      lawful = shape_same s.catalogue (numbers_of s.store s.next_id) s.map c.settle.new.map (streams_of s.pump) (streams_of c.pump_into-pumped.new.pump) c.settle.ensures.parts (lows_kept _ _ _ _ _ (streams_of s.pump) (streams_of c.pump_into-pumped.new.pump) _ _ c.pump_into-pumped.result c.pump_into-pumped.ensures.pumped c.pump_into-pumped.ensures.some (λ more. (c.pump_into-pumped.ensures.untouched more).1)) s.lawful;
      taken = s.taken;
    }

pub returns-clause-untouched : goal.returns-clause-untouched
returns-clause-untouched g c l =
    let u = c.pump_into-pumped.ensures.untouched l in (u.0, stays_so c.args.self.now _ (record { catalogue = refl; store = refl; next_id = refl; parts = c.settle.ensures.parts }) u.1 u.2)

pub returns-clause-keeps : goal.returns-clause-keeps
returns-clause-keeps g c =
    let s = c.args.self.now in
    let pumped = c.pump_into-pumped in
    keeps_store s _ (record { catalogue = refl; store = refl; next_id = refl; parts = c.settle.ensures.parts })
    (lows_kept _ _ _ _ _ (streams_of s.pump) (streams_of pumped.new.pump) _ _ pumped.result pumped.ensures.pumped pumped.ensures.some (λ more. (pumped.ensures.untouched more).1))
