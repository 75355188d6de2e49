use Rattle.std.proofs.Common.{map, refl, ◌∙◌}
use Rattle.std.proofs.lemmas.List.{length-map}
use Rattle.lt_pending.specs.Held.{held_in}
use Rattle.lt_pump.specs.Pumps.{streams_of}
use Rattle.lt_engine.specs.State.{memory_of}
use Rattle.lt_engine.proofs.BehindLaws.{behind_true, true_behind}
use Rattle.lt_engine.proofs.PumpedState.{subscribed}
use Rattle.lt_engine.proofs.TakeLaws.{as_many, stays_so}
use Rattle.lt_engine.proofs.replica.Replica.take_into.Goals as goal

pub pump_into-pumped-requires-clause-subs : goal.pump_into-pumped-requires-clause-subs
pump_into-pumped-requires-clause-subs g c =
    let s = c.args.self.now in
    subscribed s.map _ (memory_of s) c.requires.subs c.requires.lawful (length-map s.parts.items held_in ∙ s.as_many)

pub pump_into-pumped-requires-clause-behind : goal.pump_into-pumped-requires-clause-behind
pump_into-pumped-requires-clause-behind g c =
    let s = c.args.self.now in
    true_behind (streams_of s.pump) (memory_of s) s.behind

pub invariant_of-self : goal.invariant_of-self
invariant_of-self g c =
    let s = c.args.self.now in record {
      as_many = c.pump_into-pumped.ensures.lists ∙ s.as_many ∙ as_many c.settle.new.map s.map c.settle.ensures.parts;
      behind = behind_true (streams_of c.pump_into-pumped.new.pump) (map held_in c.pump_into-pumped.new.parts.items) c.pump_into-pumped.ensures.behind;
      settled = c.settle.ensures.settled;
    }

pub returns-clause-untouched : goal.returns-clause-untouched
returns-clause-untouched g c l =
    let u = c.pump_into-pumped.ensures.untouched l in (u.0, stays_so c.args.self.now _ (record { catalogue = refl; generation = refl; parts = c.settle.ensures.parts }) u.1 u.2)
