use Rattle.std.proofs.Common.{[], ap, length, map, refl, ◌++◌, ◌∙◌, ◌∷◌}
use Rattle.lt_pending.specs.Held.{held_in}
use Rattle.lt_pump.specs.Pumps.{streams_of}
use Rattle.lt_engine.specs.Settling.{part_of_entry}
use Rattle.lt_engine.proofs.StartLaws.{has_started, none_behind, one_part}
use Rattle.lt_engine.proofs.replica.Replica.start.Goals as goal

pub invariant_of-result : goal.invariant_of-result
invariant_of-result g c =
    let p = c.settle.ensures.parts ∙ ap (map part_of_entry) c.in_ok-map.ensures in
    let items = c.in_ok-push.ensures.items ∙ ap (λ xs. xs ++ c.new.result ∷ []) c.new-parts.ensures.items in
    record {
      as_many = ap length items ∙ one_part c.settle.new.map p;
      behind = none_behind (streams_of c.in_ok-pump.pump) _ (ap (map held_in) items ∙ ap (λ x. x ∷ []) c.new.ensures);
      settled = c.settle.ensures.settled;
    }

pub returns-clause-started : goal.returns-clause-started
returns-clause-started g c =
    let p = c.settle.ensures.parts ∙ ap (map part_of_entry) c.in_ok-map.ensures in
    let items = c.in_ok-push.ensures.items ∙ ap (λ xs. xs ++ c.new.result ∷ []) c.new-parts.ensures.items in
    has_started (g.D.Disk.state c.args.disk.now) (g.F.Feed.state c.args.feed.now) (g.F.Feed.state c.attach.new.feed) _ _ c.settle.new.map (streams_of c.in_ok-pump.pump) _ refl refl c.in_ok-pump.ensures.known c.new-2.ensures
    (ap (map held_in) items ∙ ap (λ x. x ∷ []) c.new.ensures) p c.in_ok-pump.ensures.faults (g.met.F.Feed.short c.attach.new.feed) c.in_ok-pump.ensures.attached
