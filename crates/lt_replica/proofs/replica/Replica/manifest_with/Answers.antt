use Rattle.std.proofs.Common.{ap, map, refl, ◌∙◌}
use Rattle.lt_pump.specs.Pumps.{streams_of}
use Rattle.lt_store.specs.Making.{bare_stream}
use Rattle.lt_replica.specs.Numbers.{numbers_of}
use Rattle.lt_replica.proofs.CommitLaws.{manifest_is}
use Rattle.lt_replica.proofs.replica.Replica.manifest_with.Goals as goal

pub returns : goal.returns
returns c =
    let r = c.args.self.now in
    manifest_is c.limit.result r.next_id c.args.catalogue c.in_ok-bare_streams.field-0 c.in_ok-bare_parts.field-0 c.new.result (numbers_of r.store r.next_id) c.args.map.now (streams_of r.pump) c.limit.ensures
    (c.in_ok-bare_streams.ensures ∙ ap (map bare_stream) (c.as_slice.ensures ∙ c.lows.ensures)) c.in_ok-bare_parts.ensures c.new.ensures refl
