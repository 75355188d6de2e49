use Rattle.std.proofs.Common.{None, Some, ap, arith, subst, sym, ◌∙◌, ◌≡◌}
use Rattle.std.specs.Prelude.{IfSome, length}
use Rattle.std.specs.Option.{option_copied}
use Rattle.std.proofs.lemmas.List.{length-map}
use Rattle.lt_terms.specs.Key.{ranges_from}
use Rattle.lt_tables.specs.Schema.{when}
use Rattle.lt_parts.specs.Parts.{interval}
use Rattle.lt_pump.specs.Positions.{low_of}
use Rattle.lt_pump.specs.Pumps.{streams_of}
use Rattle.lt_pump.proofs.SubLaws.{here}
use Rattle.lt_replica.proofs.RangeLaws.{meeting_at}
use Rattle.lt_replica.proofs.ranges.checkpoint_meeting.Goals as goal

pub returns-then-not-meets : goal.returns-then-not-meets
returns-then-not-meets c =
    let pump = c.args.pump.now in
    let lows = c.as_slice-lows.result.now in
    let is = c.as_slice-lows.ensures ∙ c.lows.ensures in
    meeting_at pump.positions.items lows c.args.stream c.as_slice-begin.result.now (option_copied c.end_of.result) (interval c.args.low.now c.args.high) c.meets.result None c.requires (pump.ranges ∙ ap ranges_from (pump.bounds ∙ sym is)) is
    (here lows c.args.stream _ (omega (arith, c.requires, ap length is, length-map (streams_of pump) low_of)) c.index-lows-stream.is ∙ ap Some (sym c.as_slice-begin.ensures)) c.end_of.ensures c.meets.ensures (λ a e. ap (λ b. when b a.point.checkpoint) (sym c.if-not-meets.true))

pub returns : goal.returns
returns c =
    let pump = c.args.pump.now in
    let lows = c.as_slice-lows.result.now in
    let is = c.as_slice-lows.ensures ∙ c.lows.ensures in
    meeting_at pump.positions.items lows c.args.stream c.as_slice-begin.result.now (option_copied c.end_of.result) (interval c.args.low.now c.args.high) c.meets.result (Some c.checkpoint.result) c.requires (pump.ranges ∙ ap ranges_from (pump.bounds ∙ sym is)) is
    (here lows c.args.stream _ (omega (arith, c.requires, ap length is, length-map (streams_of pump) low_of)) c.index-lows-stream.is ∙ ap Some (sym c.as_slice-begin.ensures)) c.end_of.ensures c.meets.ensures
    (λ a e. ap Some (subst (λ o. IfSome o (λ x. c.checkpoint.result ≡ x.point.checkpoint)) e c.checkpoint.ensures) ∙ ap (λ b. when b a.point.checkpoint) (sym c.if-not-meets.false))
