use Rattle.std.proofs.Common.{length, subst, sym, ◌∙◌, ◌≤◌}
use Rattle.std.specs.Prelude.{IsTrue}
use Rattle.std.specs.Option.{option_copied}
use Rattle.lt_terms.specs.Key.{is_below_high, rise}
use Rattle.lt_lemmas.proofs.RangeLaws.{tile_rises}
use Rattle.lt_lemmas.proofs.SoundLaws.{not-true}
use Rattle.lt_parts.specs.Parts.{interval, lows_of}
use Rattle.lt_parts.proofs.Bounds.{untrue}
use Rattle.lt_parts.proofs.Meets.{CountsBelow, meeting_none, meeting_of}
use Rattle.lt_parts.proofs.map.PartMap.meeting.Goals as goal

pub returns-then-is_empty : goal.returns-then-is_empty
returns-then-is_empty c = meeting_none c.args.self.now (interval c.args.low.now c.args.high) (not-true (is_below_high c.args.low.now (option_copied c.args.high)) (sym c.is_empty.ensures ∙ c.if-is_empty.true))

pub returns : goal.returns
returns c =
    let is = c.deref.ensures.value ∙ c.self.view_is in
    meeting_of c.args.self.now (interval c.args.low.now c.args.high) c.find-first.result c.count_within.result (record {
      rises = subst (λ l. IsTrue (rise (lows_of l))) c.self.view_is (tile_rises (lows_of c.self.inside.entries.items) c.self.invariant.tiled);
      full = untrue (is_below_high c.args.low.now (option_copied c.args.high)) (sym c.is_empty.ensures ∙ c.if-is_empty.false);
      has = c.find-first.ensures.here;
      within = subst (λ l. c.count_within.result ≤ length l) is c.count_within.ensures.within;
      counts = subst (λ l. CountsBelow l (option_copied c.args.high) c.count_within.result) is c.count_within.ensures.exact;
    })
