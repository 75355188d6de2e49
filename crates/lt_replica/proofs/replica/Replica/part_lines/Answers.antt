use Rattle.lt_replica.specs.Numbers.{numbers_of}
use Rattle.std.proofs.Common.{ap, arith, sym, ◌∙◌}
use Rattle.std.specs.Option.{option_copied}
use Rattle.lt_machine.specs.Machine.{parts_told}
use Rattle.lt_pump.specs.Pumps.{streams_of}
use Rattle.lt_reply.specs.View.{view_part, view_parts}
use Rattle.lt_replica.specs.State.{memory_of, state_of}
use Rattle.lt_replica.proofs.StatusLaws.{never_missing, one_more, part_line, part_line_is, parts_all}
use Rattle.lt_replica.proofs.replica.Replica.part_lines.Goals.{in-Some+in_ok-copy+in_ok-push, in_default}
use Rattle.lt_replica.proofs.replica.Replica.part_lines.Goals as goal

pub loop-part-preserved : goal.loop-part-preserved
loop-part-preserved c =
    let s = c.args.self.now in
    let part = c.loop-part.part in
    elim c.match-get.branch [
      | in-Some+in_ok-copy+in_ok-push w ↦ (
          let e = w.in-Some.entry.now in
          ap view_parts (w.lines-is ∙ w.in_ok-push.ensures.ok)
          ∙ one_more view_part c.loop-part.lines (part_line w.in_ok-copy.field-0 e w.len.result) (parts_told (state_of s)) part c.loop-part.invariant
          (part_line_is s.catalogue (numbers_of s.store s.next_id) s.map (streams_of s.pump) s.parts.items part e w.index.result.now w.in_ok-copy.field-0 w.len.result s.settled (sym c.get.ensures.entry ∙ ap option_copied w.in-Some.is)
          (omega (arith, c.loop-part-test.true, c.len-part-end.ensures.count, s.as_many)) w.index.ensures w.in_ok-copy.ensures w.len.ensures)
          )
      | in_default w ↦ absurd (never_missing s.map part c.get.result w.in_default.not-Some c.get.ensures.entry (omega (arith, c.loop-part-test.true, c.len-part-end.ensures.count)))
    ]

pub returns : goal.returns
returns c =
    let s = c.args.self.now in
    c.loop-part.invariant ∙ parts_all s.catalogue (numbers_of s.store s.next_id) s.map (streams_of s.pump) (memory_of s) c.loop-part.part (omega (arith, c.loop-part-test.false, c.len-part-end.ensures.count))
