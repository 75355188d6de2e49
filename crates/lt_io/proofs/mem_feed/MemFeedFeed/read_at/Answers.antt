use Rattle.std.proofs.Common.{refl, sym, ◌∙◌}
use Rattle.lt_io.proofs.Streams.{called_by_plan}
use Rattle.lt_io.proofs.mem_feed.MemFeedFeed.read_at.Goals as goal

pub returns-then-next_fails-clause-called : goal.returns-then-next_fails-clause-called
returns-then-next_fails-clause-called c = called_by_plan _ _ c.args.self.now.calls c.next_fails.new.self _ refl (sym c.if-next_fails.true ∙ c.next_fails.ensures.answer, c.next_fails.ensures.counts) c.next_fails.ensures.later c.next_fails.ensures.made

pub returns-clause-called : goal.returns-clause-called
returns-clause-called c = called_by_plan _ _ c.args.self.now.calls c.next_fails.new.self _ refl (sym c.if-next_fails.false ∙ c.next_fails.ensures.answer, c.next_fails.ensures.counts) c.next_fails.ensures.later c.next_fails.ensures.made
