use Rattle.std.proofs.Common.{sym, ◌∙◌}
use Rattle.lt_terms.specs.declared.Extent.{Extent}
use Rattle.lt_store.proofs.Giving.{next_taken, one_less}
use Rattle.lt_store.proofs.committing.give_all.Goals as goal

abbrev none : Extent
none = record { place = 0; length = 0 }

pub give-requires : goal.give-requires
give-requires c = next_taken c.args.extents.now c.requires.0 c.loop-extent.space.taken c.loop-extent.extent-index none c.loop-extent-test.true (c.loop-extent.invariant.1 c.requires.0 c.requires.1)

pub loop-extent-preserved : goal.loop-extent-preserved
loop-extent-preserved c = (
  sym c.give.ensures.given.limit ∙ c.loop-extent.invariant.0,
  λ rest p. one_less c.args.extents.now rest c.loop-extent.space c.give.new.self c.loop-extent.extent-index none c.loop-extent-test.true c.give.ensures.given (c.loop-extent.invariant.1 rest p),
)
