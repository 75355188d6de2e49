use Rattle.lt_io.proofs.mem_feed.MemFeed.fail.Goals as goal

pub invariant_of-self : goal.invariant_of-self
invariant_of-self c = record { few = c.args.self.now.few; fails_only = c.list.ensures.only 0 c.args.self.now.fails_only }
