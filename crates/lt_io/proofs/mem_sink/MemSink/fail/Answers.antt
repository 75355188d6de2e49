use Rattle.lt_io.proofs.mem_sink.MemSink.fail.Goals as goal

pub invariant_of-self : goal.invariant_of-self
invariant_of-self c = record { fails_only = c.list.ensures.only c.args.self.now.lacks c.args.self.now.fails_only }
