use Rattle.lt_disk.proofs.mem_disk.MemDisk.stop_after.Goals as goal

pub invariant_of-self : goal.invariant_of-self
invariant_of-self c = record {
  replays = c.args.self.now.replays;
  bytes = c.args.self.now.bytes;
  fails_only = c.stop_after.ensures.only c.args.self.now.lacks c.args.self.now.fails_only;
}
