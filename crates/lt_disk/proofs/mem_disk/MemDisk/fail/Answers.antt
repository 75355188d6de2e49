use Rattle.lt_disk.proofs.mem_disk.MemDisk.fail.Goals as goal

pub invariant_of-self : goal.invariant_of-self
invariant_of-self c = record {
  replays = c.args.self.now.replays;
  bytes = c.args.self.now.bytes;
  fails_only = c.list.ensures.only c.args.self.now.lacks c.args.self.now.fails_only;
}
