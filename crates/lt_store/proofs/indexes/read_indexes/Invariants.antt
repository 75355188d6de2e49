use Rattle.lt_store.proofs.Indexing.{HasRead}
use Rattle.lt_store.proofs.indexes.read_indexes.Given as goal

abbrev pub invariant-loop-delta : goal.invariant-loop-delta
invariant-loop-delta g l = HasRead (g.D.Disk.state l.fn.disk) (g.D.Disk.state l.disk) l.manifest l.delta-index l.indexes.items
