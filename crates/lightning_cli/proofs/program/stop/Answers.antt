use Rattle.std.proofs.Common.{inl}
use Rattle.lightning_cli.proofs.OutLaws.{finish_as}
use Rattle.lightning_cli.proofs.ProgramLaws.{disk_fault_is, feed_fault_is, no_store_is, stopped_as, store_there_is}
use Rattle.lightning_cli.proofs.program.stop.Goals as goal

pub returns-in-NoStore-clause-stopped : goal.returns-in-NoStore-clause-stopped
returns-in-NoStore-clause-stopped g c = stopped_as _ _ _ _ _ c.in-NoStore.is (inl (finish_as _ _ _ _ 5 _ no_store_is c.finish.ensures.finishes))

pub returns-in-StoreThere-clause-stopped : goal.returns-in-StoreThere-clause-stopped
returns-in-StoreThere-clause-stopped g c = stopped_as _ _ _ _ _ c.in-StoreThere.is (inl (finish_as _ _ _ _ 5 _ store_there_is c.finish-in-StoreThere.ensures.finishes))

pub returns-in-Disk-clause-stopped : goal.returns-in-Disk-clause-stopped
returns-in-Disk-clause-stopped g c = stopped_as _ _ _ _ _ c.in-Disk.is (inl (finish_as _ _ _ _ 6 _ disk_fault_is c.finish-in-Disk.ensures.finishes))

pub returns-in-Feed-clause-stopped : goal.returns-in-Feed-clause-stopped
returns-in-Feed-clause-stopped g c = stopped_as _ _ _ _ _ c.in-Feed.is (inl (finish_as _ _ _ _ 7 _ feed_fault_is c.finish-in-Feed.ensures.finishes))
