-- What the adapter counts.
use Rattle.std.specs.Prelude.{ℕ}
use Rattle.lt_disk.specs.declared.file_disk.FileDisk.{FileDisk}

abbrev pub file_disk_faults : {R : Type 0} → FileDisk R → ℕ
file_disk_faults d = d.faults

abbrev pub file_disk_write_faults : {R : Type 0} → FileDisk R → ℕ
file_disk_write_faults d = d.write_faults

abbrev pub file_disk_reads : {R : Type 0} → FileDisk R → ℕ
file_disk_reads d = d.reads
