use Rattle.std.proofs.Common.{◌≡◌, ◌+◌, take}
use Rattle.lt_records.proofs.KeyLength.{bytes_of}
use Rattle.lt_records.proofs.reading.key_length.key_fits.Given as goal

abbrev pub invariant-loop-part : goal.invariant-loop-part
invariant-loop-part l = l.left + bytes_of (take l.part-index l.part-items) ≡ 4092
