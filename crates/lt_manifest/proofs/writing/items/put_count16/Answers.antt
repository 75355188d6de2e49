use Rattle.std.proofs.Common.{arith, length, map}
use Rattle.std.proofs.lemmas.List.{length-map}
use Rattle.lt_manifest.proofs.Spellings.{below16}
use Rattle.lt_manifest.proofs.writing.items.put_count16.Goals as goal

pub overflow_cast-items : goal.overflow_cast-items
overflow_cast-items g c = omega (arith, below16 (length (map g.T.Writes.view c.args.items.now)) c.requires, length-map c.args.items.now g.T.Writes.view)
