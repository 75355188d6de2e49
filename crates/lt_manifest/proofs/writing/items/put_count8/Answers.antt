use Rattle.std.proofs.Common.{arith, length, map, sym}
use Rattle.std.proofs.lemmas.List.{length-map}
use Rattle.lt_manifest.proofs.Spellings.{below8, count8}
use Rattle.lt_manifest.proofs.writing.items.put_count8.Goals as goal

pub overflow_cast-items : goal.overflow_cast-items
overflow_cast-items g c = omega (arith, below8 (length (map g.T.Writes.view c.args.items.now)) c.requires, length-map c.args.items.now g.T.Writes.view)

pub returns : goal.returns
returns g c = count8 c.args.to.now c.u8.new.self _ _ c.in_ok-u8.ensures.ok (sym (length-map c.args.items.now g.T.Writes.view)) c.requires
