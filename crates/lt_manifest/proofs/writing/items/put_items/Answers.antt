use Rattle.std.proofs.Common.{refl}
use Rattle.std.proofs.lemmas.List.Elements.{All-from_recursion}
use Rattle.lt_codecs.proofs.ListFacts.{all_of_map}
use Rattle.lt_records.proofs.Spellings.{at_place}
use Rattle.lt_manifest.proofs.writing.items.put_items.Goals as goal

pub put-requires : goal.put-requires
put-requires g c =
    let all = All-from_recursion (λ x. g.T.Writes.Fits (g.T.Writes.view x)) c.args.items.now (all_of_map g.T.Writes.Fits g.T.Writes.view c.args.items.now c.requires) in
    at_place (λ x. g.T.Writes.Fits (g.T.Writes.view x)) c.args.items.now c.args.items.now c.loop-item.item-index c.item-item.result all refl c.loop-item-test.true c.item-item.is
