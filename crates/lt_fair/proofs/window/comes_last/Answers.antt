use Rattle.std.proofs.Common.{false, sym, ◌∙◌, ◌≡◌}
use Rattle.std.specs.Ordering.{is_lt}
use Rattle.std.specs.Map.{keys_of}
use Rattle.std.proofs.lemmas.List.Elements.{recursion_from_All}
use Rattle.lt_terms.specs.Key.{bytes_cmp}
use Rattle.lt_fair.proofs.WindowLaws.{below_last}
use Rattle.lt_fair.proofs.window.comes_last.Goals as goal

pub returns-in-Some : goal.returns-in-Some
returns-in-Some c less =
    let last = c.in-Some.last.now in
    let es = c.args.map.now.entries in
    below_last last c.args.key.now es (recursion_from_All (λ q. is_lt (bytes_cmp last q) ≡ false) (keys_of es) c.in-Some.ensures.all_up_to) (sym c.is_below.ensures ∙ less)
