use Rattle.std.proofs.Common.{List, ap, map, rules, sym, ℕ, ◌++◌, ◌∙◌, ◌∷◌, ◌≡◌, []}
use Rattle.std.specs.Map.Iter.{deref_pair}
use Rattle.std.proofs.lemmas.Map.Iter.{iter_end}
use Rattle.std.proofs.lemmas.List.{map-append}
use Rattle.lt_fair.specs.Windows.{keys_above}
use Rattle.lt_fair.proofs.AboveLaws.{above_more}
use Rattle.lt_fair.proofs.above.listed.Goals as goal

pub loop-key-preserved : goal.loop-key-preserved
loop-key-preserved c =
    let bound = c.args.bound in
    let w : List ℕ × ℕ = (c.in-Some.key.now, c.in-Some.ts.now) in
    let seen : List (List ℕ × ℕ) = map deref_pair c.loop-key.yielded in
    c.in_ok-push_above.ensures ∙ ap (λ (ws : List (List ℕ × ℕ)). ws ++ keys_above bound (w ∷ [])) c.loop-key.invariant ∙ above_more bound seen w
    ∙ ap (keys_above bound) (sym (map-append deref_pair c.loop-key.yielded ((c.in-Some.key, c.in-Some.ts) ∷ [])))

pub returns : goal.returns
returns c = let all : map deref_pair c.loop-key.yielded ≡ c.args.map.now.entries = search (rules, iter_end) in c.loop-key.invariant ∙ ap (keys_above c.args.bound) all
