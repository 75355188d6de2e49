use Rattle.std.proofs.Common.{ap, refl, sym, ◌++◌, ◌∙◌}
use Rattle.lt_memdelta.specs.Walks.{keys_rest}
use Rattle.lt_memdelta.proofs.walk.Walk.next.Goals as goal

pub keys-init : goal.keys-init
keys-init c = refl

pub returns-in-Some : goal.returns-in-Some
returns-in-Some c = sym c.keys.invariant ∙ ap (λ k. k ++ keys_rest c.keys.self.keys) c.in-Some.ensures

pub returns-then-not-next_key : goal.returns-then-not-next_key
returns-then-not-next_key c =
    let over = ap (λ k. k ++ keys_rest c.keys.self.keys) (c.in_default.ensures.0 ∙ sym c.in_default.ensures.1) in
    let none = c.next_key.ensures.end c.if-not-next_key.true in
    (sym c.keys.invariant ∙ over ∙ none, c.if-not-next_key.ensures.rest ∙ none)

pub keys-smaller : goal.keys-smaller
keys-smaller c = c.next_key.ensures.left c.if-not-next_key.false

pub keys-preserved : goal.keys-preserved
keys-preserved c =
    let over = ap (λ k. k ++ keys_rest c.keys.self.keys) (c.in_default.ensures.0 ∙ sym c.in_default.ensures.1) in
    c.next_key.ensures.rest ∙ sym over ∙ c.keys.invariant
