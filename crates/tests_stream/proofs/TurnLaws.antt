-- What a pump needs, where another one came before it.
use Rattle.std.proofs.Common.{List, [], length, suc, sym, zero, ℕ, ◌∙◌, ◌∷◌, ◌≡◌}
use Rattle.std.specs.Prelude.{IfSome, slice_get}
use Rattle.lt_terms.specs.Key.{Range}
use Rattle.lt_terms.specs.Log.{Change}
use Rattle.lt_tables.specs.Pump.{StreamAt}
use Rattle.lt_pump.specs.Given.{AreAllBehind, AreBehind, AreSubscriptions}

pub behind_at : (ss : List StreamAt) (held : List (List Change)) (n : ℕ) → AreAllBehind ss held → IfSome (slice_get ss n) (λ a. AreBehind a held)
behind_at [] held n h = tt
behind_at (a ∷ ss) held zero h = h.0
behind_at (a ∷ ss) held (suc n) h = behind_at ss held n h.1

pub subs_again : (subs : List (Range × ℕ)) (held held' : List (List Change)) → AreSubscriptions subs held → length held' ≡ length held → AreSubscriptions subs held'
subs_again subs held held' s e = record { disjoint = s.disjoint; as_many = s.as_many ∙ sym e }
