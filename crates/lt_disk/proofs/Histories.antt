-- The newest event stands first.
use Rattle.std.proofs.Common.{List, [], reverse, ◌++◌, ◌∷◌, ◌≡◌}
use Rattle.std.proofs.lemmas.List.{reverse-append}

pub newest_first : {X : Type 0} (xs : List X) (x : X) → reverse (xs ++ x ∷ []) ≡ x ∷ reverse xs
newest_first xs x = reverse-append xs (x ∷ [])
