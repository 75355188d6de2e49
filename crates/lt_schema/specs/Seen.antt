-- Names that were seen.
use Rattle.std.specs.Prelude.{List, ℕ, ◌≡◌}
use Rattle.std.specs.Ordering.{nat_cmp}
use Rattle.std.specs.Cmp.Lexicographic.{slice_cmp}
use Rattle.std.specs.BTreeSet.{BTreeSet, contains}
use Rattle.lt_tables.specs.Schema.{is_among}
use Rattle.std.specs.Borrow.{Bor}

-- exactly these names were seen
abbrev pub Holds : BTreeSet (Bor (List ℕ)) → List (List ℕ) → Type 0
Holds seen names = (q : Bor (List ℕ)) → contains (λ x y. slice_cmp nat_cmp x.now y.now) seen q ≡ is_among names q.now
