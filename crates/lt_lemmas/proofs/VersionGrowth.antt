-- A table that was found by a number has that number.
use Rattle.std.proofs.Common.{eqb-true, ℕ, ◌≡◌}
use Rattle.std.specs.Prelude.{Some, ◌==◌}
use Rattle.lt_tables.specs.Schema.{Catalogue, Table, table_numbered}
use Rattle.lt_lemmas.proofs.ListFacts.{find_held}

pub its_number : (ts : Catalogue) (n : ℕ) (t : Table) → table_numbered ts n ≡ Some t → t.number ≡ n
its_number ts n t e = eqb-true t.number n (find_held (λ t. t.number == n) ts t e).1
