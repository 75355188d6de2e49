-- What is read, and from which changes.
use Rattle.std.specs.Prelude.{IsTrue, List, None, ℕ}
use Rattle.std.specs.List.{AllByRecursion}
use Rattle.lt_terms.specs.Value.{Value}
use Rattle.lt_tables.specs.Schema.{Catalogue, SchemaVersion, Table}
use Rattle.lt_terms.specs.Log.{Change}
use Rattle.lt_tables.specs.Row.{is_in_time, snapshot}
use Rattle.lt_tables.specs.Query.{answer}
use Rattle.lt_words.specs.Script.{plain_query}
use Rattle.lt_tables.specs.Pump.{is_deliverable}

-- each change has a lawful timestamp, a key that is not too long, and the shape of its registered version
abbrev pub AreShaped : Catalogue → List Change → Type 0
AreShaped cat cs = AllByRecursion (λ c. IsTrue (is_deliverable cat c)) cs

-- the changes of each key rise strictly in the list
abbrev pub RiseByKey : List Change → Type 0
RiseByKey cs = (key : List ℕ) → IsTrue (is_in_time key cs)

-- all rows of the snapshot at a moment, with all columns of the version
abbrev pub scan_rows : Table → SchemaVersion → List Change → ℕ → List (List Value)
scan_rows t v cs at = answer t v.columns (plain_query t.name v.version at None) (snapshot cs t v.columns at)
