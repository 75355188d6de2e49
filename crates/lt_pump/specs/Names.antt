-- What is handed over, by name: a change's key and timestamp.
use Rattle.std.specs.Prelude.{IsTrue, List, Option, map, zip, ℕ, ◌≡◌}
use Rattle.std.specs.List.{AllByRecursion}
use Rattle.lt_world.specs.Feed.{Feed}
use Rattle.lt_terms.specs.Key.{Range}
use Rattle.lt_terms.specs.Log.{Change, changes_of}
use Rattle.lt_tables.specs.Pump.{StreamAt, all_delivered, put_name}
use Rattle.lt_tables.specs.Pump.{name_of, put_change}
use Rattle.lt_tables.specs.Schema.{Catalogue}
use Rattle.lt_tables.specs.Pump.{names_rise}
use Rattle.lt_tables.specs.Pump.{Part}
use Rattle.lt_pump.specs.Given.{AreBehind}
use Rattle.lt_pump.specs.Positions.{IsOther, Took}

abbrev pub names_of : List Change → List (List ℕ × ℕ)
names_of cs = map name_of cs

abbrev pub all_names : List (List Change) → List (List (List ℕ × ℕ))
all_names held = map names_of held

-- one subscription for each partition: its range, above where it is durable
abbrev pub part_subs : List Range → List Part → List (Range × ℕ)
part_subs rs ps = map (λ x. (x.0, x.1.resume)) (zip rs ps)

-- by rising key and falling timestamp, each once
abbrev pub AreOrderly : List (List Change) → Type 0
AreOrderly held = AllByRecursion (λ cs. IsTrue (names_rise (names_of cs))) held

-- A change that no held one equals in key and timestamp is put where its name is put, and the order is kept. What a stream takes is
-- handed over by name as the machine delivers it.
pub record NamesFollow : Type 0 where
  pub put : (c : Change) (cs : List Change) → AllByRecursion (IsOther c) cs → names_of (put_change c cs) ≡ put_name (name_of c) (names_of cs)
  pub order : (c : Change) (cs : List Change) → AllByRecursion (IsOther c) cs → IsTrue (names_rise (names_of cs)) → IsTrue (names_rise (names_of (put_change c cs)))
  pub taken : (told : Option Feed) (cat : Catalogue) (rs : List Range) (ps : List Part) (a b : StreamAt) (held held' : List (List Change)) → (t : Took told cat (part_subs rs ps) a b held held') → AreBehind a held
      → all_names held' ≡ all_delivered (changes_of t.items) rs ps (all_names held)
  pub orderly : (told : Option Feed) (cat : Catalogue) (subs : List (Range × ℕ)) (a b : StreamAt) (held held' : List (List Change)) → Took told cat subs a b held held' → AreBehind a held → AreOrderly held → AreOrderly held'
