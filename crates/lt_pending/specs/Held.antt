-- The list that changes are seen as.
use Rattle.std.specs.Prelude.{List}
use Rattle.lt_terms.specs.Log.{Change}
use Rattle.lt_pending.specs.Stamps.{changes_in}
use Rattle.lt_pending.specs.declared.changes.Changes.{Changes}

-- by rising key and falling timestamp
abbrev pub held_in : Changes → List Change
held_in c = changes_in c.keys.entries
