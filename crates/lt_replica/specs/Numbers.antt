-- The machine's state by its parts.
use Rattle.std.specs.Prelude.{Bool, IsTrue, List, None, [], length, map, nat_le, nat_lt, ℕ, ◌&&◌, ◌+◌, ◌-◌, ◌==◌, ◌^◌, ◌||◌}
use Rattle.std.specs.List.{list_all, list_any}
use Rattle.lt_terms.specs.Key.{tile}
use Rattle.lt_tables.specs.Pump.{StreamAt, name_of}
use Rattle.lt_tables.specs.Schema.{Catalogue}
use Rattle.lt_storage.specs.Store.{Durable, Manifest, is_limit, is_part_entry, is_stream_entry}
use Rattle.lt_machine.specs.Machine.{State}
use Rattle.lt_machine.specs.Sound.{Memory}
use Rattle.lt_parts.specs.declared.entry.PartEntry.{PartEntry}
use Rattle.lt_store.specs.declared.store.Store.{Store}
use Rattle.lt_replica.specs.Settling.{part_of_entry}

-- the numbers of a durable part: how long the file may be, how often it was committed, and the id of the next delta
pub record Numbers : Type 0 where
  pub limit : ℕ
  pub generation : ℕ
  pub next_id : ℕ

-- the store is bare
abbrev pub durable_with : Catalogue → Numbers → List PartEntry → List StreamAt → Durable
durable_with cat n es ss = record {
  limit = n.limit;
  generation = n.generation;
  catalogue = cat;
  minimum = 0;
  next_id = n.next_id;
  parts = map part_of_entry es;
  streams = map (λ a. record { low = a.header.range.low; points = [] }) ss;
  shelf = [];
}

-- what is held is what is pending
abbrev pub state_with : Catalogue → Numbers → List PartEntry → List StreamAt → Memory → State
state_with cat n es ss mem = record { durable = durable_with cat n es ss; streams = ss; pending = map (map name_of) mem; job = None; broken = None }

abbrev pub numbers_of : Store → ℕ → Numbers
numbers_of s id = record { limit = s.space.limit; generation = s.root.generation; next_id = id }

-- the generation or the next id is at its end
abbrev pub is_worn_at : Numbers → Bool
is_worn_at n = n.generation == 2 ^ 64 - 1 || n.next_id == 2 ^ 64 - 1

-- behind one commit more
abbrev pub next_numbers : Numbers → Numbers
next_numbers n = record n { generation = n.generation + 1 }

-- The limit, the numbers, the streams and the partitions of a manifest are lawful. That its catalogue is, a look-up in that says.
pub record HasLawfulShape (m : Manifest) : Type 0 where
  pub limit : IsTrue (is_limit m.limit)
  pub numbers : IsTrue (nat_lt m.minimum (2 ^ 64) && nat_lt m.next_id (2 ^ 64))
  pub streams : IsTrue (nat_lt 0 (length m.streams) && nat_le (length m.streams) 64 && list_all is_stream_entry m.streams)
  pub parts : IsTrue (tile (map (λ p. p.low) m.parts) && nat_le (length m.parts) 1024 && list_all (is_part_entry m) m.parts)

-- what a store's root names is taken of its file
abbrev pub has_manifest : Store → Bool
has_manifest s = list_any (λ e. e.place == s.root.place && e.length == s.root.length) s.space.taken
