-- Entries of a table: where there are some, each is lawful, and they rise.
use Rattle.std.specs.Prelude.{Bool, List, [], length, nat_lt, true, ℕ, ◌&&◌, ◌∷◌}
use Rattle.std.specs.List.{list_all}
use Rattle.lt_terms.specs.Key.{below}
use Rattle.lt_storage.specs.Store.{BundleEntry, entries_rise, is_entry}

abbrev pub are_lawful : List BundleEntry → Bool
are_lawful es = nat_lt 0 (length es) && list_all is_entry es && entries_rise es

-- the entries rise behind one that ends with this key
abbrev pub rises_from : List ℕ → List BundleEntry → Bool
rises_from last [] = true
rises_from last (e ∷ es) = below last e.first && rises_from e.last es
