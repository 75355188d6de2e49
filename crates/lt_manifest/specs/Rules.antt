-- The tests of a manifest's parts, as the reader makes them.
use Rattle.std.specs.Prelude.{Bool, List, length, map, nat_le, nat_lt, ℕ, ◌&&◌, ◌==◌, ◌^◌, ◌≡◌}
use Rattle.std.specs.List.{list_all, list_any}
use Rattle.std.specs.List.Sorted.{IsNonDecreasing}
use Rattle.lt_terms.specs.declared.Extent.{Extent}
use Rattle.lt_tables.specs.Fair.{Point}
use Rattle.lt_terms.specs.Key.{max_key, tile}
use Rattle.lt_tables.specs.Pump.{Part}
use Rattle.lt_storage.specs.Store.{Manifest, Stream, fits_63, is_limit, is_point, is_stream_entry}
use Rattle.lt_terms.specs.Value.{rises_strictly}

-- numbers that do not fall
abbrev pub DoesRise : List ℕ → Type 0
DoesRise ns = IsNonDecreasing ns

abbrev pub is_in : List ℕ → ℕ → Bool
is_in ns n = list_any (λ m. m == n) ns

-- what is in the one is in the other
abbrev pub SameMembers : List ℕ → List ℕ → Type 0
SameMembers ns ms = (n : ℕ) → is_in ns n ≡ is_in ms n

abbrev pub are_streams : List Stream → Bool
are_streams ss = nat_lt 0 (length ss) && nat_le (length ss) 64 && list_all is_stream_entry ss

abbrev pub is_placed : ℕ × Point → Bool
is_placed p = nat_lt p.0 (2 ^ 64) && is_point p.1

abbrev pub are_points : List (ℕ × Point) → Bool
are_points ps = list_all is_placed ps

abbrev pub is_window : List ℕ × ℕ → Bool
is_window w = fits_63 w.1 && nat_le (length w.0) max_key

-- each id is one of a known delta, and below the next one
abbrev pub are_listed : ℕ → List ℕ → List ℕ → Bool
are_listed next known ids = list_all (λ id. is_in known id && nat_lt id next) ids

abbrev pub is_part : ℕ → ℕ → List ℕ → Part → Bool
is_part minimum next known p = nat_le (length p.low) max_key && fits_63 p.resume && nat_le minimum p.resume && rises_strictly p.ids && are_listed next known p.ids

abbrev pub are_parts : ℕ → ℕ → List ℕ → List Part → Bool
are_parts minimum next known ps = tile (map (λ p. p.low) ps) && nat_le (length ps) 1024 && list_all (is_part minimum next known) ps

abbrev pub is_delta : List ℕ → ℕ × Extent → Bool
is_delta listed d = nat_lt d.0 (2 ^ 64) && nat_lt d.1.place (2 ^ 64) && nat_lt d.1.length (2 ^ 64) && is_in listed d.0

abbrev pub are_deltas : List ℕ → List (ℕ × Extent) → Bool
are_deltas listed ds = nat_le (length ds) 4096 && list_all (is_delta listed) ds

abbrev pub is_stream_at : List ℕ → Stream → Bool
is_stream_at offsets s = nat_le (length s.low) max_key && nat_le (length s.points) 4 && rises_strictly offsets && are_points s.points

abbrev pub parts_fit : List ℕ → List ℕ → Manifest → Bool
parts_fit known listed m = rises_strictly known && (are_parts m.minimum m.next_id known m.parts && are_deltas listed m.deltas)

-- all tests, given whether the streams are lawful, the ids of the deltas, and those in partitions
abbrev pub fit_together : Bool → List ℕ → List ℕ → Manifest → Bool
fit_together streams known listed m = streams && (is_limit m.limit && parts_fit known listed m)
