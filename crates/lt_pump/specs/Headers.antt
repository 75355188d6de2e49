-- The headers that streams begin with.
use Rattle.std.specs.Prelude.{List, IsNone, IsTrue, None, Option, Some, length, ℕ, ◌+◌, ◌++◌, ◌≡◌, ◌↔◌}
use Rattle.lt_terms.specs.declared.Format.TheVariants as format
use Rattle.lt_world.specs.Feed.{Feed, stream_bytes}
use Rattle.lt_tables.specs.Fair.{header_length}
use Rattle.lt_terms.specs.Log.{Header, header_item, is_item, spelled}
use Rattle.lt_tables.specs.Pump.{IsKeptLow, StreamOpens}
use Rattle.lt_records.specs.View.{view_header}
use Rattle.lt_records.specs.declared.record.StreamHeader.{StreamHeader}

-- a stream's first frame is a header's, and no other header opens it; or none does
abbrev pub Begins : Feed → ℕ → Option (StreamHeader × ℕ) → Type 0
Begins f s None = (h : Header) → StreamOpens f s h → ⊥
Begins f s (Some x) = ((rest : List ℕ) × (stream_bytes f s ≡ spelled (header_item (view_header x.0)) ++ rest)) × ((h : Header) → StreamOpens f s h → h ≡ view_header x.0)

-- a header has a frame, of so many bytes
abbrev pub IsFramed : StreamHeader × ℕ → Type 0
IsFramed x = IsTrue (is_item format.One (header_item (view_header x.0))) × (x.1 ≡ header_length (view_header x.0))

-- A header is that of its stream: it has its number, its low bound is where the stream before it ends, and the one that was kept,
-- and only the last stream has no high bound.
abbrev pub Fits : Feed → Option (List (List ℕ)) → ℕ → Option (List ℕ) → Header → Type 0
Fits f kept s bound h = (h.stream ≡ s) × (bound ≡ Some h.range.low) × IsKeptLow kept s h.range.low × (IsNone h.range.high ↔ (s + 1 ≡ length f))
