-- What the objects in memory hold.
use Rattle.std.specs.Prelude.{List, Option, Some, Vec, [], drop, length, map, ℕ, ◌∷◌}
use Rattle.std.specs.declared.alloc.Global.{Global}
use Rattle.std.proofs.Common.{arith}
use Rattle.lt_world.specs.Feed.{AreShort, Feed}
use Rattle.lt_world.specs.Feed.{FeedState}
use Rattle.lt_io.specs.Plan.{Plan}
use Rattle.lt_io.specs.declared.mem_source.MemSource.{MemSource}
use Rattle.lt_io.specs.declared.mem_sink.MemSink.{MemSink}
use Rattle.lt_io.specs.declared.mem_feed.MemFeed.{MemFeed}

-- ---- a source

abbrev pub source_left : MemSource → List ℕ
source_left s = drop s.at s.bytes

abbrev pub source_plan : MemSource → Plan
source_plan s = s.calls

-- how many bytes were left when it first failed
abbrev pub source_failed_at : MemSource → Option ℕ
source_failed_at s = s.failed_at

-- ---- a sink

abbrev pub sink_held : MemSink → List ℕ
sink_held s = s.bytes.items

abbrev pub sink_plan : MemSink → Plan
sink_plan s = s.calls

-- how many writes found no memory
abbrev pub sink_lacks : MemSink → ℕ
sink_lacks s = s.lacks

-- how many bytes it held when it first failed
abbrev pub sink_failed_at : MemSink → Option ℕ
sink_failed_at s = s.failed_at

-- ---- a feed

abbrev pub feed_streams : MemFeed → Feed
feed_streams f = map (λ v. v.items) f.streams.items

abbrev pub feed_plan : MemFeed → Plan
feed_plan f = f.calls

abbrev pub feed_state : MemFeed → FeedState
feed_state f = record { told = Some (feed_streams f); known = length (feed_streams f); faults = (feed_plan f).faults; calls = (feed_plan f).made }

-- no memory holds more bytes than that
pub are_short : (streams : List (Vec ℕ Global)) → AreShort (map (λ v. v.items) streams)
are_short [] = tt
are_short (v ∷ vs) = (omega (arith, v.ok.0, v.ok.1, v.small), are_short vs)
