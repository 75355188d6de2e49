use Rattle.std.proofs.Common.{drop, map, ◌≡◌}
use Rattle.std.specs.List.{list_all}
use Rattle.lt_storage.specs.Store.{is_stream_entry}
use Rattle.lt_manifest.specs.View.{view_stream}
use Rattle.lt_manifest.proofs.reading.rules.are_streams.Given as goal

abbrev pub invariant-loop-stream : goal.invariant-loop-stream
invariant-loop-stream l = list_all is_stream_entry (map view_stream (drop l.stream-index l.streams)) ≡ list_all is_stream_entry (map view_stream l.streams)
