-- What the adapters hold and count.
use Rattle.std.specs.Prelude.{length, ℕ}
use Rattle.lt_io.specs.declared.standard.StdSource.{StdSource}
use Rattle.lt_io.specs.declared.standard.StdSink.{StdSink}
use Rattle.lt_io.specs.declared.file_feed.FileFeed.{FileFeed}

abbrev pub std_source_faults : {R C : Type 0} → StdSource R C → ℕ
std_source_faults s = s.faults

abbrev pub std_source_inner : {R C : Type 0} → StdSource R C → R
std_source_inner s = s.inner

abbrev pub std_sink_faults : {W C : Type 0} → StdSink W C → ℕ
std_sink_faults s = s.faults

abbrev pub std_sink_inner : {W C : Type 0} → StdSink W C → W
std_sink_inner s = s.inner

abbrev pub file_feed_known : {R : Type 0} → FileFeed R → ℕ
file_feed_known f = length f.files.items

abbrev pub file_feed_faults : {R : Type 0} → FileFeed R → ℕ
file_feed_faults f = f.faults

abbrev pub file_feed_calls : {R : Type 0} → FileFeed R → ℕ
file_feed_calls f = f.calls
