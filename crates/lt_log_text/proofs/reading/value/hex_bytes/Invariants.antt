use Rattle.std.proofs.Common.{◌≡◌, length}
use Rattle.lt_tables.specs.Query.{hex_pairs}
use Rattle.lt_schema_json.proofs.Fronts.{with_front}
use Rattle.lt_log_text.proofs.reading.value.hex_bytes.Given as goal

abbrev pub invariant-loop-rest : goal.invariant-loop-rest
invariant-loop-rest l = with_front l.bytes (hex_pairs l.rest) ≡ hex_pairs l.initial.rest

abbrev pub decreases-loop-rest : goal.decreases-loop-rest
decreases-loop-rest l = length l.rest
