use Rattle.std.proofs.Common.{sym, ◌∙◌}
use Rattle.lt_schema_json.proofs.Defaults.{pair_read}
use Rattle.lt_log_text.proofs.reading.value.hex_bytes.Goals as goal

pub loop-rest-preserved : goal.loop-rest-preserved
loop-rest-preserved c =
    let read = pair_read c.loop-rest.rest.now c.loop-rest.bytes c.in_ok-byte.byte c.in-len2-up.len_at_least (sym c.hex_byte.ensures ∙ c.in_ok-byte.ensures.ok_part) in
    rw c.in_ok-push.ensures.ok (sym read ∙ c.loop-rest.invariant)
