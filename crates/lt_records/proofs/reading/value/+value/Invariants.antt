use Rattle.std.proofs.Common.{◌≡◌, ◌+◌, ◌-◌, ◌*◌}
use Rattle.lt_terms.specs.Value.{is_number}
use Rattle.lt_core.specs.View.{view_settings}
use Rattle.lt_codecs.specs.Codec.{◌then◌, read_times, u16, where_true}
use Rattle.lt_codecs.specs.LogCodec as log
use Rattle.lt_records.proofs.Loop.{with_front}
use Rattle.lt_records.proofs.reading.value.+value.Given as goal

abbrev pub decreases-value_at : goal.decreases-value_at
decreases-value_at l = 5 * l.depth + 1

abbrev pub decreases-fields_at : goal.decreases-fields_at
decreases-fields_at l = 5 * l.depth

abbrev pub decreases-settings_at : goal.decreases-settings_at
decreases-settings_at l = 5 * l.depth + 4

abbrev pub decreases-counted_at : goal.decreases-counted_at
decreases-counted_at l = 5 * l.depth + 3

abbrev pub decreases-setting_at : goal.decreases-setting_at
decreases-setting_at l = 5 * l.depth + 2

abbrev pub invariant-counted_at-loop : goal.invariant-counted_at-loop
invariant-counted_at-loop l =
    with_front (view_settings l.settings) (read_times (where_true is_number u16 then log.value l.depth).read (l.count - l.counter) l.from)
    ≡ read_times (where_true is_number u16 then log.value l.depth).read l.count l.initial.from
