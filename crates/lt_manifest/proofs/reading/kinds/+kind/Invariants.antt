use Rattle.std.proofs.Common.{◌≡◌, map, ◌+◌, ◌-◌, ◌*◌}
use Rattle.lt_codecs.specs.Codec.{read_times}
use Rattle.lt_schema.specs.View.{view_field}
use Rattle.lt_records.proofs.Loop.{with_front}
use Rattle.lt_manifest.specs.Texts as texts
use Rattle.lt_manifest.proofs.reading.kinds.+kind.Given as goal

abbrev pub decreases-kind_at : goal.decreases-kind_at
decreases-kind_at l = 5 * l.depth + 1

abbrev pub decreases-fields_at : goal.decreases-fields_at
decreases-fields_at l = 5 * l.depth

abbrev pub decreases-deeper_at : goal.decreases-deeper_at
decreases-deeper_at l = 5 * l.depth + 4

abbrev pub decreases-counted_at : goal.decreases-counted_at
decreases-counted_at l = 5 * l.depth + 3

abbrev pub decreases-field_at : goal.decreases-field_at
decreases-field_at l = 5 * l.depth + 2

abbrev pub invariant-counted_at-loop : goal.invariant-counted_at-loop
invariant-counted_at-loop l =
    with_front (map view_field l.fields) (read_times (texts.kind_field (texts.kind l.depth)).read (l.count - l.counter) l.from)
    ≡ read_times (texts.kind_field (texts.kind l.depth)).read l.count l.initial.from
