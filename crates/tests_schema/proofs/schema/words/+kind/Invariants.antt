use Rattle.std.proofs.Common.{◌+◌, ◌*◌}
use Rattle.tests_schema.proofs.schema.words.+kind.Given as goal

abbrev pub decreases-read_field_kinds : goal.decreases-read_field_kinds
decreases-read_field_kinds l = 2 * l.depth + 1

abbrev pub decreases-read_kind : goal.decreases-read_kind
decreases-read_kind l = 2 * l.depth
