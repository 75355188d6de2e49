use Rattle.std.specs.Prelude.{map}
use Rattle.lt_schema.proofs.SeenLaws.{ColumnsSoFar}
use Rattle.lt_schema.proofs.adding.repeated.repeated_in_columns.Given as goal

abbrev pub invariant-loop-column : goal.invariant-loop-column
invariant-loop-column l = ColumnsSoFar (map (λ c. c.name) l.version.key) l.seen l.column-index l.column-items
