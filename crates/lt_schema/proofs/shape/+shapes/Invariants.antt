use Rattle.std.specs.Prelude.{length, ◌≡◌, ◌≤◌}
use Rattle.lt_schema.proofs.Shapes.{shapes_from}
use Rattle.lt_schema.proofs.shape.+shapes.Given as goal

abbrev pub invariant-have_shapes-loop-number : goal.invariant-have_shapes-loop-number
invariant-have_shapes-loop-number l = record {
  in_step : l.at ≡ l.number-index;
  within : l.at ≤ length l.kinds;
  rest : shapes_from l.number-index l.number-items l.kinds ≡ shapes_from 0 l.number-items l.kinds;
}
