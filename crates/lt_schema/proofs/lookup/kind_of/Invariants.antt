use Rattle.std.specs.Prelude.{◌≡◌, drop}
use Rattle.lt_terms.specs.Kind.{kind_at}
use Rattle.lt_schema.specs.View.{view_fields}
use Rattle.lt_schema.proofs.lookup.kind_of.Given as goal

abbrev pub invariant-loop-named : goal.invariant-loop-named
invariant-loop-named l = kind_at l.number (view_fields (drop l.named-index l.fields)) ≡ kind_at l.number (view_fields l.fields)
