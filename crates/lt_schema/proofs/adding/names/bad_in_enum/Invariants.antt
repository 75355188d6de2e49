use Rattle.std.specs.Prelude.{◌≡◌, drop, map}
use Rattle.lt_tables.specs.Schema.{bad_name_of}
use Rattle.lt_schema.proofs.adding.names.bad_in_enum.Given as goal

abbrev pub invariant-loop-name : goal.invariant-loop-name
invariant-loop-name l = bad_name_of (map (λ n. n.1) (drop l.name-index l.name-items)) ≡ bad_name_of (map (λ n. n.1) l.name-items)
