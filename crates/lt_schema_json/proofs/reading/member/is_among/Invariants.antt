use Rattle.std.proofs.Common.{◌≡◌, drop, map}
use Rattle.lt_tables.specs.Schema.{is_among}
use Rattle.lt_schema_json.proofs.reading.member.is_among.Given as goal

abbrev pub invariant-loop-other : goal.invariant-loop-other
invariant-loop-other l = is_among (map (λ k. k.now) (drop l.other-index l.names)) l.name ≡ is_among (map (λ k. k.now) l.names) l.name
