use Rattle.std.proofs.Common.{◌≡◌, map, string_bytes}
use Rattle.std.specs.Map.{keys_of}
use Rattle.lt_schema_json.proofs.Members.{other_name}
use Rattle.lt_schema_json.proofs.reading.member.no_other.Given as goal

abbrev pub invariant-loop-name : goal.invariant-loop-name
invariant-loop-name l =
    other_name (map (λ k. k.now) l.known) (map string_bytes l.name-iterator)
    ≡ other_name (map (λ k. k.now) l.known) (map string_bytes (keys_of l.members.entries))
