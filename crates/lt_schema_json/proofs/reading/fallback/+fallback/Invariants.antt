use Rattle.std.proofs.Common.{◌≡◌, option_map}
use Rattle.std.specs.Slice.Iter.{iter_rest}
use Rattle.serde_json.specs.View.{view}
use Rattle.lt_terms.specs.Value.{fields_of}
use Rattle.lt_schema_json.specs.Reading.{struct_in}
use Rattle.lt_schema_json.proofs.Defaults.{values_left}
use Rattle.lt_schema_json.proofs.reading.fallback.+fallback.Given as goal

abbrev pub invariant-values_in-loop-number : goal.invariant-values_in-loop-number
invariant-values_in-loop-number l =
    struct_in (view l.value) l.fields ≡ option_map fields_of (values_left l.number-items (iter_rest l.items) l.number-index l.values)
