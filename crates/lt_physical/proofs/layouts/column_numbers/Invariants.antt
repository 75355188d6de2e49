use Rattle.std.specs.Prelude.{◌<◌, ◌≡◌, ◌⊎◌}
use Rattle.lt_tables.specs.Schema.{IsCatalogue, table_numbered}
use Rattle.lt_physical.proofs.Numbers.{numbers_before}
use Rattle.lt_physical.proofs.layouts.column_numbers.Given as goal

abbrev pub invariant-loop-version : goal.invariant-loop-version
invariant-loop-version l = record {
  from : 0 < l.version;
  numbers : l.numbers.keys ≡ numbers_before l.version (table_numbered l.cat l.number);
  lawful : (l.version ≡ 1) ⊎ IsCatalogue l.cat;
}
