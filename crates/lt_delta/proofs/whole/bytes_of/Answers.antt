use Rattle.std.proofs.Common.{arith}
use Rattle.std.proofs.lemmas.List.{length-map}
use Rattle.lt_delta.specs.View.{view_index, view_table}
use Rattle.lt_delta.proofs.Indexes.{few_tables, lawful_tables}
use Rattle.lt_delta.proofs.whole.bytes_of.Goals as goal

pub put_index-requires : goal.put_index-requires
put_index-requires c = let ts = view_index c.args.index.now in record { few = omega (arith, few_tables ts c.requires, length-map c.args.index.now.tables view_table); each = lawful_tables ts c.requires }
