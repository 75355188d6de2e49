-- What the iterator over a group has.
use Rattle.std.specs.Prelude.{List}
use Rattle.lt_core.specs.View.{view_layout}
use Rattle.lt_terms.specs.Layout.{Leaf}
use Rattle.lt_tables.specs.Version.{RowVersion}
use Rattle.lt_memdelta.specs.Walks.{items_rest}
use Rattle.lt_memdelta.specs.declared.mem_iter.MemIter.{MemIter}

abbrev pub leaves_of : MemIter → List Leaf
leaves_of it = view_layout it.layout.now

abbrev pub iter_rest : MemIter → List RowVersion
iter_rest it = items_rest it.first it.walk
