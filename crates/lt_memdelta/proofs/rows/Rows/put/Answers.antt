use Rattle.std.proofs.Common.{Err, Ok, Result, sym, subst, ◌≡◌}
use Rattle.std.specs.Prelude.{IsTrue, List, OnErr, OnOk}
use Rattle.lt_tables.specs.Version.{RowVersion, is_ordered, put_version}
use Rattle.lt_lemmas.proofs.MergeLaws.{put-ordered}
use Rattle.lt_version.specs.View.{view_version}
use Rattle.lt_memdelta.specs.Stamps.{rows_of}
use Rattle.lt_memdelta.proofs.rows.Rows.put.Goals as goal

abbrev Ordered : List RowVersion → Type 0
Ordered vs = IsTrue (is_ordered vs)

stays : {A E : Type 0} (r : Result A E) (v : RowVersion) (old new : List RowVersion) → OnOk r (new ≡ put_version v old) → OnErr r (new ≡ old) → Ordered old → Ordered new
stays (Ok _) v old new ok err o = subst Ordered (sym ok) (put-ordered v old o)
stays (Err _) v old new ok err o = subst Ordered (sym err) o

pub invariant_of-self : goal.invariant_of-self
invariant_of-self c = stays c.put_row.result (view_version c.args.row) (rows_of c.self.inside.keys.entries) (rows_of c.put_row.new.keys.entries) c.put_row.ensures.ok c.put_row.ensures.err c.self.invariant
