use Rattle.std.proofs.Common.{Some, ap, length, refl, set, subst, sym, true, false, ◌≡◌, ◌∙◌}
use Rattle.std.specs.Prelude.{insert, slice_get}
use Rattle.std.proofs.lemmas.Option.{same_Some, slice_get_read, slice_get_within}
use Rattle.lt_tables.specs.Schema.{Table}
use Rattle.lt_schema.specs.Catalogues.{IsPlace, is_at}
use Rattle.lt_schema.specs.View.{view_version}
use Rattle.lt_schema.proofs.TableLists.{added_fresh, added_there, past_other, there, unknown_at}
use Rattle.lt_schema.proofs.tables.put_version.Goals as goal

pub add-requires : goal.add-requires
add-requires c =
    let cat = c.args.tables.now.items in
    let v = view_version c.args.version in
    let at = c.place_of-at.result in
    let t = c.index_mut-table.result.now in
    let place = subst (λ ts. IsPlace ts v.number at) c.deref.ensures.value c.place_of-at.ensures in
    let is : is_at cat at v.number ≡ true = ap (λ ts. is_at ts at v.number) (sym c.deref-2.ensures.value) ∙ sym c.is_at.ensures ∙ c.if-is_at.true in
    let known = there cat at v.number is in
    let got : slice_get cat at ≡ Some t = slice_get_read cat (length cat) at t refl (slice_get_within cat at known.0 known.1) c.index_mut-table.ensures.value in
    let number : t.number ≡ v.number = ap (λ (x : Table). x.number) (same_Some t known.0 (sym got ∙ known.1)) ∙ known.2 in
    c.requires.of_table t (added_there cat v at t place.lower got number).1

pub returns-in_ok-add-clause-ok : goal.returns-in_ok-add-clause-ok
returns-in_ok-add-clause-ok c =
    let cat = c.args.tables.now.items in
    let v = view_version c.args.version in
    let at = c.place_of-at.result in
    let t = c.index_mut-table.result.now in
    let place = subst (λ ts. IsPlace ts v.number at) c.deref.ensures.value c.place_of-at.ensures in
    let is : is_at cat at v.number ≡ true = ap (λ ts. is_at ts at v.number) (sym c.deref-2.ensures.value) ∙ sym c.is_at.ensures ∙ c.if-is_at.true in
    let known = there cat at v.number is in
    let got : slice_get cat at ≡ Some t = slice_get_read cat (length cat) at t refl (slice_get_within cat at known.0 known.1) c.index_mut-table.ensures.value in
    let number : t.number ≡ v.number = ap (λ (x : Table). x.number) (same_Some t known.0 (sym got ∙ known.1)) ∙ known.2 in
    ap (set cat at) c.in_ok-add.ensures.ok ∙ sym (added_there cat v at t place.lower got number).0

pub new-requires : goal.new-requires
new-requires c =
    let cat = c.args.tables.now.items in
    let v = view_version c.args.version in
    let at = c.place_of-at.result in
    let place = subst (λ ts. IsPlace ts v.number at) c.deref.ensures.value c.place_of-at.ensures in
    let other : is_at cat at v.number ≡ false = ap (λ ts. is_at ts at v.number) (sym c.deref-2.ensures.value) ∙ sym c.is_at.ensures ∙ c.if-is_at.false in
    c.requires.fresh (unknown_at cat v at c.requires.rise place.lower place.within (past_other cat v.number at place other))

pub returns-in_ok-insert-clause-ok : goal.returns-in_ok-insert-clause-ok
returns-in_ok-insert-clause-ok c =
    let cat = c.args.tables.now.items in
    let v = view_version c.args.version in
    let at = c.place_of-at.result in
    let place = subst (λ ts. IsPlace ts v.number at) c.deref.ensures.value c.place_of-at.ensures in
    let other : is_at cat at v.number ≡ false = ap (λ ts. is_at ts at v.number) (sym c.deref-2.ensures.value) ∙ sym c.is_at.ensures ∙ c.if-is_at.false in
    c.in_ok-insert.ensures.items ∙ ap (insert cat at) c.in_ok-table.ensures ∙ sym (added_fresh cat v at place.lower place.within (past_other cat v.number at place other))
