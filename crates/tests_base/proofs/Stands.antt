-- What the rows of the tests' deltas keep.
use Rattle.std.proofs.Common.{◌≡◌, ℕ, List, [], refl, sym, ap, subst, true, length, arith}
use Rattle.std.specs.Prelude.{IsTrue, nat_le, nat_lt, ◌+◌, ◌<◌, ◌^◌}
use Rattle.std.proofs.lemmas.Bool.{and_from}
use Rattle.std.proofs.lemmas.Bool.Decides.{nat_tests}
use Rattle.lt_terms.specs.declared.Op.TheVariants as ops
use Rattle.lt_terms.specs.Value.{is_timestamp}
use Rattle.lt_terms.specs.Layout.{Cell}
use Rattle.lt_tables.specs.Version.{is_version}
use Rattle.lt_memdelta.specs.Deltas.{EachRow}
use Rattle.lt_memdelta.specs.declared.group.Group.{Group}
use Rattle.tests_base.specs.Stands.{StandsBy}
use Rattle.lt_memdelta.proofs.EachRow.{each-then}

row-lawful : (key : List ℕ) (n : ℕ) → length key ≡ 8 → n < 2 ^ 32 → IsTrue (is_version [] (record { key = key; ts = n + 1; op = ops.Insert; cells = [] }))
row-lawful key n h f =
    let least : nat_le 4 (length key) ≡ true = ap (nat_le 4) h in
    let most : nat_le (length key) 4096 ≡ true = ap (λ l. nat_le l 4096) h in
    let stamp : is_timestamp (n + 1) ≡ true = and_from (nat_lt 0 (n + 1)) (nat_lt (n + 1) (2 ^ 63)) (grind (arith, nat_tests)) (grind (arith, nat_tests)) in
    and_from _ _ (and_from _ _ (and_from _ _ (and_from _ _ least most) stamp) refl) refl

pub row-stands : (key : List ℕ) (n : ℕ) (cells : List Cell) → length key ≡ 8 → n < 2 ^ 32 → cells ≡ [] → StandsBy (n + 1) (record { key = key; ts = n + 1; op = ops.Insert; cells = cells })
row-stands key n cells h f e =
    let Stands : List Cell → Type 0 = λ cs. StandsBy (n + 1) (record { key = key; ts = n + 1; op = ops.Insert; cells = cs }) in
    subst Stands (sym e) (omega arith, row-lawful key n h f)

pub stand-later : (n : ℕ) (gs : List Group) → EachRow (StandsBy n) gs → EachRow (StandsBy (n + 1)) gs
stand-later n gs h = each-then (StandsBy n) (StandsBy (n + 1)) (λ w i. (omega (arith, i.0), i.1)) gs h

pub stand-lawful : (n : ℕ) (gs : List Group) → EachRow (StandsBy n) gs → EachRow (λ w. IsTrue (is_version [] w)) gs
stand-lawful n gs h = each-then (StandsBy n) (λ w. IsTrue (is_version [] w)) (λ w i. i.1) gs h
