-- In the kinds of a version without faults field numbers are numbers, and rise.
use Rattle.std.proofs.Common.{Bool, refl, true, ℕ, ◌≡◌}
use Rattle.std.specs.Prelude.{IsTrue, None, nat_lt, ◌&&◌}
use Rattle.std.proofs.lemmas.Bool.{and_from, not-false}
use Rattle.lt_terms.specs.Value.{is_number}
use Rattle.lt_terms.specs.Kind.{FieldKinds, Kind, enumeration, field_kind, no_kinds, plain, structured}
use Rattle.lt_tables.specs.Schema.{field_numbers, number_fault, number_fault_in, number_fault_within, numbers_fault}
use Rattle.lt_codecs.proofs.ListFacts.{or_left, or_right}
use Rattle.lt_lemmas.proofs.ListFacts.{when_none}

-- ---- field numbers are numbers, and rise

abbrev mutual
  pub is_numbered : Kind → Bool
  is_numbered (plain r) = true
  is_numbered (enumeration names) = true
  is_numbered (structured ks) = are_numbered 0 ks

  pub are_numbered : ℕ → FieldKinds → Bool
  are_numbered before no_kinds = true
  are_numbered before (field_kind n name k ks) = is_number n && nat_lt before n && is_numbered k && are_numbered n ks

pub number_given : (before n : ℕ) → number_fault before n ≡ None → IsTrue (is_number n && nat_lt before n)
number_given before n e = not-false (is_number n && nat_lt before n) (when_none _ _ e)

mutual
  pub kind_numbered : (k : Kind) → number_fault_in k ≡ None → IsTrue (is_numbered k)
  kind_numbered (plain r) e = refl
  kind_numbered (enumeration names) e = refl
  kind_numbered (structured ks) e = kinds_numbered ks 0 (or_left (numbers_fault 0 (field_numbers ks)) (number_fault_within ks) e) (or_right (numbers_fault 0 (field_numbers ks)) (number_fault_within ks) e)

  kinds_numbered : (ks : FieldKinds) (low : ℕ) → numbers_fault low (field_numbers ks) ≡ None → number_fault_within ks ≡ None → IsTrue (are_numbered low ks)
  kinds_numbered no_kinds low e d = refl
  kinds_numbered (field_kind n name k ks) low e d =
      and_from _ _ (and_from _ _ (number_given low n (or_left (number_fault low n) (numbers_fault n (field_numbers ks)) e)) (kind_numbered k (or_left (number_fault_in k) (number_fault_within ks) d)))
      (kinds_numbered ks n (or_right (number_fault low n) (numbers_fault n (field_numbers ks)) e) (or_right (number_fault_in k) (number_fault_within ks) d))
