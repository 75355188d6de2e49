use Rattle.std.proofs.Common.{arith, rules, subst, sym, ◌∙◌, ◌≡◌}
use Rattle.std.specs.List.Sorted.{IsPermutation}
use Rattle.std.proofs.lemmas.List.Sorted.{IsPermutation-sym, answers_always}
use Rattle.lt_space.specs.Order.{AreInOrder, AreSorted}
use Rattle.lt_space.specs.Extents.{IsOverlap}
use Rattle.lt_space.proofs.Orders.{apart_in_order}
use Rattle.lt_space.proofs.Overlaps.{apart_from_placed, placed_in_order}
use Rattle.lt_space.proofs.Passing.{none_kept}
use Rattle.lt_space.proofs.Permuted.{misplaced_permuted, overlap_permuted}
use Rattle.lt_space.proofs.Sorting.{key_of, sorted_by_key}
use Rattle.lt_space.proofs.space.Space.new.Goals as goal

pub first_misplaced-requires : goal.first_misplaced-requires
first_misplaced-requires c =
    let sorted = c.sort_unstable_by_key.ensures.sorted key_of (answers_always _ (λ a r. r ≡ key_of a.0.now) _ (λ f a r g called. search rules)) in
    subst AreSorted (sym c.deref.ensures.value) (sorted_by_key _ sorted)

pub returns-in-Some-clause-refused : goal.returns-in-Some-clause-refused
returns-in-Some-clause-refused c =
    let live = c.args.live.now in
    let sorted = c.sort_unstable_by_key.new.self.items in
    let permuted : IsPermutation live sorted = subst (λ l. IsPermutation l sorted) c.in_ok-sorted.ensures.items c.sort_unstable_by_key.ensures.permutation in
    overlap_permuted c.args.limit sorted live c.in-Some.place (IsPermutation-sym live sorted permuted) (subst (λ l. IsOverlap c.args.limit l c.in-Some.place) c.deref.ensures.value c.in-Some.ensures.some)

pub invariant_of-result : goal.invariant_of-result
invariant_of-result c =
    let limit = c.args.limit in
    let same = c.in_ok-taken.ensures.taken ∙ c.deref-2.ensures.value ∙ sym c.deref.ensures.value in
    none_kept limit c.in_ok-taken.taken (subst (AreInOrder 1024 limit) (sym same) c.in_default.ensures.none)

pub returns-clause-apart : goal.returns-clause-apart
returns-clause-apart c =
    let limit = c.args.limit in
    let same = c.in_ok-taken.ensures.taken ∙ c.deref-2.ensures.value ∙ sym c.deref.ensures.value in
    apart_in_order 1024 limit c.in_ok-taken.taken (omega arith) (subst (AreInOrder 1024 limit) (sym same) c.in_default.ensures.none)

pub returns-clause-live : goal.returns-clause-live
returns-clause-live c =
    let live = c.args.live.now in
    let sorted = c.sort_unstable_by_key.new.self.items in
    let permuted : IsPermutation live sorted = subst (λ l. IsPermutation l sorted) c.in_ok-sorted.ensures.items c.sort_unstable_by_key.ensures.permutation in
    let order : AreInOrder 1024 c.args.limit sorted = subst (AreInOrder 1024 c.args.limit) c.deref.ensures.value c.in_default.ensures.none in
    apart_from_placed c.args.limit live (λ e is. placed_in_order c.args.limit sorted e order (misplaced_permuted c.args.limit live sorted e permuted is))
