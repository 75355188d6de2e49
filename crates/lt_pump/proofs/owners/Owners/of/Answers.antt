use Rattle.std.proofs.Common.{rules, ◌≡◌}
use Rattle.std.specs.Ordering.{is_lt}
use Rattle.std.proofs.lemmas.Cmp.{nat_list_cmp_total}
use Rattle.std.proofs.lemmas.List.MinMax.{ranks_by}
use Rattle.std.proofs.lemmas.List.Sorted.{answers_always}
use Rattle.lt_pump.proofs.OrderLaws.{low_of, lower, ordered}
use Rattle.lt_pump.proofs.owners.Owners.of.Goals as goal

pub invariant_of-result : goal.invariant_of-result
invariant_of-result c =
    let sorted = c.sort_unstable_by.ensures.sorted lower (ranks_by nat_list_cmp_total low_of) (answers_always _ (λ a r. is_lt r ≡ lower a.0.now a.1.0.now) _ (λ f a r g called. search rules)) in
    ordered c.args.subs.now c.in_ok-by_low.by_low.items c.sort_unstable_by.new.self.items c.in_ok-by_low.ensures c.sort_unstable_by.ensures.permutation sorted
