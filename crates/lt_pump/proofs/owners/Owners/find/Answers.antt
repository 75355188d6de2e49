use Rattle.std.proofs.Common.{arith, false, length, map, rules, subst, sym, true, ◌∙◌, ◌≡◌, ◌≤◌, List, ℕ}
use Rattle.std.proofs.lemmas.List.Sorted.{IsPartitionPoint-from_clause}
use Rattle.lt_terms.specs.Key.{in_range}
use Rattle.lt_core.specs.View.{view_range}
use Rattle.lt_pump.specs.Given.{AreDisjoint, HasKey, IsOutOfAll}
use Rattle.lt_pump.specs.Order.{AreByLow}
use Rattle.lt_pump.specs.View.{view_subscription}
use Rattle.lt_pump.specs.declared.subscription.Subscription.{Subscription}
use Rattle.lt_pump.proofs.OrderLaws.{Parts, begins, last_has, last_lacks, none_begins, parted}
use Rattle.lt_pump.proofs.owners.Owners.find.Goals as goal

pub returns-then-count-eq0-clause-none : goal.returns-then-count-eq0-clause-none
returns-then-count-eq0-clause-none c =
    let key = c.args.key.now in
    let os = c.self.inside.by_low.items in
    let n = c.partition_point-count.result in
    let order = subst AreByLow (sym c.deref.ensures.value) c.self.invariant.by_low in
    let point : Parts key os n = subst (λ xs. Parts key xs n) c.deref.ensures.value (IsPartitionPoint-from_clause (begins key) c.deref.result.now n c.partition_point-count.ensures.partitioned (parted key c.deref.result.now order) (λ a r g called. search rules)) in
    subst (λ (subs : List Subscription). IsOutOfAll key (map view_subscription subs)) c.self.view_is (none_begins key c.self.inside.subs.now os n c.self.invariant point c.if-count-eq0.true)

pub returns-then-contains-clause-some : goal.returns-then-contains-clause-some
returns-then-contains-clause-some c =
    let key = c.args.key.now in
    let os = c.self.inside.by_low.items in
    let n = c.partition_point-count.result in
    let x = c.index-owner.result.now in
    let within = subst (λ xs. n ≤ length xs) c.deref.ensures.value c.partition_point-count.ensures.bound in
    let has = subst (λ (k : List ℕ). in_range k (view_range x.sub.now.range) ≡ true) c.as_slice.ensures (sym c.contains.ensures ∙ c.if-contains.true) in
    subst (λ (subs : List Subscription). HasKey key x.place (map view_subscription subs)) c.self.view_is (last_has key c.self.inside.subs.now os n x c.self.invariant (omega (arith, c.if-count-eq0.false)) within c.index-owner.ensures has)

pub returns-else-contains-clause-none : goal.returns-else-contains-clause-none
returns-else-contains-clause-none c =
    let key = c.args.key.now in
    let os = c.self.inside.by_low.items in
    let n = c.partition_point-count.result in
    let x = c.index-owner.result.now in
    let order = subst AreByLow (sym c.deref.ensures.value) c.self.invariant.by_low in
    let point : Parts key os n = subst (λ xs. Parts key xs n) c.deref.ensures.value (IsPartitionPoint-from_clause (begins key) c.deref.result.now n c.partition_point-count.ensures.partitioned (parted key c.deref.result.now order) (λ a r g called. search rules)) in
    let within = subst (λ xs. n ≤ length xs) c.deref.ensures.value c.partition_point-count.ensures.bound in
    let lacks = subst (λ (k : List ℕ). in_range k (view_range x.sub.now.range) ≡ false) c.as_slice.ensures (sym c.contains.ensures ∙ c.if-contains.false) in
    let disjoint = subst (λ (subs : List Subscription). AreDisjoint (map view_subscription subs)) (sym c.self.view_is) c.requires in
    subst (λ (subs : List Subscription). IsOutOfAll key (map view_subscription subs)) c.self.view_is (last_lacks key c.self.inside.subs.now os n x c.self.invariant disjoint point (omega (arith, c.if-count-eq0.false)) within c.index-owner.ensures lacks)
