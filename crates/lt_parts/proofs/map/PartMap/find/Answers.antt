use Rattle.lt_parts.proofs.Ranges.{counted_as, found_here, found_once, found_part, found_some}
use Rattle.lt_parts.proofs.map.PartMap.find.Goals as goal

pub overflow_sub-result : goal.overflow_sub-result
overflow_sub-result c = found_some c.args.self.now c.args.key.now c.count_up_to.result
    (counted_as c.deref.result.now c.self.inside.entries.items c.args.self.now c.args.key.now c.count_up_to.result c.deref.ensures.value c.self.view_is c.self.invariant.tiled c.count_up_to.ensures.within c.count_up_to.ensures.exact)

pub returns-clause-here : goal.returns-clause-here
returns-clause-here c = found_here c.args.self.now c.args.key.now c.count_up_to.result
    (counted_as c.deref.result.now c.self.inside.entries.items c.args.self.now c.args.key.now c.count_up_to.result c.deref.ensures.value c.self.view_is c.self.invariant.tiled c.count_up_to.ensures.within c.count_up_to.ensures.exact)

pub returns-clause-only : goal.returns-clause-only
returns-clause-only c = λ n h. found_once c.args.self.now c.args.key.now c.count_up_to.result n
    (counted_as c.deref.result.now c.self.inside.entries.items c.args.self.now c.args.key.now c.count_up_to.result c.deref.ensures.value c.self.view_is c.self.invariant.tiled c.count_up_to.ensures.within c.count_up_to.ensures.exact) h

pub returns-clause-part : goal.returns-clause-part
returns-clause-part c = found_part c.args.self.now c.args.key.now c.count_up_to.result
    (counted_as c.deref.result.now c.self.inside.entries.items c.args.self.now c.args.key.now c.count_up_to.result c.deref.ensures.value c.self.view_is c.self.invariant.tiled c.count_up_to.ensures.within c.count_up_to.ensures.exact)
