use Rattle.std.proofs.Common.{◌∙◌, List, false, length, ap, sym, subst, arith}
use Rattle.std.specs.List.{sum_by}
use Rattle.map_base.specs.declared.ids.LineId.{LineId}
use Rattle.whole_sums.specs.Sums.{int_sum}
use Rattle.order_check.specs.Charging.{AreTerms}
use Rattle.order_check.specs.Slots.{cost_at}
use Rattle.order_check.specs.Counting.{added_by, decided_of, shifted}
use Rattle.order_check.proofs.Closing.{table_fits, table_few, slots_few}
use Rattle.order_check.proofs.Leasts.{least_none}
use Rattle.order_check.proofs.Tallies.{AreShifted, tally_first}
use Rattle.order_check.proofs.tally.first_tally.Goals as goal

pub count-requires-clause-terms : goal.count-requires-clause-terms
count-requires-clause-terms c = subst (AreTerms c.args.asked.now.problem.now.segs) (sym c.as_slice-terms.ensures.value) (table_fits c.args.asked.now c.requires.asked)

pub count-requires-clause-few : goal.count-requires-clause-few
count-requires-clause-few c = omega (arith, ap length c.as_slice-terms.ensures.value, table_few c.args.asked.now c.requires.asked)

pub count-requires-clause-few_slots : goal.count-requires-clause-few_slots
count-requires-clause-few_slots c = omega (arith, c.clear.auto.costs, c.requires.table, slots_few c.args.asked.now c.requires.asked)

pub count-requires-clause-small : goal.count-requires-clause-small
count-requires-clause-small c = λ k x below. rw (c.clear.ensures k x) (omega arith)

pub count-requires-clause-least : goal.count-requires-clause-least
count-requires-clause-least c = least_none c.clear.new.costs c.clear.ensures

pub returns : goal.returns
returns c =
    let segs : List (List LineId) = c.args.asked.now.problem.now.segs in
    let placed : List (List LineId) = c.args.prefix.now.placed in
    let decided = c.count.ensures.decided ∙ ap (sum_by (decided_of segs placed)) c.as_slice-terms.ensures.value in
    let shift : AreShifted c.args.asked.now.table.now.terms.items c.args.asked.now placed false c.clear.new.costs c.count.new.costs = λ k below x.
    (c.count.ensures.slots k below x ∙ ap (λ ts. shifted false (cost_at c.clear.new.costs k x) (int_sum (added_by segs placed k x) ts)) c.as_slice-terms.ensures.value) in
    tally_first c.args.asked.now placed c.count.result c.clear.new.costs c.count.new.costs c.count.auto.costs c.clear.ensures decided c.count.ensures.least shift
