use Rattle.std.proofs.Common.{◌≡◌, ℕ, ◌∙◌, true, false, List, length, ap, sym, subst, arith, to_z, of_z, rules}
use Rattle.std.specs.Prelude.{ℤ, pos, ◌+ℤ◌, int_le}
use Rattle.std.specs.Int.{w128}
use Rattle.std.proofs.lemmas.Int.{ints, to_z-of_z}
use Rattle.map_base.specs.declared.ids.LineId.{LineId}
use Rattle.order_check.specs.declared.slot.PartTerm.{PartTerm}
use Rattle.order_check.specs.declared.slot.SlotCost.{SlotCost}
use Rattle.order_check.specs.declared.asked.Asked.{Asked}
use Rattle.order_check.specs.Charging.{AreTerms}
use Rattle.order_check.specs.Prices.{AreNumbersOf}
use Rattle.order_check.specs.Pricing.{ArePriced}
use Rattle.order_check.proofs.Closing.{table_fits, table_few, slots_few, table_numbers}
use Rattle.order_check.proofs.Leasts.{least_bound}
use Rattle.order_check.proofs.Tallies.{tally_small}
use Rattle.order_check.proofs.Closes.{ArePricesOn, read_on, read_priced, read_small, spread_small, closed_by_prices, restored}
use Rattle.order_check.proofs.close.is_closed.Goals as goal

pub are_allowed-requires-clause-terms : goal.are_allowed-requires-clause-terms
are_allowed-requires-clause-terms c =
    subst (AreTerms c.args.asked.now.problem.now.segs) (sym c.as_slice-terms.ensures.value) (table_fits c.args.asked.now c.requires.asked)

pub are_allowed-requires-clause-few : goal.are_allowed-requires-clause-few
are_allowed-requires-clause-few c = omega (arith, ap length c.as_slice-terms.ensures.value, table_few c.args.asked.now c.requires.asked)

pub are_allowed-requires-clause-numbers : goal.are_allowed-requires-clause-numbers
are_allowed-requires-clause-numbers c =
    subst (λ (ts : List PartTerm). AreNumbersOf ts c.args.asked.now.terms.now) (sym c.as_slice-terms.ensures.value) (table_numbers c.args.asked.now c.requires.asked)

pub spread-least-requires-clause-numbers : goal.spread-least-requires-clause-numbers
spread-least-requires-clause-numbers c =
    subst (λ (ts : List PartTerm). AreNumbersOf ts c.args.asked.now.terms.now) (sym c.as_slice-terms.ensures.value) (table_numbers c.args.asked.now c.requires.asked)

pub spread-least-requires-clause-few : goal.spread-least-requires-clause-few
spread-least-requires-clause-few c = omega (arith, c.requires.table, slots_few c.args.asked.now c.requires.asked)

pub spread-least-requires-clause-costs : goal.spread-least-requires-clause-costs
spread-least-requires-clause-costs c = λ k x below.
    (let most = tally_small c.args.asked.now c.args.prefix.now.placed c.args.sums c.args.costs.now c.requires.asked c.requires.tally k x below in omega (arith, most))

pub spread-same-requires-clause-numbers : goal.spread-same-requires-clause-numbers
spread-same-requires-clause-numbers c =
    subst (λ (ts : List PartTerm). AreNumbersOf ts c.args.asked.now.terms.now) (sym c.as_slice-terms.ensures.value) (table_numbers c.args.asked.now c.requires.asked)

pub spread-same-requires-clause-few : goal.spread-same-requires-clause-few
spread-same-requires-clause-few c = omega (arith, c.requires.table, c.spread-least.auto.costs, slots_few c.args.asked.now c.requires.asked)

pub spread-same-requires-clause-costs : goal.spread-same-requires-clause-costs
spread-same-requires-clause-costs c = λ k x below.
    (let asked : Asked = c.args.asked.now in
    let placed : List (List LineId) = c.args.prefix.now.placed in
    let table : List PartTerm = asked.table.now.terms.items in
    let prices : List (ℕ × ℤ) = c.args.prices.now in
    let mid : List SlotCost = c.spread-least.new.costs in
    let on : ArePricesOn table prices false c.args.costs.now mid =
    read_on c.as_slice-terms.result.now table c.as_slice-list.result.now prices false c.args.costs.now mid c.as_slice-terms.ensures.value c.as_slice-list.ensures.list c.spread-least.ensures.slots in
    let small = read_small c.as_slice-terms.result.now table c.as_slice-list.result.now prices c.as_slice-terms.ensures.value c.as_slice-list.ensures.list
    (c.are_allowed.ensures.small c.if-not-are_allowed.false) in
    let most = spread_small asked placed c.args.sums prices c.args.costs.now mid c.requires.asked c.requires.tally small c.spread-least.auto.costs on in
    let here = most k x below in
    omega (arith, here))

pub reaches-requires-clause-low : goal.reaches-requires-clause-low
reaches-requires-clause-low c =
    let asked : Asked = c.args.asked.now in
    let placed : List (List LineId) = c.args.prefix.now.placed in
    let table : List PartTerm = asked.table.now.terms.items in
    let prices : List (ℕ × ℤ) = c.args.prices.now in
    let mid : List SlotCost = c.spread-least.new.costs in
    let on : ArePricesOn table prices false c.args.costs.now mid =
    read_on c.as_slice-terms.result.now table c.as_slice-list.result.now prices false c.args.costs.now mid c.as_slice-terms.ensures.value c.as_slice-list.ensures.list c.spread-least.ensures.slots in
    let small = read_small c.as_slice-terms.result.now table c.as_slice-list.result.now prices c.as_slice-terms.ensures.value c.as_slice-list.ensures.list
    (c.are_allowed.ensures.small c.if-not-are_allowed.false) in
    let most = spread_small asked placed c.args.sums prices c.args.costs.now mid c.requires.asked c.requires.tally small c.spread-least.auto.costs on in
    let within = least_bound mid c.spread-least.result (omega (arith, c.requires.table, c.spread-least.auto.costs, slots_few asked c.requires.asked)) (λ k x below. (let here = most k x below in omega (arith, here)))
    c.spread-least.ensures.least in
    let read : to_z w128 (of_z w128 c.spread-least.result) ≡ c.spread-least.result = to_z-of_z w128 c.spread-least.result (search rules) in
    omega (arith, ints, within.low, read)

pub reaches-requires-clause-high : goal.reaches-requires-clause-high
reaches-requires-clause-high c =
    let asked : Asked = c.args.asked.now in
    let placed : List (List LineId) = c.args.prefix.now.placed in
    let table : List PartTerm = asked.table.now.terms.items in
    let prices : List (ℕ × ℤ) = c.args.prices.now in
    let mid : List SlotCost = c.spread-least.new.costs in
    let on : ArePricesOn table prices false c.args.costs.now mid =
    read_on c.as_slice-terms.result.now table c.as_slice-list.result.now prices false c.args.costs.now mid c.as_slice-terms.ensures.value c.as_slice-list.ensures.list c.spread-least.ensures.slots in
    let small = read_small c.as_slice-terms.result.now table c.as_slice-list.result.now prices c.as_slice-terms.ensures.value c.as_slice-list.ensures.list
    (c.are_allowed.ensures.small c.if-not-are_allowed.false) in
    let most = spread_small asked placed c.args.sums prices c.args.costs.now mid c.requires.asked c.requires.tally small c.spread-least.auto.costs on in
    let within = least_bound mid c.spread-least.result (omega (arith, c.requires.table, c.spread-least.auto.costs, slots_few asked c.requires.asked)) (λ k x below. (let here = most k x below in omega (arith, here)))
    c.spread-least.ensures.least in
    let read : to_z w128 (of_z w128 c.spread-least.result) ≡ c.spread-least.result = to_z-of_z w128 c.spread-least.result (search rules) in
    omega (arith, ints, within.high, read)

pub returns-clause-closed : goal.returns-clause-closed
returns-clause-closed c =
    let asked : Asked = c.args.asked.now in
    let placed : List (List LineId) = c.args.prefix.now.placed in
    let table : List PartTerm = asked.table.now.terms.items in
    let prices : List (ℕ × ℤ) = c.args.prices.now in
    let mid : List SlotCost = c.spread-least.new.costs in
    let on : ArePricesOn table prices false c.args.costs.now mid =
    read_on c.as_slice-terms.result.now table c.as_slice-list.result.now prices false c.args.costs.now mid c.as_slice-terms.ensures.value c.as_slice-list.ensures.list c.spread-least.ensures.slots in
    let priced : ArePriced asked.problem.now.segs placed table prices =
    read_priced asked.problem.now.segs placed c.as_slice-terms.result.now table c.as_slice-list.result.now prices c.as_slice-terms.ensures.value c.as_slice-list.ensures.list
    (c.are_allowed.ensures.priced c.if-not-are_allowed.false) in
    let read : to_z w128 (of_z w128 c.spread-least.result) ≡ c.spread-least.result = to_z-of_z w128 c.spread-least.result (search rules) in
    c.reaches.ensures ∙ ap (λ v. int_le (pos asked.target) (pos c.args.sums.decided +ℤ v)) read
    ∙ closed_by_prices asked placed c.args.sums prices c.args.costs.now mid c.spread-least.result c.requires.asked c.requires.tally c.requires.table priced c.spread-least.auto.costs on c.spread-least.ensures.least

pub returns-clause-tally : goal.returns-clause-tally
returns-clause-tally c =
    let asked : Asked = c.args.asked.now in
    let placed : List (List LineId) = c.args.prefix.now.placed in
    let table : List PartTerm = asked.table.now.terms.items in
    let prices : List (ℕ × ℤ) = c.args.prices.now in
    let mid : List SlotCost = c.spread-least.new.costs in
    let on : ArePricesOn table prices false c.args.costs.now mid =
    read_on c.as_slice-terms.result.now table c.as_slice-list.result.now prices false c.args.costs.now mid c.as_slice-terms.ensures.value c.as_slice-list.ensures.list c.spread-least.ensures.slots in
    let off : ArePricesOn table prices true mid c.spread-same.new.costs =
    read_on c.as_slice-terms.result.now table c.as_slice-list.result.now prices true mid c.spread-same.new.costs c.as_slice-terms.ensures.value c.as_slice-list.ensures.list c.spread-same.ensures.slots in
    restored asked placed c.args.sums prices c.args.costs.now mid c.spread-same.new.costs c.requires.tally c.spread-least.auto.costs c.spread-same.auto.costs on off
