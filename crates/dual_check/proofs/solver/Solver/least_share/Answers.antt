use Rattle.std.proofs.Common.{◌≡◌, ℕ, ◌∙◌, ◌<◌, List, length, get_or, sym, ap, subst, arith}
use Rattle.std.specs.List.{All}
use Rattle.std.proofs.lemmas.List.{get_or_default, with_items_is}
use Rattle.map_base.specs.declared.ids.SegId.{SegId}
use Rattle.map_base.specs.declared.ids.LineId.{LineId}
use Rattle.order_model.specs.declared.term.Term.{Term}
use Rattle.order_model.specs.Problems.{lines_on}
use Rattle.order_model.specs.PartTerms.{terms_by_number}
use Rattle.order_model.proofs.KeptTerms.{part_numbers_known}
use Rattle.order_values.specs.PriceLists.{price_at}
use Rattle.subset_program.specs.PlainRows.{plain_rows}
use Rattle.dual_bound.specs.Settled.{settled_on}
use Rattle.dual_bound.specs.ShareCosts.{share_costs}
use Rattle.dual_shares.specs.CostRows.{Tell}
use Rattle.dual_shares.specs.Groups.{numbers_on}
use Rattle.dual_shares.specs.SettledSets.{TellAhead}
use Rattle.dual_shares.proofs.Grouping.{items_of}
use Rattle.dual_shares.proofs.Terms.{lines_read}
use Rattle.dual_check.specs.Settling.{pairs_of}
use Rattle.dual_check.proofs.Pairs.{group_here, numbers_known, numbers_few, part_numbers_few, narrow_few}
use Rattle.dual_check.proofs.Finding.{share_found, rows_fit}
use Rattle.dual_check.proofs.solver.Solver.least_share.Goals as goal

pub add_shares-requires-clause-numbers : goal.add_shares-requires-clause-numbers
add_shares-requires-clause-numbers c =
    let segs : List (List LineId) = c.args.asked.now.problem.now.segs in
    let terms : List Term = c.args.asked.now.problem.now.terms in
    let numbers : List ℕ = c.args.asked.now.numbers.now in
    let part : List SegId = c.args.asked.now.part.now in
    let s : SegId = get_or part c.args.k (record { 0 = 0 }) in
    let group : c.as_slice.result.now ≡ numbers_on terms numbers s =
    c.as_slice.ensures.value
    ∙ (ap items_of (sym c.index-asked-k.is)
    ∙ group_here terms numbers part c.args.asked.now.groups.now c.args.k c.index-asked-k.result (record { 0 = 0 }) c.requires.asked.groups c.requires.known c.index-asked-k.is) in
    subst (All (λ m. m < length terms)) (sym group)
    (numbers_known terms numbers s (length terms) (subst (All (λ m. m < length terms)) (sym c.requires.asked.numbers) (part_numbers_known part terms)))

pub add_shares-requires-clause-few : goal.add_shares-requires-clause-few
add_shares-requires-clause-few c =
    let segs : List (List LineId) = c.args.asked.now.problem.now.segs in
    let terms : List Term = c.args.asked.now.problem.now.terms in
    let numbers : List ℕ = c.args.asked.now.numbers.now in
    let part : List SegId = c.args.asked.now.part.now in
    let s : SegId = get_or part c.args.k (record { 0 = 0 }) in
    let group : c.as_slice.result.now ≡ numbers_on terms numbers s =
    c.as_slice.ensures.value
    ∙ (ap items_of (sym c.index-asked-k.is)
    ∙ group_here terms numbers part c.args.asked.now.groups.now c.args.k c.index-asked-k.result (record { 0 = 0 }) c.requires.asked.groups c.requires.known c.index-asked-k.is) in
    let on = numbers_few terms s numbers in
    let few = part_numbers_few part terms in
    omega (arith, ap length group, on, ap length c.requires.asked.numbers, few, c.requires.asked.problem.few_terms)

pub least_cost-requires-clause-rows : goal.least_cost-requires-clause-rows
least_cost-requires-clause-rows c =
    let segs : List (List LineId) = c.args.asked.now.problem.now.segs in
    let terms : List Term = c.args.asked.now.problem.now.terms in
    let numbers : List ℕ = c.args.asked.now.numbers.now in
    let part : List SegId = c.args.asked.now.part.now in
    let s : SegId = get_or part c.args.k (record { 0 = 0 }) in
    let group : c.as_slice.result.now ≡ numbers_on terms numbers s =
    c.as_slice.ensures.value
    ∙ (ap items_of (sym c.index-asked-k.is)
    ∙ group_here terms numbers part c.args.asked.now.groups.now c.args.k c.index-asked-k.result (record { 0 = 0 }) c.requires.asked.groups c.requires.known c.index-asked-k.is) in
    let below = c.requires.asked.known c.args.k (record { 0 = 0 }) c.requires.known in
    let lines : c.as_slice-lines.result.now ≡ lines_on segs s =
    lines_read segs c.segs.result.now s c.index-segs-s.result c.as_slice-lines.result.now below c.segs.ensures.lists c.index-segs-s.is c.as_slice-lines.ensures in
    let count : c.add_shares.new.rows.count ≡ length (lines_on segs s) = c.add_shares.ensures.count ∙ (c.clear.ensures.count ∙ ap length lines) in
    let told =
    subst (λ (l : List ℕ). Tell (lines_on segs s) (share_costs (terms_by_number terms l) (price_at c.args.prices.now) s) c.add_shares.new.rows) group c.add_shares.ensures.told in
    let tell = subst (λ (l : List LineId). TellAhead (settled_on (pairs_of c.args.settled.now) s) l c.put_ahead.new.ahead) lines c.put_ahead.ensures in
    let ahead = c.with_ahead-pairs.ensures.ahead ∙ (c.as_slice-2.ensures.value ∙ with_items_is c.args.self.now.ahead c.put_ahead.new.ahead (omega arith)) in
    let on = numbers_few terms s numbers in
    let few = part_numbers_few part terms in
    rows_fit c.args.asked.now c.requires.asked c.args.settled.now c.args.prices.now c.args.k s c.requires.known (get_or_default part c.args.k (record { 0 = 0 }) s c.requires.known) c.requires.settled
    c.add_shares.new.rows c.put_ahead.new.ahead count told tell (plain_rows c.with_ahead-pairs.result) c.with_ahead-pairs.ensures.count c.with_ahead-pairs.ensures.before c.with_ahead-pairs.ensures.beside ahead
    (length c.as_slice.result.now) c.add_shares.ensures.room (narrow_few segs part c.args.k (record { 0 = 0 }) (sym c.requires.asked.narrow ∙ c.requires.narrow) c.requires.known)
    (omega (arith, c.put_ahead.auto.ahead, ap length c.as_mut_slice.ensures.value, c.requires.room.ahead))
    (omega (arith, ap length group, on, ap length c.requires.asked.numbers, few, c.requires.asked.problem.few_terms)) c.add_shares.ensures.small

pub returns-clause-share : goal.returns-clause-share
returns-clause-share c =
    let segs : List (List LineId) = c.args.asked.now.problem.now.segs in
    let terms : List Term = c.args.asked.now.problem.now.terms in
    let numbers : List ℕ = c.args.asked.now.numbers.now in
    let part : List SegId = c.args.asked.now.part.now in
    let s : SegId = get_or part c.args.k (record { 0 = 0 }) in
    let group : c.as_slice.result.now ≡ numbers_on terms numbers s =
    c.as_slice.ensures.value
    ∙ (ap items_of (sym c.index-asked-k.is)
    ∙ group_here terms numbers part c.args.asked.now.groups.now c.args.k c.index-asked-k.result (record { 0 = 0 }) c.requires.asked.groups c.requires.known c.index-asked-k.is) in
    let below = c.requires.asked.known c.args.k (record { 0 = 0 }) c.requires.known in
    let lines : c.as_slice-lines.result.now ≡ lines_on segs s =
    lines_read segs c.segs.result.now s c.index-segs-s.result c.as_slice-lines.result.now below c.segs.ensures.lists c.index-segs-s.is c.as_slice-lines.ensures in
    let count : c.add_shares.new.rows.count ≡ length (lines_on segs s) = c.add_shares.ensures.count ∙ (c.clear.ensures.count ∙ ap length lines) in
    let told =
    subst (λ (l : List ℕ). Tell (lines_on segs s) (share_costs (terms_by_number terms l) (price_at c.args.prices.now) s) c.add_shares.new.rows) group c.add_shares.ensures.told in
    let tell = subst (λ (l : List LineId). TellAhead (settled_on (pairs_of c.args.settled.now) s) l c.put_ahead.new.ahead) lines c.put_ahead.ensures in
    let ahead = c.with_ahead-pairs.ensures.ahead ∙ (c.as_slice-2.ensures.value ∙ with_items_is c.args.self.now.ahead c.put_ahead.new.ahead (omega arith)) in
    share_found c.args.asked.now c.requires.asked c.args.settled.now c.args.prices.now c.args.k s c.requires.known (get_or_default part c.args.k (record { 0 = 0 }) s c.requires.known) c.requires.settled
    c.add_shares.new.rows c.put_ahead.new.ahead count told tell (plain_rows c.with_ahead-pairs.result) c.with_ahead-pairs.ensures.count c.with_ahead-pairs.ensures.before c.with_ahead-pairs.ensures.beside ahead
    c.least_cost.result c.least_cost.ensures.cost
