-- What the rows of a segment tell, and the order that is least under them.
use Rattle.std.proofs.Common.{◌≡◌, ℕ, ◌<◌, ◌==◌, ◌&&◌, true, false, cond, List, [], ◌∷◌, length, filter, get_or, refl, sym, ◌∙◌, ap, subst, Option, Some, None}
use Rattle.std.specs.Prelude.{ℤ, pos, int_lt, unwrap_or}
use Rattle.std.specs.List.{All, AllByRecursion, list_all}
use Rattle.std.proofs.lemmas.Bool.{ne_eqb, eqb-false}
use Rattle.std.proofs.lemmas.List.Elements.{recursion_from_All}
use Rattle.map_base.specs.declared.ids.SegId.{SegId}
use Rattle.map_base.specs.declared.ids.LineId.{LineId}
use Rattle.graph_core.specs.Consistent.{AreRising}
use Rattle.order_model.specs.declared.term.Term.{Term}
use Rattle.order_model.specs.declared.term.Term.TheVariants.{Side, Link, Apart}
use Rattle.order_model.specs.declared.problem.ProblemParts.{ProblemParts}
use Rattle.order_model.specs.Problems.{lines_on, IsTerm}
use Rattle.order_model.specs.Costs.{are_neighbours}
use Rattle.order_model.specs.PartTerms.{no_term, terms_by_number}
use Rattle.order_model.proofs.Lines.{neither}
use Rattle.whole_sums.specs.Sums.{int_sum}
use Rattle.whole_sums.proofs.Sums.{int_sum-map}
use Rattle.least_orders.specs.OrderCosts.{PairCosts, order_cost, summed_costs, no_costs, cost_before, cost_beside}
use Rattle.least_orders.specs.Arrangements.{keeps, all_orders, kept_orders}
use Rattle.least_orders.specs.LeastOrders.{first_of, first_least, least_order}
use Rattle.least_orders.specs.Rows.{line_at, named, is_one_of}
use Rattle.least_orders.proofs.CostSums.{order_cost_none}
use Rattle.dual_bound.specs.declared.settled.SettledPair.{SettledPair}
use Rattle.dual_bound.specs.Settled.{settled_on}
use Rattle.dual_bound.specs.ShareCosts.{costs_where, share_costs}
use Rattle.dual_shares.specs.Groups.{is_on}
use Rattle.dual_shares.specs.declared.cost_rows.CostRows.{CostRows}
use Rattle.dual_shares.specs.CostRows.{Tell}
use Rattle.dual_shares.specs.SettledSets.{TellAhead}
use Rattle.dual_shares.proofs.Adding.{sum_on}
use Rattle.dual_shares.proofs.Telling.{told_costs}
use Rattle.dual_ascent.specs.declared.pair_average.PairAverage.{PairAverage}
use Rattle.dual_ascent.specs.OwnNumbers.{all_terms, number_of}
use Rattle.dual_ascent.specs.LocalSearch.{least_beside}
use Rattle.dual_ascent.specs.Averages.{averages_on, nearest_on}
use Rattle.dual_ascent.specs.DualSteps.{answer_on}
use Rattle.dual_ascent.specs.SegmentCosts.{less_where, link_beside, beside_costs, costs_beside, distance_costs}
use Rattle.dual_ascent.specs.Walks.{first_or}
use Rattle.dual_ascent.proofs.Answering.{numbered_fit, IsOf, answer_is, nearest_is}
use Rattle.dual_ascent.proofs.SegmentCosts.{least_beside_is}
use Rattle.dual_orders.specs.declared.solver.Solver.{Solver}
use Rattle.dual_orders.specs.OwnTerms as own
use Rattle.dual_orders.specs.SettledPairs.{pairs_of, IsPairOn}
use Rattle.dual_orders.specs.Solvers.{TellsCosts, found_of}
use Rattle.dual_orders.specs.Values.{IsOfTwo}
use Rattle.dual_orders.proofs.OwnTables.{all_by_number}
use Rattle.dual_orders.proofs.SettledStacks.{settled_known}
use Rattle.dual_orders.proofs.Exchanging.{terms_all}

-- rows that tell costs, and sets that tell pairs of the lines
pub tells : (lines : List LineId) (costs : PairCosts) (pairs : List (LineId × LineId)) (t : Solver) → Tell lines costs t.rows → TellAhead pairs lines t.ahead.items
    → list_all (λ (p : LineId × LineId). is_one_of lines p.0 && is_one_of lines p.1) pairs ≡ true → TellsCosts lines costs pairs t
tells lines costs pairs t told tell known = record {
  each = refl;
  before = λ i j here there apart. told.before_told i j here there;
  beside = λ i j here there apart. told.beside_told i j here there;
  ahead = λ i j here there. tell.told i j here there;
  known = known;
}

-- what a search for the least order of these lines finds
abbrev pub Finds : List LineId → Solver → Solver → Type 0
Finds lines old new = (costs : PairCosts) (settled : List (LineId × LineId)) → TellsCosts lines costs settled old
    → found_of new (length lines) ≡ unwrap_or (least_order costs settled lines) lines

found_there : (own lines order : List LineId) (costs : PairCosts) (settled : List (LineId × LineId)) (t new : Solver)
    → lines ≡ own → TellsCosts own costs settled t → Finds lines t new → order ≡ found_of new (length lines)
    → order ≡ unwrap_or (least_order costs settled own) own
found_there own lines order costs settled t new here told finds is = is
    ∙ (ap (λ (l : List LineId). found_of new (length l)) here ∙ subst (λ (l : List LineId). Finds l t new) here finds
    costs settled told)

rows_tell : (lines : List LineId) (costs : PairCosts) (rows : CostRows) (t : Solver) → t.rows ≡ rows
    → Tell lines costs rows → Tell lines costs t.rows
rows_tell lines costs rows t same told = subst (λ (r : CostRows). Tell lines costs r) (sym same) told

-- Shares.

module _ (p : ProblemParts) (stack : List SettledPair) (s : SegId) (rising : All AreRising p.segs) (fit : All (IsTerm p.segs) p.terms) (on : All (IsPairOn p.segs) stack) where
  pub tells_shares : (prices : List ℤ) (t : Solver) → Tell (lines_on p.segs s) (share_costs (terms_by_number p.terms (own.own_numbers p s)) (number_of prices) s) t.rows
      → TellAhead (settled_on (pairs_of stack) s) (lines_on p.segs s) t.ahead.items → TellsCosts (lines_on p.segs s) (share_costs (all_terms p) (number_of prices) s) (settled_on (pairs_of stack) s) t
  tells_shares prices t told tell =
      subst (λ (ts : List (ℕ × Term)). TellsCosts (lines_on p.segs s) (share_costs ts (number_of prices) s) (settled_on (pairs_of stack) s) t) (all_by_number p fit)
      (told_costs p.segs p.terms (own.all_numbers p) (number_of prices) (pairs_of stack) s t.rows.before.items t.rows.beside.items t.ahead.items rising
      (subst (λ (ts : List (ℕ × Term)). AllByRecursion (λ (q : ℕ × Term). IsTerm p.segs q.1) ts) (sym (all_by_number p fit)) (numbered_fit p.segs 0 p.terms (recursion_from_All (IsTerm p.segs) p.terms fit)))
      told tell (settled_known p.segs s stack on))

  pub answer_found : (prices : List ℤ) (order : List LineId) → order ≡ unwrap_or (least_order (share_costs (all_terms p) (number_of prices) s) (settled_on (pairs_of stack) s) (lines_on p.segs s)) (lines_on p.segs s)
      → order ≡ answer_on p (pairs_of stack) prices s
  answer_found prices order is = is ∙ sym (answer_is p (pairs_of stack) prices s rising fit)

  pub answered : (prices : List ℤ) (lines order : List LineId) (rows : CostRows) (t new : Solver)
      → lines ≡ lines_on p.segs s → t.rows ≡ rows
      → Tell (lines_on p.segs s) (share_costs (terms_by_number p.terms (own.own_numbers p s)) (number_of prices) s)
      rows → TellAhead (settled_on (pairs_of stack) s) (lines_on p.segs s) t.ahead.items
      → Finds lines t new → order ≡ found_of new (length lines) → order ≡ answer_on p (pairs_of stack) prices s
  answered prices lines order rows t new here same told tell finds is =
      answer_found prices order
      (found_there (lines_on p.segs s) lines order (share_costs (all_terms p) (number_of prices) s)
      (settled_on (pairs_of stack) s) t new here
      (tells_shares prices t
      (rows_tell (lines_on p.segs s) (share_costs (terms_by_number p.terms (own.own_numbers p s)) (number_of prices) s)
      rows t same told) tell) finds is)

  -- Averages.

  pub tells_distances : (averages : List PairAverage) (t : Solver) → Tell (lines_on p.segs s) (summed_costs distance_costs averages) t.rows → TellAhead (settled_on (pairs_of stack) s) (lines_on p.segs s) t.ahead.items
      → TellsCosts (lines_on p.segs s) (summed_costs distance_costs averages) (settled_on (pairs_of stack) s) t
  tells_distances averages t told tell = tells (lines_on p.segs s) (summed_costs distance_costs averages) (settled_on (pairs_of stack) s) t told tell (settled_known p.segs s stack on)

  pub nearest_found : (averages : List (List PairAverage)) (order : List LineId) → All (IsOfTwo (lines_on p.segs s)) (averages_on averages s)
      → order ≡ unwrap_or (least_order (summed_costs distance_costs (averages_on averages s)) (settled_on (pairs_of stack) s) (lines_on p.segs s)) (lines_on p.segs s)
      → order ≡ nearest_on p (pairs_of stack) averages s
  nearest_found averages order two is = is ∙ sym (nearest_is p (pairs_of stack) averages s rising (each (averages_on averages s) (recursion_from_All (IsOfTwo (lines_on p.segs s)) (averages_on averages s) two)))
    where
      each : (xs : List PairAverage) → AllByRecursion (IsOfTwo (lines_on p.segs s)) xs → AllByRecursion (IsOf (lines_on p.segs s)) xs
      each [] h = tt
      each (x ∷ xs) h =
          ((h.0.first_on, h.0.second_on, h.0.differ, ne_eqb x.greater.0 x.lesser.0 (λ e. eqb-false x.lesser.0 x.greater.0 h.0.differ (sym e))), each xs h.1)

  pub neared : (averages : List (List PairAverage)) (lines order : List LineId) (rows : CostRows) (t new : Solver)
      → lines ≡ lines_on p.segs s → All (IsOfTwo (lines_on p.segs s)) (averages_on averages s)
      → t.rows ≡ rows → Tell (lines_on p.segs s) (summed_costs distance_costs (averages_on averages s)) rows
      → TellAhead (settled_on (pairs_of stack) s) (lines_on p.segs s) t.ahead.items
      → Finds lines t new → order ≡ found_of new (length lines) → order ≡ nearest_on p (pairs_of stack) averages s
  neared averages lines order rows t new here two same told tell finds is =
      nearest_found averages order two
      (found_there (lines_on p.segs s) lines order (summed_costs distance_costs (averages_on averages s))
      (settled_on (pairs_of stack) s) t new here
      (tells_distances (averages_on averages s) t
      (rows_tell (lines_on p.segs s) (summed_costs distance_costs (averages_on averages s)) rows t same told) tell)
      finds is)

-- of orders that cost nothing the first is least
first_of_all : (xs : List (List LineId)) (lines : List LineId) → unwrap_or (first_least (order_cost no_costs) xs) lines ≡ first_or lines xs
first_of_all [] lines = refl
first_of_all (x ∷ xs) lines = by_rest (first_least (order_cost no_costs) xs)
  where
    by_rest : (o : Option (List LineId)) → first_of (order_cost no_costs) x o ≡ x
    by_rest None = refl
    by_rest (Some y) =
        ap (λ v. cond (int_lt v (order_cost no_costs x)) y x) (order_cost_none y) ∙ ap (λ v. cond (int_lt (pos 0) v) y x) (order_cost_none x)

pub left_found : (pairs : List (LineId × LineId)) (lines order : List LineId) → order ≡ unwrap_or (least_order no_costs pairs lines) lines → order ≡ first_or lines (kept_orders pairs lines)
left_found pairs lines order is = is ∙ first_of_all (kept_orders pairs lines) lines

pub left_there : (p : ProblemParts) (stack : List SettledPair) (s : SegId) (lines order : List LineId)
    (rows : CostRows) (t new : Solver) → All (IsPairOn p.segs) stack → lines ≡ lines_on p.segs s → t.rows ≡ rows
    → Tell (lines_on p.segs s) no_costs rows
    → TellAhead (settled_on (pairs_of stack) s) (lines_on p.segs s) t.ahead.items → Finds lines t new
    → order ≡ found_of new (length lines)
    → order ≡ first_or (lines_on p.segs s) (kept_orders (settled_on (pairs_of stack) s) (lines_on p.segs s))
left_there p stack s lines order rows t new on here same told tell finds is =
    left_found (settled_on (pairs_of stack) s) (lines_on p.segs s) order
    (found_there (lines_on p.segs s) lines order no_costs (settled_on (pairs_of stack) s) t new here
    (tells (lines_on p.segs s) no_costs (settled_on (pairs_of stack) s) t
    (rows_tell (lines_on p.segs s) no_costs rows t same told) tell (settled_known p.segs s stack on)) finds is)

-- Beside the orders of the others.

abbrev is_before : List (List LineId) → SegId → LineId → LineId → Term → ℤ
is_before orders s u v t = (beside_costs orders s t).before u v

abbrev is_beside : List (List LineId) → SegId → LineId → LineId → Term → ℤ
is_beside orders s u v t = (beside_costs orders s t).beside u v

off_beside : (orders : List (List LineId)) (s : SegId) (t : Term) → is_on s t ≡ false → beside_costs orders s t ≡ no_costs
off_beside orders s (Side seg first second w) h = ap (λ b. costs_where b (cost_before second first (pos w))) (neither (seg.0 == s.0) (seg.0 == s.0) h).0
off_beside orders s (Link seg other flip a b w) h =
    ap (λ c. cond c (link_beside (lines_on orders other) flip a b w) (cond (other.0 == s.0) (link_beside (lines_on orders seg) flip a b w) no_costs)) (neither (seg.0 == s.0) (other.0 == s.0) h).0
    ∙ ap (λ c. cond c (link_beside (lines_on orders seg) flip a b w) no_costs) (neither (seg.0 == s.0) (other.0 == s.0) h).1
off_beside orders s (Apart seg other a b w) h =
    ap (λ c. cond c (here (lines_on orders other)) (cond (other.0 == s.0) (here (lines_on orders seg)) no_costs)) (neither (seg.0 == s.0) (other.0 == s.0) h).0
    ∙ ap (λ c. cond c (here (lines_on orders seg)) no_costs) (neither (seg.0 == s.0) (other.0 == s.0) h).1
  where
    here : List LineId → PairCosts
    here there = cost_beside a b (less_where (are_neighbours there a b) w)

-- a sum over the terms on a segment is one over all terms where no other counts
sum_own : (p : ProblemParts) (s : SegId) (g : Term → ℤ) → All (IsTerm p.segs) p.terms → ((t : Term) → is_on s t ≡ false → g t ≡ pos 0) → int_sum g (own.own_terms p s) ≡ int_sum g p.terms
sum_own p s g fit off =
    int_sum-map g (own.term_at p.terms) (own.own_numbers p s)
    ∙ (sym (int_sum-map (λ (q : ℕ × Term). g q.1) (λ n. (n, get_or p.terms n no_term)) (own.own_numbers p s))
    ∙ (sum_on (λ (q : ℕ × Term). g q.1) p.terms s (own.all_numbers p) (λ q h. off q.1 h)
    ∙ (int_sum-map (λ (q : ℕ × Term). g q.1) (λ n. (n, get_or p.terms n no_term)) (own.all_numbers p)
    ∙ (sym (int_sum-map g (own.term_at p.terms) (own.all_numbers p)) ∙ ap (int_sum g) (terms_all p fit)))))

pub tells_beside : (p : ProblemParts) (s : SegId) (orders : List (List LineId)) (t : Solver) → All (IsTerm p.segs) p.terms
    → Tell (lines_on p.segs s) (summed_costs (beside_costs orders s) (own.own_terms p s)) t.rows → TellAhead [] (lines_on p.segs s) t.ahead.items
    → TellsCosts (lines_on p.segs s) (costs_beside p orders s) [] t
tells_beside p s orders t fit told tell = record {
  each = refl;
  before = λ i j here there apart. told.before_told i j here there
      ∙ sum_own p s (is_before orders s (named (lines_on p.segs s) (line_at i)) (named (lines_on p.segs s) (line_at j))) fit
      (λ u h. ap (λ (c : PairCosts). c.before (named (lines_on p.segs s) (line_at i)) (named (lines_on p.segs s) (line_at j))) (off_beside orders s u h));
  beside = λ i j here there apart. told.beside_told i j here there
      ∙ sum_own p s (is_beside orders s (named (lines_on p.segs s) (line_at i)) (named (lines_on p.segs s) (line_at j))) fit
      (λ u h. ap (λ (c : PairCosts). c.beside (named (lines_on p.segs s) (line_at i)) (named (lines_on p.segs s) (line_at j))) (off_beside orders s u h));
  ahead = λ i j here there. tell.told i j here there;
  known = refl;
}

keeps_nothing : (os : List (List LineId)) → filter (keeps []) os ≡ os
keeps_nothing [] = refl
keeps_nothing (o ∷ os) = ap (λ l. o ∷ l) (keeps_nothing os)

pub beside_found : (p : ProblemParts) (s : SegId) (orders : List (List LineId)) (order : List LineId) → All AreRising p.segs → All (IsTerm p.segs) p.terms → s.0 < length orders
    → order ≡ unwrap_or (least_order (costs_beside p orders s) [] (lines_on p.segs s)) (lines_on p.segs s) → order ≡ unwrap_or (least_beside p orders s) (lines_on p.segs s)
beside_found p s orders order rising fit known is =
    is
    ∙ (ap (λ (os : List (List LineId)). unwrap_or (first_least (order_cost (costs_beside p orders s)) os) (lines_on p.segs s)) (keeps_nothing (all_orders (lines_on p.segs s)))
    ∙ ap (λ (o : Option (List LineId)). unwrap_or o (lines_on p.segs s)) (sym (least_beside_is p orders s rising fit known)))

pub least_there : (p : ProblemParts) (s : SegId) (orders : List (List LineId)) (lines : List LineId) (rows : CostRows)
    (t new : Solver) → All AreRising p.segs → All (IsTerm p.segs) p.terms → s.0 < length orders
    → lines ≡ lines_on p.segs s → t.rows ≡ rows
    → Tell (lines_on p.segs s) (summed_costs (beside_costs orders s) (own.own_terms p s)) rows
    → TellAhead [] lines t.ahead.items → Finds lines t new
    → found_of new (length (lines_on p.segs s)) ≡ unwrap_or (least_beside p orders s) (lines_on p.segs s)
least_there p s orders lines rows t new rising fit known here same told tell finds =
    beside_found p s orders (found_of new (length (lines_on p.segs s))) rising fit known
    (found_there (lines_on p.segs s) lines (found_of new (length (lines_on p.segs s))) (costs_beside p orders s) [] t
    new here
    (tells_beside p s orders t fit
    (rows_tell (lines_on p.segs s) (summed_costs (beside_costs orders s) (own.own_terms p s)) rows t same told)
    (subst (λ (l : List LineId). TellAhead [] l t.ahead.items) here tell)) finds
    (ap (λ (l : List LineId). found_of new (length l)) (sym here)))
