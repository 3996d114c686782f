-- The least share of a segment is found from its rows.
use Rattle.std.proofs.Common.{◌≡◌, ℕ, ◌*◌, ◌<◌, ◌≤◌, List, [], ◌∷◌, length, take, get_or, sym, ◌∙◌, ap, subst, arith, Option}
use Rattle.std.specs.Prelude.{ℤ}
use Rattle.std.specs.List.{All, AllByRecursion}
use Rattle.std.proofs.lemmas.List.{get_or_default}
use Rattle.std.proofs.lemmas.List.Elements.{All-get_or, All-head, All-tail}
use Rattle.map_base.specs.declared.ids.SegId.{SegId}
use Rattle.map_base.specs.declared.ids.LineId.{LineId}
use Rattle.order_model.specs.declared.term.Term.{Term}
use Rattle.order_model.specs.Problems.{lines_on, IsTerm}
use Rattle.order_model.specs.PartTerms.{no_term, terms_by_number, part_terms}
use Rattle.order_model.proofs.KeptTerms.{part_numbers_known, part_terms_by_number}
use Rattle.order_values.specs.PriceLists.{price_at}
use Rattle.least_orders.specs.LeastOrders.{least_cost}
use Rattle.least_orders.specs.Rows.{Rows, AreRows, row_costs, row_pairs, row_lines}
use Rattle.dual_bound.specs.declared.settled.SettledPair.{SettledPair}
use Rattle.dual_bound.specs.Settled.{settled_on}
use Rattle.dual_bound.specs.ShareCosts.{share_costs}
use Rattle.dual_bound.specs.Values.{least_share}
use Rattle.dual_shares.specs.declared.cost_rows.CostRows.{CostRows}
use Rattle.dual_shares.specs.CostRows.{HasRoom, Tell, AreSmallCosts}
use Rattle.dual_shares.specs.Groups.{numbers_on}
use Rattle.dual_shares.specs.RowSteps.{AreSmall}
use Rattle.dual_shares.specs.SettledSets.{TellAhead}
use Rattle.dual_shares.proofs.Telling.{rows_told, rows_are_told, rows_are, told_taken, told_share}
use Rattle.dual_check.specs.declared.asked.Asked.{Asked}
use Rattle.dual_check.specs.Asking.{IsAsked}
use Rattle.dual_check.specs.Settling.{pairs_of, IsPairOn}
use Rattle.dual_check.specs.Nodes.{share_at}
use Rattle.dual_check.proofs.Pairs.{pairs_known}

-- the terms of a part are terms
pub part_fits : (segs : List (List LineId)) (terms : List Term) (numbers : List ℕ) → All (IsTerm segs) terms → All (λ n. n < length terms) numbers
    → AllByRecursion (λ (t : ℕ × Term). IsTerm segs t.1) (terms_by_number terms numbers)
part_fits segs terms [] fit known = tt
part_fits segs terms (n ∷ numbers) fit known =
    (All-get_or (IsTerm segs) terms n no_term (All-head (λ m. m < length terms) n numbers known) fit, part_fits segs terms numbers fit (All-tail (λ m. m < length terms) n numbers known))

module _ (asked : Asked) (is : IsAsked asked) (settled : List SettledPair) (prices : List (ℕ × ℤ)) (k : ℕ) (s : SegId) (below : k < length asked.part.now) (here : s ≡ get_or asked.part.now k s)
    (on : All (IsPairOn asked.problem.now.segs) settled) (rows : CostRows) (ahead : List ℕ) (count : rows.count ≡ length (lines_on asked.problem.now.segs s))
    (told : Tell (lines_on asked.problem.now.segs s) (share_costs (terms_by_number asked.problem.now.terms (numbers_on asked.problem.now.terms asked.numbers.now s)) (price_at prices) s) rows)
    (tell : TellAhead (settled_on (pairs_of settled) s) (lines_on asked.problem.now.segs s) ahead)
    (r : Rows) (e : r.count ≡ rows.count) (f : r.before ≡ take (rows.count * rows.count) rows.before.items) (g : r.beside ≡ take (rows.count * rows.count) rows.beside.items) (h : r.ahead ≡ ahead) where
  abbrev pub n : ℕ
  n = length (lines_on asked.problem.now.segs s)

  rows_is : r ≡ rows_told (lines_on asked.problem.now.segs s) (take (n * n) rows.before.items) (take (n * n) rows.beside.items) ahead
  rows_is =
      rows_are_told r (lines_on asked.problem.now.segs s) (take (n * n) rows.before.items) (take (n * n) rows.beside.items) ahead (e ∙ count) (f ∙ ap (λ m. take (m * m) rows.before.items) count)
      (g ∙ ap (λ m. take (m * m) rows.beside.items) count) h

  -- the least cost by the rows is the least share
  pub share_found : (result : Option ℤ) → result ≡ least_cost (row_costs r) (row_pairs r) (row_lines r) → result ≡ share_at asked settled prices k
  share_found result found =
      found
      ∙ (ap (λ q. least_cost (row_costs q) (row_pairs q) (row_lines q)) rows_is
      ∙ (told_share asked.problem.now.segs asked.problem.now.terms asked.numbers.now (price_at prices) (pairs_of settled) s (take (n * n) rows.before.items) (take (n * n) rows.beside.items) ahead
      is.problem.rising
      (part_fits asked.problem.now.segs asked.problem.now.terms asked.numbers.now is.problem.terms
      (subst (All (λ m. m < length asked.problem.now.terms)) (sym is.numbers) (part_numbers_known asked.part.now asked.problem.now.terms)))
      (told_taken (lines_on asked.problem.now.segs s) (share_costs (terms_by_number asked.problem.now.terms (numbers_on asked.problem.now.terms asked.numbers.now s)) (price_at prices) s) rows.before.items rows.beside.items told)
      tell (pairs_known asked.problem.now.segs s settled on)
      ∙ (ap (λ (ts : List (ℕ × Term)). least_share asked.problem.now.segs ts (price_at prices) (pairs_of settled) s)
      (ap (terms_by_number asked.problem.now.terms) is.numbers ∙ part_terms_by_number asked.part.now asked.problem.now.terms)
      ∙ ap (least_share asked.problem.now.segs (part_terms asked.problem.now.terms asked.part.now) (price_at prices) (pairs_of settled))
      (here ∙ get_or_default asked.part.now k s (record { 0 = 0 }) below))))

  -- the rows are as the program asks
  pub rows_fit : (m : ℕ) → HasRoom rows → n ≤ 16 → length ahead ≡ 16 → m ≤ 4000000 → AreSmallCosts m rows → AreRows r
  rows_fit m room few each times small =
      subst AreRows (sym rows_is)
      (rows_are (lines_on asked.problem.now.segs s) rows.before.items rows.beside.items ahead (settled_on (pairs_of settled) s) m few room.before_each room.beside_each (omega (arith, few, each)) times
      (subst (λ c. AreSmall c m rows.before.items rows.beside.items) count small) tell)
