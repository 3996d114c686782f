-- The least order by rows.
use Rattle.std.proofs.Common.{◌≡◌, ℕ, ◌+◌, ◌*◌, ◌<◌, ◌≤◌, List, length, take, refl, sym, ◌∙◌, ap, subst, Option, Some, None}
use Rattle.std.specs.Prelude.{ℤ, pos, unwrap_or}
use Rattle.std.specs.Option.{option_map}
use Rattle.std.proofs.lemmas.List.{get_or-take}
use Rattle.map_base.specs.declared.ids.LineId.{LineId}
use Rattle.least_orders.specs.OrderCosts.{PairCosts, order_cost}
use Rattle.least_orders.specs.Arrangements.{kept_orders}
use Rattle.least_orders.specs.LeastOrders.{least_cost, least_order}
use Rattle.least_orders.specs.Rows.{Rows, line_at, entry, TellCosts}
use Rattle.least_orders.proofs.LeastValues.{least_of_first}
use Rattle.dual_shares.specs.Writing.{IsWritten}
use Rattle.dual_shares.proofs.Entries.{row_before}
use Rattle.dual_shares.proofs.Telling.{rows_told, rows_are_told}
use Rattle.dual_orders.specs.declared.solver.Solver.{Solver}
use Rattle.dual_orders.specs.Solvers.{HasRoom, AreReady, TellsCosts}

cost_by_order : (costs : PairCosts) (settled : List (LineId × LineId)) (lines : List LineId) → least_cost costs settled lines ≡ option_map (order_cost costs) (least_order costs settled lines)
cost_by_order costs settled lines = least_of_first (order_cost costs) (kept_orders settled lines)

-- what is written where there is an order
pub written_least : (costs : PairCosts) (settled : List (LineId × LineId)) (lines old new : List LineId) (v : ℤ) → Some v ≡ least_cost costs settled lines → IsWritten (least_order costs settled lines) old new
    → new ≡ unwrap_or (least_order costs settled lines) lines
written_least costs settled lines old new v some is = by_order (least_order costs settled lines) refl is
  where
    by_order : (o : Option (List LineId)) → least_order costs settled lines ≡ o → IsWritten o old new → new ≡ unwrap_or (least_order costs settled lines) lines
    by_order None e h = let none : Some v ≡ None = some ∙ (cost_by_order costs settled lines ∙ ap (option_map (order_cost costs)) e) in cc
    by_order (Some o) e h = h ∙ ap (λ (x : Option (List LineId)). unwrap_or x lines) (sym e)

-- the lines stay as they are where there is none
pub unwritten_least : (costs : PairCosts) (settled : List (LineId × LineId)) (lines : List LineId) → None ≡ least_cost costs settled lines → lines ≡ unwrap_or (least_order costs settled lines) lines
unwritten_least costs settled lines none = by_order (least_order costs settled lines) refl
  where
    by_order : (o : Option (List LineId)) → least_order costs settled lines ≡ o → lines ≡ unwrap_or (least_order costs settled lines) lines
    by_order None e = ap (λ (x : Option (List LineId)). unwrap_or x lines) (sym e)
    by_order (Some o) e = let some : None ≡ Some (order_cost costs o) = none ∙ (cost_by_order costs settled lines ∙ ap (option_map (order_cost costs)) e) in cc

-- rows tell the same where they end behind the last entry
pub costs_taken : (lines : List LineId) (before beside : List ℤ) (ahead : List ℕ) (costs : PairCosts) (settled : List (LineId × LineId)) → TellCosts (rows_told lines before beside ahead) costs settled lines
    → TellCosts (rows_told lines (take (length lines * length lines) before) (take (length lines * length lines) beside) ahead) costs settled lines
costs_taken lines before beside ahead costs settled tell = record {
  each = refl;
  before = λ i j here there apart. taken before i j here there ∙ tell.before i j here there apart;
  beside = λ i j here there apart. taken beside i j here there ∙ tell.beside i j here there apart;
  ahead = λ i j here there. tell.ahead i j here there;
  known = tell.known;
}
  where
    taken : (row : List ℤ) (i j : ℕ) → i < length lines → j < length lines → entry (length lines) (take (length lines * length lines) row) (line_at i) (line_at j) ≡ entry (length lines) row (line_at i) (line_at j)
    taken row i j here there = get_or-take (length lines * length lines) row (i * length lines + j) (pos 0) (row_before i (length lines) (length lines) j here there)

-- The rows of a solver, as they are given to the program.

module _ (lines : List LineId) (s : Solver) (r : Rows) (room : HasRoom (length lines) s) (ready : AreReady lines s) (few : length lines ≤ 16)
    (count : r.count ≡ s.rows.count) (before : r.before ≡ take (s.rows.count * s.rows.count) s.rows.before.items) (beside : r.beside ≡ take (s.rows.count * s.rows.count) s.rows.beside.items)
    (ahead : r.ahead ≡ s.ahead.items) where
  are_told : r ≡ rows_told lines (take (length lines * length lines) s.rows.before.items) (take (length lines * length lines) s.rows.beside.items) s.ahead.items
  are_told =
      rows_are_told r lines (take (length lines * length lines) s.rows.before.items) (take (length lines * length lines) s.rows.beside.items) s.ahead.items (count ∙ ready.count)
      (before ∙ ap (λ n. take (n * n) s.rows.before.items) ready.count) (beside ∙ ap (λ n. take (n * n) s.rows.beside.items) ready.count) ahead

  pub solver_tells : (costs : PairCosts) (settled : List (LineId × LineId)) → TellsCosts lines costs settled s → TellCosts r costs settled lines
  solver_tells costs settled tell =
      subst (λ (x : Rows). TellCosts x costs settled lines) (sym are_told) (costs_taken lines s.rows.before.items s.rows.beside.items s.ahead.items costs settled tell)
