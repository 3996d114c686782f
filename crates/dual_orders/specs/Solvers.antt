-- Room to find least orders in.
use Rattle.std.specs.Prelude.{◌≡◌, ℕ, ◌≤◌, List, [], length, take, slice_index_or}
use Rattle.map_base.specs.declared.ids.LineId.{LineId}
use Rattle.order_model.specs.declared.problem.ProblemParts.{ProblemParts}
use Rattle.least_orders.specs.OrderCosts.{PairCosts}
use Rattle.least_orders.specs.Rows.{Rows, TellCosts}
use Rattle.dual_shares.specs.CostRows as cost_rows
use Rattle.dual_shares.specs.SettledSets.{TellAhead}
use Rattle.dual_orders.specs.declared.solver.Solver.{Solver}

-- room for 16 lines, and a program for so many
pub record HasRoom (width : ℕ) (s : Solver) : Type 0 where
  pub rows : cost_rows.HasRoom s.rows
  pub ahead : length s.ahead.items ≡ 16
  pub places : length s.places.items ≡ 16
  pub found : length s.found.items ≡ 16
  pub program : width ≤ s.program

-- room for each segment of a part
abbrev pub HasRoomFor : ProblemParts → Solver → Type 0
HasRoomFor p s = (k : ℕ) → HasRoom (length (slice_index_or p.segs k [])) s

-- the costs of as many lines are told, none too great, and the sets tell some pairs
pub record AreReady (lines : List LineId) (s : Solver) : Type 0 where
  pub count : s.rows.count ≡ length lines
  pub small : cost_rows.AreSmallCosts 4000000 s.rows
  pub ahead : (settled : List (LineId × LineId)) × TellAhead settled lines s.ahead.items

-- the rows of so many lines
abbrev pub rows_of : List LineId → Solver → Rows
rows_of lines s = record { count = length lines; before = s.rows.before.items; beside = s.rows.beside.items; ahead = s.ahead.items }

-- they tell what each two lines cost, and which pairs are settled
abbrev pub TellsCosts : List LineId → PairCosts → List (LineId × LineId) → Solver → Type 0
TellsCosts lines costs settled s = TellCosts (rows_of lines s) costs settled lines

-- the order of so many lines that was found
abbrev pub found_of : Solver → ℕ → List LineId
found_of s count = take count s.found.items
