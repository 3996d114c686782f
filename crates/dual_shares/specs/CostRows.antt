-- What rows of costs tell.
use Rattle.std.specs.Prelude.{◌≡◌, ℕ, ◌≤◌, List, length}
use Rattle.map_base.specs.declared.ids.LineId.{LineId}
use Rattle.least_orders.specs.OrderCosts.{PairCosts}
use Rattle.dual_shares.specs.declared.cost_rows.CostRows.{CostRows}
use Rattle.dual_shares.specs.RowSteps.{TellPairs, AreSmall, HaveAdded}

-- room for 16 lines
pub record HasRoom (r : CostRows) : Type 0 where
  pub few : r.count ≤ 16
  pub before_each : length r.before.items ≡ 256
  pub beside_each : length r.beside.items ≡ 256

-- the rows tell what each two of these lines cost
abbrev pub Tell : List LineId → PairCosts → CostRows → Type 0
Tell lines costs r = TellPairs lines costs r.before.items r.beside.items

-- each two of these lines cost so much more, and there are as many as before
pub record IsAdded (lines : List LineId) (costs : PairCosts) (old new : CostRows) : Type 0 where
  pub count : new.count ≡ old.count
  pub rows : HaveAdded lines costs old.before.items old.beside.items new.before.items new.beside.items

-- each entry is at most so many times 256,000,000, either way
abbrev pub AreSmallCosts : ℕ → CostRows → Type 0
AreSmallCosts times r = AreSmall r.count times r.before.items r.beside.items
