use Rattle.std.proofs.Common.{List, sym, subst, arith}
use Rattle.std.specs.Prelude.{ℤ}
use Rattle.std.specs.Vec.{with_items}
use Rattle.std.proofs.lemmas.List.{with_items_is}
use Rattle.least_orders.specs.OrderCosts.{no_costs}
use Rattle.dual_shares.specs.RowSteps.{TellPairs}
use Rattle.dual_shares.proofs.Entries.{cleared_told}
use Rattle.dual_shares.proofs.cost_rows.CostRows.clear.Goals as goal

pub returns-clause-told : goal.returns-clause-told
returns-clause-told c = λ lines each.
    (let one = with_items_is c.args.self.now.before c.clear.new.row (omega arith) in
    let two = with_items_is c.args.self.now.beside c.clear-2.new.row (omega arith) in
    subst (λ (l : List ℤ). TellPairs lines no_costs l (with_items c.args.self.now.beside c.clear-2.new.row).items) (sym one)
    (subst (λ (l : List ℤ). TellPairs lines no_costs c.clear.new.row l) (sym two) (cleared_told lines c.args.count c.clear.new.row c.clear-2.new.row each c.clear.ensures c.clear-2.ensures)))
