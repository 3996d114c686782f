use Rattle.std.proofs.Common.{List, refl, sym, subst, arith, w64}
use Rattle.std.specs.Prelude.{ℤ}
use Rattle.std.proofs.lemmas.Int.{to_z-of_z}
use Rattle.std.proofs.lemmas.List.{with_items_is}
use Rattle.least_orders.specs.OrderCosts.{cost_beside}
use Rattle.dual_shares.specs.RowSteps.{HaveAdded, IsAddedBeside}
use Rattle.dual_shares.proofs.Adding.{beside_alone}
use Rattle.dual_shares.proofs.cost_rows.CostRows.add_beside.Goals as goal

pub returns-clause-added : goal.returns-clause-added
returns-clause-added c =
    let is = to_z-of_z w64 c.args.amount c.ranges.amount in
    let new = with_items_is c.args.self.now.beside c.add_beside.new.beside (omega arith) in
    record {
      count = refl;
      rows = subst (λ (l : List ℤ). HaveAdded c.args.lines.now (cost_beside c.args.a c.args.b c.args.amount) c.args.self.now.before.items c.args.self.now.beside.items c.args.self.now.before.items l) (sym new)
          (beside_alone c.args.lines.now c.args.a c.args.b c.args.amount c.args.self.now.before.items c.args.self.now.beside.items c.add_beside.new.beside
          (subst (λ (l : List ℤ). IsAddedBeside c.args.lines.now (cost_beside c.args.a c.args.b c.args.amount) l c.add_beside.new.beside) c.as_mut_slice.ensures.value
          (subst (λ v. IsAddedBeside c.args.lines.now (cost_beside c.args.a c.args.b v) c.as_mut_slice.result.now c.add_beside.new.beside) is c.add_beside.ensures.added)));
    }
