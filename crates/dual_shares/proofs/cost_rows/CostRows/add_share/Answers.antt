use Rattle.std.proofs.Common.{refl, subst, arith, w64}
use Rattle.std.proofs.lemmas.Int.{to_z-of_z}
use Rattle.std.proofs.lemmas.List.{with_items_is}
use Rattle.order_model.specs.Problems.{lines_on}
use Rattle.dual_bound.specs.ShareCosts.{term_costs}
use Rattle.dual_shares.specs.RowSteps.{HaveAdded}
use Rattle.dual_shares.proofs.cost_rows.CostRows.add_share.Goals as goal

pub returns-clause-added : goal.returns-clause-added
returns-clause-added c =
    let is = to_z-of_z w64 c.args.price c.ranges.price in
    let before = with_items_is c.args.self.now.before c.add_term.new.before (omega arith) in
    let beside = with_items_is c.args.self.now.beside c.add_term.new.beside (omega arith) in
    record {
      count = refl;
      rows = rw (before, beside, ← c.as_mut_slice.ensures.value, ← c.as_mut_slice-2.ensures.value)
          (subst (λ v. HaveAdded (lines_on c.args.problem.now.segs c.args.s) (term_costs v c.args.s c.args.term) c.as_mut_slice.result.now c.as_mut_slice-2.result.now c.add_term.new.before c.add_term.new.beside) is
          c.add_term.ensures.added);
    }
