use Rattle.std.proofs.Common.{sym, ◌∙◌, subst, arith}
use Rattle.order_model.specs.declared.problem.ProblemParts.{ProblemParts}
use Rattle.order_model.specs.Costs.{AreOrders}
use Rattle.dual_ascent.proofs.Meeting.{number_orders}
use Rattle.kept_trees.proofs.dual_search.begin.Goals as goal

pub returns-clause-now : goal.returns-clause-now
returns-clause-now c =
    let p : ProblemParts = c.args.search.now.part.problem.now in
    record {
      incumbent = c.in_ok-incumbent.ensures.is;
      trial = subst (AreOrders p.segs) (sym (c.in_ok-trial.ensures ∙ c.segs.ensures.lists)) (number_orders p.segs);
      room = c.in_ok-incumbent.ensures.room;
      within = omega arith;
    }
