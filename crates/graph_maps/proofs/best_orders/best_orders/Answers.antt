use Rattle.std.proofs.Common.{◌≡◌, ◌∙◌, List, All, Contains, ap, sym, subst, Ok, Err}
use Rattle.std.specs.List.{AllByRecursion}
use Rattle.std.proofs.lemmas.Result.{err_from_is_err_and}
use Rattle.order_values.specs.declared.rule.Rule.{Rule}
use Rattle.order_model.specs.declared.problem.ProblemParts.{ProblemParts}
use Rattle.order_model.specs.Costs.{AreOrders}
use Rattle.order_proof.specs.Plain.{PlainPart}
use Rattle.order_proof.specs.Trees.{IsPartTree}
use Rattle.order_rules.specs.Lifting.{lifted_all}
use Rattle.graph_maps.specs.Problems.{untangled_problem}
use Rattle.graph_maps.specs.Keeping.{finished_of, HoldsFinished}
use Rattle.graph_maps.specs.Solving.{solve_outcome}
use Rattle.graph_maps.specs.declared.best_orders.BestOrders.{BestOrders}
use Rattle.graph_maps.specs.declared.solution.Solution.{Solution}
use Rattle.graph_maps.proofs.KeepLemmas.{same_held}
use Rattle.graph_maps.proofs.MadeLemmas.{best_by}
use Rattle.graph_maps.proofs.UntangledLemmas.{lifted_are}
use Rattle.graph_maps.proofs.best_orders.best_orders.Goals as goal

pub lifted-requires-clause-trees : goal.lifted-requires-clause-trees
lifted-requires-clause-trees g c =
    let found = c.in_ok-solution.ensures.solved in
    subst (λ (parts : List PlainPart). AllByRecursion (λ (q : PlainPart). IsPartTree q.tree) parts) (sym found.2.proofs) found.2.trees

pub returns-clause-found : goal.returns-clause-found
returns-clause-found g c =
    let found = c.in_ok-solution.ensures.solved in
    let last = c.in_ok-rules.ensures.problem in
    let solved = subst (λ (q : ProblemParts). solve_outcome c.args.plan q ≡ Ok found.0) last found.1 in (
      found.0,
      solved,
      best_by c.args.plan c.args.problem c.in_ok-rules.untangled c.in_ok-rules.rules c.in_ok-solution.solution c.in_ok-lifted.field-0 found.0 c.requires.problem last c.in_ok-rules.ensures.rules
          c.in_ok-solution.ensures.orders found.2 c.in_ok-lifted.ensures.orders c.in_ok-lifted.ensures.cost c.in_ok-lifted.ensures.proof,
    )

pub returns-clause-orders : goal.returns-clause-orders
returns-clause-orders g c =
    let orders = c.in_ok-solution.solution.orders.items in
    subst (AreOrders c.args.problem.segs) (sym (c.in_ok-lifted.ensures.orders ∙ ap (λ (rs : List Rule). lifted_all rs orders) c.in_ok-rules.ensures.rules))
    (lifted_are c.args.problem c.requires.problem orders (subst (λ (q : ProblemParts). AreOrders q.segs orders) c.in_ok-rules.ensures.problem c.in_ok-solution.ensures.orders))

pub returns-clause-finished : goal.returns-clause-finished
returns-clause-finished g c =
    subst (λ (q : ProblemParts). All (Contains c.solve_parts.new.kept) (finished_of c.args.plan q)) c.in_ok-rules.ensures.problem c.in_ok-solution.ensures.finished

pub returns-in_err-solution-clause-finished : goal.returns-in_err-solution-clause-finished
returns-in_err-solution-clause-finished g c =
    let e = c.in_err-solution.field-0.0 in
    let held = c.solve_parts.new.kept in
    let here = subst (λ (q : ProblemParts). HoldsFinished {X = Solution} (Err e) (finished_of c.args.plan q) held)
    c.in_ok-rules.ensures.problem c.in_err-solution.ensures.finished in
    let same = err_from_is_err_and c.from_residual-in_err-solution.result c.from_residual-in_err-solution.ensures.1 in
    rw (same.1, same.2)
    (same_held Solution BestOrders e (finished_of c.args.plan (untangled_problem c.args.problem)) held here)
