use Rattle.std.proofs.Common.{sym, ◌∙◌}
use Rattle.kept_trees.specs.OwnTrees.{held_by}
use Rattle.kept_trees.proofs.Serving.{complete_serves, complete_refused, complete_missing}
use Rattle.kept_trees.proofs.kept.Kept.complete_result.Goals as goal

pub returns-then-own-plan-clause-found : goal.returns-then-own-plan-clause-found
returns-then-own-plan-clause-found c =
    complete_serves c.args.self.now c.args.plan (held_by c.args.key.now) c.in-Some.own.now c.requires.how c.in-Some.ensures.1 c.requires.complete
    c.if-own-plan.true c.in-Some.ensures.0

pub returns-then-leaves_bound-clause-absent : goal.returns-then-leaves_bound-clause-absent
returns-then-leaves_bound-clause-absent c =
    λ _. complete_missing c.args.self.now c.args.plan (held_by c.args.key.now) c.in-Some.own.now c.requires.how c.in-Some.ensures.1 c.requires.complete
    c.if-own-plan.false (sym c.leaves_bound.ensures ∙ c.if-leaves_bound.true)

pub returns-clause-refused : goal.returns-clause-refused
returns-clause-refused c =
    complete_refused c.args.self.now c.args.plan (held_by c.args.key.now) c.in-Some.own.now c.requires.how c.in-Some.ensures.1 c.requires.complete
    c.if-own-plan.false (sym c.leaves_bound.ensures ∙ c.if-leaves_bound.false)
