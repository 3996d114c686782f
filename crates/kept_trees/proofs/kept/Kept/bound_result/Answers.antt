use Rattle.kept_trees.specs.OwnTrees.{held_by}
use Rattle.kept_trees.proofs.Serving.{best_is_whole, bound_serves, bound_missing}
use Rattle.kept_trees.proofs.kept.Kept.bound_result.Goals as goal

pub returns-in-Best-clause-absent : goal.returns-in-Best-clause-absent
returns-in-Best-clause-absent c =
    λ _. best_is_whole c.args.self.now c.args.plan (held_by c.args.key.now) c.in-Best.is c.requires.budget

pub returns-in-Bound-clause-found : goal.returns-in-Bound-clause-found
returns-in-Bound-clause-found c =
    bound_serves c.args.self.now c.args.plan (held_by c.args.key.now) c.requires.how c.requires.budget c.in-Bound.is c.result_of.result c.result_of.ensures

pub returns-in-Bound-clause-absent : goal.returns-in-Bound-clause-absent
returns-in-Bound-clause-absent c =
    bound_missing c.args.self.now c.args.plan (held_by c.args.key.now) c.result_of.result c.result_of.ensures
