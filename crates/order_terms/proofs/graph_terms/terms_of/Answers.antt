use Rattle.std.proofs.Common.{◌≤◌, ap, length, arith}
use Rattle.order_terms.specs.Terms.{graph_terms}
use Rattle.order_terms.proofs.GraphProblem.{problem_of_graph}
use Rattle.order_terms.proofs.graph_terms.terms_of.Goals as goal

pub new-requires : goal.new-requires
new-requires c =
    let few : length (graph_terms c.args.graph.now c.args.weights.now c.args.importance.now) ≤ 4000000 =
    omega (arith, ap length c.in_ok-terms.ensures.terms, c.in_ok-terms.terms.ok.0, c.in_ok-terms.ensures.few) in
    rw (c.of.ensures, c.of-2.ensures, c.in_ok-segs.ensures, c.in_ok-terms.ensures.terms)
    (problem_of_graph c.args.graph.now c.in_ok-terms.ensures.fits c.args.weights.now c.args.importance.now c.requires.light c.requires.importance few)
