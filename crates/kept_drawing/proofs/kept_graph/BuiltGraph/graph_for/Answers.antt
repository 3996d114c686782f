use Rattle.std.proofs.Common.{arith, refl}
use Rattle.kept_drawing.proofs.Graphs.{graph_again}
use Rattle.kept_drawing.proofs.kept_graph.BuiltGraph.graph_for.Goals as goal

pub returns : goal.returns
returns c =
    graph_again c.self.inside.near c.args.near c.self.inside.lines c.args.lines c.self.inside.courses c.args.courses.now c.self.inside.graph c.in_ok-copy_of_graph.field-0 (omega (arith, c.if-self-near.false))
    (omega (arith, c.if-self-lines.false)) (c.if-not-are_same_courses.ensures refl) c.in_ok-copy_of_graph.ensures c.self.invariant
