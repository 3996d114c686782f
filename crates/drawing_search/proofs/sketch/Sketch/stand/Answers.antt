use Rattle.std.proofs.Common.{length, ap, arith}
use Rattle.run_laying.specs.Laying.{Sketch}
use Rattle.drawing_search.proofs.BoardsOf.{inside_kept, stood_shown, stood_view}
use Rattle.drawing_search.proofs.sketch.Sketch.stand.Goals as goal

pub add_node-requires-clause-inside : goal.add_node-requires-clause-inside
add_node-requires-clause-inside c =
    let s = c.self.inside in inside_kept s.board s.points.items s.stand.items s.walks.items c.args.self.now c.self.invariant c.self.view_is c.args.at c.requires.inside

pub index_mut-requires : goal.index_mut-requires
index_mut-requires c = omega (arith, c.requires.node, ap (λ (k : Sketch). length k.points) c.self.view_is, c.self.inside.points.ok.0)

pub index_mut-requires-2 : goal.index_mut-requires-2
index_mut-requires-2 c = omega (arith, c.requires.flag, ap (λ (k : Sketch). length k.stand) c.self.view_is, c.self.inside.stand.ok.0)

pub invariant_of-self : goal.invariant_of-self
invariant_of-self c =
    let s = c.self.inside in
    stood_shown s.board s.points.items s.stand.items s.walks.items c.args.self.now c.self.invariant c.self.view_is c.add_node.new.self c.args.n c.args.at c.add_node.ensures c.requires.node c.requires.flag c.requires.lifted

pub returns : goal.returns
returns c =
    let s = c.self.inside in
    stood_view s.board s.points.items s.stand.items s.walks.items c.args.self.now c.self.invariant c.self.view_is c.add_node.new.self c.args.n c.args.at c.add_node.ensures
