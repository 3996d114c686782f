use Rattle.std.proofs.Common.{◌≡◌, ◌∙◌, length, ap, arith}
use Rattle.drawing_search.proofs.Common.{contains, parts_of, point_of_node, stands_below, without_node, GridPoint}
use Rattle.drawing_search.proofs.Common.{Sketch}
use Rattle.drawing_search.proofs.BoardsOf.{inside_kept, lifted_shown, lifted_view}
use Rattle.drawing_search.proofs.sketch.Sketch.lift.Goals as goal

pub point-at-requires : goal.point-at-requires
point-at-requires c = omega (arith, stands_below c.args.graph.now c.args.self.now c.requires.legal c.args.n.0 c.requires.stands, c.requires.legal.points_each)

pub index_mut-requires : goal.index_mut-requires
index_mut-requires c =
    let k = c.args.self.now in
    omega (arith, stands_below c.args.graph.now k c.requires.legal c.args.n.0 c.requires.stands, c.requires.legal.stand_each, ap (λ (j : Sketch). length j.stand) c.self.view_is, c.self.inside.stand.ok.0)

pub remove_node-requires : goal.remove_node-requires
remove_node-requires c =
    let s = c.self.inside in
    let k = c.args.self.now in
    inside_kept s.board s.points.items s.stand.items s.walks.items k c.self.invariant c.self.view_is c.point-at.result
    (ap (λ (p : GridPoint). contains k.bounds p) c.point-at.ensures ∙ c.requires.legal.inside c.args.n.0 c.requires.stands)

pub invariant_of-self : goal.invariant_of-self
invariant_of-self c =
    let s = c.self.inside in
    let k = c.args.self.now in
    let is : parts_of c.remove_node.new.self ≡ without_node (parts_of s.board) (point_of_node k c.args.n.0) = c.remove_node.ensures ∙ ap (without_node (parts_of s.board)) c.point-at.ensures in
    lifted_shown s.board s.points.items s.stand.items s.walks.items k c.self.invariant c.self.view_is c.remove_node.new.self c.args.n is c.args.graph.now c.requires.legal c.requires.stands

pub returns : goal.returns
returns c =
    let s = c.self.inside in
    let k = c.args.self.now in
    let is : parts_of c.remove_node.new.self ≡ without_node (parts_of s.board) (point_of_node k c.args.n.0) = c.remove_node.ensures ∙ ap (without_node (parts_of s.board)) c.point-at.ensures in
    lifted_view s.board s.points.items s.stand.items s.walks.items k c.self.invariant c.self.view_is c.remove_node.new.self c.args.n is
