use Rattle.std.proofs.Common.{length, ap, arith}
use Rattle.drawing_search.proofs.Common.{points_of, Sketch}
use Rattle.drawing_search.proofs.BoardsOf.{all_inside_kept, walked_shown, walked_view}
use Rattle.drawing_search.proofs.sketch.Sketch.put_walk.Goals as goal

pub add_walk-requires : goal.add_walk-requires
add_walk-requires c =
    let s = c.self.inside in all_inside_kept s.board s.points.items s.stand.items s.walks.items c.args.self.now c.self.invariant c.self.view_is (points_of c.args.walk) c.requires.inside

pub index_mut-requires : goal.index_mut-requires
index_mut-requires c = omega (arith, c.requires.segment, ap (λ (k : Sketch). length k.walks) c.self.view_is, c.self.inside.walks.ok.0)

pub invariant_of-self : goal.invariant_of-self
invariant_of-self c =
    let s = c.self.inside in
    walked_shown s.board s.points.items s.stand.items s.walks.items c.args.self.now c.self.invariant c.self.view_is c.add_walk.new.self c.args.s c.args.walk c.add_walk.ensures c.requires.segment c.requires.free

pub returns : goal.returns
returns c =
    let s = c.self.inside in
    walked_view s.board s.points.items s.stand.items s.walks.items c.args.self.now c.self.invariant c.self.view_is c.add_walk.new.self c.args.s c.args.walk c.add_walk.ensures
