use Rattle.std.proofs.Common.{◌≡◌, ◌∙◌, Bool, true, false, cond, eqb, Some, sym, ap, subst, arith}
use Rattle.line_chains.specs.Chains.{ends_of}
use Rattle.drawing_search.proofs.Common.{back_within, contains, list_all, piece_along, points_of, read_at}
use Rattle.drawing_search.proofs.Common.{reversed_walk, with_walk_of, GridPoint, NodeId, PlainWalk}
use Rattle.drawing_search.proofs.Steps.{piece_all}
use Rattle.drawing_search.proofs.sketch.Sketch.lay_piece.Goals as goal

either_way : (test : GridPoint → Bool) (w : PlainWalk) (b : Bool) → list_all test (points_of w) ≡ true → list_all test (points_of (cond b w (reversed_walk w))) ≡ true
either_way test w true all = all
either_way test w false all = back_within test w all

pub put_walk-requires-clause-inside : goal.put_walk-requires-clause-inside
put_walk-requires-clause-inside c =
    let ps = c.args.track.now.points.items in
    let ds = c.args.track.now.steps.items in
    let test = contains c.args.self.now.bounds in
    subst (λ (w : PlainWalk). list_all test (points_of w) ≡ true) (sym c.in_ok-piece.ensures)
    (either_way test (piece_along ps ds c.args.start c.args.end) _ (piece_all ps ds c.requires.track test c.args.start c.args.end (omega (arith, c.requires.order)) c.requires.within c.requires.inside))

pub returns : goal.returns
returns c =
    let g = c.args.graph.now in
    let piece = piece_along c.args.track.now.points.items c.args.track.now.steps.items c.args.start c.args.end in
    let e : ends_of g c.args.seg ≡ c.ends.result = read_at g.ends c.args.seg.0 c.ends.result (record { 0 = 0 }, record { 0 = 0 }) c.ends.ensures in
    c.put_walk.ensures
    ∙ ap (λ (w : PlainWalk). with_walk_of c.args.self.now c.args.seg (Some w))
    (c.in_ok-piece.ensures ∙ ap (λ (v : NodeId × NodeId). cond (eqb v.0.0 c.args.from.0) piece (reversed_walk piece)) (sym e))
