use Rattle.std.proofs.Common.{ℕ, ap, ◌∙◌}
use Rattle.map_base.specs.declared.ids.NodeId.{NodeId}
use Rattle.svg_writer.specs.Picture.{ends_at, first_of, put_at, walk_at}
use Rattle.poster_graph.proofs.plans.point_of.Goals as goal

pub returns : goal.returns
returns c =
    let g = c.args.graph.now in
    let walks = c.args.drawing.now.walks in
    let n = c.args.n.0 in
    c.put_at.ensures
    ∙ ap (λ (e : NodeId × NodeId). put_at n e (walk_at walks c.first_of-first.result)) c.ends_of.ensures
    ∙ ap (λ (s : ℕ). put_at n (ends_at g.ends s) (walk_at walks s)) (c.first_of-first.ensures ∙ ap first_of c.round_of.ensures)
