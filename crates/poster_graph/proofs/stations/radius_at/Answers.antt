use Rattle.std.proofs.Common.{ℕ, ◌+◌, ◌*◌, ap, ◌∙◌}
use Rattle.svg_writer.specs.Picture.{most_lines, round_at}
use Rattle.poster_graph.proofs.stations.radius_at.Goals as goal

pub returns : goal.returns
returns c =
    let g = c.args.served.graph.now in
    ap (λ (m : ℕ). 7 * m + c.rim_at.result) (c.most_lines-most.ensures ∙ ap (most_lines g.lines) c.round_of-round.ensures)
    ∙ ap (λ (k : ℕ). 7 * most_lines g.lines (round_at g.rounds c.args.n.0) + k) c.rim_at.ensures.value
