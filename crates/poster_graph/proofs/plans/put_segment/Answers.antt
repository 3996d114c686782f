use Rattle.std.proofs.Common.{◌≡◌, ℕ, [], pos, ◌++◌, length, List, Option, unwrap_or, append-nil, ap, sym, ◌∙◌}
use Rattle.map_base.specs.declared.ids.NodeId.{NodeId}
use Rattle.map_base.specs.declared.ids.LineId.{LineId}
use Rattle.octi_grid.specs.Walks.{PlainWalk}
use Rattle.svg_writer.specs.Picture.{ends_at, lines_at}
use Rattle.poster_rules.specs.Plans.{pieces_from}
use Rattle.poster_graph.proofs.plans.put_segment.Goals as goal

abbrev no_walk : PlainWalk
no_walk = record { start = record { x = pos 0; y = pos 0 }; steps = [] }

pub returns-in_ok-put_pieces-in-Some : goal.returns-in_ok-put_pieces-in-Some
returns-in_ok-put_pieces-in-Some c =
    let g = c.args.served.graph.now in
    let old = c.args.pieces.now.items in
    let walk = c.in-Some.walk.now in
    let count : length c.lines-lines.result.now ≡ length (lines_at g.lines c.args.s) = sym (ap (λ (o : Option (List LineId)). length (unwrap_or o [])) c.lines-lines.ensures) in
    c.in_ok-put_pieces-in-Some.ensures
    ∙ ap (λ (n : ℕ). old ++ pieces_from n c.ends_of-ends.result walk.start walk.start walk.steps) count
    ∙ ap (λ (e : NodeId × NodeId). old ++ pieces_from (length (lines_at g.lines c.args.s)) e walk.start walk.start walk.steps) c.ends_of-ends.ensures
    ∙ sym (ap (λ (o : Option PlainWalk). old ++ pieces_from (length (lines_at g.lines c.args.s)) (ends_at g.ends c.args.s) (unwrap_or o no_walk).start (unwrap_or o no_walk).start (unwrap_or o no_walk).steps) c.in-Some.ensures)

pub returns-in-None : goal.returns-in-None
returns-in-None c =
    let g = c.args.served.graph.now in
    let old = c.args.pieces.now.items in
    sym (append-nil old)
    ∙ sym (ap (λ (o : Option PlainWalk). old ++ pieces_from (length (lines_at g.lines c.args.s)) (ends_at g.ends c.args.s) (unwrap_or o no_walk).start (unwrap_or o no_walk).start (unwrap_or o no_walk).steps) c.in-None.ensures)
