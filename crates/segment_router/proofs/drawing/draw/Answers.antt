use Rattle.std.proofs.Common.{sym, ◌∙◌}
use Rattle.segment_router.proofs.AttemptLemmas.{drawn_each, drawn_legal, drawn_near, no_limit}
use Rattle.segment_router.proofs.drawing.draw.Goals as goal

pub returns-in-Ok-clause-legal : goal.returns-in-Ok-clause-legal
returns-in-Ok-clause-legal c =
    let graph = c.args.graph.now in
    let fine = no_limit graph.places c.args.cell (sym c.cells_over.ensures.limit ∙ c.in_default.is) in
    drawn_legal graph c.args.cell c.args.attempts.now c.in-Ok.walks c.cells_over.ensures.graph fine c.requires (sym c.in_ok-walks.ensures ∙ c.in-Ok.is)

pub returns-in-Ok-clause-each : goal.returns-in-Ok-clause-each
returns-in-Ok-clause-each c =
    let graph = c.args.graph.now in
    let fine = no_limit graph.places c.args.cell (sym c.cells_over.ensures.limit ∙ c.in_default.is) in
    drawn_each graph c.args.cell c.args.attempts.now c.in-Ok.walks c.cells_over.ensures.graph fine c.requires (sym c.in_ok-walks.ensures ∙ c.in-Ok.is)

pub returns-in-Ok-clause-near : goal.returns-in-Ok-clause-near
returns-in-Ok-clause-near c =
    let graph = c.args.graph.now in
    let fine = no_limit graph.places c.args.cell (sym c.cells_over.ensures.limit ∙ c.in_default.is) in
    drawn_near graph c.args.cell c.args.attempts.now c.in-Ok.walks c.cells_over.ensures.graph fine c.requires (sym c.in_ok-walks.ensures ∙ c.in-Ok.is)
