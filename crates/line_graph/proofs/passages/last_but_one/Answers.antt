use Rattle.std.proofs.Common.{ap, ◌∙◌}
use Rattle.way_network.specs.Segments.{second_of}
use Rattle.line_graph.specs.StretchTables.{points_at}
use Rattle.line_graph.proofs.PassageSteps.{second_back, way_found}
use Rattle.line_graph.proofs.passages.last_but_one.Goals as goal

pub returns-then-to-from : goal.returns-then-to-from
returns-then-to-from c =
    c.second_from_first.ensures ∙ ap second_of (c.as_slice.ensures ∙ way_found c.args.ways.now c.args.place c.in-Some.way.now c.in-Some.ensures.lookup.0 c.in-Some.ensures.lookup.1)
    ∙ second_back c.args.from c.args.to (points_at c.args.ways.now c.args.place) c.if-to-from.true
