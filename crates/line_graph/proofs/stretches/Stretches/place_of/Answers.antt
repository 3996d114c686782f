use Rattle.std.proofs.Common.{◌∙◌, ap}
use Rattle.line_graph.specs.StretchTables.{StretchTable, place_in}
use Rattle.line_graph.proofs.TableSteps.{place_told}
use Rattle.line_graph.proofs.stretches.Stretches.place_of.Goals as goal

pub returns : goal.returns
returns c =
    place_told c.self.inside.held.keys c.args.stretch c.get_index_of.result c.len.result c.unwrap_or.result c.unwrap_or.ensures c.get_index_of.ensures.index c.len.ensures.len
    ∙ ap (λ (t : StretchTable). place_in t.stretches c.args.stretch) c.self.view_is
