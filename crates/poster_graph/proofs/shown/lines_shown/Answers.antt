use Rattle.std.proofs.Common.{ap, ◌∙◌}
use Rattle.poster_graph.specs.Flags.{flagged}
use Rattle.poster_graph.proofs.Flags.{flagged_are}
use Rattle.poster_graph.proofs.shown.lines_shown.Goals as goal

pub returns : goal.returns
returns c = c.in_ok-lines.ensures ∙ ap flagged c.as_slice.ensures.value ∙ flagged_are c.args.count c.args.graph.now c.in_ok-flags.flags.items c.in_ok-flags.ensures
