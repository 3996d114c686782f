use Rattle.std.proofs.Common.{◌∙◌}
use Rattle.drawing_search.proofs.searching.outcome_of.Goals as goal

pub returns-clause-drawing : goal.returns-clause-drawing
returns-clause-drawing c = c.of.ensures ∙ c.in_ok-walks.ensures
