use Rattle.std.proofs.Common.{◌<◌, ℤ, List, sym, ◌∙◌, subst}
use Rattle.dual_ascent.specs.DualSteps.{square_sum}
use Rattle.kept_trees.proofs.rounds.move_on.Goals as goal

pub returns-then-shrink-clause-round : goal.returns-then-shrink-clause-round
returns-then-shrink-clause-round c = c.shrink.ensures.round ∙ c.turn.ensures.round

pub step_on-requires-clause-moves : goal.step_on-requires-clause-moves
step_on-requires-clause-moves c = subst (λ (l : List ℤ). 0 < square_sum l) (sym c.shrink.ensures.directions)
    (c.turn.ensures.moves c.if-turn.false)

pub returns-clause-round : goal.returns-clause-round
returns-clause-round c = c.step_on.ensures.round ∙ (c.shrink.ensures.round ∙ c.turn.ensures.round)
