use Rattle.std.proofs.Common.{◌≡◌, ◌∷◌, ◌++◌, drop, map}
use Rattle.octi_grid.specs.Walks.{PlainWalk, end_point}
use Rattle.walk_search.specs.Asking.{question}
use Rattle.walk_search.specs.Moves.{direction}
use Rattle.walk_search.specs.Walked.{AreSteps}
use Rattle.walk_search.proofs.walk.walk_from.Given as goal

-- the walk so far with the labels that are left is the walk of all, and these stay on the board
abbrev pub invariant-loop-label : goal.invariant-loop-label
invariant-loop-label l = record {
  whole :
      (let w : PlainWalk = record { start = l.walk.start; steps = l.walk.steps ++ map direction (drop l.label-index l.rest) } in w)
      ≡ (let w : PlainWalk = record { start = l.fn.start; steps = map direction (l.fn.first ∷ l.rest) } in w);
  steps : AreSteps (question l.asked) (end_point l.walk) (drop l.label-index l.rest);
}
