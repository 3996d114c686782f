use Rattle.drawing_search.proofs.RunSteps.{IsUnderWay}
use Rattle.drawing_search.proofs.sketch.Sketch.lay.Given as goal

-- the steps that are left are laid on what there is
abbrev pub invariant-loop-i : goal.invariant-loop-i
invariant-loop-i l = IsUnderWay l.graph l.initial.self l.fn.run l.fn.most l.track.points.items l.track.steps.items l.cuts.items l.i l.at l.self
