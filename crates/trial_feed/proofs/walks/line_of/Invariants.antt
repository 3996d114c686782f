use Rattle.trial_feed.specs.Lines.{line}
use Rattle.trial_feed.proofs.WalkLemmas.{IsUnderWay, left}
use Rattle.trial_feed.proofs.walks.line_of.Given as goal

abbrev pub invariant-loop-place : goal.invariant-loop-place
invariant-loop-place l = IsUnderWay l.side l.place l.draws.state l.stops.items (line l.side l.fn.draws.state)

abbrev pub decreases-loop-place : goal.decreases-loop-place
decreases-loop-place l = left l.side l.place
