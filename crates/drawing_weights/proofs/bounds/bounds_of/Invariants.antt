use Rattle.std.proofs.Common.{◌≡◌, None, drop, fold}
use Rattle.drawing_weights.specs.Reach.{bounds_with}
use Rattle.drawing_weights.proofs.Spans.{SpanOf}
use Rattle.drawing_weights.proofs.bounds.bounds_of.Given as goal

-- the bounds so far, of points near the origin, and the points that are left
abbrev pub invariant-loop-p : goal.invariant-loop-p
invariant-loop-p l = (fold bounds_with l.bounds (drop l.p-index l.points) ≡ fold bounds_with None l.points) × SpanOf 1900 l.bounds
