use Rattle.std.proofs.Common.{◌≡◌, drop, fold, length, map}
use Rattle.line_chains.specs.Chains.{way_from}
use Rattle.line_chains.specs.Marks.{marked_from, marked_over}
use Rattle.line_chains.proofs.corners.mark_from.Given as goal

-- the flags so far, with those of the ways that are left
abbrev pub invariant-loop-s : goal.invariant-loop-s
invariant-loop-s l = record {
  flags : fold marked_over l.reached (map (way_from l.graph l.corners l.n) (drop l.s-index l.s-items)) ≡ marked_from l.graph l.corners l.n l.fn.reached;
  each : length l.reached ≡ length l.graph.kinds;
}
