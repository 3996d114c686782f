use Rattle.std.proofs.Common.{◌<◌, ◌≤◌, ◌-◌, length}
use Rattle.std.specs.List.{Contains}
use Rattle.order_model.specs.Places.{place_of}
use Rattle.order_model.proofs.ranks.rank.Given as goal

abbrev pub invariant-loop-high : goal.invariant-loop-high
invariant-loop-high l = record {
  order : l.low < l.high;
  within : l.high ≤ length l.lines;
  least : Contains l.lines l.line → l.low ≤ place_of l.lines l.line;
  most : Contains l.lines l.line → place_of l.lines l.line < l.high;
}

abbrev pub decreases-loop-high : goal.decreases-loop-high
decreases-loop-high l = l.high - l.low
