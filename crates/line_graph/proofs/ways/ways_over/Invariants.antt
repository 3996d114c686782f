use Rattle.std.proofs.Common.{◌≡◌, ℕ, ◌<◌, map}
use Rattle.std.specs.List.{range_with_len}
use Rattle.line_graph.specs.StretchTables.{way_at, stretch_at, corridor_at}
use Rattle.line_graph.specs.Premises.{IsLed}
use Rattle.line_graph.proofs.ways.ways_over.Given as goal

abbrev pub invariant-loop-place : goal.invariant-loop-place
invariant-loop-place l = record {
  ways : l.ways.items ≡ map (way_at l.near l.net l.table) (range_with_len 0 l.place);
  led : (k : ℕ) → k < l.place → IsLed l.near l.net (stretch_at l.table k) (corridor_at l.table k);
}
