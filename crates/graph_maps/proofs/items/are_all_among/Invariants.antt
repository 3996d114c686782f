use Rattle.std.proofs.Common.{◌≡◌, drop}
use Rattle.std.specs.List.{list_all}
use Rattle.order_model.specs.Places.{has_line}
use Rattle.graph_maps.proofs.items.are_all_among.Given as goal

abbrev pub invariant-loop-line : goal.invariant-loop-line
invariant-loop-line l = list_all (has_line l.lines) l.some ≡ list_all (has_line l.lines) (drop l.line-index l.some)
