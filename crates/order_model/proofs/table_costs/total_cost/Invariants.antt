use Rattle.std.proofs.Common.{◌≡◌, ◌*◌, ◌≤◌, take}
use Rattle.std.specs.List.{sum_by}
use Rattle.order_model.specs.Places.{cost_by, tables_of}
use Rattle.order_model.proofs.table_costs.total_cost.Given as goal

abbrev pub invariant-loop-term : goal.invariant-loop-term
invariant-loop-term l = (l.total ≡ sum_by (cost_by l.segs (tables_of l.places)) (take l.term-index l.terms)) × (l.total ≤ 256000 * l.term-index)
