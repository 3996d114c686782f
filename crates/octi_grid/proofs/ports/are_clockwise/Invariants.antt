use Rattle.std.proofs.Common.{◌≡◌, take, drop}
use Rattle.std.specs.List.{filter_map}
use Rattle.octi_grid.specs.Legal.{are_clockwise, legs_of, port_of}
use Rattle.octi_grid.specs.Sweeps.{sweeps}
use Rattle.octi_grid.proofs.ports.are_clockwise.Given as goal

-- the sweep over the ports that are left
abbrev pub invariant-loop-s : goal.invariant-loop-s
invariant-loop-s l =
    sweeps (filter_map (port_of (take l.count (legs_of l.graph.ends l.walks)) l.n.0) (drop l.s-index l.s-items)) l.sweep
    ≡ are_clockwise (filter_map (port_of (take l.count (legs_of l.graph.ends l.walks)) l.n.0) l.s-items)
