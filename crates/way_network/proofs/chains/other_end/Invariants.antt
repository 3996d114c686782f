use Rattle.std.proofs.Common.{◌≡◌, drop}
use Rattle.way_network.specs.Rows.{other_in}
use Rattle.way_network.proofs.chains.other_end.Given as goal

-- none of the earlier edges leads on
abbrev pub invariant-loop-edge : goal.invariant-loop-edge
invariant-loop-edge l = other_in (drop l.edge-index l.row) l.from l.here ≡ other_in l.row l.from l.here
