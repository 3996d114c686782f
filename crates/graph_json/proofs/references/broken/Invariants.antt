use Rattle.std.proofs.Common.{◌≡◌, ◌+◌, drop}
use Rattle.graph_json.specs.References.{broken_from}
use Rattle.graph_json.proofs.references.broken.Given as goal

-- what is left tells what the whole does
abbrev pub invariant-loop-i : goal.invariant-loop-i
invariant-loop-i l =
    (broken_from l.parts l.listed l.i l.nodes l.segments (drop l.i l.are_nodes) ≡ broken_from l.parts l.listed 0 0 0 l.are_nodes)
    × (l.nodes + l.segments ≡ l.i)
