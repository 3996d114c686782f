use Rattle.std.proofs.Common.{◌≡◌, ◌++◌, List, take}
use Rattle.std.specs.List.{flat_map}
use Rattle.map_base.specs.declared.point.Point.{Point}
use Rattle.line_graph.proofs.samples.push_hops.Given as goal

abbrev pub invariant-loop-hop : goal.invariant-loop-hop
invariant-loop-hop l = l.samples.items ≡ l.fn.samples.items ++ flat_map (λ (hop : List Point). hop) (take l.hop-index l.hops)
