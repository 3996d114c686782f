use Rattle.std.proofs.Common.{◌≡◌, true, take}
use Rattle.std.specs.List.{list_all}
use Rattle.map_base.specs.declared.ids.SegId.{SegId}
use Rattle.svg_writer.specs.Picture.{ends_at, walk_at}
use Rattle.poster_rules.specs.Stations.{is_level, port_at}
use Rattle.poster_graph.proofs.stations.leaves_level.Given as goal

-- the segments so far are level
abbrev pub invariant-loop-s : goal.invariant-loop-s
invariant-loop-s l = list_all (λ (s : SegId). is_level (port_at l.n.0 (ends_at l.served.graph.now.ends s.0) (walk_at l.served.drawing.now.walks s.0))) (take l.s-index l.round) ≡ true
